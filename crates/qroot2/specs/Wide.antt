-- The numbers a + b √2 with whole a and b.
use Rattle.std.specs.Prelude.{◌≡◌, ◌≤◌, ◌^◌, ℤ, pos, neg_ℤ, ◌+ℤ◌, ◌-ℤ◌, ◌*ℤ◌, unsigned_abs}
use Rattle.exact.specs.Number.{ExactNumber, Positive}
use Rattle.qroot2.specs.declared.sign.Sign.{Sign}
use Rattle.qroot2.specs.declared.sign.Sign.TheVariants.{Minus, Zero, Plus}

-- a + b √2
pub record Pair : Type 0 where
  pub a : ℤ
  pub b : ℤ

-- the exact number that it is
abbrev pub pair_number : Pair → ExactNumber
pair_number x = record { a = x.a; b = x.b; d = 1 }

abbrev pub pair_add : Pair → Pair → Pair
pair_add x y = record { a = x.a +ℤ y.a; b = x.b +ℤ y.b }

abbrev pub pair_sub : Pair → Pair → Pair
pair_sub x y = record { a = x.a -ℤ y.a; b = x.b -ℤ y.b }

abbrev pub pair_neg : Pair → Pair
pair_neg x = record { a = neg_ℤ x.a; b = neg_ℤ x.b }

abbrev pub pair_mul : Pair → Pair → Pair
pair_mul x y = record { a = x.a *ℤ y.a +ℤ pos 2 *ℤ (x.b *ℤ y.b); b = x.a *ℤ y.b +ℤ x.b *ℤ y.a }

-- both parts are at most 2^120 in size
abbrev pub IsWithin : Pair → Type 0
IsWithin x = (unsigned_abs x.a ≤ 2 ^ 120) × (unsigned_abs x.b ≤ 2 ^ 120)

-- both parts are -1, 0 or 1
abbrev pub HasUnitParts : Pair → Type 0
HasUnitParts x = (unsigned_abs x.a ≤ 1) × (unsigned_abs x.b ≤ 1)

-- the side of zero on which a + b √2 is
abbrev pub HasSign : ℤ → ℤ → Sign → Type 0
HasSign a b Minus = Positive (neg_ℤ a) (neg_ℤ b)
HasSign a b Zero = (a ≡ pos 0) × (b ≡ pos 0)
HasSign a b Plus = Positive a b
