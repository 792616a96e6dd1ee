-- Exact numbers: the order of the reals on (a + b √2) / d.
use Rattle.std.specs.Prelude.{◌≡◌, ℕ, ◌*◌, ◌<◌, ◌≤◌, ◌^◌, ◌⊎◌, max, ℤ, pos, ◌+ℤ◌, ◌-ℤ◌, ◌*ℤ◌, ◌<ℤ◌, ◌≤ℤ◌}
use Rattle.std.specs.Prelude.{neg_ℤ, unsigned_abs}
use Rattle.std.specs.Int.{◌∣◌}

-- A triple of whole numbers of any size. It stands for (a + b √2) / d, where 0 as d is read as 1,
-- so that each triple stands for a number.
pub record ExactNumber : Type 0 where
  pub a : ℤ
  pub b : ℤ
  pub d : ℕ

-- the denominator
abbrev pub den : ExactNumber → ℕ
den x = max 1 x.d

abbrev pub square : ℤ → ℤ
square x = x *ℤ x

-- a + b √2 is above zero
abbrev pub Positive : ℤ → ℤ → Type 0
Positive a b =
    ((pos 0 ≤ℤ a) × (pos 0 ≤ℤ b) × (pos 0 <ℤ (a +ℤ b)))
    ⊎ (((pos 0 <ℤ a) × (b <ℤ pos 0) × ((pos 2 *ℤ square b) <ℤ square a))
    ⊎ ((a <ℤ pos 0) × (pos 0 <ℤ b) × (square a <ℤ (pos 2 *ℤ square b))))

-- they stand for one number
pub record Same (x y : ExactNumber) : Type 0 where
  pub a : x.a *ℤ pos (den y) ≡ y.a *ℤ pos (den x)
  pub b : x.b *ℤ pos (den y) ≡ y.b *ℤ pos (den x)

-- x is less than y
abbrev pub Less : ExactNumber → ExactNumber → Type 0
Less x y = Positive (y.a *ℤ pos (den x) -ℤ x.a *ℤ pos (den y)) (y.b *ℤ pos (den x) -ℤ x.b *ℤ pos (den y))

-- x is y or less
abbrev pub AtMost : ExactNumber → ExactNumber → Type 0
AtMost x y = Same x y ⊎ Less x y

abbrev pub neg : ExactNumber → ExactNumber
neg x = record { a = neg_ℤ x.a; b = neg_ℤ x.b; d = x.d }

abbrev pub add : ExactNumber → ExactNumber → ExactNumber
add x y = record {
  a = x.a *ℤ pos (den y) +ℤ y.a *ℤ pos (den x);
  b = x.b *ℤ pos (den y) +ℤ y.b *ℤ pos (den x);
  d = den x * den y;
}

abbrev pub sub : ExactNumber → ExactNumber → ExactNumber
sub x y = add x (neg y)

abbrev pub mul : ExactNumber → ExactNumber → ExactNumber
mul x y = record { a = x.a *ℤ y.a +ℤ pos 2 *ℤ (x.b *ℤ y.b); b = x.a *ℤ y.b +ℤ x.b *ℤ y.a; d = den x * den y }

abbrev pub whole : ℕ → ExactNumber
whole n = record { a = pos n; b = pos 0; d = 1 }

-- no whole number above 1 divides all three
abbrev pub IsLowest : ExactNumber → Type 0
IsLowest x = (k : ℕ) → k ∣ unsigned_abs x.a → k ∣ unsigned_abs x.b → k ∣ x.d → k ≡ 1

-- in lowest terms and within the limits
pub record IsCanonical (x : ExactNumber) : Type 0 where
  pub positive : 0 < x.d
  pub lowest : IsLowest x
  pub a : unsigned_abs x.a ≤ 2 ^ 48
  pub b : unsigned_abs x.b ≤ 2 ^ 48
  pub d : x.d ≤ 2 ^ 20

-- the program can hold it
abbrev pub IsRepresentable : ExactNumber → Type 0
IsRepresentable x = (y : ExactNumber) × Same x y × IsCanonical y
