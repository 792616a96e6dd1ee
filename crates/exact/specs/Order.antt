-- The order of exact numbers as a comparison, and its laws.
use Rattle.std.specs.Prelude.{◌≡◌, ℤ, pos, neg_ℤ, ◌⊎◌, ◌+ℤ◌, ◌-ℤ◌, ◌*ℤ◌, unsigned_abs}
use Rattle.std.specs.declared.cmp.Ordering.{Ordering}
use Rattle.std.specs.Ordering.{int_cmp, nat_cmp, on, then_cmp}
use Rattle.std.specs.declared.cmp.Ordering.TheVariants.{Less, Equal, Greater}
use Rattle.exact.specs.Number.{ExactNumber, Positive, Same, Less as Below, den}

-- exactly one of these holds of a + b √2; that one does is this law
abbrev pub HasSide : Type 0
HasSide = (a b : ℤ) → Positive a b ⊎ (((a ≡ pos 0) × (b ≡ pos 0)) ⊎ Positive (neg_ℤ a) (neg_ℤ b))

-- the square of x, with the sign of x
abbrev pub signed_square : ℤ → ℤ
signed_square x = x *ℤ pos (unsigned_abs x)

-- how a + b √2 compares with zero
abbrev pub root_cmp : ℤ → ℤ → Ordering
root_cmp a b = int_cmp (signed_square a +ℤ pos 2 *ℤ signed_square b) (pos 0)

-- as numbers
abbrev pub real_cmp : ExactNumber → ExactNumber → Ordering
real_cmp x y = root_cmp (x.a *ℤ pos (den y) -ℤ y.a *ℤ pos (den x)) (x.b *ℤ pos (den y) -ℤ y.b *ℤ pos (den x))

-- as triples
abbrev pub triple_cmp : ExactNumber → ExactNumber → Ordering
triple_cmp = then_cmp (on (λ x. x.a) int_cmp) (then_cmp (on (λ x. x.b) int_cmp) (on (λ x. x.d) nat_cmp))

-- As numbers, and triples of one number apart. Triples in lowest terms are never so.
abbrev pub num_cmp : ExactNumber → ExactNumber → Ordering
num_cmp = then_cmp real_cmp triple_cmp

-- what an answer of a comparison means
abbrev pub IsAnswer : Ordering → ExactNumber → ExactNumber → Type 0
IsAnswer Less x y = Below x y
IsAnswer Equal x y = Same x y
IsAnswer Greater x y = Below y x

-- the answer holds of the two numbers, and no other answer does
pub record Tells (answer : Ordering) (x y : ExactNumber) : Type 0 where
  pub holds : IsAnswer answer x y
  pub alone : (other : Ordering) → IsAnswer other x y → other ≡ answer
