-- What the tests of order tell.
use Rattle.std.proofs.Common.{◌≡◌, refl, sym, ap, ◌∙◌, ◌⊎◌, inl, inr, Bool, true, false, IsTrue}
use Rattle.std.specs.Prelude.{◌↔◌}
use Rattle.std.proofs.lemmas.Bool.{false≢true}
use Rattle.std.specs.declared.cmp.Ordering.TheVariants as o
use Rattle.std.specs.Ordering.{ordering_then, is_lt, is_eq}
use Rattle.std.specs.Cmp.{tied_itself}
use Rattle.exact.specs.Number.{ExactNumber, Same, Less, IsCanonical}
use Rattle.exact.specs.Order.{num_cmp, triple_cmp}
use Rattle.exact.specs.Plane.{ExactPoint, Before}
use Rattle.exact.proofs.Order.{num_total, linear, real_less, real_greater}
use Rattle.exact.proofs.Unique.{unique}
use Rattle.geometry.specs.Meeting.{IsLater, IsEarlier}
use Rattle.geometry.proofs.PointOrder.{before_not_back, before_not_itself}

less_tells : (x y : ExactNumber) → Less x y → num_cmp x y ≡ o.Less
less_tells x y h = ap (λ r. ordering_then r (triple_cmp x y)) (real_less x y h)

greater_tells : (x y : ExactNumber) → Less y x → num_cmp x y ≡ o.Greater
greater_tells x y h = ap (λ r. ordering_then r (triple_cmp x y)) (real_greater x y h)

same_tells : (x y : ExactNumber) → IsCanonical x → IsCanonical y → Same x y → num_cmp x y ≡ o.Equal
same_tells x y p q s = ap (λ z. num_cmp x z) (sym (unique x y p q s)) ∙ tied_itself num_total x

pub less_test : (x y : ExactNumber) → IsCanonical x → IsCanonical y → (b : Bool) → b ≡ is_lt (num_cmp x y) → IsTrue b ↔ Less x y
less_test x y p q b e = (
  λ t. elim (linear x y) [
    | inl h ↦ h
    | inr k ↦ elim k [
      | inl s ↦ absurd (false≢true (sym (ap is_lt (same_tells x y p q s)) ∙ sym e ∙ t))
      | inr h ↦ absurd (false≢true (sym (ap is_lt (greater_tells x y h)) ∙ sym e ∙ t))
    ]
  ],
  λ h. e ∙ ap is_lt (less_tells x y h),
)

pub same_test : (x y : ExactNumber) → IsCanonical x → IsCanonical y → (b : Bool) → b ≡ is_eq (num_cmp x y) → IsTrue b ↔ Same x y
same_test x y p q b e = (
  λ t. elim (linear x y) [
    | inl h ↦ absurd (false≢true (sym (ap is_eq (less_tells x y h)) ∙ sym e ∙ t))
    | inr k ↦ elim k [
      | inl s ↦ s
      | inr h ↦ absurd (false≢true (sym (ap is_eq (greater_tells x y h)) ∙ sym e ∙ t))
    ]
  ],
  λ s. e ∙ ap is_eq (same_tells x y p q s),
)

-- a test that fails
pub fails : {P : Type 0} {b : Bool} → IsTrue b ↔ P → b ≡ false → ¬ P
fails i f h = false≢true (sym f ∙ i.1 h)

pub later_second : (a b : ExactPoint) → Before a b → IsLater a b b
later_second a b h = record { one = inr refl; first = before_not_back a b h; second = before_not_itself b }

pub later_first : (a b : ExactPoint) → ¬ Before a b → IsLater a b a
later_first a b h = record { one = inl refl; first = before_not_itself a; second = h }

pub earlier_second : (a b : ExactPoint) → Before b a → IsEarlier a b b
earlier_second a b h = record { one = inr refl; first = before_not_back b a h; second = before_not_itself b }

pub earlier_first : (a b : ExactPoint) → ¬ Before b a → IsEarlier a b a
earlier_first a b h = record { one = inl refl; first = before_not_itself a; second = h }

-- tests joined by `&&` and `||`, by what the first one gave
pub both_told : (P Q : Type 0) (a r : Bool) → IsTrue a ↔ P → a ≡ true → IsTrue r ↔ Q → IsTrue r ↔ (P × Q)
both_told P Q a r f t g = (λ s. (f.0 t, g.0 s), λ h. g.1 h.1)

pub first_fails : (P Q : Type 0) (a : Bool) → IsTrue a ↔ P → a ≡ false → IsTrue a ↔ (P × Q)
first_fails P Q a f e = (λ s. absurd (false≢true (sym e ∙ s)), λ h. f.1 h.0)

pub first_holds : (P Q : Type 0) (a : Bool) → IsTrue a ↔ P → a ≡ true → IsTrue a ↔ (P ⊎ Q)
first_holds P Q a f t = (λ s. inl (f.0 s), λ h. t)

pub second_told : (P Q : Type 0) (a r : Bool) → IsTrue a ↔ P → a ≡ false → IsTrue r ↔ Q → IsTrue r ↔ (P ⊎ Q)
second_told P Q a r f e g = (λ s. inr (g.0 s), λ h. elim h [ inl p ↦ absurd (false≢true (sym e ∙ f.1 p)) | inr q ↦ g.1 q ])
