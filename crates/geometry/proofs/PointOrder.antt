-- The order of points is total, and of two points there is a later and an earlier one.
use Rattle.std.proofs.Common.{◌≡◌, refl, sym, ap, subst, ◌∙◌, ◌⊎◌, inl, inr}
use Rattle.std.specs.Prelude.{◌↔◌}
use Rattle.std.specs.declared.cmp.Ordering.{Ordering}
use Rattle.std.specs.declared.cmp.Ordering.TheVariants as o
use Rattle.std.specs.Ordering.{on, then_cmp, ordering_then, ordering_reverse}
use Rattle.std.specs.Cmp.{IsTotalOrder, tied_itself}
use Rattle.std.proofs.lemmas.Cmp.{on_total, then_total, tied_back, alike_right}
use Rattle.exact.specs.Order.{real_cmp}
use Rattle.exact.specs.Plane.{ExactPoint, SamePoint, Before}
use Rattle.exact.proofs.Order.{real_total, real_less, real_equal, less_of, same_of, first_equal}
use Rattle.geometry.specs.Meeting.{IsLater, IsEarlier}

abbrev pub point_real_cmp : ExactPoint → ExactPoint → Ordering
point_real_cmp = then_cmp (on (λ s. s.x) real_cmp) (on (λ s. s.y) real_cmp)

pub points_total : IsTotalOrder point_real_cmp
points_total = then_total (on_total (λ s. s.x) real_total) (on_total (λ s. s.y) real_total)

pub first_less : (r s : Ordering) → ordering_then r s ≡ o.Less → (r ≡ o.Less) ⊎ ((r ≡ o.Equal) × (s ≡ o.Less))
first_less o.Less s e = inl refl
first_less o.Equal s e = inr (refl, e)
first_less o.Greater s e = absurd (cc)

pub before_cmp : (p q : ExactPoint) → Before p q ↔ (point_real_cmp p q ≡ o.Less)
before_cmp p q = (
  λ h. elim h [
    | inl l ↦ ap (λ r. ordering_then r (real_cmp p.y q.y)) (real_less p.x q.x l)
    | inr k ↦ ap (λ r. ordering_then r (real_cmp p.y q.y)) (real_equal p.x q.x k.0) ∙ real_less p.y q.y k.1
  ],
  λ e. elim (first_less (real_cmp p.x q.x) (real_cmp p.y q.y) e) [
    | inl l ↦ inl (less_of p.x q.x l)
    | inr k ↦ inr (same_of p.x q.x k.0, less_of p.y q.y k.1)
  ],
)

pub same_cmp : (p q : ExactPoint) → SamePoint p q ↔ (point_real_cmp p q ≡ o.Equal)
same_cmp p q = (λ s. ap (λ r. ordering_then r (real_cmp p.y q.y)) (real_equal p.x q.x s.x) ∙ real_equal p.y q.y s.y, λ e. (let f = first_equal (real_cmp p.x q.x) (real_cmp p.y q.y) e in record { x = same_of p.x q.x f.0; y = same_of p.y q.y f.1 }))

pub before_trans : (p q r : ExactPoint) → Before p q → Before q r → Before p r
before_trans p q r h k = (before_cmp p r).1 (points_total.trans p q r ((before_cmp p q).0 h) ((before_cmp q r).0 k))

pub before_not_same : (p q : ExactPoint) → Before p q → SamePoint p q → ⊥
before_not_same p q h s = let e = (before_cmp p q).0 h in let f = (same_cmp p q).0 s in cc

pub same_back : (p q : ExactPoint) → SamePoint p q → SamePoint q p
same_back p q s = (same_cmp q p).1 (tied_back points_total p q ((same_cmp p q).0 s))

pub same_itself : (p : ExactPoint) → SamePoint p p
same_itself p = (same_cmp p p).1 (tied_itself points_total p)

pub before_not_itself : (p : ExactPoint) → Before p p → ⊥
before_not_itself p h = before_not_same p p h (same_itself p)

pub before_not_back : (p q : ExactPoint) → Before p q → Before q p → ⊥
before_not_back p q h k = before_not_itself p (before_trans p q p h k)

pub same_before : (p q r : ExactPoint) → SamePoint p q → Before p r → Before q r
same_before p q r s h = (before_cmp q r).1 (sym (points_total.congr p q r ((same_cmp p q).0 s)) ∙ (before_cmp p r).0 h)

pub before_same : (p q r : ExactPoint) → SamePoint q r → Before p q → Before p r
before_same p q r s h = (before_cmp p r).1 (sym (alike_right points_total q r p ((same_cmp q r).0 s)) ∙ (before_cmp p q).0 h)

cases : (r : Ordering) → (r ≡ o.Less) ⊎ ((r ≡ o.Equal) ⊎ (r ≡ o.Greater))
cases o.Less = inl refl
cases o.Equal = inr (inl refl)
cases o.Greater = inr (inr refl)

pub ordered : (p q : ExactPoint) → Before p q ⊎ (SamePoint p q ⊎ Before q p)
ordered p q = elim (cases (point_real_cmp p q)) [
  | inl l ↦ inl ((before_cmp p q).1 l)
  | inr k ↦ elim k [
    | inl e ↦ inr (inl ((same_cmp p q).1 e))
    | inr g ↦ inr (inr ((before_cmp q p).1 (points_total.antisymm q p ∙ ap ordering_reverse g)))
  ]
]

-- neither is before the other
pub tied : (p q : ExactPoint) → (Before p q → ⊥) → (Before q p → ⊥) → SamePoint p q
tied p q h k = elim (ordered p q) [ inl l ↦ absurd (h l) | inr r ↦ elim r [ inl s ↦ s | inr g ↦ absurd (k g) ] ]

pub same_trans : (p q r : ExactPoint) → SamePoint p q → SamePoint q r → SamePoint p r
same_trans p q r h k = (same_cmp p r).1 (points_total.congr p q r ((same_cmp p q).0 h) ∙ (same_cmp q r).0 k)

pub not_past : (a b : ExactPoint) → SamePoint a b ⊎ Before b a → ¬ Before a b
not_past a b r x = elim r [ inl e ↦ before_not_same a b x e | inr g ↦ before_not_back b a g x ]

-- p is before a, which is not after b
pub before_later : (p a b : ExactPoint) → Before p a → ¬ Before b a → Before p b
before_later p a b h n = elim (ordered a b) [
  | inl l ↦ before_trans p a b h l
  | inr k ↦ elim k [ inl s ↦ before_same p a b s h | inr g ↦ absurd (n g) ]
]

-- p is not after a, and a is before b
pub not_after_before : (p a b : ExactPoint) → ¬ Before a p → Before a b → Before p b
not_after_before p a b n h = elim (ordered p a) [
  | inl l ↦ before_trans p a b l h
  | inr y ↦ elim y [ inl e ↦ same_before a p b (same_back p a e) h | inr g ↦ absurd (n g) ]
]

pub later_of : (a b : ExactPoint) → (m : ExactPoint) × IsLater a b m
later_of a b = elim (ordered a b) [
  | inl l ↦ (b, record { one = inr refl; first = λ r. before_not_back a b l r; second = before_not_itself b })
  | inr r ↦ (a, record { one = inl refl; first = before_not_itself a; second = not_past a b r })
]

pub earlier_of : (a b : ExactPoint) → (m : ExactPoint) × IsEarlier a b m
earlier_of a b = elim (ordered a b) [
  | inl l ↦ (a, record { one = inl refl; first = before_not_itself a; second = λ r. before_not_back a b l r })
  | inr r ↦ (b, record { one = inr refl; first = not_past a b r; second = before_not_itself b })
]

-- each of two is before each of two others, so the later of these is before the earlier of those
pub later_before : (a b c d m n : ExactPoint) → IsLater a b m → IsEarlier c d n → Before a c → Before a d → Before b c → Before b d → Before m n
later_before a b c d m n l e ac ad bc bd = elim l.one [
  | inl x ↦ subst (λ z. Before z n) (sym x) (elim e.one [ inl y ↦ subst (λ z. Before a z) (sym y) ac | inr y ↦ subst (λ z. Before a z) (sym y) ad ])
  | inr x ↦ subst (λ z. Before z n) (sym x) (elim e.one [ inl y ↦ subst (λ z. Before b z) (sym y) bc | inr y ↦ subst (λ z. Before b z) (sym y) bd ])
]
