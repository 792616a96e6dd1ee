-- Points of the sheet by other numbers of the same values, and whether a point is in it.
use Rattle.std.proofs.Common.{ℕ, inl, inr, ◌⊎◌}
use Rattle.exact.specs.Number.{ExactNumber, Same, AtMost, whole}
use Rattle.exact.specs.Plane.{ExactPoint, SamePoint}
use Rattle.exact.proofs.Told.{same_on, same_itself, less_values, less_not_same, less_not_back}
use Rattle.exact.proofs.Order.{same_turned, linear}
use Rattle.sheet.specs.Sheet.{ExactSheet, InSheet, IsWithin}
use Rattle.plane.specs.Corners.{IsEnd, AreOnSide}
use Rattle.plane.proofs.callers.Sides.{end_moved}

at_most_moved : (x y z w : ExactNumber) → Same x y → Same z w → AtMost x z → AtMost y w
at_most_moved x y z w s t h = elim h [
  | inl e ↦ inl (same_on y x w (same_turned x y s) (same_on x z w e t))
  | inr l ↦ inr (less_values x y z w s t l)
]

within_moved : (n : ℕ) (x y : ExactNumber) → Same x y → IsWithin n x → IsWithin n y
within_moved n x y s h = (at_most_moved (whole 0) (whole 0) x y (same_itself (whole 0)) s h.0, at_most_moved x y (whole n) (whole n) s (same_itself (whole n)) h.1)

pub in_moved : (sheet : ExactSheet) (p q : ExactPoint) → SamePoint p q → InSheet sheet p → InSheet sheet q
in_moved sheet p q s h = (within_moved sheet.w p.x q.x s.x h.0, within_moved sheet.h p.y q.y s.y h.1)

most_or_not : (x y : ExactNumber) → AtMost x y ⊎ (¬ AtMost x y)
most_or_not x y = elim (linear x y) [
  | inl l ↦ inl (inr l)
  | inr o ↦ elim o [ inl e ↦ inl (inl e) | inr l ↦ inr (λ h. elim h [ inl e ↦ less_not_same y x l (same_turned x y e) | inr g ↦ less_not_back x y g l ]) ]
]

both_or_not : (A B : Type 0) → A ⊎ (¬ A) → B ⊎ (¬ B) → (A × B) ⊎ (¬ (A × B))
both_or_not A B (inl a) (inl b) = inl (a, b)
both_or_not A B (inl a) (inr n) = inr (λ h. n h.1)
both_or_not A B (inr n) d = inr (λ h. n h.0)

pub in_or_not : (sheet : ExactSheet) (p : ExactPoint) → InSheet sheet p ⊎ (¬ InSheet sheet p)
in_or_not sheet p = both_or_not (IsWithin sheet.w p.x) (IsWithin sheet.h p.y)
    (both_or_not _ _ (most_or_not (whole 0) p.x) (most_or_not p.x (whole sheet.w))) (both_or_not _ _ (most_or_not (whole 0) p.y) (most_or_not p.y (whole sheet.h)))

line_moved : (n : ℕ) (x y z w : ExactNumber) → Same x z → Same y w → Same x y × IsEnd n x → Same z w × IsEnd n z
line_moved n x y z w s t h = (same_on z x w (same_turned x z s) (same_on x y w h.0 t), end_moved n x z s h.1)

pub side_moved : (sheet : ExactSheet) (p q v w : ExactPoint) → SamePoint p v → SamePoint q w → AreOnSide sheet p q → AreOnSide sheet v w
side_moved sheet p q v w s t h = (
  (in_moved sheet p v s h.0.0, in_moved sheet q w t h.0.1),
  elim h.1 [ inl x ↦ inl (line_moved sheet.w p.x q.x v.x w.x s.x t.x x) | inr x ↦ inr (line_moved sheet.h p.y q.y v.y w.y s.y t.y x) ],
)
