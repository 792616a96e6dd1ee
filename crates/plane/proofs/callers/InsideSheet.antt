-- What is inside a triangle in the sheet is strictly inside the sheet, and what is between two points of it is in it.
use Rattle.std.proofs.Common.{ℕ, ◌<◌, ◌⊎◌, inl, inr, arith}
use Rattle.exact.specs.Number.{ExactNumber, Less, AtMost, whole}
use Rattle.exact.specs.Plane.{ExactPoint, DirOf}
use Rattle.exact.proofs.Order.{linear, same_turned, less_moved, above_moved}
use Rattle.exact.proofs.Positive.{less_trans}
use Rattle.exact.proofs.Told.{same_on}
use Rattle.sheet.specs.Sheet.{ExactSheet, InSheet, IsInside}
use Rattle.geometry.proofs.HalfAngles.{back}
use Rattle.geometry.proofs.RoundTriangle.{IsLeftOfAll}
use Rattle.geometry.proofs.InsideTriangle.{not_beyond}
use Rattle.geometry.proofs.AxisSides.{low_most, right_most, high_most, left_most}
use Rattle.geometry.proofs.Leads.{opposite_dir}
use Rattle.plane.specs.Triangles.{IsInTriangle}
use Rattle.plane.proofs.callers.Triangles.{left_cross}

pub at_most_trans : (x y z : ExactNumber) → AtMost x y → AtMost y z → AtMost x z
at_most_trans x y z h k = elim h [
  | inl s ↦ elim k [ inl t ↦ inl (same_on x y z s t) | inr l ↦ inr (less_moved y x z (same_turned x y s) l) ]
  | inr m ↦ elim k [ inl t ↦ inr (above_moved y z x t m) | inr l ↦ inr (less_trans x y z m l) ]
]

-- above, or at most
pub above_or : (x y : ExactNumber) → Less x y ⊎ AtMost y x
above_or x y = elim (linear x y) [ inl l ↦ inl l | inr k ↦ elim k [ inl s ↦ inr (inl (same_turned x y s)) | inr l ↦ inr (inr l) ] ]

inside_core : (sheet : ExactSheet) (p q r c : ExactPoint) (i j m : ℕ) → i < 16 → DirOf p q i → DirOf q r j → DirOf r p m → IsLeftOfAll p q r c i j m → InSheet sheet p → InSheet sheet q → InSheet sheet r → IsInside sheet c
inside_core sheet p q r c i j m si pq qr rp h a b d = (
  elim (above_or (whole 0) c.x) [ inl l ↦ l | inr n ↦ absurd (not_beyond p q r c i j m 12 si (omega arith) pq qr rp h ((left_most c p).1 (at_most_trans _ _ _ n a.0.0)) ((left_most c q).1 (at_most_trans _ _ _ n b.0.0)) ((left_most c r).1 (at_most_trans _ _ _ n d.0.0))) ],
  elim (above_or c.x (whole sheet.w)) [ inl l ↦ l | inr n ↦ absurd (not_beyond p q r c i j m 4 si (omega arith) pq qr rp h ((right_most c p).1 (at_most_trans _ _ _ a.0.1 n)) ((right_most c q).1 (at_most_trans _ _ _ b.0.1 n)) ((right_most c r).1 (at_most_trans _ _ _ d.0.1 n))) ],
  elim (above_or (whole 0) c.y) [ inl l ↦ l | inr n ↦ absurd (not_beyond p q r c i j m 0 si (omega arith) pq qr rp h ((low_most c p).1 (at_most_trans _ _ _ n a.1.0)) ((low_most c q).1 (at_most_trans _ _ _ n b.1.0)) ((low_most c r).1 (at_most_trans _ _ _ n d.1.0))) ],
  elim (above_or c.y (whole sheet.h)) [ inl l ↦ l | inr n ↦ absurd (not_beyond p q r c i j m 8 si (omega arith) pq qr rp h ((high_most c p).1 (at_most_trans _ _ _ a.1.1 n)) ((high_most c q).1 (at_most_trans _ _ _ b.1.1 n)) ((high_most c r).1 (at_most_trans _ _ _ d.1.1 n))) ],
)

-- strictly inside a triangle in the sheet
pub inside_sheet : (sheet : ExactSheet) (p q r c : ExactPoint) (i j m : ℕ) → i < 16 → j < 16 → m < 16 → DirOf p q i → DirOf q r j → DirOf r p m → IsInTriangle p q r c → InSheet sheet p → InSheet sheet q → InSheet sheet r → IsInside sheet c
inside_sheet sheet p q r c i j m si sj sm pq qr rp inside a b d = elim inside [
  | inl x ↦ inside_core sheet p q r c i j m si pq qr rp (record { pq = (left_cross p q c i pq).0 x.0; qr = (left_cross q r c j qr).0 x.1; rp = (left_cross r p c m rp).0 x.2 }) a b d
  | inr x ↦ (
      let qp = opposite_dir p q i si pq in
      let pr = opposite_dir r p m sm rp in
      let rq = opposite_dir q r j sj qr in
      inside_core sheet q p r c (back i) (back m) (back j) (omega arith) qp pr rq (record { pq = (left_cross q p c (back i) qp).0 x.2; qr = (left_cross p r c (back m) pr).0 x.0; rp = (left_cross r q c (back j) rq).0 x.1 }) b a d)
]
