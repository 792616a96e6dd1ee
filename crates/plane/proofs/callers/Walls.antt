-- The sheet and its inside, by the lines of the four sides.
use Rattle.std.specs.Prelude.{◌↔◌}
use Rattle.std.proofs.Common.{sym, ◌∙◌, ◌⊎◌, inl, inr}
use Rattle.exact.specs.Number.{whole}
use Rattle.exact.specs.Plane.{ExactPoint, vector}
use Rattle.exact.proofs.Order.{same_turned}
use Rattle.sheet.specs.Sheet.{ExactSheet, InSheet, IsInside, corner}
use Rattle.geometry.proofs.Lines.{On}
use Rattle.geometry.proofs.Plain.{flat_cross, upright_back}
use Rattle.geometry.proofs.HalfPlanes.{IsLeft, NotRight}
use Rattle.geometry.proofs.AxisSides.{right_way, high_way, level_y, level_x, low_most, right_most, high_most, left_most, low_less, right_less, high_less, left_less}
use Rattle.plane.specs.Corners.{IsEnd}
use Rattle.plane.proofs.callers.Sides.{not_end}

-- on no line's right
pub record IsIn (sheet : ExactSheet) (r : ExactPoint) : Type 0 where
  pub low : NotRight 0 (corner sheet 0 0) r
  pub right : NotRight 4 (corner sheet 1 0) r
  pub high : NotRight 8 (corner sheet 1 1) r
  pub left : NotRight 12 (corner sheet 0 1) r

pub sheet_is : (sheet : ExactSheet) (r : ExactPoint) → InSheet sheet r ↔ IsIn sheet r
sheet_is sheet r = (
  λ h. record { low = (low_most (corner sheet 0 0) r).1 h.1.0; right = (right_most (corner sheet 1 0) r).1 h.0.1; high = (high_most (corner sheet 1 1) r).1 h.1.1; left = (left_most (corner sheet 0 1) r).1 h.0.0 },
  λ h. (((left_most (corner sheet 0 1) r).0 h.left, (right_most (corner sheet 1 0) r).0 h.right), ((low_most (corner sheet 0 0) r).0 h.low, (high_most (corner sheet 1 1) r).0 h.high)),
)

-- strictly on the left of each
pub record IsWithinAll (sheet : ExactSheet) (r : ExactPoint) : Type 0 where
  pub low : IsLeft 0 (corner sheet 0 0) r
  pub right : IsLeft 4 (corner sheet 1 0) r
  pub high : IsLeft 8 (corner sheet 1 1) r
  pub left : IsLeft 12 (corner sheet 0 1) r

pub inside_is : (sheet : ExactSheet) (r : ExactPoint) → IsInside sheet r ↔ IsWithinAll sheet r
inside_is sheet r = (
  λ h. record { low = (low_less (corner sheet 0 0) r).1 h.2; right = (right_less (corner sheet 1 0) r).1 h.1; high = (high_less (corner sheet 1 1) r).1 h.3; left = (left_less (corner sheet 0 1) r).1 h.0 },
  λ h. ((left_less (corner sheet 0 1) r).0 h.left, (right_less (corner sheet 1 0) r).0 h.right, (low_less (corner sheet 0 0) r).0 h.low, (high_less (corner sheet 1 1) r).0 h.high),
)

-- a coordinate is that of a side
abbrev pub IsEdge : ExactSheet → ExactPoint → Type 0
IsEdge sheet r = IsEnd sheet.w r.x ⊎ IsEnd sheet.h r.y

pub low_edge : (sheet : ExactSheet) (r : ExactPoint) → On (vector 0) (corner sheet 0 0) r → IsEdge sheet r
low_edge sheet r h = inr (inl ((level_y (corner sheet 0 0) r).0 (sym (flat_cross (corner sheet 0 0) r) ∙ h.on)))

pub right_edge : (sheet : ExactSheet) (r : ExactPoint) → On (vector 4) (corner sheet 1 0) r → IsEdge sheet r
right_edge sheet r h = inl (inr (same_turned r.x (whole sheet.w) ((level_x r (corner sheet 1 0)).0 (sym (right_way (corner sheet 1 0) r) ∙ h.on))))

pub high_edge : (sheet : ExactSheet) (r : ExactPoint) → On (vector 8) (corner sheet 1 1) r → IsEdge sheet r
high_edge sheet r h = inr (inr (same_turned r.y (whole sheet.h) ((level_y r (corner sheet 1 1)).0 (sym (high_way (corner sheet 1 1) r) ∙ h.on))))

pub left_edge : (sheet : ExactSheet) (r : ExactPoint) → On (vector 12) (corner sheet 0 1) r → IsEdge sheet r
left_edge sheet r h = inl (inl ((level_x (corner sheet 0 1) r).0 (sym (upright_back (corner sheet 0 1) r) ∙ h.on)))

pub inside_no_edge : (sheet : ExactSheet) (r : ExactPoint) → IsInside sheet r → ¬ IsEdge sheet r
inside_no_edge sheet r h e = elim e [ inl x ↦ not_end sheet.w r.x h.0 h.1 x | inr y ↦ not_end sheet.h r.y h.2 h.3 y ]
