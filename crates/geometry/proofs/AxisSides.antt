-- On which side of a line along an axis a point is, by one coordinate.
use Rattle.std.specs.Prelude.{◌↔◌}
use Rattle.std.proofs.Common.{◌≡◌, sym, ap, subst, ◌∙◌, inl, inr}
use Rattle.exact.specs.Number.{ExactNumber, Same, Less, AtMost, sub}
use Rattle.exact.specs.Plane.{ExactPoint, vector}
use Rattle.geometry.specs.Root.{Root, minus, count, Above}
use Rattle.geometry.specs.Gap.{num, dn, gx, gy, cross}
use Rattle.geometry.proofs.Domain.{above_times}
use Rattle.geometry.proofs.Gap.{dn_above, less_num, same_sub, above_right, out_right, in_right}
use Rattle.geometry.proofs.Lines.{cross_back}
use Rattle.geometry.proofs.Plain.{flat_cross, upright_cross, flat_back, upright_back}
use Rattle.geometry.proofs.AtLeast.{AtLeast}
use Rattle.geometry.proofs.HalfPlanes.{IsLeft, NotRight}

pub right_way : (p r : ExactPoint) → cross (vector 4) p r ≡ gx r p
right_way p r = upright_cross p r ∙ sym (ap minus (upright_back p r)) ∙ sym (cross_back (vector 12) p r) ∙ upright_back r p

pub high_way : (p r : ExactPoint) → cross (vector 8) p r ≡ gy r p
high_way p r = flat_back p r ∙ sym (ap minus (flat_cross p r)) ∙ sym (cross_back (vector 0) p r) ∙ flat_cross r p

above_y : (p r : ExactPoint) → Above (gy p r) ↔ Less p.y r.y
unfolding gy
above_y p r = (
  λ h. (less_num p.y r.y).1 (above_right (num (sub r.y p.y)) (dn (sub r.x p.x)) (dn_above (sub r.x p.x)) h),
  λ l. above_times (num (sub r.y p.y)) (dn (sub r.x p.x)) ((less_num p.y r.y).0 l) (dn_above (sub r.x p.x)),
)

above_x : (p r : ExactPoint) → Above (gx p r) ↔ Less p.x r.x
unfolding gx
above_x p r = (
  λ h. (less_num p.x r.x).1 (above_right (num (sub r.x p.x)) (dn (sub r.y p.y)) (dn_above (sub r.y p.y)) h),
  λ l. above_times (num (sub r.x p.x)) (dn (sub r.y p.y)) ((less_num p.x r.x).0 l) (dn_above (sub r.y p.y)),
)

pub level_y : (p r : ExactPoint) → (gy p r ≡ count 0) ↔ Same p.y r.y
unfolding gy
level_y p r = (λ h. (same_sub p.y r.y).1 (out_right _ _ (dn_above (sub r.x p.x)) h), λ s. in_right _ _ ((same_sub p.y r.y).0 s))

pub level_x : (p r : ExactPoint) → (gx p r ≡ count 0) ↔ Same p.x r.x
unfolding gx
level_x p r = (λ h. (same_sub p.x r.x).1 (out_right _ _ (dn_above (sub r.y p.y)) h), λ s. in_right _ _ ((same_sub p.x r.x).0 s))

most : (f g : Root) (x y : ExactNumber) → f ≡ g → Above g ↔ Less x y → (g ≡ count 0) ↔ Same x y → AtLeast f ↔ AtMost x y
most f g x y e a z = (
  λ h. elim h [ inl u ↦ inr (a.0 (subst Above e u)) | inr u ↦ inl (z.0 (sym e ∙ u)) ],
  λ h. elim h [ inl s ↦ inr (e ∙ z.1 s) | inr l ↦ inl (subst Above (sym e) (a.1 l)) ],
)

less : (f g : Root) (x y : ExactNumber) → f ≡ g → Above g ↔ Less x y → Above f ↔ Less x y
less f g x y e a = (λ h. a.0 (subst Above e h), λ l. subst Above (sym e) (a.1 l))

-- On the left of a line along an axis, or on it, by one coordinate. The lines are named by the sides of the sheet, gone round counterclockwise.
pub low_most : (p r : ExactPoint) → NotRight 0 p r ↔ AtMost p.y r.y
low_most p r = most _ (gy p r) p.y r.y (flat_cross p r) (above_y p r) (level_y p r)

pub right_most : (p r : ExactPoint) → NotRight 4 p r ↔ AtMost r.x p.x
right_most p r = most _ (gx r p) r.x p.x (right_way p r) (above_x r p) (level_x r p)

pub high_most : (p r : ExactPoint) → NotRight 8 p r ↔ AtMost r.y p.y
high_most p r = most _ (gy r p) r.y p.y (high_way p r) (above_y r p) (level_y r p)

pub left_most : (p r : ExactPoint) → NotRight 12 p r ↔ AtMost p.x r.x
left_most p r = most _ (gx p r) p.x r.x (upright_back p r) (above_x p r) (level_x p r)

-- strictly on the left
pub low_less : (p r : ExactPoint) → IsLeft 0 p r ↔ Less p.y r.y
low_less p r = less _ (gy p r) p.y r.y (flat_cross p r) (above_y p r)

pub right_less : (p r : ExactPoint) → IsLeft 4 p r ↔ Less r.x p.x
right_less p r = less _ (gx r p) r.x p.x (right_way p r) (above_x r p)

pub high_less : (p r : ExactPoint) → IsLeft 8 p r ↔ Less r.y p.y
high_less p r = less _ (gy r p) r.y p.y (high_way p r) (above_y r p)

pub left_less : (p r : ExactPoint) → IsLeft 12 p r ↔ Less p.x r.x
left_less p r = less _ (gx p r) p.x r.x (upright_back p r) (above_x p r)
