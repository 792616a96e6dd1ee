-- No point of a segment is on the right of a line where its ends are not, and it lies on a line where both ends do.
use Rattle.std.proofs.Common.{◌≡◌, ◌≢◌, ℕ, refl, sym, subst, ◌∙◌, inl, inr}
use Rattle.exact.specs.Plane.{ExactPoint, ExactSegment, OnSeg, vector}
use Rattle.geometry.specs.Root.{count, Above}
use Rattle.geometry.specs.Gap.{num, cross, det, gx, gy}
use Rattle.geometry.specs.Meeting.{Along}
use Rattle.geometry.proofs.Domain.{sign_of, zero_out}
use Rattle.geometry.proofs.Gap.{in_right}
use Rattle.geometry.proofs.Lines.{On, weight, weight_above, chain, cross_back, on_back, on_from, on_trans, on_same, by_det_x, by_det_y, rises, falls, one_point}
use Rattle.geometry.proofs.Segments.{on_line, ahead, end_on}
use Rattle.geometry.proofs.PointOrder.{ordered, before_not_same}
use Rattle.geometry.proofs.AtLeast.{AtLeast, not_above_zero, not_below_zero, least_plus, least_times, least_right}

-- from a point that is not on the right a way that does not lead to the right
still_left : (w at p r : ExactPoint) → AtLeast (cross w p r) → AtLeast (cross w at p) → AtLeast (cross w at r)
still_left w at p r h k = least_right (cross w at r) (weight p) (weight_above p) (subst AtLeast (sym (chain w at p r)) (least_plus _ _ (least_times _ _ (weight_above r) k) (least_times _ _ (weight_above at) h)))

-- ways along v are zero from a parallel direction
none_across : (v w a b : ExactPoint) (s : ExactSegment) (m : ℕ) → Along s m → v ≡ vector m → det w v ≡ count 0 → On v a b → cross w a b ≡ count 0
none_across v w a b s m al e z o = elim (ahead s m al) [
  | inl x ↦ zero_out (num v.x) (cross w a b) (subst (λ (u : ExactPoint). Above (num u.x)) (sym e) x) (by_det_x v w a b o ∙ in_right (det w v) (gx a b) z)
  | inr y ↦ zero_out (num v.y) (cross w a b) (subst (λ (u : ExactPoint). Above (num u.y)) (sym e) y.1) (by_det_y v w a b o ∙ in_right (det w v) (gy a b) z)
]

-- no point between two that are not on the right is
pub left_between : (k m : ℕ) (at r : ExactPoint) (s : ExactSegment) → Along s m → OnSeg r s → AtLeast (cross (vector k) at s.p) → AtLeast (cross (vector k) at s.q) → AtLeast (cross (vector k) at r)
left_between k m at r s a h f g = elim (sign_of (det (vector k) (vector m))) [
  | inl d ↦ still_left (vector k) at s.p r (elim (ordered s.p r) [
    | inl b ↦ inl ((rises (vector m) (vector k) s.p r (ahead s m a) d on_p).0 b)
    | inr o ↦ elim o [ inl e ↦ inr (on_same (vector k) s.p r e).on | inr b ↦ absurd (h.from b) ]
  ]) f
  | inr o ↦ elim o [
    | inl z ↦ still_left (vector k) at s.p r (inr (none_across (vector m) (vector k) s.p r s m a refl z on_p)) f
    | inr d ↦ still_left (vector k) at s.q r (elim (ordered r s.q) [
      | inl b ↦ inl (subst Above (sym (cross_back (vector k) r s.q)) ((falls (vector m) (vector k) r s.q (ahead s m a) d on_q).0 b))
      | inr o ↦ elim o [ inl e ↦ inr (on_back (vector k) r s.q (on_same (vector k) r s.q e)).on | inr b ↦ absurd (h.to b) ]
    ]) g
  ]
]
  where
    on_p : On (vector m) s.p r
    on_p = on_line s m r a h

    on_q : On (vector m) r s.q
    on_q = on_from (vector m) s.p r s.q on_p (end_on s m a)

-- a segment lies on a line where both ends do
pub on_between : (k m : ℕ) (at r : ExactPoint) (s : ExactSegment) → Along s m → OnSeg r s → On (vector k) at s.p → On (vector k) at s.q → On (vector k) at r
on_between k m at r s a h f g = elim (sign_of (det (vector k) (vector m))) [
  | inl d ↦ apart (λ e. not_above_zero _ e d)
  | inr o ↦ elim o [
    | inl z ↦ on_trans (vector k) at s.p r f (record { on = none_across (vector m) (vector k) s.p r s m a refl z (on_line s m r a h) })
    | inr d ↦ apart (λ e. not_below_zero _ e d)
  ]
]
  where
    apart : det (vector k) (vector m) ≢ count 0 → On (vector k) at r
    apart n = absurd (before_not_same s.p s.q a.ordered (one_point (vector m) (vector k) s.p s.q n (end_on s m a) (on_from (vector k) at s.p s.q f g)))
