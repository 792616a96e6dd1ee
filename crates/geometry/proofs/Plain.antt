-- Lines along the axes.
use Rattle.std.proofs.Common.{◌≡◌, ℕ, [], ◌∷◌, refl, sym, ap, ◌∙◌, arith}
use Rattle.std.specs.Prelude.{◌↔◌}
use Rattle.exact.specs.Number.{Same, sub}
use Rattle.exact.specs.Plane.{ExactPoint, SamePoint, Before, ExactSegment, OnBoth, Cross, vector}
use Rattle.exact.proofs.Order.{same_turned}
use Rattle.exact.proofs.Told.{same_itself}
use Rattle.geometry.specs.Root.{Root, plus, times, minus, count}
use Rattle.geometry.specs.Gap.{num, gx, gy, cross}
use Rattle.geometry.specs.Meeting.{Along}
use Rattle.geometry.proofs.Solve.{at, none, one, add, mul, opp, solve}
use Rattle.geometry.proofs.Gap.{same_sub, dn_above, out_right, in_right}
use Rattle.geometry.proofs.Lines.{On, minus_zero, minus_minus}
use Rattle.geometry.proofs.Segments.{on_line, on_seg, one_common}
use Rattle.geometry.proofs.PointOrder.{same_back, same_before, before_same}

-- on which side of a line along an axis a point is, by one coordinate
pub flat_cross : (p r : ExactPoint) → cross (vector 0) p r ≡ gy p r
unfolding cross num count
flat_cross p r = flat (gx p r) (gy p r)
  where
    flat : (x y : Root) → plus (times (count 1) y) (minus (times (count 0) x)) ≡ y
    flat x y = solve (x ∷ y ∷ []) (add (mul one (at 1)) (opp (mul none (at 0)))) (at 1) refl

pub upright_cross : (p r : ExactPoint) → cross (vector 4) p r ≡ minus (gx p r)
unfolding cross num count
upright_cross p r = upright (gx p r) (gy p r)
  where
    upright : (x y : Root) → plus (times (count 0) y) (minus (times (count 1) x)) ≡ minus x
    upright x y = solve (x ∷ y ∷ []) (add (mul none (at 1)) (opp (mul one (at 0)))) (opp (at 0)) refl

-- and of such a line the other way
pub flat_back : (p r : ExactPoint) → cross (vector 8) p r ≡ minus (gy p r)
unfolding cross num count minus
flat_back p r = flat (gx p r) (gy p r)
  where
    flat : (x y : Root) → plus (times (minus (count 1)) y) (minus (times (count 0) x)) ≡ minus y
    flat x y = solve (x ∷ y ∷ []) (add (mul (opp one) (at 1)) (opp (mul none (at 0)))) (opp (at 1)) refl

pub upright_back : (p r : ExactPoint) → cross (vector 12) p r ≡ gx p r
unfolding cross num count minus
upright_back p r = upright (gx p r) (gy p r)
  where
    upright : (x y : Root) → plus (times (count 0) y) (minus (times (minus (count 1)) x)) ≡ x
    upright x y = solve (x ∷ y ∷ []) (add (mul none (at 1)) (opp (mul (opp one) (at 0)))) (at 0) refl

pub flat_on : (p r : ExactPoint) → Same p.y r.y ↔ On (vector 0) p r
unfolding gy
flat_on p r = (λ s. record { on = flat_cross p r ∙ in_right _ _ ((same_sub p.y r.y).0 s) }, λ h. (same_sub p.y r.y).1 (out_right _ _ (dn_above (sub r.x p.x)) (sym (flat_cross p r) ∙ h.on)))

pub upright_on : (p r : ExactPoint) → Same p.x r.x ↔ On (vector 4) p r
unfolding gx
upright_on p r = (λ s. record { on = upright_cross p r ∙ ap minus (in_right _ _ ((same_sub p.x r.x).0 s)) ∙ minus_zero }, λ h. (same_sub p.x r.x).1 (out_right _ _ (dn_above (sub r.y p.y)) (sym (minus_minus _) ∙ ap minus (sym (upright_cross p r) ∙ h.on) ∙ minus_zero)))

-- the one point that a flat and an upright line have in common
abbrev pub corner_of : ExactSegment → ExactSegment → ExactPoint
corner_of s t = record { x = t.p.x; y = s.p.y }

pub plain_cross : (s t : ExactSegment) → Along s 0 → Along t 4 → ¬ Before (corner_of s t) s.p → ¬ Before s.q (corner_of s t) → ¬ Before (corner_of s t) t.p → ¬ Before t.q (corner_of s t) → Cross s t (corner_of s t)
plain_cross s t a b f g h k = record { here = here; only = λ u x. one_common s t 0 4 u (corner_of s t) a b apart x here }
  where
    here : OnBoth (corner_of s t) s t
    here = (on_seg s 0 (corner_of s t) a ((flat_on s.p (corner_of s t)).0 (same_itself s.p.y)) f g, on_seg t 4 (corner_of s t) b ((upright_on t.p (corner_of s t)).0 (same_itself t.p.x)) h k)

    apart : ◌≡◌ {A = ℕ} 0 4 → ⊥
    apart e = omega (arith, e)

pub plain_point : (s t : ExactSegment) (r : ExactPoint) → Along s 0 → Along t 4 → OnBoth r s t → SamePoint r (corner_of s t)
plain_point s t r a b h = record { x = same_turned t.p.x r.x ((upright_on t.p r).1 (on_line t 4 r b h.1)); y = same_turned s.p.y r.y ((flat_on s.p r).1 (on_line s 0 r a h.0)) }

pub plain_between : (s t : ExactSegment) (r : ExactPoint) → Along s 0 → Along t 4 → OnBoth r s t → ((¬ Before (corner_of s t) s.p) × (¬ Before s.q (corner_of s t))) × ((¬ Before (corner_of s t) t.p) × (¬ Before t.q (corner_of s t)))
plain_between s t r a b h = (let e = plain_point s t r a b h in (
  (λ x. h.0.from (same_before (corner_of s t) r s.p (same_back r (corner_of s t) e) x), λ x. h.0.to (before_same s.q (corner_of s t) r (same_back r (corner_of s t) e) x)),
  (λ x. h.1.from (same_before (corner_of s t) r t.p (same_back r (corner_of s t) e) x), λ x. h.1.to (before_same t.q (corner_of s t) r (same_back r (corner_of s t) e) x)),
))
