-- A line of a pattern meets a side of the sheet only in an end of its own, which can be held.
use Rattle.std.proofs.Common.{◌≡◌, ℕ, zero, suc, ◌%◌, ◌<◌, [], refl, sym, ap, subst, ◌∙◌, ◌⊎◌, inl, inr, arith}
use Rattle.std.specs.Prelude.{Contains}
use Rattle.exact.specs.Number.{Less, whole, sub}
use Rattle.exact.specs.Plane.{ExactPoint, SamePoint, ExactSegment, OnSeg, OnBoth, Cross, Overlap, vector, IsPointCanonical, IsPointRepresentable}
use Rattle.exact.proofs.Order.{linear}
use Rattle.geometry.specs.Root.{minus, count, Above}
use Rattle.geometry.specs.Gap.{num, dn, gx, gy, cross}
use Rattle.geometry.specs.Meeting.{Along, SameSide}
use Rattle.geometry.proofs.Solve.{none, opp, solve}
use Rattle.geometry.proofs.Domain.{above_times, above_not_minus, above_not_zero, sign_of}
use Rattle.geometry.proofs.Gap.{dn_above, less_num}
use Rattle.geometry.proofs.Directions.{right_half, one_direction}
use Rattle.geometry.proofs.Lines.{On, cross_back, minus_minus}
use Rattle.geometry.proofs.Plain.{flat_on, flat_cross, upright_on, upright_cross}
use Rattle.geometry.proofs.PointOrder.{ordered, before_not_same, same_back, same_trans}
use Rattle.geometry.proofs.Segments.{beside, none_common, end_p, end_q, ahead}
use Rattle.plane.proofs.callers.Sides.{SideCase, side_case, upright, flat, upright_along, flat_along, at_least, at_most, corner_canonical, corner_in}
use Rattle.sheet.specs.Sheet.{ExactSheet, IsSheet, corner, sides, InSheet}
use Rattle.sheet.specs.Pattern.{ExactPattern, IsPattern, IsKey}
use Rattle.subdivide.specs.Subdivision.{IsLine}
use Rattle.subdivide.proofs.PatternLines.{LineCase, line_case, at_upright_line, at_flat_line, parallel_or_not, key_of, line_along, lines_apart}
use Rattle.subdivide.proofs.Points.{same_held}

righter : (p r : ExactPoint) → Less p.x r.x → Above (minus (cross (vector 4) p r))
unfolding gx
righter p r h = subst Above (sym (ap minus (upright_cross p r) ∙ minus_minus _)) (above_times (num (sub r.x p.x)) (dn (sub r.y p.y)) ((less_num p.x r.x).0 h) (dn_above (sub r.y p.y)))

-- a higher point is on the left of the way to the right
higher : (p r : ExactPoint) → Less p.y r.y → Above (cross (vector 0) p r)
unfolding gy
higher p r h = subst Above (sym (flat_cross p r)) (above_times (num (sub r.y p.y)) (dn (sub r.x p.x)) ((less_num p.y r.y).0 h) (dn_above (sub r.x p.x)))

lower : (p r : ExactPoint) → Less r.y p.y → Above (minus (cross (vector 0) p r))
lower p r h = subst Above (cross_back (vector 0) p r) (higher r p h)

lefter : (p r : ExactPoint) → Less r.x p.x → Above (cross (vector 4) p r)
lefter p r h = subst Above (sym (cross_back (vector 4) r p)) (righter r p h)

-- the sheet lies on one side of the line of u, and what it has of that line lies on u
record Bounds (sheet : ExactSheet) (u : ExactSegment) (k : ℕ) : Type 0 where
  pub along : Along u k
  pub side : ((r : ExactPoint) → InSheet sheet r → ¬ Above (cross (vector k) u.p r)) ⊎ ((r : ExactPoint) → InSheet sheet r → ¬ Above (minus (cross (vector k) u.p r)))
  pub on : (r : ExactPoint) → InSheet sheet r → On (vector k) u.p r → OnSeg r u

zero_flat : (k : ℕ) (p r : ExactPoint) → On (vector k) p r → ¬ Above (cross (vector k) p r)
zero_flat k p r h a = above_not_zero (subst Above h.on a)

zero_turned : (k : ℕ) (p r : ExactPoint) → On (vector k) p r → ¬ Above (minus (cross (vector k) p r))
zero_turned k p r h a = above_not_zero (subst Above (ap minus h.on ∙ gone) a)
  where
    gone : minus (count 0) ≡ count 0
    gone = solve [] (opp none) none refl

bounds_upright : (sheet : ExactSheet) (i : ℕ) → IsSheet sheet → i < 2 → Bounds sheet (upright sheet i) 4
bounds_upright sheet zero good h = record {
  along = upright_along sheet 0 good;
  side = inl (λ r w a. (let p = corner sheet 0 0 in elim (linear (whole 0) r.x) [
    | inl l ↦ above_not_minus (cross (vector 4) p r) a (righter p r l)
    | inr k ↦ elim k [ inl s ↦ zero_flat 4 p r ((upright_on p r).0 s) a | inr l ↦ at_least sheet.w r.x w.0 l ]
  ]));
  on = λ r w k. at_upright_line sheet 0 r good w k;
}
bounds_upright sheet (suc zero) good h = record {
  along = upright_along sheet 1 good;
  side = inr (λ r w a. (let p = corner sheet 1 0 in elim (linear (whole sheet.w) r.x) [
    | inl l ↦ at_most sheet.w r.x w.0 l
    | inr k ↦ elim k [ inl s ↦ zero_turned 4 p r ((upright_on p r).0 s) a | inr l ↦ above_not_minus (cross (vector 4) p r) (lefter p r l) a ]
  ]));
  on = λ r w k. at_upright_line sheet 1 r good w k;
}
bounds_upright sheet (suc (suc i)) good h = absurd (omega arith)

bounds_flat : (sheet : ExactSheet) (i : ℕ) → IsSheet sheet → i < 2 → Bounds sheet (flat sheet i) 0
bounds_flat sheet zero good h = record {
  along = flat_along sheet 0 good;
  side = inr (λ r w a. (let p = corner sheet 0 0 in elim (linear (whole 0) r.y) [
    | inl l ↦ above_not_minus (cross (vector 0) p r) (higher p r l) a
    | inr k ↦ elim k [ inl s ↦ zero_turned 0 p r ((flat_on p r).0 s) a | inr l ↦ at_least sheet.h r.y w.1 l ]
  ]));
  on = λ r w k. at_flat_line sheet 0 r good w k;
}
bounds_flat sheet (suc zero) good h = record {
  along = flat_along sheet 1 good;
  side = inl (λ r w a. (let p = corner sheet 0 1 in elim (linear (whole sheet.h) r.y) [
    | inl l ↦ at_most sheet.h r.y w.1 l
    | inr k ↦ elim k [ inl s ↦ zero_flat 0 p r ((flat_on p r).0 s) a | inr l ↦ above_not_minus (cross (vector 0) p r) a (lower p r l) ]
  ]));
  on = λ r w k. at_flat_line sheet 1 r good w k;
}
bounds_flat sheet (suc (suc i)) good h = absurd (omega arith)

-- of two points of the sheet that are off the line of u both lie strictly on one side
off_line : (sheet : ExactSheet) (u : ExactSegment) (k : ℕ) → Bounds sheet u k → (p q : ExactPoint) → InSheet sheet p → InSheet sheet q → ¬ On (vector k) u.p p → ¬ On (vector k) u.p q → SameSide (cross (vector k) u.p p) (cross (vector k) u.p q)
off_line sheet u k b p q x y m n = elim b.side [
  | inl f ↦ inr (down p (f p x) m, down q (f q y) n)
  | inr f ↦ inl (up p (f p x) m, up q (f q y) n)
]
  where
    down : (r : ExactPoint) → ¬ Above (cross (vector k) u.p r) → ¬ On (vector k) u.p r → Above (minus (cross (vector k) u.p r))
    down r f g = elim (sign_of (cross (vector k) u.p r)) [ inl a ↦ absurd (f a) | inr s ↦ elim s [ inl z ↦ absurd (g (record { on = z })) | inr a ↦ a ] ]

    up : (r : ExactPoint) → ¬ Above (minus (cross (vector k) u.p r)) → ¬ On (vector k) u.p r → Above (cross (vector k) u.p r)
    up r f g = elim (sign_of (cross (vector k) u.p r)) [ inl a ↦ a | inr s ↦ elim s [ inl z ↦ absurd (g (record { on = z })) | inr a ↦ absurd (f a) ] ]

on_line_or_not : (k : ℕ) (p r : ExactPoint) → On (vector k) p r ⊎ ¬ On (vector k) p r
on_line_or_not k p r = elim (sign_of (cross (vector k) p r)) [
  | inl a ↦ inr (λ h. zero_flat k p r h a)
  | inr s ↦ elim s [ inl z ↦ inl (record { on = z }) | inr a ↦ inr (λ h. zero_turned k p r h a) ]
]

-- segments that do not overlap have no two common points
one_shared : (u t : ExactSegment) (v w : ExactPoint) → ¬ Overlap u t → OnBoth v u t → OnBoth w u t → SamePoint v w
one_shared u t v w n a b = elim (ordered v w) [
  | inl h ↦ absurd (n (v, w, before_not_same v w h, a, b))
  | inr k ↦ elim k [ inl e ↦ e | inr h ↦ absurd (n (w, v, before_not_same w v h, b, a)) ]
]

-- a segment of the sheet meets a side that it does not overlap only in an end
side_end : (sheet : ExactSheet) (u t : ExactSegment) (k j : ℕ) (v : ExactPoint) → Bounds sheet u k → Along t j → InSheet sheet t.p → InSheet sheet t.q → ¬ Overlap u t → OnBoth v u t → SamePoint v t.p ⊎ SamePoint v t.q
side_end sheet u t k j v b a x y n o = elim (on_line_or_not k u.p t.p) [
  | inl h ↦ inl (one_shared u t v t.p n o (b.on t.p x h, end_p t j a))
  | inr f ↦ elim (on_line_or_not k u.p t.q) [
    | inl h ↦ inr (one_shared u t v t.q n o (b.on t.q y h, end_q t j a))
    | inr g ↦ elim (parallel_or_not (k % 8) (j % 8)) [
      | inl e ↦ (let q = one_direction k j b.along.small a.small (right_half k b.along.small (ahead u k b.along)) (right_half j a.small (ahead t j a)) e in
          absurd (none_common u t k v b.along (subst (λ i. Along t i) (sym q) a) f o))
      | inr d ↦ absurd (beside u t k j v b.along a d (inr (off_line sheet u k b t.p t.q x y f g)) o)
    ]
  ]
]

-- the ends of a line can be held and are in the sheet
pub record HasEnds (sheet : ExactSheet) (t : ExactSegment) : Type 0 where
  pub from : IsPointCanonical t.p
  pub to : IsPointCanonical t.q
  pub from_in : InSheet sheet t.p
  pub to_in : InSheet sheet t.q

side_ends : (sheet : ExactSheet) (s : ExactSegment) → IsSheet sheet → SideCase sheet s → HasEnds sheet s
side_ends sheet s good (SideCase.at_upright i h e) = subst (HasEnds sheet) (sym e) (record {
  from = corner_canonical sheet i 0 good;
  to = corner_canonical sheet i 1 good;
  from_in = corner_in sheet i 0 h (omega arith) good;
  to_in = corner_in sheet i 1 h (omega arith) good;
})
side_ends sheet s good (SideCase.at_flat i h e) = subst (HasEnds sheet) (sym e) (record {
  from = corner_canonical sheet 0 i good;
  to = corner_canonical sheet 1 i good;
  from_in = corner_in sheet 0 i (omega arith) h good;
  to_in = corner_in sheet 1 i (omega arith) h good;
})

key_ends : (sheet : ExactSheet) (s : ExactSegment) → IsKey sheet s → HasEnds sheet s
key_ends sheet s h = record { from = h.from; to = h.to; from_in = h.from_in; to_in = h.to_in }

pub line_has_ends : (pattern : ExactPattern) → IsPattern pattern → (t : ExactSegment) → IsLine pattern t → HasEnds pattern.sheet t
line_has_ends pattern p t l = by (line_case pattern t l.0 l.1)
  where
    by : LineCase pattern t l.0 → HasEnds pattern.sheet t
    by (LineCase.is_side c e) = side_ends pattern.sheet t p.sheet (side_case pattern.sheet t c)
    by (LineCase.is_crease f c e g) = subst (HasEnds pattern.sheet) e (key_ends pattern.sheet f.seg (key_of pattern p f c))

side_bounds : (sheet : ExactSheet) (s : ExactSegment) → IsSheet sheet → SideCase sheet s → (k : ℕ) × Bounds sheet s k
side_bounds sheet s good (SideCase.at_upright i h e) = (4, subst (λ z. Bounds sheet z 4) (sym e) (bounds_upright sheet i good h))
side_bounds sheet s good (SideCase.at_flat i h e) = (0, subst (λ z. Bounds sheet z 0) (sym e) (bounds_flat sheet i good h))

-- no segment has exactly one point in common with itself
pub no_self_cross : (s : ExactSegment) (k : ℕ) (v : ExactPoint) → Along s k → ¬ Cross s s v
no_self_cross s k v a c = before_not_same s.p s.q a.ordered (same_trans s.p v s.q (c.only s.p (end_p s k a, end_p s k a)) (same_back s.q v (c.only s.q (end_q s k a, end_q s k a))))

-- the crossing of a side and another line can be held
pub side_in_range : (pattern : ExactPattern) → IsPattern pattern → (s t : ExactSegment) (v : ExactPoint) → Contains (sides pattern.sheet) s → IsLine pattern s → IsLine pattern t → Cross s t v → IsPointRepresentable v
side_in_range pattern p s t v c a b x = (let w = side_bounds pattern.sheet s p.sheet (side_case pattern.sheet s c) in let g = line_along pattern p t b in let e = line_has_ends pattern p t b in
    elim (side_end pattern.sheet s t w.0 g.0 v w.1 g.1 e.from_in e.to_in (apart w.0 w.1.along) x.here) [ inl q ↦ same_held v t.p q e.from | inr q ↦ same_held v t.q q e.to ])
  where
    apart : (k : ℕ) → Along s k → ¬ Overlap s t
    apart k h o = no_self_cross s k v h (subst (λ z. Cross s z v) (sym (lines_apart pattern p s t a b o)) x)
