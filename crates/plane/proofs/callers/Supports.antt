-- Two segments with one support lie on one line, and two with different ones do not overlap.
use Rattle.std.proofs.Common.{◌≡◌, ◌≢◌, ℕ, ◌%◌, ◌<◌, [], ◌∷◌, refl, sym, subst, ◌∙◌, ◌⊎◌, inl, inr, arith}
use Rattle.std.specs.Prelude.{◌↔◌}
use Rattle.std.proofs.lemmas.Bool.{cases_order}
use Rattle.std.specs.declared.cmp.Ordering.TheVariants as o
use Rattle.std.specs.Ordering.{nat_cmp}
use Rattle.std.specs.Cmp.{IsTotalOrder, nat_cmp_total}
use Rattle.std.proofs.lemmas.Cmp.{on_total, then_total}
use Rattle.std.proofs.lemmas.Map.Lookups.{exact_unsigned}
use Rattle.exact.specs.Order.{triple_cmp}
use Rattle.exact.proofs.Order.{first_equal, triple_exact, triple_total, same_turned}
use Rattle.exact.specs.Number.{ExactNumber, Same, mul}
use Rattle.exact.specs.Plane.{ExactPoint, ExactSegment, DirOf, IsSegment, IsZero, Overlap, vector, turn, away}
use Rattle.exact.proofs.Unique.{unique_lowest, same_trans}
use Rattle.qroot2.specs.Lowest.{IsInLowestTerms}
use Rattle.geometry.specs.Root.{Root, plus, times, minus, count}
use Rattle.geometry.specs.Gap.{num, dn, cross}
use Rattle.geometry.specs.Meeting.{Along}
use Rattle.geometry.proofs.Solve.{at, one, add, mul as mul_term, opp, solve}
use Rattle.geometry.proofs.Gap.{straight, above_num, num_mul, dn_mul, num_sub, dn_sub, same_num, num_same, difference_none, none_difference, dn_one}
use Rattle.geometry.proofs.Lines.{On, on_from, on_trans, one_point, cross_is}
use Rattle.geometry.proofs.Directions.{vector_whole, one_direction, not_parallel}
use Rattle.geometry.proofs.Segments.{one_common, none_common, end_on}
use Rattle.geometry.proofs.PointOrder.{before_not_same}
use Rattle.geometry.proofs.Found.{along_half, one_along}
use Rattle.plane.specs.Ways.{offset_of}
use Rattle.plane.specs.Support.{ExactLine, IsSupportOf, AreOnOneLine, line_cmp}

left_terms : (vx vy px py dpx dpy : Root) → plus (times (times vx py) (times (count 1) dpx)) (minus (times (times vy px) (times (count 1) dpy))) ≡ plus (times vx (times py dpx)) (minus (times vy (times px dpy)))
left_terms vx vy px py dpx dpy = solve (vx ∷ vy ∷ px ∷ py ∷ dpx ∷ dpy ∷ [])
    (add (mul_term (mul_term (at 0) (at 3)) (mul_term one (at 4))) (opp (mul_term (mul_term (at 1) (at 2)) (mul_term one (at 5)))))
    (add (mul_term (at 0) (mul_term (at 3) (at 4))) (opp (mul_term (at 1) (mul_term (at 2) (at 5))))) refl

-- the turn from a direction's vector to a point, over the product of the point's denominators
pub turn_num : (k : ℕ) (p : ExactPoint) → num (turn (vector k) p) ≡ offset_of k (times (num p.x) (dn p.y)) (times (num p.y) (dn p.x))
turn_num k p =
    num_sub (mul (vector k).x p.y) (mul (vector k).y p.x)
    ∙ rw (num_mul (vector k).x p.y, num_mul (vector k).y p.x, dn_mul (vector k).x p.y, dn_mul (vector k).y p.x, dn_one (vector k).x (vector_whole k).x, dn_one (vector k).y (vector_whole k).y)
    (left_terms (num (vector k).x) (num (vector k).y) (num p.x) (num p.y) (dn p.x) (dn p.y))

down_terms : (dpx dpy : Root) → times (times (count 1) dpy) (times (count 1) dpx) ≡ times dpx dpy
down_terms dpx dpy = solve (dpx ∷ dpy ∷ []) (mul_term (mul_term one (at 1)) (mul_term one (at 0))) (mul_term (at 0) (at 1)) refl

pub turn_dn : (k : ℕ) (p : ExactPoint) → dn (turn (vector k) p) ≡ times (dn p.x) (dn p.y)
turn_dn k p =
    dn_sub (mul (vector k).x p.y) (mul (vector k).y p.x)
    ∙ rw (dn_mul (vector k).x p.y, dn_mul (vector k).y p.x, dn_one (vector k).x (vector_whole k).x, dn_one (vector k).y (vector_whole k).y) (down_terms (dn p.x) (dn p.y))

pub cross_terms : (vx vy px py dpx dpy rx ry drx dry : Root) →
    plus (times (plus (times vx (times ry drx)) (minus (times vy (times rx dry)))) (times dpx dpy)) (minus (times (plus (times vx (times py dpx)) (minus (times vy (times px dpy)))) (times drx dry)))
    ≡ plus (times vx (times (plus (times ry dpy) (minus (times py dry))) (times drx dpx))) (minus (times vy (times (plus (times rx dpx) (minus (times px drx))) (times dry dpy))))
cross_terms vx vy px py dpx dpy rx ry drx dry = solve (vx ∷ vy ∷ px ∷ py ∷ dpx ∷ dpy ∷ rx ∷ ry ∷ drx ∷ dry ∷ [])
    (add (mul_term (add (mul_term (at 0) (mul_term (at 7) (at 8))) (opp (mul_term (at 1) (mul_term (at 6) (at 9))))) (mul_term (at 4) (at 5))) (opp (mul_term (add (mul_term (at 0) (mul_term (at 3) (at 4))) (opp (mul_term (at 1) (mul_term (at 2) (at 5))))) (mul_term (at 8) (at 9)))))
    (add (mul_term (at 0) (mul_term (add (mul_term (at 7) (at 5)) (opp (mul_term (at 3) (at 9)))) (mul_term (at 8) (at 4)))) (opp (mul_term (at 1) (mul_term (add (mul_term (at 6) (at 4)) (opp (mul_term (at 2) (at 8)))) (mul_term (at 9) (at 5)))))) refl

-- the turns to two points differ by the turn of the way between them
pub turns_apart : (k : ℕ) (p r : ExactPoint) → plus (times (num (turn (vector k) r)) (dn (turn (vector k) p))) (minus (times (num (turn (vector k) p)) (dn (turn (vector k) r)))) ≡ cross (vector k) p r
turns_apart k p r = rw (turn_num k r, turn_num k p, turn_dn k p, turn_dn k r)
    (cross_terms (num (vector k).x) (num (vector k).y) (num p.x) (num p.y) (dn p.x) (dn p.y) (num r.x) (num r.y) (dn r.x) (dn r.y) ∙ sym (cross_is (vector k) p r))

-- two points have one turn exactly where the line through one goes through the other
pub turn_same : (k : ℕ) (p r : ExactPoint) → Same (turn (vector k) p) (turn (vector k) r) ↔ (cross (vector k) p r ≡ count 0)
turn_same k p r = (
  λ s. sym (turns_apart k p r) ∙ none_difference _ _ (sym (same_num (turn (vector k) p) (turn (vector k) r) s)),
  λ e. num_same (turn (vector k) p) (turn (vector k) r) (sym (difference_none _ _ (turns_apart k p r ∙ e))),
)

-- the line through the lesser end of a segment in its direction
pub support_made : (s : ExactSegment) (p : ExactPoint) (k : ℕ) (l : ExactLine) → k < 16 → DirOf s.p s.q k → p ≡ s.p → l.dir ≡ k → IsInLowestTerms l.offset → Same l.offset (turn (vector k) p) → IsSupportOf s l
support_made s p k l small dir e f lowest offset = record {
  small = omega (arith, f, small);
  dir = subst (λ j. DirOf s.p s.q j) (sym f) dir;
  lowest = lowest;
  offset = subst (λ j. Same l.offset (turn (vector j) s.p)) (sym f) (subst (λ z. Same l.offset (turn (vector k) z)) e offset);
}

-- one support: one line
pub one_support : (s t : ExactSegment) (l : ExactLine) → IsSupportOf s l → IsSupportOf t l → On (vector l.dir) s.p t.p
one_support s t l a b = record { on = (turn_same l.dir s.p t.p).0 (same_trans l.offset (turn (vector l.dir) s.p) (turn (vector l.dir) t.p) a.offset b.offset) }

pub support_along : (s : ExactSegment) (l : ExactLine) → IsSegment s → IsSupportOf s l → Along s l.dir
support_along s l h a = record { small = a.small; ordered = h.0; dir = a.dir }

lines_equal : (l m : ExactLine) → l.dir ≡ m.dir → l.offset ≡ m.offset → l ≡ m
lines_equal l m p q = λ i. record { dir = p i; offset = q i }

-- one direction, and a line through both: one support
one_offset : (s t : ExactSegment) (l m : ExactLine) → IsSupportOf s l → IsSupportOf t m → l.dir ≡ m.dir → On (vector l.dir) s.p t.p → l ≡ m
one_offset s t l m a b e on = lines_equal l m e (unique_lowest l.offset m.offset a.lowest.positive a.lowest.lowest b.lowest.positive b.lowest.lowest together)
  where
    together : Same l.offset m.offset
    together =
        let here : Same (turn (vector l.dir) s.p) (turn (vector l.dir) t.p) = (turn_same l.dir s.p t.p).1 on.on in
        let there : Same m.offset (turn (vector l.dir) t.p) = subst (λ j. Same m.offset (turn (vector j) t.p)) (sym e) b.offset in
        same_trans (turn (vector l.dir) t.p) l.offset m.offset (same_turned l.offset (turn (vector l.dir) t.p) (same_trans (turn (vector l.dir) s.p) l.offset (turn (vector l.dir) t.p) (same_turned l.offset (turn (vector l.dir) s.p) a.offset) here)) (same_turned m.offset (turn (vector l.dir) t.p) there)

-- two directions of segments are one, or not parallel
one_or_not : (s t : ExactSegment) (k j : ℕ) → Along s k → Along t j → (k ≡ j) ⊎ (k % 8 ≢ j % 8)
one_or_not s t k j a b = elim (cases_order k j) [
  | inl e ↦ inl e
  | inr q ↦ inr (λ e. apart q (one_direction k j a.small b.small (along_half s k a) (along_half t j b) e))
]
  where
    apart : (k < j) ⊎ (j < k) → k ≡ j → ⊥
    apart (inl g) e = omega (arith, g, e)
    apart (inr g) e = omega (arith, g, e)

-- two supports: no overlap
pub other_support : (s t : ExactSegment) (l m : ExactLine) → IsSegment s → IsSegment t → IsSupportOf s l → IsSupportOf t m → l ≢ m → ¬ Overlap s t
other_support s t l m h k a b n o = elim (one_or_not s t l.dir m.dir along_s along_t) [
  | inl e ↦ none_common s t l.dir o.0 along_s (subst (λ j. Along t j) (sym e) along_t) (λ on. n (one_offset s t l m a b e on)) o.3
  | inr q ↦ o.2 (one_common s t l.dir m.dir o.0 o.1 along_s along_t q o.3 o.4)
]
  where
    along_s : Along s l.dir
    along_s = support_along s l h a

    along_t : Along t m.dir
    along_t = support_along t m k b

-- the line through the ends of a segment
through_ends : (s : ExactSegment) (k : ℕ) (r : ExactPoint) → Along s k → IsZero (turn (away s.p s.q) (away s.p r)) ↔ On (vector k) s.p r
through_ends s k r a = (let told = straight (vector k) s.p s.q r a.dir.0 (vector_whole k) (above_num a.dir.0 a.dir.1) a.dir.2 in (λ z. record { on = told.0 z }, λ h. told.1 h.on))

-- the supports are one exactly where the segments are on one line
pub support_is_line : (s t : ExactSegment) (l m : ExactLine) → IsSegment s → IsSegment t → IsSupportOf s l → IsSupportOf t m → (l ≡ m) ↔ AreOnOneLine s t
support_is_line s t l m h k a b = (
  λ e.
      let here = one_support s t l a (subst (λ z. IsSupportOf t z) (sym e) b) in
      let there = on_trans (vector l.dir) s.p t.p t.q here (end_on t l.dir (subst (λ (z : ExactLine). Along t z.dir) (sym e) along_t)) in
      ((through_ends s l.dir t.p along_s).1 here, (through_ends s l.dir t.q along_s).1 there),
  λ o. both ((through_ends s l.dir t.p along_s).0 o.0) ((through_ends s l.dir t.q along_s).0 o.1),
)
  where
    along_s : Along s l.dir
    along_s = support_along s l h a

    along_t : Along t m.dir
    along_t = support_along t m k b

    both : On (vector l.dir) s.p t.p → On (vector l.dir) s.p t.q → l ≡ m
    both on off = elim (one_or_not s t l.dir m.dir along_s along_t) [
      | inl e ↦ one_offset s t l m a b e on
      | inr q ↦ absurd (before_not_same t.p t.q along_t.ordered (one_point (vector l.dir) (vector m.dir) t.p t.q (not_parallel l.dir m.dir a.small b.small q) (on_from (vector l.dir) s.p t.p t.q on off) (end_on t m.dir along_t)))
    ]

-- a segment has one support
pub one_line_only : (s : ExactSegment) (l m : ExactLine) → IsSegment s → IsSupportOf s l → IsSupportOf s m → l ≡ m
one_line_only s l m h a b =
    let e : l.dir ≡ m.dir = one_along s l.dir m.dir (support_along s l h a) (support_along s m h b) in
    let there : Same m.offset (turn (vector l.dir) s.p) = subst (λ j. Same m.offset (turn (vector j) s.p)) (sym e) b.offset in
    lines_equal l m e (unique_lowest l.offset m.offset a.lowest.positive a.lowest.lowest b.lowest.positive b.lowest.lowest
    (same_trans (turn (vector l.dir) s.p) l.offset m.offset (same_turned l.offset (turn (vector l.dir) s.p) a.offset) (same_turned m.offset (turn (vector l.dir) s.p) there)))

pub line_exact : (l m : ExactLine) → line_cmp l m ≡ o.Equal → l ≡ m
line_exact l m e = (let parts = first_equal (nat_cmp l.dir m.dir) (triple_cmp l.offset m.offset) e in lines_equal l m (exact_unsigned l.dir m.dir parts.0) (triple_exact l.offset m.offset parts.1))

pub line_total : IsTotalOrder line_cmp
line_total = then_total (on_total (λ (l : ExactLine). l.dir) nat_cmp_total) (on_total (λ (l : ExactLine). l.offset) triple_total)
