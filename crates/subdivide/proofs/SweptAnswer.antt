-- From what the sweep has found to the answer of cutting a pattern.
use Rattle.std.proofs.Common.{◌≡◌, ℕ, ◌+◌, ◌<◌, ◌≤◌, List, map, length, get_or, Some, None, true, false, refl, sym, ap, subst, ◌∙◌, ◌⊎◌, inl, inr, arith}
use Rattle.std.specs.Prelude.{All, Contains, slice_get, Err}
use Rattle.std.proofs.lemmas.List.Elements.{All-contains, All-weaker, Contains-get_or}
use Rattle.std.proofs.lemmas.Option.{slice_get_within, slice_get_read, slice_get-get_or}
use Rattle.exact.specs.Plane.{ExactPoint, ExactSegment, Cross, IsPointCanonical}
use Rattle.sheet.specs.Sheet.{sides}
use Rattle.sheet.specs.Pattern.{ExactCrease, ExactPattern}
use Rattle.chains.specs.Chains.{Ascends}
use Rattle.chains.proofs.callers.Sorted.{ordered_of, no_longer}
use Rattle.plane.proofs.callers.Orders.{point_exact, point_total}
use Rattle.subdivide.specs.Subdivision.{Line, IsLine, EdgePlaces, OutOfRange, Answer, CutOf, AreVertices, AreEdges, IsSubdivision, vertex_limit}
use Rattle.subdivide.specs.declared.line.MarkedLine.{MarkedLine}
use Rattle.subdivide.specs.declared.found.Cut.{Cut}
use Rattle.subdivide.specs.declared.found.Pair.{Pair}
use Rattle.subdivide.specs.declared.found.Found.{Found}
use Rattle.subdivide.specs.Lines.{as_line, swept, AreLinesOf}
use Rattle.subdivide.specs.Touch.{CrossesOut}
use Rattle.subdivide.specs.Found.{IsAtMost, IsOut, IsSound, IsCutOf, AreMany, IsSweptUpTo}
use Rattle.subdivide.specs.Ranks.{AreRanked, AreCutsRanked}
use Rattle.subdivide.specs.Edges.{cut_cmp, AreStepsOf}
use Rattle.subdivide.specs.Whole.{IsAllFound, held}
use Rattle.subdivide.specs.CutAnswers.{IsCutAnswer}
use Rattle.subdivide.specs.declared.edge.CutBad.{CutBad}
use Rattle.subdivide.specs.declared.edge.CutBad.TheVariants as bad
use Rattle.creases.proofs.callers.Members.{all_of}
use Rattle.subdivide.proofs.Known.{known}
use Rattle.subdivide.proofs.callers.Range.{Stands, some_crease, earlier, first_out}
use Rattle.subdivide.proofs.PatternLines.{map_contains}
use Rattle.subdivide.proofs.Points.{same_held}
use Rattle.subdivide.proofs.Touched.{cross_turned}
use Rattle.subdivide.proofs.SideRange.{side_in_range}
use Rattle.subdivide.proofs.SweptLines.{SweptCase, swept_case, crease_of, crease_stands, marked_at, line_at, stands_at, first_side, last_side, first_in, last_in}
use Rattle.subdivide.proofs.SweptVertices.{place_line, vertices_are, all_in_range}
use Rattle.subdivide.proofs.SweptEdges.{cuts_at, edges_are}
use Rattle.subdivide.proofs.callers.Gets.{some_is, none_is, has_at}

-- without a pair out of range all is found
pub all_found : (pattern : ExactPattern) (ls : List MarkedLine) (found : Found) (s : IsSweptUpTo ls (length ls) found) → AreLinesOf pattern ls → found.least ≡ None → IsAllFound pattern ls s.findings.points s.findings.cuts
all_found pattern ls found s a e = record {
  lines_are = a;
  sound = record {
    canonical = s.kept.sound.canonical;
    points = s.kept.sound.points;
    cuts = s.kept.sound.cuts;
    ends = λ i l h. (let x = s.kept.sound.ends i l h in record { from = x.from; to = x.to; cut_from = x.cut_from; cut_to = x.cut_to });
    least = λ p h. absurd (none_is h);
  };
  settled = λ i j l m h k f g. record { each = λ v o. elim ((s.settled i j l m h k f g).each v o) [ inl x ↦ inl x | inr x ↦ absurd (subst (λ z. IsAtMost z i j) none x) ] };
}
  where
    none : s.findings.least ≡ None
    none = sym s.kept.least ∙ e

-- more different points than are allowed are too many vertices
pub too_many : (pattern : ExactPattern) (ls : List MarkedLine) (points : List ExactPoint) (cuts : List Cut) → IsAllFound pattern ls points cuts → AreMany points → CutOf pattern Answer.TooManyVertices
too_many pattern ls points cuts a o = (let r = ordered_of point_total point_exact points in (
  all_in_range pattern ls points cuts a,
  (r.0, vertices_are pattern ls points cuts r.0 a r.1.ascends r.1.adds r.1.keeps, omega (arith, o.many, no_longer point_total o.some r.0 o.ascends r.1.ascends (λ v c. r.1.keeps v (o.within v c)))),
))

pub swept_full : (pattern : ExactPattern) (ls : List MarkedLine) (found : Found) → IsSweptUpTo ls (length ls) found → AreLinesOf pattern ls → found.least ≡ None → found.full ≡ true → CutOf pattern Answer.TooManyVertices
swept_full pattern ls found s a e f = too_many pattern ls s.findings.points s.findings.cuts (all_found pattern ls found s a e) (s.kept.many f)

-- the points by their places
pub ranked_vertices : (pattern : ExactPattern) (ls : List MarkedLine) (points vs : List ExactPoint) (cuts : List Cut) (ranks : List ℕ) → IsAllFound pattern ls points cuts → AreRanked points vs ranks → AreVertices pattern vs
ranked_vertices pattern ls points vs cuts ranks a r = vertices_are pattern ls points cuts vs a r.ascends r.within
    (λ v c. (let h : c.0 < length ranks = omega (arith, r.many, c.1) in
    has_at vs (get_or ranks c.0 0) v (r.each c.0 (get_or ranks c.0 0) v (slice_get_read points (length points) c.0 v refl c.1 (sym c.2)) (slice_get-get_or ranks c.0 0 h))))

pub ranked_many : (pattern : ExactPattern) (ls : List MarkedLine) (points vs : List ExactPoint) (cuts : List Cut) (ranks : List ℕ) → IsAllFound pattern ls points cuts → AreRanked points vs ranks → vertex_limit < length vs → CutOf pattern Answer.TooManyVertices
ranked_many pattern ls points vs cuts ranks a r h = (all_in_range pattern ls points cuts a, (vs, ranked_vertices pattern ls points vs cuts ranks a r, h))

pub ranked_edges : (pattern : ExactPattern) (ls : List MarkedLine) (points vs : List ExactPoint) (old new : List Cut) (ranks : List ℕ) (es : List EdgePlaces) → IsAllFound pattern ls points old → AreRanked points vs ranks → AreCutsRanked ranks old new → Ascends cut_cmp new → AreStepsOf ls new es → AreEdges pattern vs es
ranked_edges pattern ls points vs old new ranks es a r c up s = edges_are pattern ls vs new es a.lines_are (ranked_vertices pattern ls points vs old ranks a r) (cuts_at pattern ls points vs ranks old new a r c up) s

pub ranked_cut : (pattern : ExactPattern) (ls : List MarkedLine) (points vs : List ExactPoint) (old new : List Cut) (ranks : List ℕ) (es : List EdgePlaces) → IsAllFound pattern ls points old → AreRanked points vs ranks → AreCutsRanked ranks old new → Ascends cut_cmp new → AreStepsOf ls new es → length vs ≤ vertex_limit → CutOf pattern (Answer.Cut vs es)
ranked_cut pattern ls points vs old new ranks es a r c up s h = (all_in_range pattern ls points old a, ranked_vertices pattern ls points vs old ranks a r, h, ranked_edges pattern ls points vs old new ranks es a r c up s)

-- a crease by its place among the lines
in_creases : (pattern : ExactPattern) (i : ℕ) (s : ExactSegment) → Stands pattern i s → Contains (map (λ (f : ExactCrease). f.seg) pattern.creases) s
in_creases pattern i s h = subst (λ z. Contains (map (λ (f : ExactCrease). f.seg) pattern.creases) z) (h.is (some_crease s)) (map_contains (λ (f : ExactCrease). f.seg) pattern.creases (get_or pattern.creases i (some_crease s)) (Contains-get_or pattern.creases i (some_crease s) h.within))

crease_line_at : (pattern : ExactPattern) (ls : List MarkedLine) (i : ℕ) (s : ExactSegment) → AreLinesOf pattern ls → Stands pattern i s → (l : MarkedLine) × (slice_get ls (3 + i) ≡ Some l) × (l.seg ≡ s)
crease_line_at pattern ls i s a h = (let f = get_or pattern.creases i (some_crease s) in
    let w = line_at ls (swept pattern) (3 + i) (crease_of f) a.same (crease_stands pattern i f (slice_get-get_or pattern.creases i (some_crease s) h.within)) in
    (w.0, w.1, ap (λ (z : Line). z.seg) w.2 ∙ h.is (some_crease s)))

-- a line that is no side is a crease
record AtCrease (pattern : ExactPattern) (place : ℕ) (s : ExactSegment) : Type 0 where
  pub index : ℕ
  pub is : place ≡ 3 + index
  pub stands : Stands pattern index s

at_crease : (pattern : ExactPattern) (ls : List MarkedLine) (i : ℕ) (l : MarkedLine) → AreLinesOf pattern ls → slice_get ls i ≡ Some l → (Contains (sides pattern.sheet) l.seg → ⊥) → AtCrease pattern i l.seg
at_crease pattern ls i l a e n = by (swept_case pattern i (as_line l) (marked_at ls (swept pattern) i l a.same e))
  where
    side : (s : ExactSegment) → l.seg ≡ s → Contains (sides pattern.sheet) s → AtCrease pattern i l.seg
    side s q c = absurd (n (subst (λ z. Contains (sides pattern.sheet) z) (sym q) c))

    by : SweptCase pattern i (as_line l) → AtCrease pattern i l.seg
    by (SweptCase.at_first h q) = side (first_side pattern.sheet i) (ap (λ (z : Line). z.seg) q) (first_in pattern.sheet i h)
    by (SweptCase.at_crease j f h g q) = record { index = j; is = h; stands = subst (Stands pattern j) (sym (ap (λ (z : Line). z.seg) q)) (stands_at pattern j f g) }
    by (SweptCase.at_last h q) = side (last_side pattern.sheet) (ap (λ (z : Line). z.seg) q) (last_in pattern.sheet)

-- the least pair that was found is the least of all
pub swept_out : (pattern : ExactPattern) (ls : List MarkedLine) (found : Found) (p : Pair) (l m : MarkedLine) → IsSweptUpTo ls (length ls) found → AreLinesOf pattern ls → found.least ≡ Some p → slice_get ls p.first ≡ Some l → slice_get ls p.second ≡ Some m → CutOf pattern (Answer.CrossRange l.seg m.seg)
swept_out pattern ls found p l m s a e f g = first_out pattern a.is x.index y.index l.seg m.seg x.stands y.stands
    (earlier pattern a.is l.seg m.seg x.index y.index x.stands y.stands (omega (arith, x.is, y.is, out.ordered)), in_creases pattern x.index l.seg x.stands, in_creases pattern y.index m.seg y.stands, crosses)
    none
  where
    least : s.findings.least ≡ Some p
    least = sym s.kept.least ∙ e

    out : IsOut ls p
    out = s.kept.sound.least p least

    crosses : CrossesOut l.seg m.seg
    crosses = subst (λ (z : MarkedLine). CrossesOut z.seg m.seg) (some_is (sym out.is_first ∙ f)) (subst (λ (z : MarkedLine). CrossesOut out.first.seg z.seg) (some_is (sym out.is_second ∙ g)) out.out)

    first_line : IsLine pattern l.seg
    first_line = (l.kind, place_line pattern ls p.first l a f)

    second_line : IsLine pattern m.seg
    second_line = (m.kind, place_line pattern ls p.second m a g)

    x : AtCrease pattern p.first l.seg
    x = at_crease pattern ls p.first l a f (λ c. crosses.2 (side_in_range pattern a.is l.seg m.seg crosses.0 c first_line second_line crosses.1))

    y : AtCrease pattern p.second m.seg
    y = at_crease pattern ls p.second m a g (λ c. crosses.2 (side_in_range pattern a.is m.seg l.seg crosses.0 c second_line first_line (cross_turned l.seg m.seg crosses.0 crosses.1)))

    none : (i j : ℕ) (u v : ExactSegment) → i < j → Stands pattern i u → Stands pattern j v → (i < x.index) ⊎ ((i ≡ x.index) × (j < y.index)) → ¬ OutOfRange pattern u v
    none i j u v h b c k o = (let d = crease_line_at pattern ls i u a b in let w = crease_line_at pattern ls j v a c in settled d.0 w.0 d.1 w.1
        (subst (λ z. Cross z w.0.seg o.3.0) (sym d.2) (subst (λ z. Cross u z o.3.0) (sym w.2) o.3.1)))
      where
        at_most : IsAtMost s.findings.least (3 + i) (3 + j) → ⊥
        at_most q = elim (subst (λ z. IsAtMost z (3 + i) (3 + j)) least q) [
          | inl r ↦ elim k [ inl t ↦ omega (arith, r, t, x.is) | inr t ↦ omega (arith, r, t.0, x.is) ]
          | inr r ↦ elim k [ inl t ↦ omega (arith, r.0, t, x.is) | inr t ↦ omega (arith, r.1, t.1, y.is) ]
        ]

        settled : (d w : MarkedLine) → slice_get ls (3 + i) ≡ Some d → slice_get ls (3 + j) ≡ Some w → Cross d.seg w.seg o.3.0 → ⊥
        settled d w q r t = elim ((s.settled (3 + i) (3 + j) d w (omega (arith, h)) (slice_get_within ls (3 + j) w r) q r).each o.3.0 t.here) [
          | inl z ↦ o.3.2 (same_held o.3.0 z.0.value z.0.same (All-contains IsPointCanonical s.findings.points z.0.value s.kept.sound.canonical (has_at s.findings.points z.0.point z.0.value z.0.stands)))
          | inr z ↦ at_most z
        ]

-- as the code asks and answers
pub swept_is_out : (ls : List MarkedLine) (n : ℕ) (found : Found) (p : Pair) → IsSweptUpTo ls n found → found.least ≡ Some p → IsOut ls p
swept_is_out ls n found p s e = s.kept.sound.least p (sym s.kept.least ∙ e)

pub out_answer : (pattern : ExactPattern) (ls : List MarkedLine) (found : Found) (p : Pair) (b : CutBad) → IsSweptUpTo ls (length ls) found → AreLinesOf pattern ls → found.least ≡ Some p
    → ((l m : MarkedLine) → slice_get ls p.first ≡ Some l → slice_get ls p.second ≡ Some m → b ≡ bad.CrossRange l.seg m.seg) → IsCutAnswer pattern (Err b)
out_answer pattern ls found p b s a e f = (let o = swept_is_out ls (length ls) found p s e in
    subst (λ z. IsCutAnswer pattern (Err z)) (sym (f o.first o.second o.is_first o.is_second)) (swept_out pattern ls found p o.first o.second s a e o.is_first o.is_second))

pub all_kept : (pattern : ExactPattern) (ls : List MarkedLine) (found : Found) → IsSweptUpTo ls (length ls) found → AreLinesOf pattern ls → found.least ≡ None → found.full ≡ false → IsAllFound pattern ls found.points.items found.cuts.items
all_kept pattern ls found s a e f = subst (λ z. IsAllFound pattern ls z found.cuts.items) (sym (s.kept.points f)) (subst (IsAllFound pattern ls s.findings.points) (sym (s.kept.cuts f)) (all_found pattern ls found s a e))

pub points_within : (ls : List MarkedLine) (points : List ExactPoint) (cuts : List Cut) (n : ℕ) → IsSound ls (held points cuts) → n ≡ length points → All (λ (c : Cut). c.point < n) cuts
points_within ls points cuts n s e = All-weaker (IsCutOf ls points) (λ (c : Cut). c.point < n) (λ c x. omega (arith, e, slice_get_within points c.point x.point x.stands)) cuts s.cuts

pub lines_within : (ls : List MarkedLine) (points : List ExactPoint) (old new : List Cut) (ranks : List ℕ) → IsSound ls (held points old) → AreCutsRanked ranks old new → All (λ (c : Cut). c.line < length ls) new
lines_within ls points old new ranks s r = all_of (λ (c : Cut). c.line < length ls) new (λ c h. (let d = r.each c h in let x = All-contains (IsCutOf ls points) old d.0 s.cuts d.1 in
    omega (arith, d.2.line, slice_get_within ls d.0.line x.line x.is)))

pub ranked_known : (pattern : ExactPattern) (ls : List MarkedLine) (points vs : List ExactPoint) (old new : List Cut) (ranks : List ℕ) (es : List EdgePlaces) → IsAllFound pattern ls points old → AreRanked points vs ranks → AreCutsRanked ranks old new → Ascends cut_cmp new → AreStepsOf ls new es → IsSubdivision (record { vertices = vs; edges = es })
ranked_known pattern ls points vs old new ranks es a r c up s = known pattern vs es (ranked_vertices pattern ls points vs old ranks a r) (ranked_edges pattern ls points vs old new ranks es a r c up s)
