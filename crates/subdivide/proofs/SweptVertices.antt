-- The points that the sweep finds are the vertices.
use Rattle.std.proofs.Common.{◌≡◌, ℕ, ◌+◌, ◌*◌, List, map, length, Some, refl, sym, ap, subst, ◌∙◌, inl, inr}
use Rattle.std.specs.Prelude.{All, Contains, slice_get}
use Rattle.std.proofs.lemmas.Bool.{cases_order}
use Rattle.std.proofs.lemmas.List.Elements.{All-contains}
use Rattle.std.proofs.lemmas.Option.{slice_get_within, slice_get_read}
use Rattle.exact.specs.Plane.{ExactPoint, ExactSegment, OnSeg, Cross, IsPointCanonical}
use Rattle.geometry.specs.Meeting.{Along}
use Rattle.geometry.proofs.PointOrder.{same_back}
use Rattle.sheet.specs.Pattern.{ExactCrease, ExactPattern}
use Rattle.chains.specs.Chains.{Ascends}
use Rattle.plane.specs.Order.{point_cmp}
use Rattle.creases.proofs.callers.Members.{all_of}
use Rattle.subdivide.specs.Subdivision.{Line, lines, IsLine, IsVertex, AreVertices, InRange}
use Rattle.subdivide.specs.declared.line.MarkedLine.{MarkedLine}
use Rattle.subdivide.specs.declared.found.Cut.{Cut}
use Rattle.subdivide.specs.Lines.{as_line, swept, AreLinesOf}
use Rattle.subdivide.specs.Found.{IsCutAt, IsPlace, HasEnds}
use Rattle.subdivide.specs.Whole.{IsAllFound, held}
use Rattle.subdivide.proofs.Cutting.{found, on_some_line, vertex_moved}
use Rattle.subdivide.proofs.PatternLines.{pattern_lines, contains_map, line_along, crease_line}
use Rattle.subdivide.proofs.callers.Range.{some_crease}
use Rattle.subdivide.proofs.Points.{ascends_before, same_held}
use Rattle.subdivide.proofs.SideRange.{no_self_cross}
use Rattle.subdivide.proofs.SweptLines.{marked_at, line_at, line_stands, is_line}
use Rattle.subdivide.proofs.callers.Gets.{some_is, has_at}

-- a line of the pattern stands among those that are swept
pub line_place : (pattern : ExactPattern) (ls : List MarkedLine) (s : ExactSegment) → AreLinesOf pattern ls → IsLine pattern s → (i : ℕ) × ((l : MarkedLine) × (slice_get ls i ≡ Some l) × (l.seg ≡ s))
line_place pattern ls s a h = (let m : Line = record { seg = s; kind = h.0 } in let n = line_stands pattern m h.1 in let l = line_at ls (swept pattern) n.0 m a.same n.1 in
    (n.0, (l.0, l.1, ap (λ (z : Line). z.seg) l.2)))

pub place_line : (pattern : ExactPattern) (ls : List MarkedLine) (i : ℕ) (l : MarkedLine) → AreLinesOf pattern ls → slice_get ls i ≡ Some l → Contains (lines pattern) (as_line l)
place_line pattern ls i l a e = is_line pattern i (as_line l) (marked_at ls (swept pattern) i l a.same e)

-- each vertex on a line cuts it
pub vertex_cuts : (pattern : ExactPattern) (ls : List MarkedLine) (points : List ExactPoint) (cuts : List Cut) → IsAllFound pattern ls points cuts → (i : ℕ) (l : MarkedLine) (v : ExactPoint) → slice_get ls i ≡ Some l → IsVertex pattern v → OnSeg v l.seg → IsCutAt points cuts i v
vertex_cuts pattern ls points cuts a i l v e x o = elim (found pattern (pattern_lines pattern a.lines_are.is) l.seg v (l.kind, place_line pattern ls i l a.lines_are e) x o) [
  | inl s ↦ record { point = 2 * i; value = l.seg.p; cut = ends.cut_from; stands = ends.from; same = s }
  | inr y ↦ elim y [
    | inl s ↦ record { point = 2 * i + 1; value = l.seg.q; cut = ends.cut_to; stands = ends.to; same = s }
    | inr t ↦ crossing t.0 t.1 t.2
  ]
]
  where
    ends : HasEnds (held points cuts) i l.seg
    ends = a.sound.ends i l e

    crossing : (t : ExactSegment) → IsLine pattern t → Cross l.seg t v → IsCutAt points cuts i v
    crossing t b c = (let w = line_place pattern ls t a.lines_are b in by w.0 w.1.0 w.1.1 (subst (λ z. Cross l.seg z v) (sym w.1.2) c))
      where
        by : (j : ℕ) (m : MarkedLine) → slice_get ls j ≡ Some m → Cross l.seg m.seg v → IsCutAt points cuts i v
        by j m f c = elim (cases_order i j) [
          | inl q ↦ absurd (no_self_cross l.seg k.0 v k.1 (subst (λ (z : MarkedLine). Cross l.seg z.seg v) (some_is (sym f ∙ ap (slice_get ls) (sym q) ∙ e)) c))
          | inr r ↦ elim r [
            | inl h ↦ elim ((a.settled i j l m h (slice_get_within ls j m f) e f).each v c.here) [ inl g ↦ g.0 | inr g ↦ absurd g ]
            | inr h ↦ elim ((a.settled j i m l h (slice_get_within ls i l e) f e).each v (c.here.1, c.here.0)) [ inl g ↦ g.1 | inr g ↦ absurd g ]
          ]
        ]
          where
            k : (k : ℕ) × Along l.seg k
            k = line_along pattern a.lines_are.is l.seg (l.kind, place_line pattern ls i l a.lines_are e)

-- what was found is a vertex
pub place_vertex : (pattern : ExactPattern) (ls : List MarkedLine) (v : ExactPoint) → AreLinesOf pattern ls → IsPlace ls v → IsVertex pattern v
place_vertex pattern ls v a x = elim x [
  | inl h ↦ (let b = line_of h.0 h.1 in let n = (pattern_lines pattern a.is).end h.0.seg b in elim h.2 [
    | inl s ↦ vertex_moved pattern (pattern_lines pattern a.is) h.0.seg.p v (same_back v h.0.seg.p s) n.0
    | inr s ↦ vertex_moved pattern (pattern_lines pattern a.is) h.0.seg.q v (same_back v h.0.seg.q s) n.1
  ])
  | inr h ↦ inr (inr (h.0.seg, h.1.seg, line_of h.0 h.2, line_of h.1 h.3, h.4))
]
  where
    line_of : (l : MarkedLine) → Contains ls l → IsLine pattern l.seg
    line_of l c = (l.kind, place_line pattern ls c.0 l a (slice_get_read ls (length ls) c.0 l refl c.1 (sym c.2)))

-- the points ascending, each once, are the vertices
pub vertices_are : (pattern : ExactPattern) (ls : List MarkedLine) (points : List ExactPoint) (cuts : List Cut) (vs : List ExactPoint) → IsAllFound pattern ls points cuts → Ascends point_cmp vs
    → ((v : ExactPoint) → Contains vs v → Contains points v) → ((v : ExactPoint) → Contains points v → Contains vs v) → AreVertices pattern vs
vertices_are pattern ls points cuts vs a up f g = record {
  ordered = ascends_before vs canonical up;
  canonical = canonical;
  each = all_of (IsVertex pattern) vs (λ v c. place_vertex pattern ls v a.lines_are (All-contains (IsPlace ls) points v a.sound.points (f v c)));
  all = λ v x. (let s = on_some_line pattern (pattern_lines pattern a.lines_are.is) v x in let w = line_place pattern ls s.0 a.lines_are s.1 in
      let k = vertex_cuts pattern ls points cuts a w.0 w.1.0 v w.1.1 x (subst (OnSeg v) (sym w.1.2) s.2) in
      (k.value, g k.value (has_at points k.point k.value k.stands), k.same));
}
  where
    canonical : All IsPointCanonical vs
    canonical = all_of IsPointCanonical vs (λ v c. All-contains IsPointCanonical points v a.sound.canonical (f v c))

-- the crossings of all lines can be held
pub all_in_range : (pattern : ExactPattern) (ls : List MarkedLine) (points : List ExactPoint) (cuts : List Cut) → IsAllFound pattern ls points cuts → InRange pattern
all_in_range pattern ls points cuts a s t o = (let x = crease_place s o.1 in let y = crease_place t o.2 in by x.0 y.0 x.1.0 y.1.0 x.1.1 y.1.1
    (subst (λ z. Cross z y.1.0.seg o.3.0) (sym x.1.2) (subst (λ z. Cross s z o.3.0) (sym y.1.2) o.3.1)))
  where
    crease_place : (u : ExactSegment) → Contains (map (λ (f : ExactCrease). f.seg) pattern.creases) u → (i : ℕ) × ((l : MarkedLine) × (slice_get ls i ≡ Some l) × (l.seg ≡ u))
    crease_place u c = (let f = contains_map (λ (f : ExactCrease). f.seg) pattern.creases u (some_crease u) c in
        line_place pattern ls u a.lines_are (subst (IsLine pattern) f.2 (crease_line pattern f.0 f.1)))

    by : (i j : ℕ) (l m : MarkedLine) → slice_get ls i ≡ Some l → slice_get ls j ≡ Some m → Cross l.seg m.seg o.3.0 → ⊥
    by i j l m e f c = (let w = vertex_cuts pattern ls points cuts a i l o.3.0 e (inr (inr (l.seg, m.seg, (l.kind, place_line pattern ls i l a.lines_are e), (m.kind, place_line pattern ls j m a.lines_are f), c))) c.here.0 in
        o.3.2 (same_held o.3.0 w.value w.same (All-contains IsPointCanonical points w.value a.sound.canonical (has_at points w.point w.value w.stands))))
