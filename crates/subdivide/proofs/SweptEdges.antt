-- Neighbours among the cuts of a line are the ends of an edge.
use Rattle.std.proofs.Common.{◌≡◌, ℕ, ◌+◌, ◌<◌, List, length, get_or, Some, refl, sym, ap, subst, ◌∙◌, ◌⊎◌, inl, inr, arith}
use Rattle.std.specs.Prelude.{All, AllPairs, Contains, slice_get}
use Rattle.std.specs.Cmp.{IsTotalOrder, nat_cmp_total}
use Rattle.std.specs.Ordering.{nat_cmp, ordering_then}
use Rattle.std.specs.declared.cmp.Ordering.TheVariants as o
use Rattle.std.proofs.lemmas.Cmp.{on_total, then_total, ranked}
use Rattle.std.proofs.lemmas.Bool.Decides.{nat_tests}
use Rattle.std.proofs.lemmas.List.Elements.{All-contains}
use Rattle.std.proofs.lemmas.Option.{slice_get_within, get_or_from_slice_get, slice_get_read}
use Rattle.exact.specs.Plane.{ExactPoint, Before, OnSeg}
use Rattle.geometry.proofs.PointOrder.{first_less, before_same, same_before}
use Rattle.sheet.specs.Pattern.{ExactPattern}
use Rattle.chains.specs.Chains.{Ascends, AreNeighbours, AreNext}
use Rattle.chains.proofs.callers.Neighbours.{neighbours_next, next_neighbours}
use Rattle.creases.proofs.callers.Members.{all_of}
use Rattle.subdivide.specs.Subdivision.{Line, lines, IsVertex, IsEdge, EdgePlaces, AreVertices, AreEdges}
use Rattle.subdivide.specs.declared.edge.EdgeKind.{EdgeKind}
use Rattle.subdivide.specs.declared.line.MarkedLine.{MarkedLine}
use Rattle.subdivide.specs.declared.found.Cut.{Cut}
use Rattle.subdivide.specs.Lines.{as_line, swept, AreLinesOf}
use Rattle.subdivide.specs.Found.{IsCutAt, IsCutOf}
use Rattle.subdivide.specs.Whole.{IsAllFound}
use Rattle.subdivide.specs.Ranks.{AreRanked, AreCutsRanked}
use Rattle.subdivide.specs.Edges.{cut_cmp, IsStepOf, AreStepsOf}
use Rattle.subdivide.proofs.Cutting.{EdgeIn, edges_ascend, one_place_of}
use Rattle.subdivide.proofs.Known.{places_rise}
use Rattle.subdivide.proofs.PatternLines.{pattern_lines}
use Rattle.subdivide.proofs.SweptLines.{line_stands, line_at}
use Rattle.subdivide.proofs.SweptVertices.{place_line, vertex_cuts}
use Rattle.subdivide.proofs.callers.Gets.{some_is, has_at}

pub cut_total : IsTotalOrder cut_cmp
cut_total = then_total (on_total (λ (c : Cut). c.line) nat_cmp_total) (on_total (λ (c : Cut). c.point) nat_cmp_total)

-- a cut by its line and its point
abbrev pub at : ℕ → ℕ → Cut
at line point = record { line = line; point = point }

less_is : (c d : Cut) → cut_cmp c d ≡ o.Less → (c.line < d.line) ⊎ ((c.line ≡ d.line) × (c.point < d.point))
less_is c d h = elim (first_less (nat_cmp c.line d.line) (nat_cmp c.point d.point) h) [
  | inl a ↦ inl (ranked c.line d.line o.Less (sym a))
  | inr b ↦ inr (ranked c.line d.line o.Equal (sym b.0), ranked c.point d.point o.Less (sym b.1))
]

cmp_less : (m n : ℕ) → m < n → nat_cmp m n ≡ o.Less
cmp_less m n h = grind (arith, nat_tests)

cmp_same : (n : ℕ) → nat_cmp n n ≡ o.Equal
cmp_same n = grind (arith, nat_tests)

is_less : (line m n : ℕ) → m < n → cut_cmp (at line m) (at line n) ≡ o.Less
is_less line m n h = ap (λ r. ordering_then r (nat_cmp m n)) (cmp_same line) ∙ cmp_less m n h

pub before_at : (vs : List ExactPoint) → AllPairs Before vs → (i j : ℕ) (u v : ExactPoint) → slice_get vs i ≡ Some u → slice_get vs j ≡ Some v → i < j → Before u v
before_at vs up i j u v e f h = subst (λ z. Before z v) (get_or_from_slice_get vs i u u e) (subst (λ z. Before (get_or vs i u) z) (get_or_from_slice_get vs j v u f) (up i j u h (slice_get_within vs j v f)))

-- the cuts of the lines at their vertices
pub record AreCutsAt (pattern : ExactPattern) (ls : List MarkedLine) (vs : List ExactPoint) (cuts : List Cut) : Type 0 where
  pub ascends : Ascends cut_cmp cuts
  pub each : (c : Cut) → Contains cuts c → IsCutOf ls vs c
  pub all : (i : ℕ) (l : MarkedLine) (v : ExactPoint) → slice_get ls i ≡ Some l → IsVertex pattern v → OnSeg v l.seg → IsCutAt vs cuts i v

-- as they were found, by the places of the points
pub cuts_at : (pattern : ExactPattern) (ls : List MarkedLine) (points vs : List ExactPoint) (ranks : List ℕ) (old new : List Cut) → IsAllFound pattern ls points old → AreRanked points vs ranks → AreCutsRanked ranks old new → Ascends cut_cmp new → AreCutsAt pattern ls vs new
cuts_at pattern ls points vs ranks old new a r c up = record {
  ascends = up;
  each = λ d h. (let x = c.each d h in of_old d x.0 x.2.line x.2.point (All-contains (IsCutOf ls points) old x.0 a.sound.cuts x.1));
  all = λ i l v e x o. (let k = vertex_cuts pattern ls points old a i l v e x o in let n = c.all (at i k.point) k.cut in
      record { point = n.0.point; value = k.value; cut = subst (λ z. Contains new z) (named n.0 i n.2.line) n.1; stands = r.each k.point n.0.point k.value k.stands n.2.point; same = k.same });
}
  where
    named : (c : Cut) (i : ℕ) → c.line ≡ i → c ≡ at i c.point
    named c i q = ap (λ z. at z c.point) q

    of_old : (d e : Cut) → d.line ≡ e.line → slice_get ranks e.point ≡ Some d.point → IsCutOf ls points e → IsCutOf ls vs d
    of_old d e q f x = record { line = x.line; point = x.point; is = subst (λ z. slice_get ls z ≡ Some x.line) (sym q) x.is; stands = r.each e.point d.point x.point x.stands f; on = x.on }

-- neighbours of one line are the ends of an edge
pub step_edge : (pattern : ExactPattern) (ls : List MarkedLine) (vs : List ExactPoint) (cuts : List Cut) (e : EdgePlaces) → AreLinesOf pattern ls → AreVertices pattern vs → AreCutsAt pattern ls vs cuts → IsStepOf ls cuts e → EdgeIn pattern vs e
step_edge pattern ls vs cuts e a vertices c s = (
  x.point,
  y.point,
  x.stands,
  y.stands,
  record {
    from = vertex e.from x.point x.stands;
    to = vertex e.to y.point y.stands;
    ordered = before_at vs vertices.ordered e.from e.to x.point y.point x.stands y.stands rises;
    line = (
      s.on.seg,
      subst (λ z. Contains (lines pattern) (record { seg = s.on.seg; kind = z })) s.kind (place_line pattern ls s.line s.on a s.is),
      subst (λ (z : MarkedLine). OnSeg x.point z.seg) (some_is (sym x.is ∙ s.is)) x.on,
      subst (λ (z : MarkedLine). OnSeg y.point z.seg) (some_is (sym y.is ∙ s.is)) y.on,
      λ w h o l m. (let k = c.all s.line s.on w s.is h o in next.none (at s.line k.point) k.cut
          (is_less s.line e.from k.point (places_rise vs vertices.ordered x.point k.value e.from k.point x.stands k.stands (before_same x.point w k.value k.same l)))
          (is_less s.line k.point e.to (places_rise vs vertices.ordered k.value y.point k.point e.to k.stands y.stands (same_before w k.value y.point k.same m)))),
    );
  },
)
  where
    x : IsCutOf ls vs (at s.line e.from)
    x = c.each (at s.line e.from) (has_at cuts s.place (at s.line e.from) s.first)

    y : IsCutOf ls vs (at s.line e.to)
    y = c.each (at s.line e.to) (has_at cuts (s.place + 1) (at s.line e.to) s.second)

    next : AreNext cut_cmp cuts (at s.line e.from) (at s.line e.to)
    next = neighbours_next cut_total cuts c.ascends (at s.line e.from) (at s.line e.to) (record {
      place = s.place;
      within = slice_get_within cuts (s.place + 1) (at s.line e.to) s.second;
      first = get_or_from_slice_get cuts s.place (at s.line e.from) (at s.line e.from) s.first;
      second = get_or_from_slice_get cuts (s.place + 1) (at s.line e.to) (at s.line e.to) s.second;
    })

    rises : e.from < e.to
    rises = elim (less_is (at s.line e.from) (at s.line e.to) next.ordered) [ inl h ↦ absurd (omega (arith, h)) | inr h ↦ h.1 ]

    vertex : (i : ℕ) (v : ExactPoint) → slice_get vs i ≡ Some v → IsVertex pattern v
    vertex i v h = All-contains (IsVertex pattern) vs v vertices.each (has_at vs i v h)

-- and each edge has neighbours of one line for its ends
pub edge_step : (pattern : ExactPattern) (ls : List MarkedLine) (vs : List ExactPoint) (cuts : List Cut) (i j : ℕ) (u v : ExactPoint) (k : EdgeKind) → AreLinesOf pattern ls → AreVertices pattern vs → AreCutsAt pattern ls vs cuts
    → slice_get vs i ≡ Some u → slice_get vs j ≡ Some v → IsEdge pattern u v k → IsStepOf ls cuts (record { from = i; to = j; kind = k })
edge_step pattern ls vs cuts i j u v k a vertices c e f g = by w.0 w.1.0 w.1.1 w.1.2
  where
    m : Line
    m = record { seg = g.line.0; kind = k }

    n : (n : ℕ) × (slice_get (swept pattern) n ≡ Some m)
    n = line_stands pattern m g.line.1

    w : (n : ℕ) × ((l : MarkedLine) × (slice_get ls n ≡ Some l) × (as_line l ≡ m))
    w = (n.0, line_at ls (swept pattern) n.0 m a.same n.1)

    by : (n : ℕ) (l : MarkedLine) → slice_get ls n ≡ Some l → as_line l ≡ m → IsStepOf ls cuts (record { from = i; to = j; kind = k })
    by n l h q = record {
      place = near.place;
      line = n;
      on = l;
      first = slice_get_read cuts (length cuts) near.place (at n i) refl (omega (arith, near.within)) (sym near.first);
      second = slice_get_read cuts (length cuts) (near.place + 1) (at n j) refl near.within (sym near.second);
      is = h;
      kind = ap (λ (z : Line). z.kind) q;
    }
      where
        seg_is : l.seg ≡ g.line.0
        seg_is = ap (λ (z : Line). z.seg) q

        cut_of : (r : ℕ) (p : ExactPoint) → slice_get vs r ≡ Some p → IsVertex pattern p → OnSeg p g.line.0 → Contains cuts (at n r)
        cut_of r p b x o = (let z = c.all n l p h x (subst (OnSeg p) (sym seg_is) o) in
            subst (λ d. Contains cuts (at n d)) (sym (one_place_of vs vertices.ordered p z.value r z.point b z.stands z.same)) z.cut)

        none : (d : Cut) → Contains cuts d → cut_cmp (at n i) d ≡ o.Less → ¬ (cut_cmp d (at n j) ≡ o.Less)
        none d b y z = elim (less_is (at n i) d y) [
          | inl s ↦ elim (less_is d (at n j) z) [ inl t ↦ omega (arith, s, t) | inr t ↦ omega (arith, s, t.0) ]
          | inr s ↦ elim (less_is d (at n j) z) [ inl t ↦ omega (arith, s.0, t) | inr t ↦ inside (c.each d b) s.0 s.1 t.1 ]
        ]
          where
            inside : IsCutOf ls vs d → n ≡ d.line → i < d.point → d.point < j → ⊥
            inside x p s t = g.line.4 x.point (All-contains (IsVertex pattern) vs x.point vertices.each (has_at vs d.point x.point x.stands))
                (subst (λ z. OnSeg x.point z) (ap (λ (z : MarkedLine). z.seg) (some_is (sym x.is ∙ ap (slice_get ls) (sym p) ∙ h)) ∙ seg_is) x.on)
                (before_at vs vertices.ordered i d.point u x.point e x.stands s) (before_at vs vertices.ordered d.point j x.point v x.stands f t)

        near : AreNeighbours cuts (at n i) (at n j)
        near = next_neighbours cut_total cuts c.ascends (at n i) (at n j) (record {
          from = cut_of i u e g.from g.line.2;
          to = cut_of j v f g.to g.line.3;
          ordered = is_less n i j (places_rise vs vertices.ordered u v i j e f g.ordered);
          none = none;
        })

pub edges_are : (pattern : ExactPattern) (ls : List MarkedLine) (vs : List ExactPoint) (cuts : List Cut) (es : List EdgePlaces) → AreLinesOf pattern ls → AreVertices pattern vs → AreCutsAt pattern ls vs cuts → AreStepsOf ls cuts es → AreEdges pattern vs es
edges_are pattern ls vs cuts es a vertices c s = record {
  ordered = edges_ascend pattern vs es (pattern_lines pattern a.is) each s.ordered;
  each = each;
  all = λ i j u v k e f g. s.all (record { from = i; to = j; kind = k }) (edge_step pattern ls vs cuts i j u v k a vertices c e f g);
}
  where
    each : All (EdgeIn pattern vs) es
    each = all_of (EdgeIn pattern vs) es (λ e h. step_edge pattern ls vs cuts e a vertices c (s.each e h))
