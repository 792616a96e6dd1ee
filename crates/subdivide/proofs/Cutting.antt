-- From the chains of the lines to the edges of a cut pattern.
use Rattle.std.proofs.Common.{◌≡◌, ◌≢◌, ℕ, List, length, get_or, Some, arith, refl, sym, ap, subst, ◌∙◌, ◌⊎◌, inl, inr}
use Rattle.std.specs.Prelude.{Contains, AllPairs, All, slice_get}
use Rattle.std.proofs.lemmas.Bool.{cases_order}
use Rattle.std.proofs.lemmas.List.Elements.{All-contains, All-weaker, All-get_or}
use Rattle.std.proofs.lemmas.Option.{slice_get_within, get_or_from_slice_get, slice_get_read}
use Rattle.exact.specs.Plane.{ExactPoint, SamePoint, Before, ExactSegment, OnSeg, OnBoth, Cross, vector, IsPointCanonical}
use Rattle.sheet.specs.Pattern.{ExactPattern}
use Rattle.subdivide.specs.Subdivision.{lines, IsLine, IsVertex, IsEdge, EdgePlaces, PlacesBefore, AreVertices, AreEdges}
use Rattle.subdivide.specs.declared.edge.EdgeKind.{EdgeKind}
use Rattle.chains.specs.Chains.{Ascends, AreNeighbours}
use Rattle.chains.proofs.callers.Neighbours.{neighbours_next, next_neighbours}
use Rattle.geometry.specs.Meeting.{Along}
use Rattle.subdivide.specs.Chain.{AreLines, IsFound, IsChain, InChain, IsStep, AreSteps, KindedBefore}
use Rattle.geometry.proofs.Lines.{on_trans, on_same}
use Rattle.geometry.proofs.Segments.{on_line, on_seg, end_p, end_q}
use Rattle.geometry.proofs.PointOrder.{point_real_cmp, points_total, before_cmp, before_not_same, same_back, same_before, before_same, ordered, same_trans}
use Rattle.creases.proofs.callers.Members.{segment_or_not}
use Rattle.subdivide.proofs.callers.Gets.{some_is}

-- another triple of a point of a segment is on it
pub on_seg_moved : (s : ExactSegment) (k : ℕ) (r w : ExactPoint) → Along s k → SamePoint r w → OnSeg r s → OnSeg w s
on_seg_moved s k r w a e h = on_seg s k w a (on_trans (vector k) s.p r w (on_line s k r a h) (on_same (vector k) r w e)) (λ b. h.from (same_before w r s.p (same_back r w e) b)) (λ b. h.to (before_same s.q w r (same_back r w e) b))

-- lines that do not overlap have at most one common point
alone : (pattern : ExactPattern) → AreLines pattern → (s t : ExactSegment) (v : ExactPoint) → IsLine pattern s → IsLine pattern t → s ≢ t → OnBoth v s t → Cross s t v
alone pattern l s t v a b n h = record {
  here = h;
  only = λ u k. elim (ordered u v) [
    | inl x ↦ absurd (n (l.apart s t a b (u, v, before_not_same u v x, k, h)))
    | inr y ↦ elim y [ inl e ↦ e | inr x ↦ absurd (n (l.apart s t a b (v, u, before_not_same v u x, h, k))) ]
  ];
}

of_line : (pattern : ExactPattern) → AreLines pattern → (s t : ExactSegment) (v : ExactPoint) → IsLine pattern s → IsLine pattern t → OnSeg v s → OnSeg v t → (s ≡ t → IsFound pattern s v) → IsFound pattern s v
of_line pattern l s t v a b h k f = elim (segment_or_not s t) [ inl e ↦ f e | inr n ↦ inr (inr (t, b, alone pattern l s t v a b n (h, k))) ]

of_end : (pattern : ExactPattern) → AreLines pattern → (s t : ExactSegment) (v : ExactPoint) → IsLine pattern s → IsLine pattern t → OnSeg v s → SamePoint v t.p ⊎ SamePoint v t.q → IsFound pattern s v
of_end pattern l s t v a b h c = (let w = l.along t b in of_line pattern l s t v a b h (elim c [
  | inl e ↦ on_seg_moved t w.0 t.p v w.1 (same_back v t.p e) (end_p t w.0 w.1)
  | inr e ↦ on_seg_moved t w.0 t.q v w.1 (same_back v t.q e) (end_q t w.0 w.1)
]) (λ e. elim c [ inl x ↦ inl (subst (λ (z : ExactSegment). SamePoint v z.p) (sym e) x) | inr x ↦ inr (inl (subst (λ (z : ExactSegment). SamePoint v z.q) (sym e) x)) ]))

-- each vertex on a line is an end of it or its one common point with another line
pub found : (pattern : ExactPattern) → AreLines pattern → (s : ExactSegment) (v : ExactPoint) → IsLine pattern s → IsVertex pattern v → OnSeg v s → IsFound pattern s v
found pattern l s v a x h = elim x [
  | inl c ↦ (let t = l.corner c.0 c.1 in of_end pattern l s t.0 v a t.1 h (elim t.2 [ inl e ↦ inl (subst (SamePoint v) e c.2) | inr e ↦ inr (subst (SamePoint v) e c.2) ]))
  | inr y ↦ elim y [
    | inl f ↦ of_end pattern l s f.0.seg v a (l.crease f.0 f.1) h f.2
    | inr c ↦ of_cross c.0 c.1 c.2 c.3 c.4
  ]
]
  where
    of_cross : (t u : ExactSegment) → IsLine pattern t → IsLine pattern u → Cross t u v → IsFound pattern s v
    of_cross t u b d c = of_line pattern l s t v a b h c.here.0 (λ e. inr (inr (u, d, subst (λ z. Cross z u v) (sym e) c)))

ascends : (chain : List ExactPoint) → AllPairs Before chain → Ascends point_real_cmp chain
ascends chain h i j d l m = (before_cmp (get_or chain i d) (get_or chain j d)).0 (h i j d l m)

-- neighbours of a chain are an edge
pub edge_of_step : (pattern : ExactPattern) (k : EdgeKind) (u v : ExactPoint) → IsStep pattern k u v → IsEdge pattern u v k
edge_of_step pattern k u v s = (let n = neighbours_next points_total s.chain (ascends s.chain s.chained.ordered) u v s.next in
    let a = All-contains (λ w. IsVertex pattern w × OnSeg w s.line) s.chain u s.chained.each n.from in
    let b = All-contains (λ w. IsVertex pattern w × OnSeg w s.line) s.chain v s.chained.each n.to in
    record {
      from = a.0;
      to = b.0;
      ordered = (before_cmp u v).1 n.ordered;
      line = (s.line, s.is, a.1, b.1, λ w x h l m. (let y = s.chained.all w x h in n.none y.0 y.1 ((before_cmp u y.0).0 (before_same u w y.0 y.2 l)) ((before_cmp y.0 v).0 (same_before w y.0 v y.2 m))));
    })

-- and each edge of the line is a pair of neighbours, by other triples perhaps
pub step_of_edge : (pattern : ExactPattern) (s : ExactSegment) (chain : List ExactPoint) (u v : ExactPoint) → IsChain pattern s chain → IsVertex pattern u → IsVertex pattern v → Before u v → OnSeg u s → OnSeg v s → ((w : ExactPoint) → IsVertex pattern w → OnSeg w s → Before u w → ¬ Before w v)
    → (x y : ExactPoint) × SamePoint u x × SamePoint v y × AreNeighbours chain x y
step_of_edge pattern s chain u v c a b l h k n = (let x = c.all u a h in let y = c.all v b k in (
  x.0,
  y.0,
  x.2,
  y.2,
  next_neighbours points_total chain (ascends chain c.ordered) x.0 y.0 (record {
    from = x.1;
    to = y.1;
    ordered = (before_cmp x.0 y.0).0 (before_same x.0 v y.0 y.2 (same_before u x.0 v x.2 l));
    none = λ w d f g. (let z = All-contains (λ r. IsVertex pattern r × OnSeg r s) chain w c.each d in n w z.0 z.1 (same_before x.0 u w (same_back u x.0 x.2) ((before_cmp x.0 w).1 f)) (before_same w y.0 v (same_back v y.0 y.2) ((before_cmp w y.0).1 g)));
  }),
))

-- of two elements of an ascending list that are one point the places are one
pub one_place_of : (vs : List ExactPoint) → AllPairs Before vs → (u x : ExactPoint) (i j : ℕ) → slice_get vs i ≡ Some u → slice_get vs j ≡ Some x → SamePoint u x → i ≡ j
one_place_of vs up u x i j e f s = elim (cases_order i j) [
  | inl q ↦ q
  | inr k ↦ elim k [
    | inl l ↦ absurd (before_not_same u x (subst (λ z. Before u z) (get_or_from_slice_get vs j x u f) (subst (λ z. Before z (get_or vs j u)) (get_or_from_slice_get vs i u u e) (up i j u l (slice_get_within vs j x f)))) s)
    | inr g ↦ absurd (before_not_same x u (subst (λ z. Before x z) (get_or_from_slice_get vs i u x e) (subst (λ z. Before z (get_or vs i x)) (get_or_from_slice_get vs j x x f) (up j i x g (slice_get_within vs i u e)))) (same_back u x s))
  ]
]

pub place_of : (vs : List ExactPoint) (x : ExactPoint) → Contains vs x → (i : ℕ) × (slice_get vs i ≡ Some x)
place_of vs x c = (c.0, slice_get_read vs (length vs) c.0 x refl c.1 (sym c.2))

-- one edge has one kind
pub one_kind : (pattern : ExactPattern) → AreLines pattern → (u v : ExactPoint) (k j : EdgeKind) → IsEdge pattern u v k → IsEdge pattern u v j → k ≡ j
one_kind pattern l u v k j e f = (let s = e.line.0 in let t = f.line.0 in
    let q = l.apart s t (k, e.line.1) (j, f.line.1) (u, v, before_not_same u v e.ordered, (e.line.2, f.line.2), (e.line.3, f.line.3)) in
    l.kinds s k j e.line.1 (subst (λ z. Contains (lines pattern) (record { seg = z; kind = j })) (sym q) f.line.1))

-- an edge between the vertices at its places
abbrev pub EdgeIn : ExactPattern → List ExactPoint → EdgePlaces → Type 0
EdgeIn pattern vs e = (u v : ExactPoint) × (slice_get vs e.from ≡ Some u) × (slice_get vs e.to ≡ Some v) × IsEdge pattern u v e.kind

abbrev StepIn : ExactPattern → List ExactPoint → EdgePlaces → Type 0
StepIn pattern vs e = (u v : ExactPoint) × (slice_get vs e.from ≡ Some u) × (slice_get vs e.to ≡ Some v) × IsStep pattern e.kind u v

-- no two edges differ in their kinds alone
pub edges_ascend : (pattern : ExactPattern) (vs : List ExactPoint) (es : List EdgePlaces) → AreLines pattern → All (EdgeIn pattern vs) es → AllPairs KindedBefore es → AllPairs PlacesBefore es
edges_ascend pattern vs es l each up i j d p q = strict (up i j d p q)
  where
    kinds : (e f : EdgePlaces) → e.from ≡ f.from → e.to ≡ f.to → EdgeIn pattern vs e → EdgeIn pattern vs f → e.kind ≡ f.kind
    kinds e f a b x y = one_kind pattern l x.0 x.1 e.kind f.kind x.4 (subst2 y.0 x.0 y.1 x.1 f.kind (some_is (sym y.2 ∙ ap (slice_get vs) (sym a) ∙ x.2)) (some_is (sym y.3 ∙ ap (slice_get vs) (sym b) ∙ x.3)) y.4)
      where
        subst2 : (s s' t t' : ExactPoint) (k : EdgeKind) → s ≡ s' → t ≡ t' → IsEdge pattern s t k → IsEdge pattern s' t' k
        subst2 s s' t t' k a b h = rw (← a, ← b) h

    strict : KindedBefore (get_or es i d) (get_or es j d) → PlacesBefore (get_or es i d) (get_or es j d)
    strict h = elim h [
      | inl b ↦ b
      | inr t ↦ absurd (t.2 (kinds (get_or es i d) (get_or es j d) t.0 t.1 (All-get_or (EdgeIn pattern vs) es i d (omega arith) each) (All-get_or (EdgeIn pattern vs) es j d q each)))
    ]

-- what the loops leave are the edges
pub edges_of_steps : (pattern : ExactPattern) (vs : List ExactPoint) (es : List EdgePlaces) → AreLines pattern → AreVertices pattern vs → AreSteps pattern vs es → AreEdges pattern vs es
edges_of_steps pattern vs es l a s = record {
  ordered = edges_ascend pattern vs es l each_edge s.ordered;
  each = each_edge;
  all = λ i j u v k e f g. (let c = s.all g.line.0 k g.line.1 in
      let x = step_of_edge pattern g.line.0 c.0 u v c.1 g.from g.to g.ordered g.line.2 g.line.3 g.line.4 in
      let n = neighbours_next points_total c.0 (ascends c.0 c.1.ordered) x.0 x.1 x.4 in
      let m = place_of vs x.0 (All-contains (Contains vs) c.0 x.0 c.2 n.from) in
      let r = place_of vs x.1 (All-contains (Contains vs) c.0 x.1 c.2 n.to) in
      moved i j m.0 r.0 k (one_place_of vs a.ordered u x.0 i m.0 e m.1 x.2) (one_place_of vs a.ordered v x.1 j r.0 f r.1 x.3) (c.3 x.0 x.1 m.0 r.0 x.4 m.1 r.1));
}
  where
    each_edge : All (EdgeIn pattern vs) es
    each_edge = All-weaker (StepIn pattern vs) (EdgeIn pattern vs) (λ e h. (h.0, h.1, h.2, h.3, edge_of_step pattern e.kind h.0 h.1 h.4)) es s.each

    moved : (i j m r : ℕ) (k : EdgeKind) → i ≡ m → j ≡ r → Contains es (record { from = m; to = r; kind = k }) → Contains es (record { from = i; to = j; kind = k })
    moved i j m r k e f c = rw (e, f) c

-- each vertex is on a line
pub on_some_line : (pattern : ExactPattern) → AreLines pattern → (v : ExactPoint) → IsVertex pattern v → (s : ExactSegment) × IsLine pattern s × OnSeg v s
on_some_line pattern l v x = elim x [
  | inl c ↦ (let t = l.corner c.0 c.1 in ended t.0 t.1 (elim t.2 [ inl e ↦ inl (subst (SamePoint v) e c.2) | inr e ↦ inr (subst (SamePoint v) e c.2) ]))
  | inr y ↦ elim y [
    | inl f ↦ ended f.0.seg (l.crease f.0 f.1) f.2
    | inr c ↦ (c.0, c.2, c.4.here.0)
  ]
]
  where
    ended : (t : ExactSegment) → IsLine pattern t → SamePoint v t.p ⊎ SamePoint v t.q → (s : ExactSegment) × IsLine pattern s × OnSeg v s
    ended t b c = (
      t,
      b,
      (let w = l.along t b in elim c [
        | inl e ↦ on_seg_moved t w.0 t.p v w.1 (same_back v t.p e) (end_p t w.0 w.1)
        | inr e ↦ on_seg_moved t w.0 t.q v w.1 (same_back v t.q e) (end_q t w.0 w.1)
      ]),
    )

-- the ascending list of what stands in the chains is that of the vertices
pub vertices_of_chains : (pattern : ExactPattern) (vs : List ExactPoint) → AreLines pattern → AllPairs Before vs → All IsPointCanonical vs → All (InChain pattern) vs
    → ((s : ExactSegment) → IsLine pattern s → (chain : List ExactPoint) × IsChain pattern s chain × All (Contains vs) chain) → AreVertices pattern vs
vertices_of_chains pattern vs l up c e k = record {
  ordered = up;
  canonical = c;
  each = All-weaker (InChain pattern) (IsVertex pattern) (λ v h. (let x = All-contains (λ w. IsVertex pattern w × OnSeg w h.0) h.1 v h.2.each h.3 in x.0)) vs e;
  all = λ v h. (let s = on_some_line pattern l v h in let x = k s.0 s.1 in let w = x.1.all v h s.2 in (w.0, All-contains (Contains vs) x.0 w.0 x.2 w.1, w.2));
}

-- another triple of a vertex is a vertex
pub vertex_moved : (pattern : ExactPattern) → AreLines pattern → (u v : ExactPoint) → SamePoint u v → IsVertex pattern u → IsVertex pattern v
vertex_moved pattern l u v e h = elim h [
  | inl c ↦ inl (c.0, c.1, same_trans v u c.0 (same_back u v e) c.2)
  | inr y ↦ elim y [
    | inl f ↦ inr (inl (f.0, f.1, elim f.2 [ inl x ↦ inl (same_trans v u f.0.seg.p (same_back u v e) x) | inr x ↦ inr (same_trans v u f.0.seg.q (same_back u v e) x) ]))
    | inr c ↦ inr (inr (c.0, c.1, c.2, c.3, record { here = (moved c.0 c.2 c.4.here.0, moved c.1 c.3 c.4.here.1); only = λ w k. same_trans w u v (c.4.only w k) e }))
  ]
]
  where
    moved : (s : ExactSegment) → IsLine pattern s → OnSeg u s → OnSeg v s
    moved s a o = (let w = l.along s a in on_seg_moved s w.0 u v w.1 e o)
