-- The fans of all vertices, as the walk over the edges leaves them, have the rays that go out.
use Rattle.std.proofs.Common.{◌≡◌, ◌≢◌, ℕ, ◌+◌, ◌<◌, List, length, get_or, refl, sym, ap, subst, ◌∙◌, inl, inr, arith}
use Rattle.std.specs.Prelude.{Some, slice_get, Contains}
use Rattle.std.proofs.lemmas.Bool.{cases_lt}
use Rattle.std.proofs.lemmas.List.Elements.{All-contains}
use Rattle.std.proofs.lemmas.Option.{slice_get_read, slice_get_cases, slice_get_within}
use Rattle.exact.specs.Plane.{ExactPoint, SamePoint, DirOf, IsSegment}
use Rattle.sheet.specs.Pattern.{ExactPattern}
use Rattle.sheet.specs.declared.mark.Mark.{Mark}
use Rattle.layers.specs.declared.star.Ray.{Ray}
use Rattle.geometry.specs.Meeting.{Along}
use Rattle.geometry.proofs.Leads.{dir_moved}
use Rattle.geometry.proofs.PointOrder.{same_itself}
use Rattle.subdivide.specs.Subdivision.{IsVertex, IsEdge, EdgePlaces, ExactSubdivision}
use Rattle.subdivide.specs.Chain.{AreLines}
use Rattle.subdivide.specs.Star.{marked_kind, GoesOut}
use Rattle.subdivide.specs.Live.{IsCutAs}
use Rattle.subdivide.specs.Fans.{HasRay, IsJoined, Gives, IsNoted, IsGiven, HoldRays, AreFans}
use Rattle.subdivide.specs.declared.stars.Fan.{Fan}
use Rattle.subdivide.proofs.PatternLines.{pattern_lines}
use Rattle.subdivide.proofs.Known.{places_rise}
use Rattle.subdivide.proofs.Rays.{joining, edge_along, edge_moved, one_mark}
use Rattle.subdivide.proofs.callers.Gets.{some_is, has_at}

abbrev EdgeIn : ExactPattern → List ExactPoint → EdgePlaces → Type 0
EdgeIn pattern vs e = (u v : ExactPoint) × (slice_get vs e.from ≡ Some u) × (slice_get vs e.to ≡ Some v) × IsEdge pattern u v e.kind

lines_of : (pattern : ExactPattern) (cut : ExactSubdivision) → IsCutAs pattern cut → AreLines pattern
lines_of pattern cut c = pattern_lines pattern c.is

stands_at : {X : Type 0} (xs : List X) (x : X) → Contains xs x → (n : ℕ) × (slice_get xs n ≡ Some x)
stands_at xs x c = (c.0, slice_get_read xs (length xs) c.0 x refl c.1 (sym c.2))

edge_in : (pattern : ExactPattern) (cut : ExactSubdivision) → IsCutAs pattern cut → (n : ℕ) (e : EdgePlaces) → slice_get cut.edges n ≡ Some e → EdgeIn pattern cut.vertices e
edge_in pattern cut c n e s = All-contains (EdgeIn pattern cut.vertices) cut.edges e c.cut.3.each (has_at cut.edges n e s)

-- the edges of a subdivision are segments
pub joined : (pattern : ExactPattern) (cut : ExactSubdivision) → IsCutAs pattern cut → (n : ℕ) (e : EdgePlaces) → slice_get cut.edges n ≡ Some e → IsJoined cut.vertices e
joined pattern cut c n e s =
    let x = edge_in pattern cut c n e s in
    let a = edge_along pattern (lines_of pattern cut c) x.0 x.1 e.kind x.4 in
    record {
      rising = places_rise cut.vertices c.cut.1.ordered x.0 x.1 e.from e.to x.2 x.3 x.4.ordered;
      within = slice_get_within cut.vertices e.to x.1 x.3;
      segment = λ t p q. moved x.0 x.1 t.p t.q a.0 (some_is (sym x.2 ∙ p)) (some_is (sym x.3 ∙ q)) a.1;
    }
  where
    moved : (u v p q : ExactPoint) (k : ℕ) → u ≡ p → v ≡ q → Along (joining u v) k → IsSegment (joining p q)
    moved u v p q k e f a = rw (← e, ← f) (a.ordered, (k, a.small, a.dir))

-- what an edge gives goes out
gives_goes : (pattern : ExactPattern) (cut : ExactSubdivision) → IsCutAs pattern cut → (n i : ℕ) (e : EdgePlaces) (v : ExactPoint) (r : Ray) → slice_get cut.edges n ≡ Some e → slice_get cut.vertices i ≡ Some v → Gives cut.vertices e i r → GoesOut pattern v r
gives_goes pattern cut c n i e v r s at g =
    let x = edge_in pattern cut c n e s in
    elim g.ends [
      | inl h ↦ (let here : x.0 ≡ v = some_is (sym x.2 ∙ ap (slice_get cut.vertices) h.0 ∙ at) in (
        g.small,
        (x.1, g.leads v x.1 at (ap (slice_get cut.vertices) (sym h.1) ∙ x.3), inl (subst (λ z. IsEdge pattern z x.1 (marked_kind r.mark)) here (subst (IsEdge pattern x.0 x.1) g.kind x.4))),
      ))
      | inr h ↦ (let here : x.1 ≡ v = some_is (sym x.3 ∙ ap (slice_get cut.vertices) h.0 ∙ at) in (
        g.small,
        (x.0, g.leads v x.0 at (ap (slice_get cut.vertices) (sym h.1) ∙ x.2), inr (subst (λ z. IsEdge pattern x.0 z (marked_kind r.mark)) here (subst (IsEdge pattern x.0 x.1) g.kind x.4))),
      ))
    ]

-- a ray that goes out is given by an edge
goes_given : (pattern : ExactPattern) (cut : ExactSubdivision) → IsCutAs pattern cut → (i : ℕ) (v : ExactPoint) (r : Ray) → slice_get cut.vertices i ≡ Some v → GoesOut pattern v r → IsGiven cut (length cut.edges) i r
goes_given pattern cut c i v r at g =
    let l = lines_of pattern cut c in
    elim g.1.2 [
      | inl e ↦ (let w = c.cut.1.all g.1.0 e.to in let j = stands_at cut.vertices w.0 w.1 in
          let x : IsVertex pattern w.0 = All-contains (IsVertex pattern) cut.vertices w.0 c.cut.1.each w.1 in
          let f = edge_moved pattern l v g.1.0 v w.0 (marked_kind r.mark) (same_itself v) w.2 e.from x e in
          let m = stands_at cut.edges _ (c.cut.3.all i j.0 v w.0 (marked_kind r.mark) at j.1 f) in
          record {
            place = m.0;
            edge = record { from = i; to = j.0; kind = marked_kind r.mark };
            first = slice_get_within cut.edges m.0 _ m.1;
            stands = m.1;
            gives = record { small = g.0; kind = refl; other = j.0; ends = inl (refl, refl); leads = leads w.0 j.0 j.1 w.2 };
          })
      | inr e ↦ (let w = c.cut.1.all g.1.0 e.from in let j = stands_at cut.vertices w.0 w.1 in
          let x : IsVertex pattern w.0 = All-contains (IsVertex pattern) cut.vertices w.0 c.cut.1.each w.1 in
          let f = edge_moved pattern l g.1.0 v w.0 v (marked_kind r.mark) w.2 (same_itself v) x e.to e in
          let m = stands_at cut.edges _ (c.cut.3.all j.0 i w.0 v (marked_kind r.mark) j.1 at f) in
          record {
            place = m.0;
            edge = record { from = j.0; to = i; kind = marked_kind r.mark };
            first = slice_get_within cut.edges m.0 _ m.1;
            stands = m.1;
            gives = record { small = g.0; kind = refl; other = j.0; ends = inr (refl, refl); leads = leads w.0 j.0 j.1 w.2 };
          })
    ]
  where
    leads : (w : ExactPoint) (j : ℕ) → slice_get cut.vertices j ≡ Some w → SamePoint g.1.0 w → (p q : ExactPoint) → slice_get cut.vertices i ≡ Some p → slice_get cut.vertices j ≡ Some q → DirOf p q r.dir
    leads w j there s p q a b = subst (λ z. DirOf z q r.dir) (some_is (sym at ∙ a)) (subst (λ z. DirOf v z r.dir) (some_is (sym there ∙ b)) (dir_moved v g.1.0 v w r.dir (same_itself v) s g.1.1))

-- no edge has given a ray
pub none_held : (cut : ExactSubdivision) (fans : List Fan) → length fans ≡ length cut.vertices → ((i : ℕ) (d : Fan) (r : Ray) → i < length cut.vertices → ¬ HasRay (get_or fans i d) r) → HoldRays cut 0 fans
none_held cut fans long none = record { long = long; rays = λ i d r h. (λ x. absurd (none i d r h x), λ g. absurd (omega (arith, g.first))) }

-- two edges that give one vertex rays of one direction give the same ray
one_given : (pattern : ExactPattern) (cut : ExactSubdivision) → IsCutAs pattern cut → (m n i : ℕ) (e f : EdgePlaces) (r q : Ray) → i < length cut.vertices → slice_get cut.edges m ≡ Some e → slice_get cut.edges n ≡ Some f
    → Gives cut.vertices e i r → Gives cut.vertices f i q → q.dir ≡ r.dir → q ≡ r
one_given pattern cut c m n i e f r q h x y a b same = elim (slice_get_cases cut.vertices i).1 [
  | inl v ↦ made q.dir r.dir q.mark r.mark same (one_mark pattern (lines_of pattern cut c) v.0 q r (gives_goes pattern cut c n i f v.0 q y v.2 b) (gives_goes pattern cut c m i e v.0 r x v.2 a) same)
  | inr o ↦ absurd (omega (arith, h, o.0))
]
  where
    made : (a b : ℕ) (m n : Mark) → a ≡ b → m ≡ n → (let z : Ray = record { dir = a; mark = m } in z) ≡ record { dir = b; mark = n }
    made a b m n e f = cc

wider : (cut : ExactSubdivision) (n i : ℕ) (r : Ray) → IsGiven cut n i r → IsGiven cut (n + 1) i r
wider cut n i r g = record { place = g.place; edge = g.edge; first = omega (arith, g.first); stands = g.stands; gives = g.gives }

-- one more edge has given its rays
pub held_more : (pattern : ExactPattern) (cut : ExactSubdivision) (n : ℕ) (e : EdgePlaces) (old new : List Fan) → IsCutAs pattern cut → slice_get cut.edges n ≡ Some e → IsNoted cut.vertices e old new → HoldRays cut n old → HoldRays cut (n + 1) new
held_more pattern cut n e old new c s k a = record {
  long = k.long ∙ a.long;
  rays = λ i d r h. (
    λ x. elim (k.each i d r h x) [
      | inl g ↦ record { place = n; edge = e; first = omega arith; stands = s; gives = g }
      | inr y ↦ wider cut n i r ((a.rays i d r h).0 y)
    ],
    λ g. elim (cases_lt g.place n) [
      | inl l ↦ elim (k.keeps i d r h ((a.rays i d r h).1 (record { place = g.place; edge = g.edge; first = l; stands = g.stands; gives = g.gives }))) [
        | inl y ↦ y
        | inr q ↦ k.gives i d r (subst (Gives cut.vertices e i) (one_given pattern cut c g.place n i g.edge e r q.0 h g.stands s g.gives q.2 q.1) q.2)
      ]
      | inr o ↦ (let same : g.place ≡ n = omega (arith, o, g.first) in
          k.gives i d r (subst (λ z. Gives cut.vertices z i r) (some_is (sym g.stands ∙ ap (slice_get cut.edges) same ∙ s)) g.gives))
    ],
  );
}

-- an edge that does not fold gives none
pub held_still : (cut : ExactSubdivision) (n : ℕ) (e : EdgePlaces) (fans : List Fan) → slice_get cut.edges n ≡ Some e → ((m : Mark) → e.kind ≢ marked_kind m) → HoldRays cut n fans → HoldRays cut (n + 1) fans
held_still cut n e fans s plain a = record {
  long = a.long;
  rays = λ i d r h. (
    λ x. wider cut n i r ((a.rays i d r h).0 x),
    λ g. elim (cases_lt g.place n) [
      | inl l ↦ (a.rays i d r h).1 (record { place = g.place; edge = g.edge; first = l; stands = g.stands; gives = g.gives })
      | inr o ↦ (let same : g.place ≡ n = omega (arith, o, g.first) in
          absurd (plain r.mark (ap (λ (z : EdgePlaces). z.kind) (some_is (sym s ∙ ap (slice_get cut.edges) (sym same) ∙ g.stands)) ∙ g.gives.kind)))
    ],
  );
}

-- all edges have
pub all_held : (pattern : ExactPattern) (cut : ExactSubdivision) (n : ℕ) (fans : List Fan) → IsCutAs pattern cut → n ≡ length cut.edges → HoldRays cut n fans → AreFans pattern cut.vertices fans
all_held pattern cut n fans c whole a = record {
  long = a.long;
  rays = λ i d v r at. (
    λ x. (let g = (a.rays i d r (slice_get_within cut.vertices i v at)).0 x in gives_goes pattern cut c g.place i g.edge v r g.stands at g.gives),
    λ o. (a.rays i d r (slice_get_within cut.vertices i v at)).1 (subst (λ z. IsGiven cut z i r) (sym whole) (goes_given pattern cut c i v r at o)),
  );
}
