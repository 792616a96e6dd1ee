-- Cuts with the places of their points, and the edges between neighbours of them.
use Rattle.std.proofs.Common.{◌≡◌, ◌≢◌, ℕ, ◌+◌, ◌-◌, ◌<◌, ◌≤◌, List, [], ◌∷◌, ◌++◌, length, get_or, set, refl, sym, ap, subst, ◌∙◌, inl, inr, arith}
use Rattle.std.specs.Prelude.{All, AllPairs, Contains, slice_get, Some}
use Rattle.std.specs.declared.cmp.Ordering.{Ordering}
use Rattle.std.specs.declared.cmp.Ordering.TheVariants as o
use Rattle.std.specs.Ordering.{ordering_then, nat_cmp}
use Rattle.std.proofs.lemmas.Bool.{cases_lt, cases_eq}
use Rattle.std.proofs.lemmas.Cmp.{ranked}
use Rattle.std.proofs.lemmas.List.{get_or-set_same, get_or-set_other, get_or_default}
use Rattle.std.proofs.lemmas.List.Elements.{All-get_or, Contains-get_or, Contains-append_left, Contains-push, Contains-push_cases}
use Rattle.std.proofs.lemmas.Option.{slice_get_within, same_Some}
use Rattle.std.proofs.Math.ListN.{length-set}
use Rattle.chains.proofs.callers.Elements.{has_none}
use Rattle.geometry.proofs.PointOrder.{first_less}
use Rattle.subdivide.specs.Subdivision.{EdgePlaces}
use Rattle.subdivide.specs.Chain.{KindedBefore}
use Rattle.subdivide.specs.Ranks.{IsCutRanked, AreCutsRanked}
use Rattle.subdivide.specs.Edges.{IsStepOf, IsEdgeAdded, AreStepsOf}
use Rattle.subdivide.specs.declared.edge.EdgeKind.{EdgeKind}
use Rattle.subdivide.specs.declared.line.MarkedLine.{MarkedLine}
use Rattle.subdivide.specs.declared.found.Cut.{Cut}

-- the first n cuts have the places of their points, and the others are as they were
pub record AreRankedTo (ranks : List ℕ) (n : ℕ) (old new : List Cut) : Type 0 where
  pub many : length new ≡ length old
  pub done : (i : ℕ) (d : Cut) → i < n → i < length old → IsCutRanked ranks (get_or old i d) (get_or new i d)
  pub rest : (i : ℕ) (d : Cut) → n ≤ i → get_or new i d ≡ get_or old i d

-- none of the cuts
pub none_ranked : (ranks : List ℕ) (cuts : List Cut) → AreRankedTo ranks 0 cuts cuts
none_ranked ranks cuts = record { many = refl; done = λ i d h. absurd (omega (arith, h)); rest = λ i d h. refl }

-- one cut more
pub one_ranked : (ranks : List ℕ) (n point : ℕ) (d : Cut) (old new : List Cut) → n < length new → slice_get ranks (get_or new n d).point ≡ Some point
    → AreRankedTo ranks n old new → AreRankedTo ranks (n + 1) old (set new n (record { line = (get_or new n d).line; point = point }))
one_ranked ranks n point d old new h e r = record {
  many = length-set new n c ∙ r.many;
  done = λ i f l m. elim (cases_eq i n) [
    | inl q ↦ subst (λ z. IsCutRanked ranks (get_or old z f) (get_or (set new n c) z f)) (sym q) (subst (IsCutRanked ranks (get_or old n f)) (sym (get_or-set_same new n c f h)) (here f))
    | inr q ↦ subst (IsCutRanked ranks (get_or old i f)) (sym (get_or-set_other new n i c f q)) (r.done i f (less i l q) m)
  ];
  rest = λ i f l. get_or-set_other new n i c f (other i l) ∙ r.rest i f (omega (arith, l));
}
  where
    c : Cut
    c = record { line = (get_or new n d).line; point = point }

    less : (i : ℕ) → i < n + 1 → i ≢ n → i < n
    less i l q = elim (cases_lt i n) [ inl b ↦ b | inr b ↦ absurd (q (omega (arith, l, b))) ]

    other : (i : ℕ) → n + 1 ≤ i → i ≢ n
    other i l q = omega (arith, l, q)

    was : (f : Cut) → get_or old n f ≡ get_or new n d
    was f = sym (r.rest n f (omega arith)) ∙ get_or_default new n f d h

    here : (f : Cut) → IsCutRanked ranks (get_or old n f) c
    here f = record { line = ap (λ (z : Cut). z.line) (sym (was f)); point = ap (λ (z : Cut). slice_get ranks z.point) (was f) ∙ e }

-- the next cut is as it was, so that its point has a place
pub next_within : (ranks : List ℕ) (n : ℕ) (d : Cut) (old new : List Cut) → All (λ c. c.point < length ranks) old → n < length new → AreRankedTo ranks n old new → (get_or new n d).point < length ranks
next_within ranks n d old new a h r = subst (λ (z : Cut). z.point < length ranks) (sym (r.rest n d (omega arith)))
    (All-get_or (λ (c : Cut). c.point < length ranks) old n d (let m = r.many in omega (arith, m, h)) a)

-- all cuts, ascending, each once
pub all_ranked : (ranks : List ℕ) (n : ℕ) (old new last : List Cut) → length new ≤ n → AreRankedTo ranks n old new
    → ((c : Cut) → Contains new c → Contains last c) → ((c : Cut) → Contains last c → Contains new c) → AreCutsRanked ranks old last
all_ranked ranks n old new last h r keeps adds = record {
  each = λ c k. (let m = adds c k in let l : m.0 < length old = (let a = m.1 in let b = r.many in omega (arith, a, b)) in
      (get_or old m.0 c, Contains-get_or old m.0 c l, subst (IsCutRanked ranks (get_or old m.0 c)) m.2 (r.done m.0 c (let a = m.1 in omega (arith, a, h)) l)));
  all = λ d k. (let l : k.0 < length new = (let a = k.1 in let b = r.many in omega (arith, a, b)) in
      (get_or new k.0 d, keeps _ (Contains-get_or new k.0 d l), subst (λ z. IsCutRanked ranks z (get_or new k.0 d)) k.2 (r.done k.0 d (omega (arith, l, h)) k.1)));
}

-- the edges between the first n cuts
pub record AreStepsTo (lines : List MarkedLine) (cuts : List Cut) (n : ℕ) (edges : List EdgePlaces) : Type 0 where
  pub each : (e : EdgePlaces) → Contains edges e → IsStepOf lines cuts e
  pub all : (e : EdgePlaces) (s : IsStepOf lines cuts e) → s.place + 1 < n → Contains edges e

-- no edge before the second cut
pub none_stepped : (lines : List MarkedLine) (cuts : List Cut) → AreStepsTo lines cuts 1 []
none_stepped lines cuts = record { each = λ e c. absurd (has_none e c); all = λ e s h. absurd (omega (arith, h)) }

edge_made : (a b c d : ℕ) (k j : EdgeKind) → a ≡ c → b ≡ d → k ≡ j → (let e : EdgePlaces = record { from = a; to = b; kind = k } in e) ≡ record { from = c; to = d; kind = j }
edge_made a b c d k j f g h = cc

cut_at : (cuts : List Cut) (n line point : ℕ) (c : Cut) → slice_get cuts n ≡ Some c → c.line ≡ line → c.point ≡ point → slice_get cuts n ≡ Some (record { line = line; point = point })
cut_at cuts n line point c s e f = s ∙ ap (λ z. Some z) (made c.line c.point line point e f)
  where
    made : (a b c d : ℕ) → a ≡ c → b ≡ d → (let z : Cut = record { line = a; point = b } in z) ≡ record { line = c; point = d }
    made a b c d e f = cc

-- one cut more
pub one_stepped : (lines : List MarkedLine) (cuts : List Cut) (n : ℕ) (from to : Cut) (old new : List EdgePlaces) → slice_get cuts n ≡ Some from → slice_get cuts (n + 1) ≡ Some to
    → IsEdgeAdded lines from to old new → AreStepsTo lines cuts (n + 1) old → AreStepsTo lines cuts (n + 2) new
one_stepped lines cuts n from to old new f t a s = elim (cases_eq from.line to.line) [
  | inl e ↦ (let j = a.one e in joined e j.0 j.1 j.2)
  | inr d ↦ record {
    each = λ e c. s.each e (subst (λ z. Contains z e) (a.none d) c);
    all = λ e k h. elim (cases_lt (k.place + 1) (n + 1)) [
      | inl l ↦ subst (λ z. Contains z e) (sym (a.none d)) (s.all e k l)
      | inr g ↦ absurd (d (let p = ends e k (equal k.place h g) in ap (λ (z : Cut). z.line) p.0 ∙ sym (ap (λ (z : Cut). z.line) p.1)))
    ];
  }
]
  where
    equal : (i : ℕ) → i + 1 < n + 2 → n + 1 ≤ i + 1 → i ≡ n
    equal i h g = omega (arith, h, g)

    -- a step at n goes from the one to the other
    ends : (e : EdgePlaces) (k : IsStepOf lines cuts e) → k.place ≡ n → (from ≡ record { line = k.line; point = e.from }) × (to ≡ record { line = k.line; point = e.to })
    ends e k q = (same_Some _ _ (sym f ∙ ap (slice_get cuts) (sym q) ∙ k.first), same_Some _ _ (sym t ∙ ap (λ i. slice_get cuts (i + 1)) (sym q) ∙ k.second))

    joined : from.line ≡ to.line → (l : MarkedLine) → slice_get lines from.line ≡ Some l → new ≡ old ++ (record { from = from.point; to = to.point; kind = l.kind }) ∷ [] → AreStepsTo lines cuts (n + 2) new
    joined q l i w = record {
      each = λ e c. elim (Contains-push_cases old x e (subst (λ z. Contains z e) w c)) [ inl k ↦ s.each e k | inr k ↦ subst (IsStepOf lines cuts) k step ];
      all = λ e k h. subst (λ z. Contains z e) (sym w) (elim (cases_lt (k.place + 1) (n + 1)) [
        | inl b ↦ Contains-append_left old (x ∷ []) e (s.all e k b)
        | inr g ↦ subst (Contains (old ++ x ∷ [])) (same e k (ends e k (equal k.place h g))) (Contains-push old x)
      ]);
    }
      where
        x : EdgePlaces
        x = record { from = from.point; to = to.point; kind = l.kind }

        step : IsStepOf lines cuts x
        step = record {
          place = n;
          line = from.line;
          on = l;
          first = cut_at cuts n from.line from.point from f refl refl;
          second = cut_at cuts (n + 1) from.line to.point to t (sym q) refl;
          is = i;
          kind = refl;
        }

        same : (e : EdgePlaces) (k : IsStepOf lines cuts e) → (from ≡ record { line = k.line; point = e.from }) × (to ≡ record { line = k.line; point = e.to }) → x ≡ e
        same e k p = edge_made from.point to.point e.from e.to l.kind e.kind (ap (λ (z : Cut). z.point) p.0) (ap (λ (z : Cut). z.point) p.1)
            (ap (λ (z : MarkedLine). z.kind) (same_Some l k.on (sym i ∙ ap (λ (z : Cut). slice_get lines z.line) p.0 ∙ k.is)) ∙ k.kind)

-- the same, by the place of the later cut
pub next_stepped : (lines : List MarkedLine) (cuts : List Cut) (i : ℕ) (from to : Cut) (old new : List EdgePlaces) → 1 ≤ i → slice_get cuts (i - 1) ≡ Some from → slice_get cuts i ≡ Some to
    → IsEdgeAdded lines from to old new → AreStepsTo lines cuts i old → AreStepsTo lines cuts (i + 1) new
next_stepped lines cuts i from to old new h f t a s = subst (λ k. AreStepsTo lines cuts k new) (after i h)
    (one_stepped lines cuts (i - 1) from to old new f (subst (λ k. slice_get cuts k ≡ Some to) (before i h) t) a (subst (λ k. AreStepsTo lines cuts k old) (before i h) s))
  where
    before : (i : ℕ) → 1 ≤ i → i ≡ i - 1 + 1
    before i h = omega (arith, h)

    after : (i : ℕ) → 1 ≤ i → i - 1 + 2 ≡ i + 1
    after i h = omega (arith, h)

-- all of them, in any order
pub all_stepped : (lines : List MarkedLine) (cuts : List Cut) (n : ℕ) (old new : List EdgePlaces) → length cuts ≤ n → AreStepsTo lines cuts n old → AllPairs KindedBefore new
    → ((e : EdgePlaces) → Contains old e → Contains new e) → ((e : EdgePlaces) → Contains new e → Contains old e) → AreStepsOf lines cuts new
all_stepped lines cuts n old new h s up keeps adds = record {
  ordered = up;
  each = λ e c. s.each e (adds e c);
  all = λ e k. keeps e (s.all e k (let l = slice_get_within cuts (k.place + 1) _ k.second in omega (arith, l, h)));
}

-- what the comparison of two edges tells, for any comparison of kinds
pub kinded_before : (K : EdgeKind → EdgeKind → Ordering) → ((k : EdgeKind) → K k k ≡ o.Equal) → (e f : EdgePlaces) → ordering_then (nat_cmp e.from f.from) (ordering_then (nat_cmp e.to f.to) (K e.kind f.kind)) ≡ o.Less → KindedBefore e f
kinded_before K t e f h = elim (first_less (nat_cmp e.from f.from) (ordering_then (nat_cmp e.to f.to) (K e.kind f.kind)) h) [
  | inl a ↦ inl (inl (ranked e.from f.from o.Less (sym a)))
  | inr b ↦ elim (first_less (nat_cmp e.to f.to) (K e.kind f.kind) b.1) [
    | inl a ↦ inl (inr (ranked e.from f.from o.Equal (sym b.0), ranked e.to f.to o.Less (sym a)))
    | inr c ↦ inr (ranked e.from f.from o.Equal (sym b.0), ranked e.to f.to o.Equal (sym c.0), λ q. different (subst (λ z. K e.kind z ≡ o.Less) (sym q) c.1))
  ]
]
  where
    different : K e.kind e.kind ≡ o.Less → ⊥
    different g = let s = t e.kind in absurd (cc)
