-- The faults of a pattern, found vertex after vertex.
use Rattle.std.proofs.Common.{◌≡◌, ℕ, ◌+◌, ◌<◌, ◌≤◌, List, [], ◌∷◌, ◌++◌, length, get_or, refl, sym, ap, subst, ◌∙◌, inl, inr, arith}
use Rattle.std.specs.Prelude.{◌↔◌, Option, Some, None, Bool, true, false, not, IsTrue, slice_get, Contains, All, AllPairs}
use Rattle.std.proofs.lemmas.Bool.{cases_lt}
use Rattle.std.proofs.lemmas.List.Elements.{All-push, Contains-push, Contains-push_cases, Contains-append_left, Contains-get_or}
use Rattle.std.proofs.lemmas.List.Quantifiers.{all_pairs_push}
use Rattle.std.proofs.lemmas.Option.{slice_get_read, slice_get_within, get_or_from_slice_get}
use Rattle.exact.specs.Number.{whole}
use Rattle.exact.specs.Plane.{ExactPoint, SamePoint, Before, IsPointCanonical}
use Rattle.exact.proofs.Order.{same_turned}
use Rattle.exact.proofs.Told.{same_itself, less_values}
use Rattle.sheet.specs.Sheet.{ExactSheet, IsSheet, InSheet, IsInside, OnSide}
use Rattle.sheet.specs.Pattern.{ExactPattern, IsPattern}
use Rattle.plane.proofs.callers.Sides.{on_side, not_end}
use Rattle.layers.specs.Star.{IsStar}
use Rattle.layers.specs.declared.star.Ray.{Ray}
use Rattle.subdivide.specs.Subdivision.{IsVertex, AreVertices}
use Rattle.subdivide.specs.Star.{StarOf}
use Rattle.judge.specs.Verdict.{VerdictOf, AreOne}
use Rattle.judge.specs.Faults.{IsJudged, IsFault, AreFaults, ReportOf, failure_of, TellsFault}
use Rattle.judge.specs.declared.verdict.Why.{Why}
use Rattle.judge.specs.declared.verdict.Verdict.{Verdict}
use Rattle.judge.specs.declared.verdict.Verdict.TheVariants as verdict
use Rattle.judge.specs.declared.fault.Fault.{Fault}
use Rattle.judge.specs.declared.report.Report.{Report}
use Rattle.judge.specs.declared.report.Report.TheVariants as report
use Rattle.subdivide.proofs.callers.Gets.{some_is}

-- in the sheet and on no side: strictly inside
pub inside : (sheet : ExactSheet) (p : ExactPoint) → IsSheet sheet → (InSheet sheet p × (¬ OnSide sheet p)) ↔ IsInside sheet p
inside sheet p s = (
  λ h. (
    elim h.0.0.0 [ inl e ↦ absurd (h.1 ((on_side sheet p s).0 (h.0, inl (inl e)))) | inr l ↦ l ],
    elim h.0.0.1 [ inl e ↦ absurd (h.1 ((on_side sheet p s).0 (h.0, inl (inr (same_turned p.x (whole sheet.w) e))))) | inr l ↦ l ],
    elim h.0.1.0 [ inl e ↦ absurd (h.1 ((on_side sheet p s).0 (h.0, inr (inl e)))) | inr l ↦ l ],
    elim h.0.1.1 [ inl e ↦ absurd (h.1 ((on_side sheet p s).0 (h.0, inr (inr (same_turned p.y (whole sheet.h) e))))) | inr l ↦ l ],
  ),
  λ i. (
    ((inr i.0, inr i.1), (inr i.2, inr i.3)),
    λ o. elim ((on_side sheet p s).1 o).1 [ inl e ↦ not_end sheet.w p.x i.0 i.1 e | inr e ↦ not_end sheet.h p.y i.2 i.3 e ],
  ),
)

-- the two tests together
pub inside_by : (sheet : ExactSheet) (p : ExactPoint) (in_sheet on_side : Bool) → IsSheet sheet → in_sheet ≡ true → IsTrue in_sheet ↔ InSheet sheet p → IsTrue on_side ↔ OnSide sheet p → IsTrue (not on_side) ↔ IsInside sheet p
inside_by sheet p a b s e h o = (
  λ t. (inside sheet p s).0 (h.0 e, λ x. never b t (o.1 x)),
  λ i. surely b (λ t. ((inside sheet p s).1 i).1 (o.0 t)),
)
  where
    never : (b : Bool) → IsTrue (not b) → IsTrue b → ⊥
    never true t f = absurd (cc)
    never false t f = absurd (cc)

    surely : (b : Bool) → ¬ IsTrue b → IsTrue (not b)
    surely true n = absurd (n refl)
    surely false n = refl

inside_moved : (sheet : ExactSheet) (p q : ExactPoint) → SamePoint p q → IsInside sheet p → IsInside sheet q
inside_moved sheet p q e i = (
  less_values (whole 0) (whole 0) p.x q.x (same_itself (whole 0)) e.x i.0,
  less_values p.x q.x (whole sheet.w) (whole sheet.w) e.x (same_itself (whole sheet.w)) i.1,
  less_values (whole 0) (whole 0) p.y q.y (same_itself (whole 0)) e.y i.2,
  less_values p.y q.y (whole sheet.h) (whole sheet.h) e.y (same_itself (whole sheet.h)) i.3,
)

-- a vertex has one star, and a star one verdict but for the order with which it passes
abbrev pub HasOneStar : Type 0
HasOneStar = (pattern : ExactPattern) (v : ExactPoint) (rays others : List Ray) → StarOf pattern v rays → StarOf pattern v others → rays ≡ others

abbrev pub HasOneVerdict : Type 0
HasOneVerdict = (rays : List Ray) (verdict other : Verdict) → IsStar rays → VerdictOf rays verdict → VerdictOf rays other → AreOne verdict other

one_judged : HasOneStar → HasOneVerdict → (pattern : ExactPattern) (v : ExactPoint) (star other : List Ray) (x y : Verdict) → IsJudged pattern v star x → IsJudged pattern v other y → AreOne x y
one_judged ones onev pattern v star other x y a b =
    onev star x y a.is_star.star a.is_verdict (subst (λ z. VerdictOf z y) (sym (ones pattern v star other a.is_star b.is_star)) b.is_verdict)

-- what is said of a point tells whether it is a fault
pub tells : HasOneStar → HasOneVerdict → (pattern : ExactPattern) (v : ExactPoint) (o : Option Report) → ReportOf pattern v o → TellsFault pattern v (failure_of o)
tells ones onev pattern v None r = λ why f. r f.1.inner.0
tells ones onev pattern v (Some report.Border) r = λ why f. r.1 f.1.inner.1
tells ones onev pattern v (Some (report.Judged star verdict.Plain)) r = λ why f. one_judged ones onev pattern v star f.0 verdict.Plain (verdict.Fails why) r f.1
tells ones onev pattern v (Some (report.Judged star (verdict.Passed order))) r = λ why f. one_judged ones onev pattern v star f.0 (verdict.Passed order) (verdict.Fails why) r f.1
tells ones onev pattern v (Some (report.Judged star (verdict.Fails w))) r = ((star, r), λ other f. one_judged ones onev pattern v f.0 star (verdict.Fails other) (verdict.Fails w) f.1 r)

-- a vertex is one, and its star is its star, by whatever numbers
abbrev pub IsOfThePoint : Type 0
IsOfThePoint = (pattern : ExactPattern) (v w : ExactPoint) (rays : List Ray) → IsPattern pattern → SamePoint v w → IsVertex pattern v → StarOf pattern v rays → IsVertex pattern w × StarOf pattern w rays

fault_moved : IsOfThePoint → (pattern : ExactPattern) (v w : ExactPoint) (why : Why) → IsPattern pattern → SamePoint v w → IsFault pattern v why → IsFault pattern w why
fault_moved of pattern v w why p e f =
    let m = of pattern v w f.0 p e f.1.inner.0 f.1.is_star in
    (f.0, record { inner = (m.0, inside_moved pattern.sheet v w e f.1.inner.1); is_star = m.1; is_verdict = f.1.is_verdict })

abbrev fault : ExactPoint → Why → Fault
fault v why = record { at = v; why = why }

-- the faults among the first n vertices
pub record AreFaultsBelow (pattern : ExactPattern) (vs : List ExactPoint) (n : ℕ) (faults : List Fault) : Type 0 where
  pub ordered : AllPairs (λ f g. Before f.at g.at) faults
  pub canonical : All (λ f. IsPointCanonical f.at) faults
  pub each : All (λ f. IsFault pattern f.at f.why) faults
  pub earlier : (f : Fault) → Contains faults f → (k : ℕ) × (k < n) × (slice_get vs k ≡ Some f.at)
  pub all : (k : ℕ) (v : ExactPoint) (why : Why) → k < n → slice_get vs k ≡ Some v → IsFault pattern v why → Contains faults (fault v why)

pub none_below : (pattern : ExactPattern) (vs : List ExactPoint) → AreFaultsBelow pattern vs 0 []
none_below pattern vs = record {
  ordered = λ i j d h l. absurd (omega (arith, l));
  canonical = λ k d h. absurd (omega (arith, h));
  each = λ k d h. absurd (omega (arith, h));
  earlier = λ f c. absurd (omega (arith, c.1));
  all = λ k v why h e f. absurd (omega (arith, h));
}

-- the next vertex is a fault
pub fault_more : (pattern : ExactPattern) (vs : List ExactPoint) (n : ℕ) (v : ExactPoint) (why : Why) (faults : List Fault) → AllPairs Before vs → IsPointCanonical v → slice_get vs n ≡ Some v → TellsFault pattern v (Some why)
    → AreFaultsBelow pattern vs n faults → AreFaultsBelow pattern vs (n + 1) (faults ++ fault v why ∷ [])
fault_more pattern vs n v why faults up c at t a = record {
  ordered = all_pairs_push (λ f g. Before f.at g.at) faults (fault v why) a.ordered (λ k d h. before (get_or faults k d) (a.earlier (get_or faults k d) (Contains-get_or faults k d h)));
  canonical = All-push (λ f. IsPointCanonical f.at) faults (fault v why) a.canonical c;
  each = All-push (λ f. IsFault pattern f.at f.why) faults (fault v why) a.each t.0;
  earlier = λ f g. elim (Contains-push_cases faults (fault v why) f g) [
    | inl h ↦ (let e = a.earlier f h in (e.0, omega (arith, e.1), e.2))
    | inr e ↦ (n, omega arith, subst (λ (z : Fault). slice_get vs n ≡ Some z.at) e at)
  ];
  all = λ k w x h e f. elim (cases_lt k n) [
    | inl l ↦ Contains-append_left faults (fault v why ∷ []) (fault w x) (a.all k w x l e f)
    | inr g ↦ (let q : v ≡ w = some_is (sym at ∙ ap (slice_get vs) (same k h g) ∙ e) in
        subst (Contains (faults ++ fault v why ∷ [])) (made v w why x q (sym (t.1 x (subst (λ z. IsFault pattern z x) (sym q) f)))) (Contains-push faults (fault v why)))
  ];
}
  where
    same : (k : ℕ) → k < n + 1 → n ≤ k → n ≡ k
    same k h g = omega (arith, h, g)

    made : (v w : ExactPoint) (x y : Why) → v ≡ w → x ≡ y → fault v x ≡ fault w y
    made v w x y p q = cc

    before : (f : Fault) → (k : ℕ) × (k < n) × (slice_get vs k ≡ Some f.at) → Before f.at v
    before f e = subst (λ z. Before z v) (get_or_from_slice_get vs e.0 f.at v e.2) (subst (λ z. Before (get_or vs e.0 v) z) (get_or_from_slice_get vs n v v at) (up e.0 n v e.1 (slice_get_within vs n v at)))

-- the next vertex is none
pub fault_still : (pattern : ExactPattern) (vs : List ExactPoint) (n : ℕ) (v : ExactPoint) (faults : List Fault) → slice_get vs n ≡ Some v → TellsFault pattern v None → AreFaultsBelow pattern vs n faults → AreFaultsBelow pattern vs (n + 1) faults
fault_still pattern vs n v faults at t a = record {
  ordered = a.ordered;
  canonical = a.canonical;
  each = a.each;
  earlier = λ f g. (let e = a.earlier f g in (e.0, omega (arith, e.1), e.2));
  all = λ k w x h e f. elim (cases_lt k n) [
    | inl l ↦ a.all k w x l e f
    | inr g ↦ absurd (t x (subst (λ z. IsFault pattern z x) (sym (some_is (sym at ∙ ap (slice_get vs) (same k h g) ∙ e))) f))
  ];
}
  where
    same : (k : ℕ) → k < n + 1 → n ≤ k → n ≡ k
    same k h g = omega (arith, h, g)

-- all vertices were judged
pub faults_are : IsOfThePoint → (pattern : ExactPattern) (vs : List ExactPoint) (n : ℕ) (faults : List Fault) → IsPattern pattern → AreVertices pattern vs → length vs ≤ n → AreFaultsBelow pattern vs n faults → AreFaults pattern faults
faults_are of pattern vs n faults p a whole b = record {
  ordered = b.ordered;
  canonical = b.canonical;
  each = b.each;
  all = λ v why f. (let w = a.all v f.1.inner.0 in (
    fault w.0 why,
    b.all w.1.0 w.0 why (omega (arith, w.1.1, whole)) (slice_get_read vs (length vs) w.1.0 w.0 refl w.1.1 (sym w.1.2)) (fault_moved of pattern v w.0 why p w.2 f),
    w.2,
    refl,
  ));
}
