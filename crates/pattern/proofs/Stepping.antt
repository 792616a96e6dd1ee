-- Creases taken out of those that stand and put among them, one after another, as a delta says.
use Rattle.std.proofs.Common.{◌≡◌, ◌≢◌, ℕ, ◌+◌, ◌<◌, ◌≤◌, List, [], ◌∷◌, ◌++◌, length, get_or, take, refl, sym, ap, subst, ◌∙◌, ◌⊎◌, inl, inr, arith}
use Rattle.std.specs.Prelude.{◌↔◌, All, Contains}
use Rattle.std.proofs.lemmas.List.{get_or-take, length-take}
use Rattle.std.proofs.lemmas.List.Elements.{All-push, All-contains, Contains-push, Contains-push_cases, Contains-append_left}
use Rattle.std.proofs.lemmas.List.Quantifiers.{all_pairs_push}
use Rattle.exact.specs.Plane.{Overlap}
use Rattle.sheet.specs.Sheet.{ExactSheet}
use Rattle.sheet.specs.Pattern.{ExactCrease, ExactPattern, IsPattern, IsKey, crease_limit}
use Rattle.creases.specs.Creases.{Ascends, IsFree}
use Rattle.creases.specs.Standing.{AreStanding}
use Rattle.creases.proofs.callers.Members.{all_of, segment_not_itself, same_list, pair_at}
use Rattle.creases.proofs.callers.Overlaps.{overlap_itself}
use Rattle.pattern.specs.Deltas.{Stays, Leads, Fits}
use Rattle.pattern.specs.declared.delta.Delta.{Delta}
use Rattle.pattern.specs.Fitting.{CanCome}
use Rattle.pattern.specs.NativeReader.{on}
use Rattle.pattern.proofs.callers.Told.{more_taken}
use Rattle.pattern.proofs.Fitting.{to_tests}

-- what is left of the old ones when some are gone, and what stands when others came
abbrev pub AreLeft : List ExactCrease → List ExactCrease → List ExactCrease → Type 0
AreLeft old gone now = (f : ExactCrease) → Contains now f ↔ (Contains old f × (¬ Contains gone f))

abbrev pub AreMore : List ExactCrease → List ExactCrease → List ExactCrease → Type 0
AreMore old come now = (f : ExactCrease) → Contains now f ↔ (Contains come f ⊎ Contains old f)

pub none_yet : (xs : List ExactCrease) (f : ExactCrease) → ¬ Contains (take 0 xs) f
none_yet xs f c = omega (arith, c.1, length-take 0 xs)

pub more_none : (old come : List ExactCrease) → AreMore old (take 0 come) old
more_none old come f = (λ c. inr c, λ k. elim k [ inl d ↦ absurd (none_yet come f d) | inr c ↦ c ])

-- ---- one more is taken out
pub left_next : (old gone : List ExactCrease) (i : ℕ) (x : ExactCrease) (now after : List ExactCrease) → i < length gone → x ≡ get_or gone i x → AreLeft old (take i gone) now → ((f : ExactCrease) → Contains after f ↔ (Contains now f × (f ≢ x)))
    → AreLeft old (take (i + 1) gone) after
left_next old gone i x now after l e t u = subst (λ (xs : List ExactCrease). AreLeft old xs after) (more_taken gone i x l e) more
  where
    more : AreLeft old (take i gone ++ x ∷ []) after
    more f = (
      λ c. (
          let k = (u f).0 c in
          let r = (t f).0 k.0 in
          (r.0, λ d. elim (Contains-push_cases (take i gone) x f d) [ inl g ↦ r.1 g | inr g ↦ k.1 (sym g) ])
          ),
      λ k. (u f).1 ((t f).1 (k.0, λ d. k.1 (Contains-append_left (take i gone) (x ∷ []) f d)), λ g. k.1 (subst (Contains (take i gone ++ x ∷ [])) (sym g) (Contains-push (take i gone) x))),
    )

-- an ascending list has its element at i nowhere before
pub not_earlier : (xs : List ExactCrease) (i : ℕ) (x : ExactCrease) → Ascends xs → i < length xs → x ≡ get_or xs i x → ¬ Contains (take i xs) x
not_earlier xs i x h l e c =
    let short : c.0 < i = omega (arith, c.1, length-take i xs) in
    let there : get_or xs c.0 x ≡ x = sym (get_or-take i xs c.0 x short) ∙ c.2 in
    segment_not_itself (get_or xs c.0 x).seg (get_or xs i x).seg (ap (λ (f : ExactCrease). f.seg) (there ∙ e)) (h c.0 i x short l)

pub not_all_left : (old gone : List ExactCrease) (i : ℕ) (x : ExactCrease) (now : List ExactCrease) → Ascends gone → i < length gone → x ≡ get_or gone i x → AreLeft old (take i gone) now → ¬ Contains now x → ¬ All (λ f. Contains old f) gone
not_all_left old gone i x now a l e t n all = n ((t x).1 (subst (Contains old) (sym e) (all i x l), not_earlier gone i x a l e))

-- ---- one more is put in
pub can_come_none : (sheet : ExactSheet) (old come : List ExactCrease) → CanCome sheet old (take 0 come)
can_come_none sheet old come = record {
  keys = λ i d l. absurd (omega (arith, l, length-take 0 come));
  apart = λ i j d l m. absurd (omega (arith, m, length-take 0 come));
  free = λ i d l. absurd (omega (arith, l, length-take 0 come));
}

pub can_come_next : (sheet : ExactSheet) (old come : List ExactCrease) (i : ℕ) (x : ExactCrease) (now : List ExactCrease) → i < length come → x ≡ get_or come i x → CanCome sheet old (take i come) → AreMore old (take i come) now → IsKey sheet x.seg → IsFree now x.seg
    → CanCome sheet old (take (i + 1) come)
can_come_next sheet old come i x now l e c t k n = subst (λ (xs : List ExactCrease). CanCome sheet old xs) (more_taken come i x l e) more
  where
    apart : (f : ExactCrease) → Contains now f → ¬ Overlap f.seg x.seg
    apart f d = All-contains (λ (g : ExactCrease). ¬ Overlap g.seg x.seg) now f n d

    more : CanCome sheet old (take i come ++ x ∷ [])
    more = record {
      keys = All-push (λ (f : ExactCrease). IsKey sheet f.seg) (take i come) x c.keys k;
      apart = all_pairs_push (λ (f g : ExactCrease). ¬ Overlap f.seg g.seg) (take i come) x c.apart (all_of (λ (f : ExactCrease). ¬ Overlap f.seg x.seg) (take i come) (λ f d. apart f ((t f).1 (inl d))));
      free = All-push (λ (f : ExactCrease). IsFree old f.seg) (take i come) x c.free (all_of (λ (g : ExactCrease). ¬ Overlap g.seg x.seg) old (λ g d. apart g ((t g).1 (inr d))));
    }

pub more_next : (old come : List ExactCrease) (i : ℕ) (x : ExactCrease) (now after : List ExactCrease) → i < length come → x ≡ get_or come i x → AreMore old (take i come) now → ((f : ExactCrease) → Contains after f ↔ ((f ≡ x) ⊎ Contains now f))
    → AreMore old (take (i + 1) come) after
more_next old come i x now after l e t u = subst (λ (xs : List ExactCrease). AreMore old xs after) (more_taken come i x l e) more
  where
    more : AreMore old (take i come ++ x ∷ []) after
    more f = (
      λ c. elim ((u f).0 c) [
        | inl g ↦ inl (subst (Contains (take i come ++ x ∷ [])) (sym g) (Contains-push (take i come) x))
        | inr d ↦ elim ((t f).0 d) [ inl g ↦ inl (Contains-append_left (take i come) (x ∷ []) f g) | inr g ↦ inr g ]
      ],
      λ k. elim k [
        | inl d ↦ elim (Contains-push_cases (take i come) x f d) [ inl g ↦ (u f).1 (inr ((t f).1 (inl g))) | inr g ↦ (u f).1 (inl (sym g)) ]
        | inr d ↦ (u f).1 (inr ((t f).1 (inr d)))
      ],
    )

pub not_key : (sheet : ExactSheet) (old come : List ExactCrease) (i : ℕ) (x : ExactCrease) → i < length come → x ≡ get_or come i x → ¬ IsKey sheet x.seg → ¬ CanCome sheet old come
not_key sheet old come i x l e n c = n (subst (λ (f : ExactCrease). IsKey sheet f.seg) (sym e) (c.keys i x l))

pub not_free : (sheet : ExactSheet) (old come : List ExactCrease) (i : ℕ) (x : ExactCrease) (now : List ExactCrease) → i < length come → x ≡ get_or come i x → AreMore old (take i come) now → ¬ IsFree now x.seg → ¬ CanCome sheet old come
not_free sheet old come i x now l e t n c = n (all_of (λ (g : ExactCrease). ¬ Overlap g.seg x.seg) now apart)
  where
    earlier : (g : ExactCrease) → Contains (take i come) g → ¬ Overlap g.seg x.seg
    earlier g d =
        let short : d.0 < i = omega (arith, d.1, length-take i come) in
        let there : get_or come d.0 g ≡ g = sym (get_or-take i come d.0 g short) ∙ d.2 in
        pair_at (λ (f h : ExactCrease). ¬ Overlap f.seg h.seg) come g x c.apart (d.0, omega (arith, short, l), there) (i, l, sym e) short

    apart : (g : ExactCrease) → Contains now g → ¬ Overlap g.seg x.seg
    apart g d = elim ((t g).0 d) [
      | inl k ↦ earlier g k
      | inr k ↦ All-contains (λ (f : ExactCrease). ¬ Overlap f.seg x.seg) old g (subst (λ (f : ExactCrease). IsFree old f.seg) (sym e) (c.free i x l)) k
    ]

-- ---- both together
pub leads_made : (old : ExactPattern) (delta : Delta) (one now : List ExactCrease) → IsPattern old → AreLeft old.creases delta.removed one → CanCome old.sheet one delta.added → AreMore one delta.added now → AreStanding now → length now ≤ crease_limit → Leads old delta (on old.sheet now)
leads_made old delta one now p out c into st few = record {
  pattern = record {
    sheet = p.sheet;
    keys = all_of (λ (f : ExactCrease). IsKey old.sheet f.seg) now (λ f d. elim ((into f).0 d) [
      | inl a ↦ All-contains (λ (g : ExactCrease). IsKey old.sheet g.seg) delta.added f c.keys a
      | inr k ↦ All-contains (λ (g : ExactCrease). IsKey old.sheet g.seg) old.creases f p.keys ((out f).0 k).0
    ]);
    ordered = st.ordered;
    apart = st.apart;
    few = few;
  };
  sheet = refl;
  creases = λ f. (
    λ d. elim ((into f).0 d) [ inl a ↦ inr a | inr k ↦ inl ((out f).0 k) ],
    λ k. elim k [ inl s ↦ (into f).1 (inr ((out f).1 s)) | inr a ↦ (into f).1 (inl a) ],
  );
}

pub fits_made : (old : ExactPattern) (delta : Delta) (one now : List ExactCrease) → Ascends delta.removed → Ascends delta.added → All (λ f. Contains old.creases f) delta.removed → AreLeft old.creases delta.removed one → CanCome old.sheet one delta.added → Leads old delta (on old.sheet now)
    → Fits old delta
fits_made old delta one now g a t out c l = record {
  removed_ascend = g;
  added_ascend = a;
  there = t;
  fresh = all_of (λ (f : ExactCrease). (h : ExactCrease) → Stays old.creases delta h → h.seg ≢ f.seg) delta.added fresh;
  leads = (on old.sheet now, l);
}
  where
    fresh : (f : ExactCrease) → Contains delta.added f → (h : ExactCrease) → Stays old.creases delta h → h.seg ≢ f.seg
    fresh f d h s e =
        let free : IsFree one f.seg = All-contains (λ (g : ExactCrease). IsFree one g.seg) delta.added f c.free d in
        let key : IsKey old.sheet f.seg = All-contains (λ (g : ExactCrease). IsKey old.sheet g.seg) delta.added f c.keys d in
        All-contains (λ (g : ExactCrease). ¬ Overlap g.seg f.seg) one h free ((out h).1 s) (subst (λ x. Overlap x f.seg) (sym e) (overlap_itself f.seg key.segment))

-- where a delta fits, its creases come
pub fits_comes : (old : ExactPattern) (delta : Delta) (one : List ExactCrease) → IsPattern old → Fits old delta → AreLeft old.creases delta.removed one → CanCome old.sheet one delta.added
fits_comes old delta one p t out =
    let tests = to_tests old delta p t in
    record {
      keys = tests.keys;
      apart = tests.apart;
      free = all_of (λ (f : ExactCrease). IsFree one f.seg) delta.added (λ f c. all_of (λ (g : ExactCrease). ¬ Overlap g.seg f.seg) one (λ g d. free f g c d));
    }
  where
    free : (f g : ExactCrease) → Contains delta.added f → Contains one g → ¬ Overlap g.seg f.seg
    free f g c d =
        let stays = (out g).0 d in
        let tests = to_tests old delta p t in
        elim (All-contains (λ (h : ExactCrease). (¬ Overlap h.seg f.seg) ⊎ Contains delta.removed h) old.creases g (All-contains (λ (h : ExactCrease). All (λ (x : ExactCrease). (¬ Overlap x.seg h.seg) ⊎ Contains delta.removed x) old.creases) delta.added f tests.free c) stays.0) [
          | inl n ↦ n
          | inr r ↦ absurd (stays.1 r)
        ]

-- and they are not too many
pub fits_few : (old : ExactPattern) (delta : Delta) (one now : List ExactCrease) → Fits old delta → AreLeft old.creases delta.removed one → AreMore one delta.added now → AreStanding now → length now ≤ crease_limit
fits_few old delta one now t out into st =
    let new = t.leads.0 in
    let l = t.leads.1 in
    let same : now ≡ new.creases = same_list now new.creases st.ordered l.pattern.ordered
    (λ f c. (l.creases f).1 (elim ((into f).0 c) [ inl a ↦ inr a | inr k ↦ inl ((out f).0 k) ]))
    (λ f c. (into f).1 (elim ((l.creases f).0 c) [ inl s ↦ inr ((out f).1 s) | inr a ↦ inl a ])) in
    subst (λ (xs : List ExactCrease). length xs ≤ crease_limit) (sym same) l.pattern.few
