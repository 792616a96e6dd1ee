-- What lies between two patterns fits and leads from one to the other, and its inverse leads back.
use Rattle.std.proofs.Common.{◌≡◌, ◌≢◌, List, [], ◌∷◌, ◌++◌, get_or, sym, subst, ◌∙◌, inl, inr}
use Rattle.std.specs.Prelude.{Contains}
use Rattle.std.proofs.lemmas.List.Elements.{All-contains, Contains-get_or, Contains-append_left, Contains-push, Contains-push_cases}
use Rattle.std.proofs.lemmas.List.Quantifiers.{all_pairs_push}
use Rattle.exact.specs.Plane.{SegmentBefore}
use Rattle.sheet.specs.Pattern.{ExactCrease, ExactPattern, IsPattern}
use Rattle.creases.specs.Creases.{Ascends}
use Rattle.pattern.specs.Deltas.{Stays, Leads, Fits, IsWithout, IsBetween, inverse_of}
use Rattle.pattern.specs.declared.delta.Delta.{Delta}
use Rattle.creases.proofs.callers.Members.{all_of, has_or_not, one_on_segment, before_last, same_list}

-- what stays is in the new pattern too
stays_in : (old new : ExactPattern) (delta : Delta) (g : ExactCrease) → IsBetween old.creases new.creases delta → Stays old.creases delta g → Contains new.creases g
stays_in old new delta g b s = elim (has_or_not new.creases g) [ inl c ↦ c | inr n ↦ absurd (s.1 ((b.removed.members g).1 (s.0, n))) ]

pub between_leads : (old new : ExactPattern) (delta : Delta) → new.sheet ≡ old.sheet → IsPattern new → IsBetween old.creases new.creases delta → Leads old delta new
between_leads old new delta w q b = record {
  pattern = q;
  sheet = w;
  creases = λ f. (
    λ c. elim (has_or_not old.creases f) [ inl d ↦ inl (d, λ r. ((b.removed.members f).0 r).1 c) | inr n ↦ inr ((b.added.members f).1 (c, n)) ],
    λ k. elim k [ inl s ↦ stays_in old new delta f b s | inr a ↦ ((b.added.members f).0 a).0 ],
  );
}

pub between_fits : (old new : ExactPattern) (delta : Delta) → new.sheet ≡ old.sheet → IsPattern new → IsBetween old.creases new.creases delta → Fits old delta
between_fits old new delta w q b = record {
  removed_ascend = b.removed.ascends;
  added_ascend = b.added.ascends;
  there = all_of (λ (f : ExactCrease). Contains old.creases f) delta.removed (λ f c. ((b.removed.members f).0 c).0);
  fresh = all_of (λ (f : ExactCrease). (g : ExactCrease) → Stays old.creases delta g → g.seg ≢ f.seg) delta.added fresh;
  leads = (new, between_leads old new delta w q b);
}
  where
    fresh : (f : ExactCrease) → Contains delta.added f → (g : ExactCrease) → Stays old.creases delta g → g.seg ≢ f.seg
    fresh f c g s e =
        let come = (b.added.members f).0 c in
        let same : g ≡ f = one_on_segment new.creases g f q.ordered (stays_in old new delta g b s) come.0 e in
        come.1 (subst (Contains old.creases) same s.0)

-- a delta leads to one pattern
pub leads_to_one : (old new other : ExactPattern) (delta : Delta) → Leads old delta new → Leads old delta other → new ≡ other
leads_to_one old new other delta a b = λ i. record { sheet = (a.sheet ∙ sym b.sheet) i; creases = same i }
  where
    same : new.creases ≡ other.creases
    same = same_list new.creases other.creases a.pattern.ordered b.pattern.ordered (λ f c. (b.creases f).1 ((a.creases f).0 c)) (λ f c. (a.creases f).1 ((b.creases f).0 c))

-- no added crease stays
not_stays : (old : ExactPattern) (delta : Delta) (f : ExactCrease) → Fits old delta → Contains delta.added f → ¬ Stays old.creases delta f
not_stays old delta f t c s = All-contains (λ f. (g : ExactCrease) → Stays old.creases delta g → g.seg ≢ f.seg) delta.added f t.fresh c f s (λ i. f.seg)

pub inverse_leads : (old new : ExactPattern) (delta : Delta) → IsPattern old → Fits old delta → Leads old delta new → Leads new (inverse_of delta) old
inverse_leads old new delta p t l = record {
  pattern = p;
  sheet = sym l.sheet;
  creases = λ f. (
    λ c. elim (has_or_not delta.removed f) [ inl r ↦ inr r | inr n ↦ inl ((l.creases f).1 (inl (c, n)), λ a. not_stays old delta f t a (c, n)) ],
    λ k. elim k [
      | inl s ↦ elim ((l.creases f).0 s.0) [ inl u ↦ u.0 | inr a ↦ absurd (s.1 a) ]
      | inr r ↦ All-contains (λ f. Contains old.creases f) delta.removed f t.there r
    ],
  );
}

pub inverse_fits : (old new : ExactPattern) (delta : Delta) → IsPattern old → Fits old delta → Leads old delta new → Fits new (inverse_of delta)
inverse_fits old new delta p t l = record {
  removed_ascend = t.added_ascend;
  added_ascend = t.removed_ascend;
  there = all_of (λ (f : ExactCrease). Contains new.creases f) delta.added (λ f c. (l.creases f).1 (inr c));
  fresh = all_of (λ (f : ExactCrease). (g : ExactCrease) → Stays new.creases (inverse_of delta) g → g.seg ≢ f.seg) delta.removed fresh;
  leads = (old, inverse_leads old new delta p t l);
}
  where
    fresh : (f : ExactCrease) → Contains delta.removed f → (g : ExactCrease) → Stays new.creases (inverse_of delta) g → g.seg ≢ f.seg
    fresh f c g s e = elim ((l.creases g).0 s.0) [
      | inr a ↦ s.1 a
      | inl u ↦ u.1 (subst (Contains delta.removed) (sym (one_on_segment old.creases g f p.ordered u.0 (All-contains (λ f. Contains old.creases f) delta.removed f t.there c) e)) c)
    ]

push_has : (xs : List ExactCrease) (f g : ExactCrease) → f ≡ g → Contains (xs ++ f ∷ []) g
push_has xs f g e = subst (Contains (xs ++ f ∷ [])) e (Contains-push xs f)

-- one crease more, which is not among the others
pub without_more : (done others only : List ExactCrease) (f : ExactCrease) → Ascends (done ++ f ∷ []) → IsWithout done others only → ¬ Contains others f → IsWithout (done ++ f ∷ []) others (only ++ f ∷ [])
without_more done others only f h w n = record {
  ascends = all_pairs_push (λ (x y : ExactCrease). SegmentBefore x.seg y.seg) only f w.ascends (λ k d l. before_last done f (get_or only k d) h ((w.members (get_or only k d)).0 (Contains-get_or only k d l)).0);
  members = λ g. (
    λ c. elim (Contains-push_cases only f g c) [
      | inl k ↦ (let m = (w.members g).0 k in (Contains-append_left done (f ∷ []) g m.0, m.1))
      | inr e ↦ (push_has done f g e, λ k. n (subst (Contains others) (sym e) k))
    ],
    λ c. elim (Contains-push_cases done f g c.0) [ inl k ↦ Contains-append_left only (f ∷ []) g ((w.members g).1 (k, c.1)) | inr e ↦ push_has only f g e ],
  );
}

-- one crease more, which is among the others
pub without_passed : (done others only : List ExactCrease) (f : ExactCrease) → IsWithout done others only → Contains others f → IsWithout (done ++ f ∷ []) others only
without_passed done others only f w h = record {
  ascends = w.ascends;
  members = λ g. (
    λ c. (let m = (w.members g).0 c in (Contains-append_left done (f ∷ []) g m.0, m.1)),
    λ c. elim (Contains-push_cases done f g c.0) [ inl k ↦ (w.members g).1 (k, c.1) | inr e ↦ absurd (c.1 (subst (Contains others) e h)) ],
  );
}
