-- The creases of a list that have a property, as a loop over the list finds them.
use Rattle.std.proofs.Common.{List, [], ◌∷◌, ◌++◌, get_or, refl, sym, subst, inl, inr}
use Rattle.std.specs.Prelude.{◌↔◌, Contains}
use Rattle.std.proofs.lemmas.List.Elements.{All-contains, Contains-get_or, Contains-append_left, Contains-push, Contains-push_cases}
use Rattle.std.proofs.lemmas.List.Quantifiers.{all_pairs_push}
use Rattle.exact.specs.Plane.{SegmentBefore}
use Rattle.sheet.specs.Pattern.{ExactCrease, ExactPattern, IsPattern, IsKey}
use Rattle.geometry.proofs.PointOrder.{same_itself}
use Rattle.plane.specs.Segments.{HasCanonicalEnds}
use Rattle.creases.specs.Creases.{Ascends}
use Rattle.creases.proofs.callers.Members.{before_last, all_of}
use Rattle.edits.specs.CreaseSet.{AreCreases}

-- the list has those of the first creases that have the property
pub record AreKept (P : ExactCrease → Type 0) (done kept : List ExactCrease) : Type 0 where
  pub ascends : Ascends kept
  pub members : (f : ExactCrease) → Contains kept f ↔ (Contains done f × P f)

-- one crease more, which has the property
pub kept_more : (P : ExactCrease → Type 0) (done kept : List ExactCrease) (f : ExactCrease) → Ascends (done ++ f ∷ []) → AreKept P done kept → P f → AreKept P (done ++ f ∷ []) (kept ++ f ∷ [])
kept_more P done kept f h w p = record {
  ascends = all_pairs_push (λ (x y : ExactCrease). SegmentBefore x.seg y.seg) kept f w.ascends (λ k d l. before_last done f (get_or kept k d) h ((w.members (get_or kept k d)).0 (Contains-get_or kept k d l)).0);
  members = λ g. (
    λ c. elim (Contains-push_cases kept f g c) [
      | inl k ↦ (let m = (w.members g).0 k in (Contains-append_left done (f ∷ []) g m.0, m.1))
      | inr e ↦ (subst (Contains (done ++ f ∷ [])) e (Contains-push done f), subst P e p)
    ],
    λ c. elim (Contains-push_cases done f g c.0) [ inl k ↦ Contains-append_left kept (f ∷ []) g ((w.members g).1 (k, c.1)) | inr e ↦ subst (Contains (kept ++ f ∷ [])) e (Contains-push kept f) ],
  );
}

-- one crease more, which has it not
pub kept_passed : (P : ExactCrease → Type 0) (done kept : List ExactCrease) (f : ExactCrease) → AreKept P done kept → (¬ P f) → AreKept P (done ++ f ∷ []) kept
kept_passed P done kept f w n = record {
  ascends = w.ascends;
  members = λ g. (
    λ c. (let m = (w.members g).0 c in (Contains-append_left done (f ∷ []) g m.0, m.1)),
    λ c. elim (Contains-push_cases done f g c.0) [ inl k ↦ (w.members g).1 (k, c.1) | inr e ↦ absurd (n (subst P (sym e) c.1)) ],
  );
}

-- those of a pattern are a set of creases
pub kept_creases : (P : ExactCrease → Type 0) (pattern : ExactPattern) (kept : List ExactCrease) → IsPattern pattern → AreKept P pattern.creases kept → AreCreases (λ f. Contains pattern.creases f × P f) kept
kept_creases P pattern kept p w = record {
  ordered = w.ascends;
  canonical = all_of (λ (f : ExactCrease). HasCanonicalEnds f.seg) kept (λ f c. (let k : IsKey pattern.sheet f.seg = All-contains (λ (g : ExactCrease). IsKey pattern.sheet g.seg) pattern.creases f p.keys ((w.members f).0 c).0 in (k.from, k.to)));
  each = all_of (λ f. Contains pattern.creases f × P f) kept (λ f c. (w.members f).0 c);
  all = λ f h. (f, (w.members f).1 h, record { from = same_itself f.seg.p; to = same_itself f.seg.q; colour = refl });
}
