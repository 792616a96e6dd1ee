-- Creases that can stand together on a sheet are those of a pattern.
use Rattle.std.proofs.Common.{◌≡◌, ◌≢◌, ◌≤◌, List, [], length, get_or, refl, sym, subst, inl, inr, arith}
use Rattle.std.specs.Prelude.{◌↔◌, Contains}
use Rattle.std.proofs.lemmas.List.Elements.{All-contains, Contains-get_or}
use Rattle.exact.specs.Plane.{Overlap}
use Rattle.sheet.specs.Sheet.{ExactSheet, IsSheet}
use Rattle.sheet.specs.Pattern.{ExactCrease, ExactPattern, IsKey, crease_limit}
use Rattle.creases.specs.Standing.{AreStanding}
use Rattle.creases.proofs.callers.Members.{all_of, same_list, segments_ordered}
use Rattle.creases.proofs.callers.Overlaps.{overlap_itself, overlap_back}
use Rattle.pattern.specs.Fitting.{CanCome}
use Rattle.pattern.specs.Collecting.{HasJust}
use Rattle.pattern.specs.NativeReader.{on}
use Rattle.pattern.proofs.Stepping.{AreMore}
use Rattle.pattern.proofs.Fitting.{apart_of, ends_of, key_of}

-- nothing was there before
came : (come now : List ExactCrease) (f : ExactCrease) → AreMore [] come now → Contains now f ↔ Contains come f
came come now f m = (
  λ c. elim ((m f).0 c) [ inl a ↦ a | inr n ↦ absurd (omega (arith, n.1)) ],
  λ c. (m f).1 (inl c),
)

pub collected : (sheet : ExactSheet) (come now : List ExactCrease) → IsSheet sheet → CanCome sheet [] come → AreMore [] come now → AreStanding now → length now ≤ crease_limit → HasJust sheet come (on sheet now)
collected sheet come now s c m st few = record {
  pattern = record {
    sheet = s;
    keys = all_of (λ (f : ExactCrease). IsKey sheet f.seg) now (λ f d. All-contains (λ (g : ExactCrease). IsKey sheet g.seg) come f c.keys ((came come now f m).0 d));
    ordered = st.ordered;
    apart = st.apart;
    few = few;
  };
  sheet = refl;
  members = λ f. came come now f m;
  once = λ i j d l n e. c.apart i j d l n (subst (λ x. Overlap (get_or come i d).seg x) e (overlap_itself (get_or come i d).seg (c.keys i d (omega (arith, l, n))).segment));
}

-- the creases of a pattern can come to an empty sheet
pub can_come : (sheet : ExactSheet) (come : List ExactCrease) (made : ExactPattern) → HasJust sheet come made → CanCome sheet [] come
can_come sheet come made h = record {
  keys = all_of (λ (f : ExactCrease). IsKey sheet f.seg) come (λ f c. subst (λ (x : ExactSheet). IsKey x f.seg) h.sheet (key_of made f h.pattern ((h.members f).1 c)));
  apart = λ i j d l n. apart (get_or come i d) (get_or come j d) (Contains-get_or come i d (omega (arith, l, n))) (Contains-get_or come j d n) (h.once i j d l n);
  free = λ i d l j e m. absurd (omega (arith, m));
}
  where
    apart : (f g : ExactCrease) → Contains come f → Contains come g → f.seg ≢ g.seg → ¬ Overlap f.seg g.seg
    apart f g c d n =
        let a = (h.members f).1 c in
        let b = (h.members g).1 d in
        elim (segments_ordered f.seg g.seg (ends_of made.sheet f (key_of made f h.pattern a)) (ends_of made.sheet g (key_of made g h.pattern b))) [
          | inl before ↦ apart_of made.creases f g h.pattern.ordered h.pattern.apart a b before
          | inr k ↦ elim k [ inl e ↦ absurd (n e) | inr after ↦ (λ v. apart_of made.creases g f h.pattern.ordered h.pattern.apart b a after (overlap_back f.seg g.seg v)) ]
        ]

-- and they are not too many
pub few_come : (sheet : ExactSheet) (come now : List ExactCrease) (made : ExactPattern) → HasJust sheet come made → AreMore [] come now → AreStanding now → length now ≤ crease_limit
few_come sheet come now made h m st =
    let same : now ≡ made.creases = same_list now made.creases st.ordered h.pattern.ordered (λ f c. (h.members f).1 ((came come now f m).0 c)) (λ f c. (came come now f m).1 ((h.members f).0 c)) in
    subst (λ (xs : List ExactCrease). length xs ≤ crease_limit) (sym same) h.pattern.few
