-- A pattern with its mountains and valleys exchanged, one crease after another.
use Rattle.std.proofs.Common.{◌≡◌, ◌≢◌, ◌∙◌, ℕ, ◌<◌, ◌≤◌, List, [], ◌∷◌, ◌++◌, length, get_or, refl, sym, ap, subst, ◌⊎◌, inl, inr, arith}
use Rattle.std.specs.Prelude.{◌↔◌, All, AllPairs, Contains}
use Rattle.std.proofs.lemmas.List.{append-nil, get_or-map, get_or_default, length-map, map-append}
use Rattle.std.proofs.lemmas.List.Elements.{Contains-append_left, Contains-push, Contains-push_cases}
use Rattle.exact.specs.Plane.{ExactSegment, Overlap, SegmentBefore}
use Rattle.chains.proofs.callers.Elements.{head_has, tail_has, has_cases}
use Rattle.sheet.specs.Pattern.{ExactCrease, ExactPattern, IsKey, IsPattern, crease_limit}
use Rattle.creases.specs.Creases.{Ascends}
use Rattle.creases.proofs.callers.Members.{before_last, first_before, later_ascend, same_list, segment_not_itself}
use Rattle.creases.specs.Standing.{AreStanding}
use Rattle.pattern.proofs.callers.Fronts.{taken_pattern}
use Rattle.edits.specs.Drafts.{with_creases}
use Rattle.edits.specs.Flip.{exchanged_crease, flipped}

within : (xs : List ExactCrease) (i : ℕ) → i < length (flipped xs) → i < length xs
within xs i lt = subst (λ n. i < n) (length-map xs exchanged_crease) lt

-- each crease keeps its segment
keeps : (xs : List ExactCrease) (i : ℕ) (d : ExactCrease) → i < length xs → (get_or xs i d).seg ≡ (get_or (flipped xs) i d).seg
keeps xs i d lt = ap (λ (f : ExactCrease). f.seg) (sym (get_or-map exchanged_crease xs i d d lt))

all_kept : (P : ExactSegment → Type 0) (xs : List ExactCrease) → All (λ f. P f.seg) xs → All (λ f. P f.seg) (flipped xs)
all_kept P xs h = λ i d lt. subst P (keeps xs i d (within xs i lt)) (h i d (within xs i lt))

pairs_kept : (R : ExactSegment → ExactSegment → Type 0) (xs : List ExactCrease) → AllPairs (λ f g. R f.seg g.seg) xs → AllPairs (λ f g. R f.seg g.seg) (flipped xs)
pairs_kept R xs h = λ i j d lt to. (let in_xs = within xs j to in
    subst (λ s. R s (get_or (flipped xs) j d).seg) (keeps xs i d (omega (arith, lt, in_xs))) (subst (λ s. R (get_or xs i d).seg s) (keeps xs j d in_xs) (h i j d lt in_xs)))

pub flipped_pattern : (pattern : ExactPattern) → IsPattern pattern → IsPattern (with_creases pattern (flipped pattern.creases))
flipped_pattern pattern h = record {
  sheet = h.sheet;
  keys = all_kept (IsKey pattern.sheet) pattern.creases h.keys;
  ordered = pairs_kept SegmentBefore pattern.creases h.ordered;
  apart = pairs_kept (λ s t. ¬ Overlap s t) pattern.creases h.apart;
  few = subst (λ n. n ≤ crease_limit) (sym (length-map pattern.creases exchanged_crease)) h.few;
}

-- a flipped crease comes from one
from : (xs : List ExactCrease) (f : ExactCrease) → Contains (flipped xs) f → (g : ExactCrease) × Contains xs g × (g.seg ≡ f.seg)
from xs f c =
    let lt = within xs c.0 c.1 in
    (get_or xs c.0 f, (c.0, lt, get_or_default xs c.0 (get_or xs c.0 f) f lt), keeps xs c.0 f lt ∙ ap (λ (g : ExactCrease). g.seg) c.2)

-- Those that were looked at are exchanged, and the rest is as it was.
abbrev pub AreHalf : List ExactCrease → List ExactCrease → List ExactCrease → Type 0
AreHalf done rest now = (f : ExactCrease) → Contains now f ↔ (Contains (flipped done) f ⊎ Contains rest f)

pub half_start : (xs : List ExactCrease) → AreHalf [] xs xs
half_start xs f = (λ c. inr c, λ c. elim c [ inl none ↦ absurd (omega (arith, none.1)) | inr d ↦ d ])

pub half_there : (done rest next now : List ExactCrease) (x : ExactCrease) → AreHalf done rest now → rest ≡ x ∷ next → Contains now x
half_there done rest next now x h e = (h x).1 (inr (subst (λ xs. Contains xs x) (sym e) (head_has x x next refl)))

behind : (xs ys : List ExactCrease) → Ascends (xs ++ ys) → Ascends ys
behind [] ys h = h
behind (x ∷ xs) ys h = behind xs ys (later_ascend x (xs ++ ys) h)

-- the next crease went out, and came back exchanged
module _ (whole : ExactPattern) (done rest next now mid new : List ExactCrease) (x : ExactCrease) (p : IsPattern whole) (so_far : done ++ rest ≡ whole.creases) (more : rest ≡ x ∷ next) (half : AreHalf done rest now)
    (taken : (f : ExactCrease) → Contains mid f ↔ (Contains now f × (f ≢ x))) (put : (f : ExactCrease) → Contains new f ↔ ((f ≡ exchanged_crease x) ⊎ Contains mid f)) where
  front : Ascends (done ++ x ∷ [])
  front = (taken_pattern whole done rest next x p so_far more).ordered

  back : Ascends (x ∷ next)
  back = behind done (x ∷ next) (subst (λ xs. Ascends (done ++ xs)) more (subst Ascends (sym so_far) p.ordered))

  not_done : (f : ExactCrease) → Contains (flipped done) f → f ≢ x
  not_done f c e = (let g = from done f c in segment_not_itself g.0.seg x.seg (g.2 ∙ ap (λ (h : ExactCrease). h.seg) e) (before_last done x g.0 front g.1))

  not_next : (f : ExactCrease) → Contains next f → f ≢ x
  not_next f c e = segment_not_itself x.seg f.seg (ap (λ (h : ExactCrease). h.seg) (sym e)) (first_before x f next back c)

  added : flipped (done ++ x ∷ []) ≡ flipped done ++ exchanged_crease x ∷ []
  added = map-append exchanged_crease done (x ∷ [])

  pub half_next : AreHalf (done ++ x ∷ []) next new
  half_next f = (
    λ c. elim ((put f).0 c) [
      | inl e ↦ inl (subst (λ xs. Contains xs f) (sym added) (subst (Contains (flipped done ++ exchanged_crease x ∷ [])) (sym e) (Contains-push (flipped done) (exchanged_crease x))))
      | inr m ↦ (let k = (taken f).0 m in elim ((half f).0 k.0) [
        | inl d ↦ inl (subst (λ xs. Contains xs f) (sym added) (Contains-append_left (flipped done) (exchanged_crease x ∷ []) f d))
        | inr r ↦ elim (has_cases x f next (subst (λ xs. Contains xs f) more r)) [ inl e ↦ absurd (k.1 (sym e)) | inr d ↦ inr d ]
      ])
    ],
    λ c. elim c [
      | inl d ↦ elim (Contains-push_cases (flipped done) (exchanged_crease x) f (subst (λ xs. Contains xs f) added d)) [
        | inl k ↦ (put f).1 (inr ((taken f).1 ((half f).1 (inl k), not_done f k)))
        | inr e ↦ (put f).1 (inl (sym e))
      ]
      | inr d ↦ (put f).1 (inr ((taken f).1 ((half f).1 (inr (subst (λ xs. Contains xs f) (sym more) (tail_has x f next d))), not_next f d)))
    ],
  )

-- all of them are exchanged
pub half_end : (whole : ExactPattern) (done rest now : List ExactCrease) → IsPattern whole → AreStanding now → AreHalf done rest now → done ++ rest ≡ whole.creases → rest ≡ [] → now ≡ flipped whole.creases
half_end whole done rest now p s half so_far none =
    let all : done ≡ whole.creases = sym (append-nil done) ∙ ap (λ (xs : List ExactCrease). done ++ xs) (sym none) ∙ so_far in
    same_list now (flipped whole.creases) s.ordered (flipped_pattern whole p).ordered
    (λ f c. elim ((half f).0 c) [ inl d ↦ subst (λ xs. Contains (flipped xs) f) all d | inr r ↦ absurd (let n : Contains [] f = subst (λ xs. Contains xs f) none r in omega (arith, n.1)) ])
    (λ f c. (half f).1 (inl (subst (λ xs. Contains (flipped xs) f) (sym all) c)))

pub is_flipped : (old now : ExactPattern) (draft : List ExactCrease) → IsPattern old → draft ≡ flipped old.creases → now ≡ old → IsPattern (with_creases now draft)
is_flipped old now draft p e same = subst (λ q. IsPattern (with_creases q draft)) (sym same) (subst (λ xs. IsPattern (with_creases old xs)) (sym e) (flipped_pattern old p))
