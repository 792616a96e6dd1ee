-- The rows of creases, one by one, and the pattern of which they are the creases.
use Rattle.std.proofs.Common.{◌≡◌, ◌≢◌, ℕ, zero, suc, ◌+◌, ◌<◌, List, [], ◌∷◌, ◌++◌, length, get_or, take, refl, sym, ap, subst, ◌∙◌, arith}
use Rattle.std.specs.Prelude.{All, Contains, Option, Some, None, Result, Ok, Err, IfSome, IfOk, IsNone}
use Rattle.std.specs.List.{AllZip}
use Rattle.std.proofs.lemmas.List.{get_or_default}
use Rattle.std.proofs.lemmas.List.Elements.{All-contains}
use Rattle.exact.specs.Plane.{ExactSegment}
use Rattle.plane.specs.Segments.{IsHeld}
use Rattle.sheet.specs.Sheet.{ExactSheet}
use Rattle.sheet.specs.Pattern.{ExactCrease, ExactPattern, IsPattern, IsKey}
use Rattle.creases.proofs.callers.Members.{all_of, same_list, pair_at}
use Rattle.pattern.specs.NativeText.{letter, seg_text, crease_text}
use Rattle.pattern.specs.Collecting.{HasJust}
use Rattle.pattern.proofs.callers.SingleText.{one_crease_text, one_seg}
use Rattle.pattern.proofs.callers.Told.{more_taken}
use Rattle.rows.specs.Rows.{ExactCreaseRow, IsRowOf, AreCreasesOf}
use Rattle.rows.specs.Reading.{IsHeldRowOf, AreRowsOf, IsPatternOf}

-- ---- two lists, place by place
zip_push : {A B : Type 0} (R : A → B → Type 0) (xs : List A) (ys : List B) (x : A) (y : B) → AllZip R xs ys → R x y → AllZip R (xs ++ x ∷ []) (ys ++ y ∷ [])
zip_push R [] [] x y h r = (r, tt)
zip_push R (a ∷ xs) [] x y h r = absurd h
zip_push R [] (b ∷ ys) x y h r = absurd h
zip_push R (a ∷ xs) (b ∷ ys) x y h r = (h.0, zip_push R xs ys x y h.1 r)

-- what stands at a place of the other list
abbrev At : {B : Type 0} → List B → ℕ → B → Type 0
At ys i y = (i < length ys) × (get_or ys i y ≡ y)

zip_place : {A B : Type 0} (R : A → B → Type 0) (xs : List A) (ys : List B) (i : ℕ) (x : A) → AllZip R xs ys → At xs i x → (y : B) × At ys i y × R x y
zip_place R [] ys i x h l = absurd (omega (arith, l.0))
zip_place R (a ∷ xs) [] i x h l = absurd h
zip_place R (a ∷ xs) (b ∷ ys) zero x h l = (b, (omega arith, refl), subst (λ z. R z b) l.1 h.0)
zip_place R (a ∷ xs) (b ∷ ys) (suc i) x h l = (let k = zip_place R xs ys i x h.1 (omega (arith, l.0), l.1) in (k.0, (omega (arith, k.1.0), k.1.1), k.2))

zip_turn : {A B : Type 0} (R : A → B → Type 0) (xs : List A) (ys : List B) → AllZip R xs ys → AllZip (λ y x. R x y) ys xs
zip_turn R [] [] h = tt
zip_turn R (a ∷ xs) [] h = absurd h
zip_turn R [] (b ∷ ys) h = absurd h
zip_turn R (a ∷ xs) (b ∷ ys) h = (h.0, zip_turn R xs ys h.1)

at_get : {A : Type 0} (xs : List A) (i : ℕ) (d : A) → i < length xs → At xs i (get_or xs i d)
at_get xs i d l = (l, get_or_default xs i (get_or xs i d) d l)

-- ---- one row more
pub rows_next : (rows : List ExactCreaseRow) (creases now : List ExactCrease) (i : ℕ) (r : ExactCreaseRow) (f : ExactCrease) → i < length rows → r ≡ get_or rows i r → AreRowsOf (take i rows) creases → IsHeldRowOf r f → now ≡ creases ++ f ∷ [] → AreRowsOf (take (i + 1) rows) now
rows_next rows creases now i r f l e h k m = subst (λ (xs : List ExactCreaseRow). AreRowsOf xs now) (more_taken rows i r l e) (subst (λ (ys : List ExactCrease). AreRowsOf (take i rows ++ r ∷ []) ys) (sym m) (zip_push IsHeldRowOf (take i rows) creases r f h k))

abbrev pub IsFormed : ExactCreaseRow → Type 0
IsFormed r = (f : ExactCrease) × IsHeldRowOf r f

pub not_formed : (rows : List ExactCreaseRow) (i : ℕ) (r : ExactCreaseRow) → i < length rows → r ≡ get_or rows i r → ((f : ExactCrease) → ¬ IsHeldRowOf r f) → ¬ All IsFormed rows
not_formed rows i r l e n h = (let k = subst IsFormed (sym e) (h i r l) in n k.0 k.1)

-- ---- a row is that of one crease
pub row_of_one : (r : ExactCreaseRow) (f g : ExactCrease) → IsHeld f.seg → IsHeld g.seg → IsRowOf r f → IsRowOf r g → f ≡ g
row_of_one r f g h k a b = one_crease_text (crease_text f) f g (record { held = h; text = refl }) (record { held = k; text = same })
  where
    joined : (f g : ExactCrease) → seg_text f.seg ≡ seg_text g.seg → letter f.colour ∷ [] ≡ letter g.colour ∷ [] → crease_text f ≡ crease_text g
    joined f g e l = ap (λ x. letter f.colour ∷ 32 ∷ x) e ∙ ap (λ x. x ∷ 32 ∷ seg_text g.seg) (ap (λ t. get_or t 0 0) l)

    same : crease_text f ≡ crease_text g
    same = joined f g (sym a.seg_is ∙ b.seg_is) (sym a.colour_is ∙ b.colour_is)

pub held_in : (made : ExactPattern) (f : ExactCrease) → IsPattern made → Contains made.creases f → IsHeld f.seg
held_in made f p c = (let k = All-contains (λ (g : ExactCrease). IsKey made.sheet g.seg) made.creases f p.keys c in record { segment = k.segment; from = k.from; to = k.to })

pub formed_of : (on : ExactSheet) (rows : List ExactCreaseRow) (made : ExactPattern) → IsPatternOf on rows made → All IsFormed rows
formed_of on rows made h = λ i d l. (let k = h.creases.formed i d l in (k.0, record { held = held_in made k.0 h.pattern k.1; is = k.2 }))

-- ---- the pattern of the creases of the rows is that of the rows
one_seg_text : (s t : ExactSegment) → IsHeld s → IsHeld t → seg_text s ≡ seg_text t → s ≡ t
one_seg_text s t h k e = one_seg (seg_text s) s t (record { held = h; text = refl }) (record { held = k; text = e })

pub pattern_is : (on : ExactSheet) (rows : List ExactCreaseRow) (creases : List ExactCrease) (made : ExactPattern) → AreRowsOf rows creases → HasJust on creases made → IsPatternOf on rows made
pattern_is on rows creases made z h = record {
  pattern = h.pattern;
  sheet = h.sheet;
  creases = record {
    keys = λ i j d l m e.
        let a = zip_place IsHeldRowOf rows creases i (get_or rows i d) z (at_get rows i d (omega (arith, l, m))) in
        let b = zip_place IsHeldRowOf rows creases j (get_or rows j d) z (at_get rows j d m) in
        pair_at (λ (f g : ExactCrease). f.seg ≢ g.seg) creases a.0 b.0 h.once (i, a.1.0, a.1.1) (j, b.1.0, b.1.1) l (one_seg_text a.0.seg b.0.seg a.2.held b.2.held (sym a.2.is.seg_is ∙ e ∙ b.2.is.seg_is));
    formed = λ i d l. (let a = zip_place IsHeldRowOf rows creases i (get_or rows i d) z (at_get rows i d l) in (a.0, (h.members a.0).1 (i, a.1.0, a.1.1), a.2.is));
    complete = all_of (λ (f : ExactCrease). (r : ExactCreaseRow) × Contains rows r × IsRowOf r f) made.creases back;
  };
}
  where
    back : (f : ExactCrease) → Contains made.creases f → (r : ExactCreaseRow) × Contains rows r × IsRowOf r f
    back f c =
        let k = (h.members f).0 c in
        let a = zip_place (λ (g : ExactCrease) (r : ExactCreaseRow). IsHeldRowOf r g) creases rows k.0 f (zip_turn IsHeldRowOf rows creases z) (k.1, k.2) in
        (a.0, (k.0, a.1.0, a.1.1), a.2.is)

pub just_is : (on : ExactSheet) (rows : List ExactCreaseRow) (creases : List ExactCrease) (made : ExactPattern) → AreRowsOf rows creases → IsPatternOf on rows made → HasJust on creases made
just_is on rows creases made z h = record {
  pattern = h.pattern;
  sheet = h.sheet;
  members = λ f. (there f, back f);
  once = λ i j d l m e.
      let a = row_at i (get_or creases i d) (at_get creases i d (omega (arith, l, m))) in
      let b = row_at j (get_or creases j d) (at_get creases j d m) in
      pair_at (λ (r s : ExactCreaseRow). r.seg ≢ s.seg) rows a.0 b.0 h.creases.keys (i, a.1.0, a.1.1) (j, b.1.0, b.1.1) l (a.2.is.seg_is ∙ ap seg_text e ∙ sym b.2.is.seg_is);
}
  where
    row_at : (i : ℕ) (f : ExactCrease) → At creases i f → (r : ExactCreaseRow) × At rows i r × IsHeldRowOf r f
    row_at i f l = zip_place (λ (g : ExactCrease) (r : ExactCreaseRow). IsHeldRowOf r g) creases rows i f (zip_turn IsHeldRowOf rows creases z) l

    there : (f : ExactCrease) → Contains made.creases f → Contains creases f
    there f c =
        let k = All-contains (λ (g : ExactCrease). (r : ExactCreaseRow) × Contains rows r × IsRowOf r g) made.creases f h.creases.complete c in
        let a = zip_place IsHeldRowOf rows creases k.1.0 k.0 z (k.1.1, k.1.2) in
        subst (Contains creases) (row_of_one k.0 a.0 f a.2.held (held_in made f h.pattern c) a.2.is k.2) (k.1.0, a.1.0, a.1.1)

    back : (f : ExactCrease) → Contains creases f → Contains made.creases f
    back f c =
        let a = row_at c.0 f (c.1, c.2) in
        let k = subst (λ (r : ExactCreaseRow). (g : ExactCrease) × Contains made.creases g × IsRowOf r g) a.1.1 (h.creases.formed c.0 a.0 a.1.0) in
        subst (Contains made.creases) (row_of_one a.0 k.0 f (held_in made k.0 h.pattern k.1) a.2.held k.2 a.2.is) k.1

-- ---- the rows are those of one pattern
pub same_creases : (rows : List ExactCreaseRow) (one other : ExactPattern) → IsPattern one → IsPattern other → AreCreasesOf rows one.creases → AreCreasesOf rows other.creases → one.creases ≡ other.creases
same_creases rows one other p q a b = same_list one.creases other.creases p.ordered q.ordered (moved one other p q a b) (moved other one q p b a)
  where
    moved : (one other : ExactPattern) → IsPattern one → IsPattern other → AreCreasesOf rows one.creases → AreCreasesOf rows other.creases → (f : ExactCrease) → Contains one.creases f → Contains other.creases f
    moved one other p q a b f c =
        let k = All-contains (λ (g : ExactCrease). (r : ExactCreaseRow) × Contains rows r × IsRowOf r g) one.creases f a.complete c in
        let g = All-contains (λ (r : ExactCreaseRow). (g : ExactCrease) × Contains other.creases g × IsRowOf r g) rows k.0 b.formed k.1 in
        subst (Contains other.creases) (row_of_one k.0 g.0 f (held_in other g.0 q g.1) (held_in one f p c) g.2 k.2) g.1

-- ---- what the answers say of the rows
pub missing : {X : Type 0} (o : Option X) → o ≡ None → IsNone o
missing {X} o e = subst (λ (x : Option X). IsNone x) (sym e) refl

pub pattern_some : {E : Type 0} (on : ExactSheet) (rows : List ExactCreaseRow) (creases : List ExactCrease) (r : Result (Option ExactPattern) E) → AreRowsOf rows creases → IfOk r (λ found. IfSome found (HasJust on creases)) → IfOk r (λ found. IfSome found (IsPatternOf on rows))
pattern_some on rows creases (Ok (Some made)) z h = pattern_is on rows creases made z h
pattern_some on rows creases (Ok None) z h = tt
pattern_some on rows creases (Err e) z h = tt

pub pattern_none : {E : Type 0} (on : ExactSheet) (rows : List ExactCreaseRow) (creases : List ExactCrease) (r : Result (Option ExactPattern) E) → AreRowsOf rows creases → IfOk r (λ found. IsNone found → (made : ExactPattern) → ¬ HasJust on creases made) → IfOk r (λ found. IsNone found → (made : ExactPattern) → ¬ IsPatternOf on rows made)
pattern_none on rows creases (Ok found) z h = λ n made p. h n made (just_is on rows creases made z p)
pattern_none on rows creases (Err e) z h = tt
