-- The front of a pattern is a pattern.
use Rattle.std.proofs.Common.{◌≡◌, List, [], ◌∷◌, ◌++◌, get_or, sym, subst, ap, ◌∙◌, arith, length-append, append_assoc}
use Rattle.std.specs.Prelude.{All, AllPairs}
use Rattle.std.proofs.lemmas.List.{get_or_append_left}
use Rattle.exact.specs.Plane.{SegmentBefore, Overlap}
use Rattle.sheet.specs.Pattern.{ExactCrease, ExactPattern, IsPattern, IsKey}
use Rattle.sheet.specs.Sheet.{ExactSheet}

pub all_front : {X : Type 0} (P : X → Type 0) (xs ys : List X) → All P (xs ++ ys) → All P xs
all_front P xs ys h = λ i d l. subst P (get_or_append_left xs ys d i l) (h i d (omega (arith, l, length-append xs ys)))

pairs_front : {X : Type 0} (R : X → X → Type 0) (xs ys : List X) → AllPairs R (xs ++ ys) → AllPairs R xs
pairs_front R xs ys h = λ i j d l m.
    subst (λ x. R x (get_or xs j d)) (get_or_append_left xs ys d i (omega (arith, l, m)))
    (subst (R (get_or (xs ++ ys) i d)) (get_or_append_left xs ys d j m) (h i j d l (omega (arith, m, length-append xs ys))))

pub front_pattern : (sheet : ExactSheet) (xs ys : List ExactCrease) → IsPattern (record { sheet = sheet; creases = xs ++ ys }) → IsPattern (record { sheet = sheet; creases = xs })
front_pattern sheet xs ys p = record {
  sheet = p.sheet;
  keys = all_front (λ (f : ExactCrease). IsKey sheet f.seg) xs ys p.keys;
  ordered = pairs_front (λ (f g : ExactCrease). SegmentBefore f.seg g.seg) xs ys p.ordered;
  apart = pairs_front (λ (f g : ExactCrease). ¬ Overlap f.seg g.seg) xs ys p.apart;
  few = omega (arith, p.few, length-append xs ys);
}

-- what was taken with the next crease is a pattern
pub taken_pattern : (whole : ExactPattern) (done rest next : List ExactCrease) (f : ExactCrease) → IsPattern whole → done ++ rest ≡ whole.creases → rest ≡ f ∷ next → IsPattern (record { sheet = whole.sheet; creases = done ++ f ∷ [] })
taken_pattern whole done rest next f p e s =
    let on : List ExactCrease → ExactPattern = λ xs. record { sheet = whole.sheet; creases = xs } in
    front_pattern whole.sheet (done ++ f ∷ []) next
    (subst (λ (xs : List ExactCrease). IsPattern (on xs)) (sym (append_assoc done (f ∷ []) next)) (subst (λ (xs : List ExactCrease). IsPattern (on (done ++ xs))) s (subst (λ (xs : List ExactCrease). IsPattern (on xs)) (sym e) p)))

-- the next one goes from what is left to what was taken
pub moved : (whole done rest next : List ExactCrease) (f : ExactCrease) → done ++ rest ≡ whole → rest ≡ f ∷ next → (done ++ f ∷ []) ++ next ≡ whole
moved whole done rest next f e s = append_assoc done (f ∷ []) next ∙ ap (λ (xs : List ExactCrease). done ++ xs) (sym s) ∙ e
