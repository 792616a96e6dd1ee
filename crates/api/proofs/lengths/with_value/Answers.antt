use Rattle.std.proofs.Common.{◌≡◌, ◌∙◌, ◌++◌, ◌∷◌, [], List, ℕ, sym, subst}
use Rattle.std.proofs.lemmas.Slice.Eq.{bytes_eq-Decides}
use Rattle.api.specs.declared.lengths.Length.{Length}
use Rattle.api.specs.declared.lengths.Length.TheVariants.{Given, Wrong}
use Rattle.api.specs.Fields.{IsLength}
use Rattle.api.proofs.FieldValues.{same_more, not_nil, differ, wrong_more}
use Rattle.api.proofs.lengths.with_value.Goals as goal

at : (texts : List (List ℕ)) (found is : Length) → found ≡ is → IsLength texts found → IsLength texts is
at texts found is e h = subst (IsLength texts) e h

pub returns-then-eq : goal.returns-then-eq
returns-then-eq c = λ texts h.
    let k = at texts c.args.found (Given c.in-Given.digits) c.in-Given.is h in
    subst (IsLength (texts ++ c.args.value.now ∷ [])) (sym c.in-Given.is) (
      not_nil texts c.args.value.now,
      k.1,
      same_more texts c.in-Given.digits.now c.args.value.now
          ((bytes_eq-Decides c.in-Given.digits.now c.args.value.now).0 (sym c.eq.ensures ∙ c.if-eq.true)) k.2,
    )

pub returns-else-eq : goal.returns-else-eq
returns-else-eq c = λ texts h.
    let k = at texts c.args.found (Given c.in-Given.digits) c.in-Given.is h in
    differ texts c.in-Given.digits.now c.args.value.now k.0 k.2
    (λ e. let same = (bytes_eq-Decides c.in-Given.digits.now c.args.value.now).1 e in
    let other = sym c.eq.ensures ∙ c.if-eq.false in cc)

pub returns-in-Wrong : goal.returns-in-Wrong
returns-in-Wrong c = λ texts h. wrong_more texts (c.args.value.now ∷ []) (at texts c.args.found Wrong c.in-Wrong.is h)
