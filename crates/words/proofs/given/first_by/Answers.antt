use Rattle.std.proofs.Common.{rules, refl}
use Rattle.words.proofs.GivenLists.{begins_so, no_found}
use Rattle.words.proofs.given.first_by.Goals as goal

pub returns-in_err-value-clause-none : goal.returns-in_err-value-clause-none
returns-in_err-value-clause-none c =
    λ _. no_found c.args.word.now _ _ (λ v. let t = c.may_be_value.ensures.1 v in search (rules, t)) c.cut.ensures.value (c.in_err-value.ensures.none refl)

pub returns-clause-some : goal.returns-clause-some
returns-clause-some c =
    begins_so c.args.word.now _ _ c.in_ok-argument.argument c.in_ok-value.value.now _ _ c.cut.ensures.name c.cut.ensures.value c.in_ok-argument.ensures c.in_ok-value.ensures.some (c.may_be_value-2.ensures.0 c.if-not-may_be_value.false)
