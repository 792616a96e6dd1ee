use Rattle.std.proofs.Common.{rules, ◌≡◌, ◌≢◌, refl}
use Rattle.words.specs.Grammar.{giving}
use Rattle.words.proofs.GivenLists.{none_passed, pass, found, not_found}
use Rattle.words.proofs.given.text_of.Goals as goal

pub loop-first-init : goal.loop-first-init
loop-first-init c = λ given w r. none_passed given c.args.argument _ w r

pub returns-then-eq : goal.returns-then-eq
returns-then-eq c = λ given w r.
    let e : c.in-Some.first.argument ≡ c.args.argument = search rules in
    found given c.args.argument _ _ (giving c.in-Some.first.argument c.in-Some.first.value.now) c.in-Some.ensures.some e (c.loop-first.invariant given w r)

pub loop-first-preserved : goal.loop-first-preserved
loop-first-preserved c = λ given w r.
    let n : c.args.argument ≢ c.in-Some.first.argument = λ e. search (rules, e) in
    pass given c.args.argument _ _ (giving c.in-Some.first.argument c.in-Some.first.value.now) c.in-Some.ensures.some n (c.loop-first.invariant given w r)

pub returns : goal.returns
returns c = λ given w r. not_found given c.args.argument _ (c.in_default.ensures.none refl) (c.loop-first.invariant given w r)
