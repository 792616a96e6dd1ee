use Rattle.std.proofs.Common.{List, subst}
use Rattle.std.specs.Prelude.{All, Contains}
use Rattle.std.proofs.lemmas.List.{take_all}
use Rattle.sheet.specs.Pattern.{ExactCrease}
use Rattle.pattern.proofs.Stepping.{AreLeft, left_next, not_all_left}
use Rattle.pattern.proofs.callers.Told.{all_next, all_tested, refuted, shown, answers_no, answers_yes}
use Rattle.pattern.proofs.step.take_all.Goals as goal

pub returns-then-not-take-clause-all : goal.returns-then-not-take-clause-all
returns-then-not-take-clause-all c = answers_no (All (λ (f : ExactCrease). Contains c.args.creases.now f) c.args.gone.now)
    (not_all_left c.args.creases.now c.args.gone.now c.loop-crease.crease-index c.crease-item.result c.loop-crease.creases c.requires c.loop-crease-test.true c.crease-item.is c.loop-crease.invariant.left (refuted c.take.result c.if-not-take.true c.take.ensures.there))

pub loop-crease-preserved : goal.loop-crease-preserved
loop-crease-preserved c =
    let i = c.loop-crease.crease-index in
    let x = c.crease-item.result in record {
      there = all_next (λ (f : ExactCrease). Contains c.args.creases.now f) c.args.gone.now i x c.loop-crease-test.true c.crease-item.is c.loop-crease.invariant.there ((c.loop-crease.invariant.left x).0 (shown c.take.result c.if-not-take.false c.take.ensures.there)).0;
      left = left_next c.args.creases.now c.args.gone.now i x c.loop-crease.creases c.take.new.self c.loop-crease-test.true c.crease-item.is c.loop-crease.invariant.left c.take.ensures.taken;
    }

pub returns-clause-all : goal.returns-clause-all
returns-clause-all c = answers_yes (All (λ (f : ExactCrease). Contains c.args.creases.now f) c.args.gone.now) (all_tested (λ (f : ExactCrease). Contains c.args.creases.now f) c.args.gone.now c.loop-crease.crease-index c.loop-crease-test.false c.loop-crease.invariant.there)

pub returns-clause-left : goal.returns-clause-left
returns-clause-left c = λ _. subst (λ (xs : List ExactCrease). AreLeft c.args.creases.now xs c.loop-crease.creases) (take_all c.loop-crease.crease-index c.args.gone.now c.loop-crease-test.false) c.loop-crease.invariant.left
