use Rattle.std.proofs.Common.{◌≡◌, [], arith}
use Rattle.history.specs.Histories.{ExactHistory}
use Rattle.rows.specs.Rows.{AreStepsFrom}
use Rattle.projects.proofs.Callers.{some_gives}
use Rattle.rows.proofs.StepRows.{steps_long, history_made, history_long}
use Rattle.rows.proofs.step_rows.history_of.Goals as goal

pub returns-then-steps-row-clause-none : goal.returns-then-steps-row-clause-none
returns-then-steps-row-clause-none c = λ _ history h. omega (arith, c.if-steps-row.true, history_long c.args.row.now c.args.steps.now history h)

pub take_back-requires : goal.take_back-requires
take_back-requires c =
    let all = some_gives (λ (h : ExactHistory). (h.future ≡ []) × AreStepsFrom c.args.row.now.low c.args.steps.now h.past) _ c.in-Some.history c.in-Some.is c.in_ok-history.ensures.some in
    omega (arith, steps_long c.args.row.now.low c.args.steps.now c.in-Some.history.past all.1, c.if-steps-row.false, c.requires.low, c.requires.mark)

pub returns-clause-some : goal.returns-clause-some
returns-clause-some c =
    let all = some_gives (λ (h : ExactHistory). (h.future ≡ []) × AreStepsFrom c.args.row.now.low c.args.steps.now h.past) _ c.in-Some.history c.in-Some.is c.in_ok-history.ensures.some in
    history_made c.args.row.now c.args.steps.now c.in-Some.history c.take_back.new.history c.requires (omega (arith, c.if-steps-row.false)) all.0 all.1 c.in_ok-take_back.ensures.all c.in_ok-take_back.ensures.count
