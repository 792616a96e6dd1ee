use Rattle.std.proofs.Common.{◌≡◌, ℕ, List, sym, subst, ◌∙◌, arith}
use Rattle.pattern.specs.DeltaText.{IsDeltaText}
use Rattle.rows.specs.Rows.{ExactStepRow}
use Rattle.projects.proofs.Callers.{some_gives}
use Rattle.rows.proofs.CreaseRows.{missing}
use Rattle.rows.proofs.StepRows.{not_there, no_delta, taken_next}
use Rattle.rows.proofs.step_rows.taken.Goals as goal

pos_of : (r s : ExactStepRow) → r ≡ s → r.pos ≡ s.pos
pos_of r s e = λ i. (e i).pos

body_of : (r s : ExactStepRow) → r ≡ s → r.body ≡ s.body
body_of r s e = λ i. (e i).body

pub returns-then-step-pos-clause-none : goal.returns-then-step-pos-clause-none
returns-then-step-pos-clause-none c = λ _ deltas h. not_there c.args.low c.args.steps.now c.loop-step.pos c.loop-step.step-index c.loop-step.history c.step-item.result deltas c.loop-step-test.true c.step-item.is c.loop-step.invariant
    (λ e. omega (arith, c.if-step-pos.true, e, pos_of _ c.step-item.result c.step.view_is)) h

pub returns-in_default-clause-none : goal.returns-in_default-clause-none
returns-in_default-clause-none c = λ _ deltas h. no_delta c.args.low c.args.steps.now c.loop-step.step-index c.step-item.result deltas c.loop-step-test.true c.step-item.is
    (λ d t. c.in_ok-delta.ensures.none (missing _ c.in_default.is) d (subst (λ (x : List ℕ). IsDeltaText x d) (sym (c.as_bytes.ensures.value ∙ body_of _ c.step-item.result c.step.view_is)) t)) h

pub loop-step-preserved : goal.loop-step-preserved
loop-step-preserved c =
    let text = some_gives (IsDeltaText c.as_bytes.result.now) _ c.in-Some.delta c.in-Some.is c.in_ok-delta.ensures.some in
    taken_next c.args.low c.args.steps.now c.loop-step.pos c.loop-step.step-index c.loop-step.history c.push.new.self c.step-item.result c.in-Some.delta c.loop-step-test.true c.step-item.is c.requires.kept c.loop-step.invariant
    (omega (arith, c.if-step-pos.false, pos_of _ c.step-item.result c.step.view_is)) (subst (λ (x : List ℕ). IsDeltaText x c.in-Some.delta) (c.as_bytes.ensures.value ∙ body_of _ c.step-item.result c.step.view_is) text) c.in_ok-push.ensures.ok
