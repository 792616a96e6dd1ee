use Rattle.rows.proofs.StepRows.{AreTaken}
use Rattle.rows.proofs.step_rows.taken.Given as goal

abbrev pub invariant-loop-step : goal.invariant-loop-step
invariant-loop-step l = AreTaken l.low l.steps l.pos l.step-index l.history
