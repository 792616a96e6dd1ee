use Rattle.rows.proofs.StepRows.{AreBack}
use Rattle.rows.proofs.step_rows.take_back.Given as goal

abbrev pub invariant-loop : goal.invariant-loop
invariant-loop l = AreBack l.fn.history l.counter l.history
