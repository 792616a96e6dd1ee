use Rattle.std.proofs.Common.{◌≤◌}
use Rattle.judge.proofs.Faults.{AreFaultsBelow}
use Rattle.judge.proofs.fault.faults_of.Given as goal

abbrev pub invariant-loop-at : goal.invariant-loop-at
invariant-loop-at g l = record { found : AreFaultsBelow l.live l.at-items l.at-index l.faults.items; counted : l.fn.steps ≤ l.steps }
