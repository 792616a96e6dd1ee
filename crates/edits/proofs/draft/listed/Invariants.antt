use Rattle.std.proofs.Common.{◌≡◌, ◌++◌}
use Rattle.edits.proofs.draft.listed.Given as goal

abbrev pub invariant-loop-crease : goal.invariant-loop-crease
invariant-loop-crease l = l.list.items ++ l.crease-iterator ≡ l.map
