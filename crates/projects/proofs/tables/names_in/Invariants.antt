use Rattle.std.proofs.Common.{◌≡◌, ◌++◌}
use Rattle.projects.specs.Tables.{names_of}
use Rattle.projects.proofs.tables.names_in.Given as goal

abbrev pub invariant-loop-name : goal.invariant-loop-name
invariant-loop-name l = l.names.items ++ l.name-iterator ≡ names_of l.tables.entries
