use Rattle.std.proofs.Common.{take}
use Rattle.rows.specs.Reading.{AreRowsOf}
use Rattle.rows.proofs.crease_rows.creases_of.Given as goal

abbrev pub invariant-loop-row : goal.invariant-loop-row
invariant-loop-row l = AreRowsOf (take l.row-index l.rows) l.creases.items
