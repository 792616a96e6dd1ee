use Rattle.std.proofs.Common.{◌≡◌, take}
use Rattle.std.specs.Prelude.{Contains}
use Rattle.sheet.specs.Sheet.{sides}
use Rattle.edits.specs.Sights.{Sees}
use Rattle.edits.proofs.extend.sides_met.Given as goal

abbrev pub invariant-loop-side : goal.invariant-loop-side
invariant-loop-side l = (l.side-items ≡ sides l.sheet) × Sees l.at l.dir (Contains (take l.side-index (sides l.sheet))) l.seen
