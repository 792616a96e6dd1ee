use Rattle.std.proofs.Common.{◌≡◌, take}
use Rattle.std.specs.Prelude.{Contains}
use Rattle.exact.specs.Plane.{ExactSegment}
use Rattle.sheet.specs.Sheet.{sides}
use Rattle.geometry.specs.Rays.{RunsAlong}
use Rattle.edits.proofs.bisect.has_side.Given as goal

abbrev pub invariant-loop-side : goal.invariant-loop-side
invariant-loop-side l = (l.side-items ≡ sides l.sheet) × ((s : ExactSegment) → Contains (take l.side-index (sides l.sheet)) s → ¬ RunsAlong l.at l.dir s)
