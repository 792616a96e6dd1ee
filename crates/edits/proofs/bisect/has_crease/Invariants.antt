use Rattle.std.proofs.Common.{◌≡◌, ◌++◌, List}
use Rattle.exact.specs.Plane.{ExactSegment}
use Rattle.sheet.specs.Pattern.{ExactCrease}
use Rattle.geometry.specs.Rays.{RunsAlong}
use Rattle.edits.specs.SidesAndCreases.{IsCrease}
use Rattle.edits.proofs.bisect.has_crease.Given as goal

abbrev pub invariant-loop-crease : goal.invariant-loop-crease
invariant-loop-crease l = (done : List ExactCrease) × (done ++ l.crease-iterator ≡ l.pattern.creases) × ((s : ExactSegment) → IsCrease done s → ¬ RunsAlong l.at l.dir s)
