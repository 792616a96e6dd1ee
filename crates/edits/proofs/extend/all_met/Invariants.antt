use Rattle.std.proofs.Common.{◌≡◌, ◌++◌, List}
use Rattle.sheet.specs.Pattern.{ExactCrease}
use Rattle.edits.specs.Drafts.{with_creases}
use Rattle.edits.specs.SidesAndCreases.{IsSideOrCrease}
use Rattle.edits.specs.Sights.{Sees}
use Rattle.edits.proofs.extend.all_met.Given as goal

abbrev pub invariant-loop-crease : goal.invariant-loop-crease
invariant-loop-crease l = (done : List ExactCrease) × (done ++ l.crease-iterator ≡ l.pattern.creases) × Sees l.at l.dir (IsSideOrCrease (with_creases l.pattern done)) l.seen
