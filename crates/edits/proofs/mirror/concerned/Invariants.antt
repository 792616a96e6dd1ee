use Rattle.std.proofs.Common.{◌≡◌, ◌++◌, List}
use Rattle.sheet.specs.Pattern.{ExactCrease}
use Rattle.edits.specs.Mirror.{IsConcerned}
use Rattle.edits.proofs.mirrors.KeptCreases.{AreKept}
use Rattle.edits.proofs.mirror.concerned.Given as goal

abbrev pub invariant-loop-crease : goal.invariant-loop-crease
invariant-loop-crease l = (done : List ExactCrease) × (done ++ l.crease-iterator ≡ l.pattern.creases) × AreKept (λ f. IsConcerned l.at l.dir f.seg) done l.concerned.items
