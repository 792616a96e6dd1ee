use Rattle.std.proofs.Common.{◌≡◌, ◌++◌, List}
use Rattle.sheet.specs.Pattern.{ExactCrease}
use Rattle.pattern.specs.Deltas.{IsWithout}
use Rattle.pattern.proofs.difference.without.Given as goal

abbrev pub invariant-loop-crease : goal.invariant-loop-crease
invariant-loop-crease l = (done : List ExactCrease) × (done ++ l.crease-iterator ≡ l.pattern.creases) × IsWithout done l.other.creases l.only.items
