use Rattle.std.proofs.Common.{◌≡◌}
use Rattle.std.specs.Prelude.{◌↔◌}
use Rattle.projects.proofs.same.have_same_creases.Given as goal

abbrev pub invariant-loop-crease : goal.invariant-loop-crease
invariant-loop-crease l = (l.first.creases ≡ l.second.creases) ↔ (l.crease-iterator ≡ l.others)
