use Rattle.std.proofs.Common.{◌≡◌, ℕ, ◌<◌, Some}
use Rattle.std.specs.Prelude.{slice_get}
use Rattle.forms.specs.Common.{IsSmall}
use Rattle.subdivide.specs.declared.line.MarkedLine.{MarkedLine}
use Rattle.subdivide.proofs.early.are_small.Given as goal

abbrev pub invariant-loop-line : goal.invariant-loop-line
invariant-loop-line l = (i : ℕ) (m : MarkedLine) → i < l.line-index → slice_get l.lines i ≡ Some m → IsSmall l.d m.seg.p
