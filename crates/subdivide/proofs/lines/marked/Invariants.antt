use Rattle.subdivide.proofs.Listed.{AreMarkedFirst}
use Rattle.subdivide.proofs.lines.marked.Given as goal

abbrev pub invariant-loop-line : goal.invariant-loop-line
invariant-loop-line l = AreMarkedFirst l.scale l.lines l.line-index l.marked.items
