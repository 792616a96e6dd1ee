use Rattle.std.proofs.Common.{◌≡◌, ◌+◌, length}
use Rattle.subdivide.specs.Strips.{AreUnused}
use Rattle.subdivide.proofs.bands.add_strips.Given as goal

abbrev pub invariant-loop-turn : goal.invariant-loop-turn
invariant-loop-turn l = AreUnused l.strips.items × (length l.strips.items ≡ length l.fn.strips.items + l._turn)
