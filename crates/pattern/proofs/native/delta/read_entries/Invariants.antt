use Rattle.std.proofs.Common.{◌-◌, length}
use Rattle.pattern.specs.DeltaReader.{AreReadUpTo}
use Rattle.pattern.proofs.native.delta.read_entries.Given as goal

abbrev pub invariant-loop-last : goal.invariant-loop-last
invariant-loop-last l = AreReadUpTo l.sign l.text l.at l.creases.items l.last

abbrev pub decreases-loop-last : goal.decreases-loop-last
decreases-loop-last l = length l.text - l.at
