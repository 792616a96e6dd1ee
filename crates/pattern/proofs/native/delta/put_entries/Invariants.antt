use Rattle.std.proofs.Common.{◌≡◌, ◌++◌, drop}
use Rattle.pattern.specs.DeltaText.{entries_text}
use Rattle.pattern.proofs.native.delta.put_entries.Given as goal

abbrev pub invariant-loop-crease : goal.invariant-loop-crease
invariant-loop-crease l = l.text.items ++ entries_text l.sign (drop l.crease-index l.creases) ≡ l.fn.text.items ++ entries_text l.sign l.creases
