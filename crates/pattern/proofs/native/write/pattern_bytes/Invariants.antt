use Rattle.std.proofs.Common.{◌≡◌, ◌++◌}
use Rattle.pattern.specs.NativeText.{lines_text, pattern_text}
use Rattle.pattern.proofs.native.write.pattern_bytes.Given as goal

abbrev pub invariant-loop-crease : goal.invariant-loop-crease
invariant-loop-crease l = l.text.items ++ lines_text l.crease-iterator ≡ pattern_text l.pattern
