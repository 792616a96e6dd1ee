use Rattle.std.proofs.Common.{◌≡◌, ◌≤◌, ◌-◌, ◌++◌, length, drop}
use Rattle.pattern.specs.NativeText.{pattern_text}
use Rattle.pattern.specs.NativeReader.{IsReading, on}
use Rattle.pattern.proofs.native.read.read_pattern.Given as goal

abbrev pub invariant-loop-at : goal.invariant-loop-at
invariant-loop-at l = record {
  within : l.at ≤ length l.bytes;
  reading : IsReading (on l.reader.sheet l.reader.creases) l.reader.last;
  text : l.bytes ≡ pattern_text (on l.reader.sheet l.reader.creases) ++ drop l.at l.bytes;
}

abbrev pub decreases-loop-at : goal.decreases-loop-at
decreases-loop-at l = length l.bytes - l.at
