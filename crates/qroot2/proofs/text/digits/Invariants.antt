use Rattle.std.proofs.Common.{◌≡◌, take}
use Rattle.qroot2.specs.Digits.{AllDigits, capped_size, value_on}
use Rattle.qroot2.proofs.text.digits.Given as goal

abbrev pub invariant-loop-byte : goal.invariant-loop-byte
invariant-loop-byte l = record {
  digits : AllDigits (take l.byte-index l.bytes);
  value : l.value ≡ capped_size (value_on 0 (take l.byte-index l.bytes));
}
