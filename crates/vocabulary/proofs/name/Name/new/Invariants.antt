use Rattle.std.proofs.Common.{◌≡◌, take}
use Rattle.std.specs.Prelude.{All}
use Rattle.vocabulary.specs.Names.{IsNameByte}
use Rattle.vocabulary.proofs.name.Name.new.Given as goal

abbrev pub invariant-loop-byte : goal.invariant-loop-byte
invariant-loop-byte l = record {
  text : l.text.bytes ≡ take l.byte-index l.bytes;
  each : All IsNameByte (take l.byte-index l.bytes);
}
