use Rattle.std.proofs.Common.{take}
use Rattle.std.specs.Prelude.{All, Ok}
use Rattle.sheet.specs.Pattern.{IsKey}
use Rattle.edits.specs.Lines.{LinesOf}
use Rattle.edits.proofs.lines.test_lines.Given as goal

abbrev pub invariant-loop-crease : goal.invariant-loop-crease
invariant-loop-crease l = record {
  lines : LinesOf l.sheet (take l.crease-index l.creases) (Ok (take l.crease-index l.creases));
  keys : All (λ f. IsKey l.sheet f.seg) (take l.crease-index l.creases);
}
