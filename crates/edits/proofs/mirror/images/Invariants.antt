use Rattle.std.proofs.Common.{take}
use Rattle.std.specs.Prelude.{All, Ok}
use Rattle.sheet.specs.Pattern.{IsKey}
use Rattle.edits.specs.Rules.{ForEach}
use Rattle.edits.specs.Mirror.{ImageOf}
use Rattle.edits.proofs.mirror.images.Given as goal

abbrev pub invariant-loop-crease : goal.invariant-loop-crease
invariant-loop-crease l = record {
  images : ForEach (ImageOf l.sheet l.at l.dir) (take l.crease-index l.creases) (Ok l.images.items);
  keys : All (λ f. IsKey l.sheet f.seg) l.images.items;
}
