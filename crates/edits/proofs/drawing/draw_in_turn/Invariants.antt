use Rattle.std.proofs.Common.{◌≡◌, take}
use Rattle.std.specs.Prelude.{Ok}
use Rattle.sheet.specs.Pattern.{IsPattern}
use Rattle.edits.specs.Drafts.{pattern_of}
use Rattle.edits.specs.Drawn.{DrawnInTurn}
use Rattle.edits.proofs.drawing.draw_in_turn.Given as goal

abbrev pub invariant-loop-crease : goal.invariant-loop-crease
invariant-loop-crease l = record {
  drawn : DrawnInTurn (take l.crease-index l.creases) l.fn.draft.creases (Ok l.draft.creases);
  pattern : IsPattern (pattern_of l.draft);
  same : l.draft.pattern ≡ l.fn.draft.pattern;
}
