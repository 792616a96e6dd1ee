use Rattle.std.proofs.Common.{◌≡◌, take}
use Rattle.creases.specs.Standing.{AreStanding}
use Rattle.edits.specs.Pieces.{IsPiece, AllReplaced}
use Rattle.edits.proofs.draft.Draft.cut_all.Given as goal

abbrev pub invariant-loop-crease : goal.invariant-loop-crease
invariant-loop-crease l = record {
  replaced : AllReplaced (IsPiece l.seg) l.fn.self.creases (take l.crease-index l.overlapped) l.self.creases;
  standing : AreStanding l.self.creases;
  pattern : l.self.pattern ≡ l.fn.self.pattern;
}
