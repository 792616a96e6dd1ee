use Rattle.std.proofs.Common.{refl, subst, ◌∙◌}
use Rattle.std.proofs.lemmas.List.{take_all}
use Rattle.edits.specs.Pieces.{IsPiece, AllReplaced}
use Rattle.edits.proofs.drawings.CutAll.{none_replaced, next_cut, next_replaced, pieces_on}
use Rattle.edits.proofs.draft.Draft.cut_all.Goals as goal

pub loop-crease-init : goal.loop-crease-init
loop-crease-init c = record { replaced = none_replaced (IsPiece c.args.seg.now) c.args.self.now.creases; standing = c.requires.standing; pattern = refl }

pub cut-requires : goal.cut-requires
cut-requires c = next_cut (IsPiece c.args.seg.now) c.args.self.now.creases c.loop-crease.self.creases c.args.overlapped.now c.args.seg.now c.loop-crease.crease-index c.crease-item.result c.requires c.loop-crease-test.true c.crease-item.is
    c.loop-crease.invariant.replaced c.loop-crease.invariant.standing

pub loop-crease-preserved : goal.loop-crease-preserved
loop-crease-preserved c = record {
  replaced = next_replaced (IsPiece c.args.seg.now) c.args.self.now.creases c.loop-crease.self.creases c.cut.new.self.creases c.args.overlapped.now c.args.seg.now c.loop-crease.crease-index c.crease-item.result c.requires (pieces_on c.args.self.now.creases c.args.seg.now)
      c.loop-crease-test.true c.crease-item.is c.loop-crease.invariant.replaced c.in_ok-cut.ensures.cut;
  standing = c.in_ok-cut.ensures.standing;
  pattern = c.cut.ensures.pattern ∙ c.loop-crease.invariant.pattern;
}

pub returns-clause-cut : goal.returns-clause-cut
returns-clause-cut c = subst (λ xs. AllReplaced (IsPiece c.args.seg.now) c.args.self.now.creases xs c.loop-crease.self.creases) (take_all c.loop-crease.crease-index c.args.overlapped.now c.loop-crease-test.false) c.loop-crease.invariant.replaced
