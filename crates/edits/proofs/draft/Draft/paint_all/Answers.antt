use Rattle.std.proofs.Common.{refl, subst, ◌∙◌}
use Rattle.std.proofs.lemmas.List.{take_all}
use Rattle.edits.specs.Pieces.{IsRecoloured, AllReplaced}
use Rattle.edits.proofs.drawings.CutAll.{none_replaced, next_cut, next_replaced, recoloured_on}
use Rattle.edits.proofs.draft.Draft.paint_all.Goals as goal

pub loop-crease-init : goal.loop-crease-init
loop-crease-init c = record { replaced = none_replaced (IsRecoloured c.args.seg.now c.args.colour) c.args.self.now.creases; standing = c.requires.standing; pattern = refl }

pub paint-requires : goal.paint-requires
paint-requires c = next_cut (IsRecoloured c.args.seg.now c.args.colour) c.args.self.now.creases c.loop-crease.self.creases c.args.overlapped.now c.args.seg.now c.loop-crease.crease-index c.crease-item.result c.requires c.loop-crease-test.true c.crease-item.is
    c.loop-crease.invariant.replaced c.loop-crease.invariant.standing

pub loop-crease-preserved : goal.loop-crease-preserved
loop-crease-preserved c = record {
  replaced = next_replaced (IsRecoloured c.args.seg.now c.args.colour) c.args.self.now.creases c.loop-crease.self.creases c.paint.new.self.creases c.args.overlapped.now c.args.seg.now c.loop-crease.crease-index c.crease-item.result c.requires (recoloured_on c.args.self.now.creases c.args.seg.now c.args.colour c.requires.standing)
      c.loop-crease-test.true c.crease-item.is c.loop-crease.invariant.replaced c.in_ok-paint.ensures.painted;
  standing = c.in_ok-paint.ensures.standing;
  pattern = c.paint.ensures.pattern ∙ c.loop-crease.invariant.pattern;
}

pub returns-clause-painted : goal.returns-clause-painted
returns-clause-painted c = subst (λ xs. AllReplaced (IsRecoloured c.args.seg.now c.args.colour) c.args.self.now.creases xs c.loop-crease.self.creases) (take_all c.loop-crease.crease-index c.args.overlapped.now c.loop-crease-test.false) c.loop-crease.invariant.replaced
