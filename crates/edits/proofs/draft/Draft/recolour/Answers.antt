use Rattle.creases.specs.Standing.{AreStanding}
use Rattle.edits.specs.CreaseSet.{AreCreases}
use Rattle.edits.specs.Recolour.{StandsRecoloured}
use Rattle.edits.specs.Pieces.{AreCut, IsRecoloured, AllReplaced}
use Rattle.edits.proofs.drawings.CutPieces.{if_both_ok}
use Rattle.edits.proofs.drawings.CutAll.{are_cut, recoloured_lists}
use Rattle.edits.proofs.draft.Draft.recolour.Goals as goal

pub paint_all-requires : goal.paint_all-requires
paint_all-requires c = are_cut c.args.self.now.creases c.in_ok-overlapped.overlapped.items c.deref.result.now c.args.seg.now c.deref.ensures.value c.in_ok-overlapped.ensures.standing c.requires c.in_ok-overlapped.ensures.members c.in_ok-overlapped.ensures.once

pub returns-clause-recoloured : goal.returns-clause-recoloured
returns-clause-recoloured c =
    let old = c.args.self.now.creases in
    let s = c.args.seg.now in
    let xs = c.deref.result.now in
    let new = c.paint_all.new.self.creases in
    let h : AreCut old s xs = are_cut old c.in_ok-overlapped.overlapped.items xs s c.deref.ensures.value c.in_ok-overlapped.ensures.standing c.requires c.in_ok-overlapped.ensures.members c.in_ok-overlapped.ensures.once in
    if_both_ok c.paint_all.result (AllReplaced (IsRecoloured s c.args.colour) old xs new) (AreStanding new) (AreCreases (StandsRecoloured old s c.args.colour) new) (recoloured_lists old new xs s c.args.colour h)
    c.paint_all.ensures.painted c.paint_all.ensures.standing
