use Rattle.creases.specs.Standing.{AreStanding}
use Rattle.edits.specs.CreaseSet.{AreCreases}
use Rattle.edits.specs.Drawn.{IsLeft}
use Rattle.edits.specs.Pieces.{AreCut, IsPiece, AllReplaced}
use Rattle.edits.proofs.drawings.CutPieces.{if_both_ok}
use Rattle.edits.proofs.drawings.CutAll.{are_cut, erased_lists}
use Rattle.edits.proofs.draft.Draft.erase.Goals as goal

pub cut_all-requires : goal.cut_all-requires
cut_all-requires c = are_cut c.args.self.now.creases c.in_ok-overlapped.overlapped.items c.deref.result.now c.args.seg.now c.deref.ensures.value c.in_ok-overlapped.ensures.standing c.requires c.in_ok-overlapped.ensures.members c.in_ok-overlapped.ensures.once

pub returns-clause-left : goal.returns-clause-left
returns-clause-left c =
    let old = c.args.self.now.creases in
    let s = c.args.seg.now in
    let xs = c.deref.result.now in
    let new = c.cut_all.new.self.creases in
    let h : AreCut old s xs = are_cut old c.in_ok-overlapped.overlapped.items xs s c.deref.ensures.value c.in_ok-overlapped.ensures.standing c.requires c.in_ok-overlapped.ensures.members c.in_ok-overlapped.ensures.once in
    if_both_ok c.cut_all.result (AllReplaced (IsPiece s) old xs new) (AreStanding new) (AreCreases (IsLeft old s) new) (erased_lists old new xs s h) c.cut_all.ensures.cut c.cut_all.ensures.standing
