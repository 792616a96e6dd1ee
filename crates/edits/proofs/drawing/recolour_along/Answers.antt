use Rattle.std.proofs.Common.{◌≤◌, length, refl, inl}
use Rattle.sheet.specs.Pattern.{IsPattern, crease_limit}
use Rattle.pattern.proofs.callers.Told.{refuted, shown}
use Rattle.edits.specs.Drafts.{pattern_of}
use Rattle.edits.specs.Rules.{Gives, Then}
use Rattle.edits.specs.CreaseSet.{AreCreases}
use Rattle.edits.specs.Drawn.{Counted}
use Rattle.edits.specs.Erase.{IsBare}
use Rattle.edits.specs.Recolour.{StandsRecoloured}
use Rattle.edits.specs.declared.refusal.EditBad.TheVariants as bad
use Rattle.edits.proofs.Answering.{then_ok, then_err, unless_ok, unless_err}
use Rattle.edits.proofs.drawings.CutPieces.{if_ok}
use Rattle.edits.proofs.drafts.DraftLists.{made_of}
use Rattle.edits.proofs.drawings.StillPatterns.{recoloured_pattern}
use Rattle.edits.proofs.drawing.recolour_along.Goals as goal

pub returns-then-branch-clause-err : goal.returns-then-branch-clause-err
returns-then-branch-clause-err c = inl (shown c.in_ok-is_bare.field-0 c.if-branch.true c.in_ok-is_bare.ensures, refl)

pub returns-clause-ok : goal.returns-clause-ok
returns-clause-ok c =
    let Left = Gives (AreCreases (StandsRecoloured c.args.draft.now.creases c.args.seg.now c.args.colour)) in
    unless_ok (IsBare c.args.draft.now.creases c.args.seg.now) bad.NoCrease (Then Left Counted) c.count.result c.recolour.new.self.creases (refuted c.in_ok-is_bare.field-0 c.if-branch.false c.in_ok-is_bare.ensures)
    (then_ok Left Counted c.count.result c.recolour.new.self.creases c.recolour.new.self.creases c.in_ok-recolour.ensures.recoloured c.count.ensures.ok)

pub returns-clause-err : goal.returns-clause-err
returns-clause-err c =
    let Left = Gives (AreCreases (StandsRecoloured c.args.draft.now.creases c.args.seg.now c.args.colour)) in
    unless_err (IsBare c.args.draft.now.creases c.args.seg.now) bad.NoCrease (Then Left Counted) c.count.result (refuted c.in_ok-is_bare.field-0 c.if-branch.false c.in_ok-is_bare.ensures)
    (then_err Left Counted c.count.result c.recolour.new.self.creases c.in_ok-recolour.ensures.recoloured c.count.ensures.err)

pub returns-clause-pattern : goal.returns-clause-pattern
returns-clause-pattern c =
    let old = c.args.draft.now in
    let new = c.recolour.new.self in
    if_ok c.count.result (length new.creases ≤ crease_limit) (IsPattern (pattern_of new))
    (λ few. made_of old new c.recolour.ensures.pattern (recoloured_pattern (pattern_of old) c.args.seg.now c.args.colour new.creases c.requires.pattern c.requires.key c.in_ok-recolour.ensures.recoloured few)) c.count.ensures.few
