use Rattle.std.proofs.Common.{◌≤◌, length}
use Rattle.sheet.specs.Pattern.{IsPattern, crease_limit}
use Rattle.edits.specs.Drafts.{pattern_of}
use Rattle.edits.specs.Rules.{Gives}
use Rattle.edits.specs.Drawn.{Drawn, Counted}
use Rattle.edits.proofs.Answering.{then_ok, then_err}
use Rattle.edits.proofs.drawings.CutPieces.{if_ok}
use Rattle.edits.proofs.drafts.DraftLists.{made_of}
use Rattle.edits.proofs.drawings.StillKeys.{drawn_pattern}
use Rattle.edits.proofs.drawing.draw_one.Goals as goal

pub returns-clause-ok : goal.returns-clause-ok
returns-clause-ok c = then_ok (Gives (Drawn c.args.draft.now.creases c.args.crease.now)) Counted c.count.result c.draw.new.self.creases c.draw.new.self.creases c.in_ok-draw.ensures.drawn c.count.ensures.ok

pub returns-clause-err : goal.returns-clause-err
returns-clause-err c = then_err (Gives (Drawn c.args.draft.now.creases c.args.crease.now)) Counted c.count.result c.draw.new.self.creases c.in_ok-draw.ensures.drawn c.count.ensures.err

pub returns-clause-pattern : goal.returns-clause-pattern
returns-clause-pattern c =
    let old = c.args.draft.now in
    let new = c.draw.new.self in
    if_ok c.count.result (length new.creases ≤ crease_limit) (IsPattern (pattern_of new))
    (λ few. made_of old new c.draw.ensures.pattern (drawn_pattern (pattern_of old) c.args.crease.now new.creases c.requires.pattern c.requires.key c.in_ok-draw.ensures.drawn few)) c.count.ensures.few
