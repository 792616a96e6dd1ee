use Rattle.std.proofs.Common.{refl, subst}
use Rattle.sheet.specs.Pattern.{ExactCrease}
use Rattle.edits.specs.Drawn.{Drawn}
use Rattle.edits.proofs.drawings.CutPieces.{if_ok}
use Rattle.edits.proofs.drawings.CutAll.{left_apart, drawn_lists}
use Rattle.edits.proofs.draft.Draft.draw.Goals as goal

pub put_in-requires-clause-apart : goal.put_in-requires-clause-apart
put_in-requires-clause-apart c =
    let d : ExactCrease = record { seg = c.crease.inside.seg; colour = c.crease.inside.colour } in
    left_apart c.args.self.now.creases c.erase.new.self.creases d d.seg refl c.in_ok-erase.ensures.left

pub returns-clause-drawn : goal.returns-clause-drawn
returns-clause-drawn c =
    let d : ExactCrease = record { seg = c.crease.inside.seg; colour = c.crease.inside.colour } in
    if_ok c.put_in.result _ (Drawn c.args.self.now.creases c.args.crease.now c.put_in.new.self.creases)
    (λ put. subst (λ e. Drawn c.args.self.now.creases e c.put_in.new.self.creases) c.crease.view_is (drawn_lists c.args.self.now.creases c.erase.new.self.creases c.put_in.new.self.creases d d.seg refl c.in_ok-erase.ensures.left put c.put_in.ensures.standing)) c.put_in.ensures.put
