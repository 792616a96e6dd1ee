use Rattle.std.proofs.lemmas.Result.{IfOk-at_ok}
use Rattle.exact.specs.Plane.{ExactSegment, IsSegment}
use Rattle.plane.specs.Segments.{HasEnds, IsHeld}
use Rattle.edits.proofs.ears.Creases.{inner_key, makes_joined}
use Rattle.edits.proofs.rabbit_ear.spoke.Goals as goal

pub unwrap-seg-requires : goal.unwrap-seg-requires
unwrap-seg-requires c = makes_joined c.new.result c.args.from.now c.args.centre.now c.requires.joined c.new.ensures.same_point.0 (λ e. (c.new.ensures.not_direction.0 e).1)

pub returns-clause-key : goal.returns-clause-key
returns-clause-key c =
    let s = c.unwrap-seg.result in
    let held = IfOk-at_ok IsHeld c.unwrap-seg.ensures c.new.ensures.held in
    inner_key c.args.sheet.now c.w-width.ensures.sheet s c.args.from.now c.args.centre.now (IfOk-at_ok (λ (t : ExactSegment). IsSegment t × HasEnds t c.args.from.now c.args.centre.now) c.unwrap-seg.ensures c.new.ensures.ok)
    held.from held.to c.requires.from c.requires.centre
