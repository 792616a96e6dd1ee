use Rattle.std.proofs.Common.{◌∙◌, arith, ap, refl}
use Rattle.std.specs.Prelude.{unsigned_abs}
use Rattle.plane.proofs.Passed.{passed_as}
use Rattle.plane.proofs.Places.{offset_made}
use Rattle.plane.proofs.support.SupportLine.through.Goals as goal

pub returns-clause-offset : goal.returns-clause-offset
returns-clause-offset c = offset_made c.args.dir c.args.p.now _ c.args.p.now c.offset-offset.result _ _ c.from.result c.new.result
    (passed_as c.a.result c.offset-offset.result.a c.a.ensures.value (omega (arith, ap unsigned_abs c.a.ensures.value, c.a.ensures.bound)))
    (passed_as c.b.result c.offset-offset.result.b c.b.ensures.value (omega (arith, ap unsigned_abs c.b.ensures.value, c.b.ensures.bound)))
    (c.from.ensures ∙ c.denominator.ensures.value) c.p.view_is refl
    (c.offset-offset.ensures ∙ rw (c.from_origin.ensures.x, c.from_origin.ensures.y) refl)
    c.new.ensures.value
