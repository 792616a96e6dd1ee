use Rattle.std.proofs.Common.{ℕ, ◌<◌, subst}
use Rattle.std.proofs.lemmas.Result.{IfOk-at_ok}
use Rattle.plane.specs.Segments.{IsHeld}
use Rattle.edits.proofs.extensions.Extended.{ray_makes}
use Rattle.edits.proofs.extend.segment_to.Goals as goal

pub unwrap-requires : goal.unwrap-requires
unwrap-requires c = ray_makes c.new.result c.args.dir c.args.at.now c.args.end.now (subst (λ (k : ℕ). k < 16) c.number-number.ensures.value c.number-number.ensures.small) c.requires c.new.ensures.same_point.0 (λ e. (c.new.ensures.not_direction.0 e).1)

pub returns-clause-from : goal.returns-clause-from
returns-clause-from c = let held = IfOk-at_ok IsHeld c.unwrap.ensures c.new.ensures.held in held.from

pub returns-clause-to : goal.returns-clause-to
returns-clause-to c = let held = IfOk-at_ok IsHeld c.unwrap.ensures c.new.ensures.held in held.to
