use Rattle.edits.proofs.ears.Creases.{none_joined, leads_between}
use Rattle.edits.proofs.triangle.leading.Goals as goal

pub returns-in-Ok-clause-some : goal.returns-in-Ok-clause-some
returns-in-Ok-clause-some c = (c.from_end.ensures.small, leads_between c.in-Ok.seg c.args.from.now c.args.to.now c.from_end.result c.in-Ok.ensures.ok.1 c.from_end.ensures.from_lesser c.from_end.ensures.from_greater)

pub returns-in-Err-clause-none : goal.returns-in-Err-clause-none
returns-in-Err-clause-none c = none_joined c.new.result c.in-Err.field-0 c.args.from.now c.args.to.now c.in-Err.is c.new.ensures.same_point.0 (λ e. (c.new.ensures.not_direction.0 e).1)
