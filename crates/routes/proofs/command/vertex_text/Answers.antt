use Rattle.routes.specs.Queries.{IsQuery}
use Rattle.routes.proofs.Answered.{none_of}
use Rattle.routes.proofs.command.vertex_text.Goals as goal

pub returns-in-None : goal.returns-in-None
returns-in-None c asked v = none_of (λ p. p.items) (IsQuery c.args.query.now) c.in_ok-point.field-0 c.in-None.is c.in_ok-point.ensures v.point v.asked
