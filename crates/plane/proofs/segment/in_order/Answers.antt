use Rattle.std.proofs.Common.{refl}
use Rattle.plane.proofs.segment.in_order.Goals as goal

pub returns-in-None-clause-not_direction : goal.returns-in-None-clause-not_direction
returns-in-None-clause-not_direction c = (λ e s. c.in-None.ensures.none refl s.1.0 s.1.1 s.1.2, λ n. refl)
