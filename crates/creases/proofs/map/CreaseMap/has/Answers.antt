use Rattle.creases.proofs.callers.Told.{has_told}
use Rattle.creases.proofs.map.CreaseMap.has.Goals as goal

pub returns-in-Some-clause-here : goal.returns-in-Some-clause-here
returns-in-Some-clause-here c = has_told c.args.self.now c.args.crease.now c.crease.inside.seg c.in-Some.colour c.crease.inside.colour c.eq.result c.colour.ensures.standing c.crease.view_is c.in-Some.ensures.some c.eq.ensures
