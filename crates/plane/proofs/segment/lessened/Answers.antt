use Rattle.plane.proofs.Slants.{lessened_is}
use Rattle.plane.proofs.segment.lessened.Goals as goal

pub returns : goal.returns
returns c = lessened_is c.args.x c.a-a.result c.b-b.result c.new.result c.a-a.ensures.value c.b-b.ensures.value c.requires c.new.ensures
