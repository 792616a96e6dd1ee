use Rattle.lattice.proofs.Seen.{seen_more, seen_none}
use Rattle.lattice.proofs.search.step.Goals as goal

pub returns-in-Some : goal.returns-in-Some
returns-in-Some c = seen_more c.args.window c.args.n c.args.j c.in-Some.i c.args.found c.with.result c.in-Some.ensures.some.0 c.in-Some.ensures.some.1 c.with.ensures c.requires.seen

pub returns-in-None : goal.returns-in-None
returns-in-None c = seen_none c.args.window c.args.n c.args.j c.args.found c.in-None.ensures.none c.requires.seen
