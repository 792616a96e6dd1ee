use Rattle.lattice.proofs.Named.{named_nothing, named_one, named_two}
use Rattle.lattice.proofs.near.named.Goals as goal

pub returns-in-Nothing : goal.returns-in-Nothing
returns-in-Nothing c = named_nothing c.args.window c.args.m c.args.found c.in-Nothing.is c.requires.seen

pub returns-in-One : goal.returns-in-One
returns-in-One c = named_one c.args.window c.args.m c.args.found c.in-One.pair c.number.result c.in-One.is c.number.ensures c.requires.seen

pub returns-in-Two : goal.returns-in-Two
returns-in-Two c = named_two c.args.window c.args.m c.args.found c.in-Two.first c.in-Two.second c.number-in-Two.result c.number-in-Two-2.result c.in-Two.is c.number-in-Two.ensures c.number-in-Two-2.ensures c.requires.seen
