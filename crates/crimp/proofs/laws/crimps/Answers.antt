use Rattle.crimp.proofs.Counts.{to_pair, differ_by_two}
use Rattle.crimp.proofs.laws.crimps.Goals as goal

pub returns-clause-pair : goal.returns-clause-pair
returns-clause-pair c = to_pair c.args.star.now c.args.order.now c.requires

pub returns-clause-counts : goal.returns-clause-counts
returns-clause-counts c = differ_by_two c.args.star.now c.args.order.now c.requires
