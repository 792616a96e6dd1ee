use Rattle.routes.proofs.Cuts.{split_some, split_none}
use Rattle.routes.proofs.target.split.Goals as goal

pub returns-in-Some : goal.returns-in-Some
returns-in-Some c = split_some c.args.mark c.args.text.now (c.in-Some.before, c.in-Some.behind) c.in-Some.ensures.cases c.requires

pub returns-in-None : goal.returns-in-None
returns-in-None c = split_none c.args.mark c.args.text.now c.in-None.ensures.cases c.requires
