use Rattle.std.proofs.Common.{refl}
use Rattle.crimp.proofs.Runs.{named}
use Rattle.crimp.proofs.run.named_run.Goals as goal

pub returns : goal.returns
returns c = named c.args.sectors.now c.args.entries.now c.requires.star c.requires.part c.requires.some c.run_start-start.result c.run_length-count.result c.run_start-start.ensures.start c.run_start-start.ensures.within c.run_length-count.ensures.least c.run_length-count.ensures.ends
    _ refl c.first_of.ensures c.first_of-2.ensures refl
