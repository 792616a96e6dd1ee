use Rattle.std.proofs.Common.{length}
use Rattle.crimp.proofs.crimping.+fold_up.Given as goal

abbrev pub decreases-fold_up : goal.decreases-fold_up
decreases-fold_up l = length l.entries.now.items
