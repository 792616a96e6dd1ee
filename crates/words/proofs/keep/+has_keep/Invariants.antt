use Rattle.std.proofs.Common.{length}
use Rattle.words.proofs.keep.+has_keep.Given as goal

abbrev pub decreases-has_keep : goal.decreases-has_keep
decreases-has_keep l = length l.further.now
