use Rattle.forms.proofs.callers.Common.{small_crossing}
use Rattle.forms.proofs.laws.small_points_cross_within_range.Goals as goal

pub returns : goal.returns
returns c = small_crossing
