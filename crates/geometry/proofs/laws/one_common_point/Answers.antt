use Rattle.geometry.proofs.Segments.{one_common}
use Rattle.geometry.proofs.laws.one_common_point.Goals as goal

pub returns : goal.returns
returns c = one_common
