use Rattle.decimals.proofs.callers.Points.{points_are_one}
use Rattle.decimals.proofs.laws.decimal_points_are_one.Goals as goal

pub returns : goal.returns
returns c = points_are_one
