use Rattle.routes.proofs.Cuts.{one_split}
use Rattle.routes.proofs.laws.target_is_one.Goals as goal

pub returns : goal.returns
returns c target path query otherpath otherquery f g = one_split 63 target path query otherpath otherquery f g
