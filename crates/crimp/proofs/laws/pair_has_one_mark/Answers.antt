use Rattle.crimp.proofs.Twos.{pair_marks}
use Rattle.crimp.proofs.laws.pair_has_one_mark.Goals as goal

pub returns : goal.returns
returns c = λ sectors e f. pair_marks sectors f.0 e f.1
