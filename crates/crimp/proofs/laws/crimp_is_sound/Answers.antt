use Rattle.crimp.proofs.Law.{foldable_before}
use Rattle.crimp.proofs.laws.crimp_is_sound.Goals as goal

pub returns : goal.returns
returns c = λ sectors i K f. foldable_before sectors i K f.0 f.1
