use Rattle.cpfile.specs.CpWords.{AreFields}
use Rattle.cpfile.proofs.FiveWords.{small_by, none_by}
use Rattle.cpfile.proofs.fields.fields.Goals as goal

pub returns-clause-small : goal.returns-clause-small
returns-clause-small c = small_by c.values.result (AreFields c.in_ok-five.five) c.values.ensures.some

pub returns-clause-none : goal.returns-clause-none
returns-clause-none c = λ h. none_by c.args.words.now.words c.in_ok-five.five c.in_ok-five.ensures.some (c.values.ensures.none h)
