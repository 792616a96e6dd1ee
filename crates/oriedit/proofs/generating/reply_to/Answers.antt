use Rattle.oriedit.specs.Generating.{asked}
use Rattle.oriedit.proofs.Stepping.{acted}
use Rattle.oriedit.proofs.generating.reply_to.Goals as goal

pub returns-clause-reply : goal.returns-clause-reply
returns-clause-reply g c = λ kind. acted (asked kind c.args.command) c.act.result _ _ _ _ _ c.act.ensures.told c.act.ensures.cause
