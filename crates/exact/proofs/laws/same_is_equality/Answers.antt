use Rattle.exact.proofs.Order.{same_turned}
use Rattle.exact.proofs.Told.{same_itself, same_on}
use Rattle.exact.proofs.laws.same_is_equality.Goals as goal

pub returns-clause-itself : goal.returns-clause-itself
returns-clause-itself c = same_itself

pub returns-clause-back : goal.returns-clause-back
returns-clause-back c = same_turned

pub returns-clause-on : goal.returns-clause-on
returns-clause-on c = same_on
