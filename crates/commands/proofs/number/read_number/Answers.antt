use Rattle.commands.proofs.Numbers.{spelled}
use Rattle.commands.proofs.number.read_number.Goals as goal

pub returns : goal.returns
returns c = spelled c.args.bytes.now c.args.most c.read_number.result c.read_number.ensures
