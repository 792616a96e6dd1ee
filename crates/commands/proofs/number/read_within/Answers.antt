use Rattle.std.proofs.Common.{◌<◌, ◌^◌, rules, arith}
use Rattle.commands.proofs.Numbers.{not_within}
use Rattle.commands.proofs.number.read_within.Goals as goal

pub returns-else-number-from : goal.returns-else-number-from
returns-else-number-from c =
    let m : c.args.most < 2 ^ 64 = search rules in
    not_within c.args.bytes.now c.in_ok-number.number c.args.low c.args.most m (let h = c.in_ok-number.ensures.0 in omega arith) c.in_ok-number.ensures.1 (omega arith)
