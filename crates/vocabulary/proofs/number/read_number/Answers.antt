use Rattle.std.proofs.Common.{◌<◌, ◌^◌, rules, arith}
use Rattle.vocabulary.proofs.Numbers.{not_utf8}
use Rattle.vocabulary.proofs.number.read_number.Goals as goal

pub returns-in-Err : goal.returns-in-Err
returns-in-Err c = λ n l e.
    let f : c.args.most < 2 ^ 64 = search rules in
    not_utf8 c.args.bytes.now n (omega arith) c.in-Err.ensures.cases.0 e
