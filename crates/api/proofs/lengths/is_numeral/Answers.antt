use Rattle.std.proofs.Common.{◌<◌, length, rules}
use Rattle.api.proofs.FieldValues.{by_index}
use Rattle.api.proofs.lengths.is_numeral.Goals as goal

pub returns-then-not-is_empty : goal.returns-then-not-is_empty
returns-then-not-is_empty c = (
  λ t. (let some : 0 < length c.args.bytes.now = search rules in some, by_index.to c.args.bytes.now (c.are_digits.ensures.0 t)),
  λ n. c.are_digits.ensures.1 (by_index.from c.args.bytes.now n.1),
)
