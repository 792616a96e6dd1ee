use Rattle.std.proofs.Common.{subst, sym, refl, List, ℕ}
use Rattle.std.specs.Prelude.{Contains}
use Rattle.pattern.proofs.callers.LineText.{comma_in, pair_answered, ReadsPair}
use Rattle.pattern.proofs.native.line.read_end.Goals as goal

pub returns-in_default : goal.returns-in_default
returns-in_default c = λ p s e. c.in_default.ensures.none refl (subst (λ (t : List ℕ). Contains t 44) (sym e) (comma_in p))

pub returns-in-Err : goal.returns-in-Err
returns-in-Err c = subst (ReadsPair c.args.text.now) c.in-Err.is (pair_answered c.args.text.now c.in-Some.x.now c.in-Some.y.now c.read_num.result c.read_num-2.result c.both.result c.in-Some.ensures.some c.read_num.ensures c.read_num-2.ensures c.both.ensures)
