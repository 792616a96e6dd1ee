use Rattle.std.proofs.Common.{arith, ap}
use Rattle.std.proofs.lemmas.Int.{ints}
use Rattle.qroot2.specs.Wide.{Pair, pair_sub}
use Rattle.qroot2.proofs.callers.Pairs.{by_parts}
use Rattle.qroot2.proofs.wide.WideSub.sub.Goals as goal

pub returns : goal.returns
returns c =
    by_parts c.new.result (pair_sub c.args.self c.args.other)
    (omega (arith, ints, c.requires, ap (λ (p : Pair). p.a) c.new.ensures, ap (λ (p : Pair). p.a) c.self.view_is, ap (λ (p : Pair). p.a) c.other.view_is))
    (omega (arith, ints, c.requires, ap (λ (p : Pair). p.b) c.new.ensures, ap (λ (p : Pair). p.b) c.self.view_is, ap (λ (p : Pair). p.b) c.other.view_is))
