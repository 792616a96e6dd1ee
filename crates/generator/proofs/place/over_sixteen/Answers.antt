use Rattle.std.proofs.Common.{refl, arith}
use Rattle.std.specs.Prelude.{pos}
use Rattle.exact.specs.Number.{ExactNumber, Same}
use Rattle.lattice.specs.Lattice.{fraction}
use Rattle.lattice.proofs.callers.Passed.{representable, is_some}
use Rattle.qroot2.proofs.callers.Answered.{some_given, none_given}
use Rattle.generator.proofs.place.over_sixteen.Goals as goal
use Rattle.exact.proofs.Told.{some_tells}

pub unwrap-requires : goal.unwrap-requires
unwrap-requires c =
    let v : ExactNumber = fraction c.args.a c.args.b 16 in
    is_some c.new.result v (representable v.a v.b 16 (omega arith) (omega (arith, c.requires.a)) (omega (arith, c.requires.b)) (omega arith))
    (none_given c.new.result c.args.a c.args.b (pos 16) v v (omega (arith, c.requires.a)) (omega (arith, c.requires.b)) (omega arith) refl refl refl refl c.new.ensures.none)

pub returns-clause-same : goal.returns-clause-same
returns-clause-same c =
    let v : ExactNumber = fraction c.args.a c.args.b 16 in
    some_tells (λ n. Same n v) c.new.result c.unwrap.result c.unwrap.ensures
    (some_given c.new.result c.args.a c.args.b (pos 16) v v (omega (arith, c.requires.a)) (omega (arith, c.requires.b)) (omega arith) refl refl refl refl c.new.ensures.some)
