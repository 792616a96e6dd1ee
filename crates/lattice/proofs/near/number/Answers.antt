use Rattle.std.proofs.Common.{refl, arith}
use Rattle.exact.specs.Number.{ExactNumber, Same}
use Rattle.qroot2.proofs.callers.Answered.{some_given, none_given}
use Rattle.qroot2.proofs.callers.Held.{through}
use Rattle.std.specs.Prelude.{◌-ℤ◌}
use Rattle.lattice.specs.Found.{value_of}
use Rattle.lattice.proofs.callers.Passed.{representable, is_some, minus, minus_small, whole_small, gap_small}
use Rattle.lattice.proofs.near.number.Goals as goal
use Rattle.exact.proofs.Told.{some_tells}

pub unwrap-requires : goal.unwrap-requires
unwrap-requires c =
    let s = c.args.pair in
    let v : ExactNumber = value_of c.args.d c.args.k s.whole s.root in
    is_some c.new.result v
    (representable v.a v.b c.args.d (omega (arith, c.requires.d.0)) (gap_small s.whole c.args.k c.requires.pair.0 c.requires.k) (gap_small s.root c.args.k c.requires.pair.1 c.requires.k) c.requires.d.1)
    (none_given c.new.result (through c.from.result -ℤ through c.from-2.result) (through c.from-3.result -ℤ through c.from-4.result) c.from-5.result v v
    (minus_small c.from.result c.from-2.result s.whole c.args.k c.from.ensures c.from-2.ensures c.requires.pair.0 c.requires.k)
    (minus_small c.from-3.result c.from-4.result s.root c.args.k c.from-3.ensures c.from-4.ensures c.requires.pair.1 c.requires.k)
    (whole_small c.from-5.result c.args.d c.from-5.ensures c.requires.d.1)
    (minus c.from.result c.from-2.result s.whole c.args.k c.from.ensures c.from-2.ensures c.requires.pair.0 c.requires.k)
    (minus c.from-3.result c.from-4.result s.root c.args.k c.from-3.ensures c.from-4.ensures c.requires.pair.1 c.requires.k)
    c.from-5.ensures refl c.new.ensures.none)

pub returns : goal.returns
returns c =
    let s = c.args.pair in
    let v : ExactNumber = value_of c.args.d c.args.k s.whole s.root in
    some_tells (λ n. Same n v) c.new.result c.unwrap.result c.unwrap.ensures
    (some_given c.new.result (through c.from.result -ℤ through c.from-2.result) (through c.from-3.result -ℤ through c.from-4.result) c.from-5.result v v
    (minus_small c.from.result c.from-2.result s.whole c.args.k c.from.ensures c.from-2.ensures c.requires.pair.0 c.requires.k)
    (minus_small c.from-3.result c.from-4.result s.root c.args.k c.from-3.ensures c.from-4.ensures c.requires.pair.1 c.requires.k)
    (whole_small c.from-5.result c.args.d c.from-5.ensures c.requires.d.1)
    (minus c.from.result c.from-2.result s.whole c.args.k c.from.ensures c.from-2.ensures c.requires.pair.0 c.requires.k)
    (minus c.from-3.result c.from-4.result s.root c.args.k c.from-3.ensures c.from-4.ensures c.requires.pair.1 c.requires.k)
    c.from-5.ensures refl c.new.ensures.some)
