use Rattle.std.proofs.Common.{arith, ◌∙◌}
use Rattle.exact.specs.Number.{ExactNumber, mul}
use Rattle.qroot2.proofs.callers.Held.{held_times, held_plus, both_same}
use Rattle.qroot2.proofs.callers.Answered.{product_of, product_is, some_given, none_given}
use Rattle.qroot2.proofs.num.Num.mul.Goals as goal

pub returns-clause-some : goal.returns-clause-some
returns-clause-some c =
    let x : ExactNumber = record { a = c.self.inside.a; b = c.self.inside.b; d = c.self.inside.d } in
    let y : ExactNumber = record { a = c.other.inside.a; b = c.other.inside.b; d = c.other.inside.d } in
    let roots = held_times c.times-roots.result x.b y.b c.self.invariant.b c.other.invariant.b c.times-roots.ensures.value in
    let twice = held_plus c.plus.result c.times-roots.result c.times-roots.result _ _ (omega (arith, c.times-roots.ensures.bound)) (omega (arith, c.times-roots.ensures.bound)) c.plus.ensures.value roots roots in
    let a = held_plus c.plus-a.result c.times.result c.plus.result _ _ (omega (arith, c.times.ensures.bound)) c.plus.ensures.limit c.plus-a.ensures.value (held_times _ x.a y.a c.self.invariant.a c.other.invariant.a c.times.ensures.value) twice in
    let b = held_plus c.plus-b.result c.times-2.result c.times-3.result _ _ (omega (arith, c.times-2.ensures.bound)) (omega (arith, c.times-3.ensures.bound)) c.plus-b.ensures.value (held_times _ x.a y.b c.self.invariant.a c.other.invariant.b c.times-2.ensures.value) (held_times _ x.b y.a c.self.invariant.b c.other.invariant.a c.times-3.ensures.value) in
    some_given c.new.result c.plus-a.result c.plus-b.result c.product.result (product_of x y) (mul c.args.self.now c.args.other.now)
    c.plus-a.ensures.limit c.plus-b.ensures.limit c.product.ensures.bound a b c.product.ensures.value
    (product_is x y c.self.invariant.positive c.other.invariant.positive ∙ both_same mul _ _ _ _ c.self.view_is c.other.view_is) c.new.ensures.some

pub returns-clause-none : goal.returns-clause-none
returns-clause-none c =
    let x : ExactNumber = record { a = c.self.inside.a; b = c.self.inside.b; d = c.self.inside.d } in
    let y : ExactNumber = record { a = c.other.inside.a; b = c.other.inside.b; d = c.other.inside.d } in
    let roots = held_times c.times-roots.result x.b y.b c.self.invariant.b c.other.invariant.b c.times-roots.ensures.value in
    let twice = held_plus c.plus.result c.times-roots.result c.times-roots.result _ _ (omega (arith, c.times-roots.ensures.bound)) (omega (arith, c.times-roots.ensures.bound)) c.plus.ensures.value roots roots in
    let a = held_plus c.plus-a.result c.times.result c.plus.result _ _ (omega (arith, c.times.ensures.bound)) c.plus.ensures.limit c.plus-a.ensures.value (held_times _ x.a y.a c.self.invariant.a c.other.invariant.a c.times.ensures.value) twice in
    let b = held_plus c.plus-b.result c.times-2.result c.times-3.result _ _ (omega (arith, c.times-2.ensures.bound)) (omega (arith, c.times-3.ensures.bound)) c.plus-b.ensures.value (held_times _ x.a y.b c.self.invariant.a c.other.invariant.b c.times-2.ensures.value) (held_times _ x.b y.a c.self.invariant.b c.other.invariant.a c.times-3.ensures.value) in
    none_given c.new.result c.plus-a.result c.plus-b.result c.product.result (product_of x y) (mul c.args.self.now c.args.other.now)
    c.plus-a.ensures.limit c.plus-b.ensures.limit c.product.ensures.bound a b c.product.ensures.value
    (product_is x y c.self.invariant.positive c.other.invariant.positive ∙ both_same mul _ _ _ _ c.self.view_is c.other.view_is) c.new.ensures.none
