use Rattle.std.proofs.Common.{◌∙◌, arith}
use Rattle.std.specs.Ordering.{int_cmp}
use Rattle.exact.specs.Number.{ExactNumber}
use Rattle.exact.specs.Order.{root_cmp}
use Rattle.qroot2.proofs.callers.Held.{held_cross, held_narrow_cross, held_minus, held_scaled, held_128, zero_held, both_same}
use Rattle.qroot2.proofs.callers.Signs.{ordered, over_one_denominator, without_roots}
use Rattle.qroot2.proofs.num.order.NumOrd.cmp.Goals as goal

pub returns-then-self-other : goal.returns-then-self-other
returns-then-self-other c =
    let x : ExactNumber = record { a = c.self.inside.a; b = c.self.inside.b; d = c.self.inside.d } in
    let y : ExactNumber = record { a = c.other.inside.a; b = c.other.inside.b; d = c.other.inside.d } in
    let a = held_minus x.a y.a (omega (arith, c.self.invariant.a)) (omega (arith, c.other.invariant.a)) in
    let b = held_minus x.b y.b (omega (arith, c.self.invariant.b)) (omega (arith, c.other.invariant.b)) in
    let told = ordered c.by_squares-then-self-other.result x y _ _ c.self.invariant c.other.invariant c.self.view_is c.other.view_is (c.by_squares-then-self-other.ensures ∙ both_same root_cmp _ _ _ _ a b ∙ over_one_denominator x y c.self.invariant c.if-self-other.true) in
    record { order = told.0; values = told.1 }

pub returns-then-other-eq0 : goal.returns-then-other-eq0
returns-then-other-eq0 c =
    let x : ExactNumber = record { a = c.self.inside.a; b = c.self.inside.b; d = c.self.inside.d } in
    let y : ExactNumber = record { a = c.other.inside.a; b = c.other.inside.b; d = c.other.inside.d } in
    let s = held_128 c.scaled.result (omega (arith, c.scaled.ensures.bound)) ∙ held_scaled _ x.a y.d c.self.invariant.a c.scaled.ensures.value in
    let t = held_128 c.scaled-then-other-eq0.result (omega (arith, c.scaled-then-other-eq0.ensures.bound)) ∙ held_scaled _ y.a x.d c.other.invariant.a c.scaled-then-other-eq0.ensures.value in
    let told = ordered c.cmp.result x y _ _ c.self.invariant c.other.invariant c.self.view_is c.other.view_is (c.cmp.ensures ∙ both_same int_cmp _ _ _ _ s t ∙ without_roots x y (zero_held x.b c.self.invariant.b c.if-self-eq0.true) (zero_held y.b c.other.invariant.b c.if-other-eq0.true)) in
    record { order = told.0; values = told.1 }

pub returns-then-other : goal.returns-then-other
returns-then-other c =
    let x : ExactNumber = record { a = c.self.inside.a; b = c.self.inside.b; d = c.self.inside.d } in
    let y : ExactNumber = record { a = c.other.inside.a; b = c.other.inside.b; d = c.other.inside.d } in
    let a = held_narrow_cross c.narrow_cross-a.result x.a y.a x.d y.d c.narrow_cross-a.ensures.bound c.self.invariant.a c.other.invariant.a c.narrow_cross-a.ensures.value in
    let b = held_narrow_cross c.narrow_cross-b.result x.b y.b x.d y.d c.narrow_cross-b.ensures.bound c.self.invariant.b c.other.invariant.b c.narrow_cross-b.ensures.value in
    let told = ordered c.by_squares.result x y _ _ c.self.invariant c.other.invariant c.self.view_is c.other.view_is (c.by_squares.ensures ∙ both_same root_cmp _ _ _ _ a b) in
    record { order = told.0; values = told.1 }

pub returns-else-self-eq0 : goal.returns-else-self-eq0
returns-else-self-eq0 c =
    let x : ExactNumber = record { a = c.self.inside.a; b = c.self.inside.b; d = c.self.inside.d } in
    let y : ExactNumber = record { a = c.other.inside.a; b = c.other.inside.b; d = c.other.inside.d } in
    let a = held_cross c.cross-a.result x.a y.a x.d y.d c.cross-a.ensures.bound c.self.invariant.a c.other.invariant.a c.cross-a.ensures.value in
    let b = held_cross c.cross-b.result x.b y.b x.d y.d c.cross-b.ensures.bound c.self.invariant.b c.other.invariant.b c.cross-b.ensures.value in
    let told = ordered c.side.result x y _ _ c.self.invariant c.other.invariant c.self.view_is c.other.view_is (c.side.ensures ∙ both_same root_cmp _ _ _ _ a b) in
    record { order = told.0; values = told.1 }
