use Rattle.std.proofs.Common.{◌∙◌, arith, ap}
use Rattle.std.specs.Prelude.{unsigned_abs}
use Rattle.qroot2.specs.Wide.{Pair}
use Rattle.qroot2.proofs.callers.Held.{held_64, held_128, through_64}
use Rattle.qroot2.proofs.callers.Signs.{side_moved}
use Rattle.qroot2.proofs.wide.Wide.sign.Goals as goal

pub returns-then-unsigned_abs-2 : goal.returns-then-unsigned_abs-2
returns-then-unsigned_abs-2 c =
    let a = held_128 c.self.inside.a (omega (arith, c.self.invariant.0)) in
    let b = held_128 c.self.inside.b (omega (arith, c.self.invariant.1)) in
    let x = c.unsigned_abs.ensures.value ∙ ap unsigned_abs a in
    let y = c.unsigned_abs-then-unsigned_abs.ensures.value ∙ ap unsigned_abs b in
    side_moved c.args.self.now.a c.args.self.now.b _ _ c.sign_by_squares.result
    (ap through_64 a ∙ held_64 c.self.inside.a (omega (arith, x, c.if-unsigned_abs.true)) ∙ ap (λ (p : Pair). p.a) c.self.view_is)
    (ap through_64 b ∙ held_64 c.self.inside.b (omega (arith, y, c.if-unsigned_abs-2.true)) ∙ ap (λ (p : Pair). p.b) c.self.view_is) c.sign_by_squares.ensures

pub returns-else-unsigned_abs : goal.returns-else-unsigned_abs
returns-else-unsigned_abs c =
    side_moved c.args.self.now.a c.args.self.now.b _ _ c.sign_by_descent.result
    (held_128 c.self.inside.a (omega (arith, c.self.invariant.0)) ∙ ap (λ (p : Pair). p.a) c.self.view_is)
    (held_128 c.self.inside.b (omega (arith, c.self.invariant.1)) ∙ ap (λ (p : Pair). p.b) c.self.view_is) c.sign_by_descent.ensures
