use Rattle.std.proofs.Common.{◌∙◌, ap}
use Rattle.std.specs.Prelude.{ℤ, pos, ◌+ℤ◌, ◌*ℤ◌}
use Rattle.std.specs.Int.{w64}
use Rattle.std.specs.Ordering.{int_cmp}
use Rattle.std.proofs.lemmas.Int.{to_z-of_z}
use Rattle.exact.specs.Order.{signed_square}
use Rattle.qroot2.proofs.callers.Held.{both_same, held_twice}
use Rattle.qroot2.proofs.squares.by_squares.Goals as goal

pub returns : goal.returns
returns c =
    let a = c.square.ensures.value ∙ ap (λ (z : ℤ). signed_square z) (to_z-of_z w64 c.args.a c.ranges.a) in
    let b = c.square-2.ensures.value ∙ ap (λ (z : ℤ). signed_square z) (to_z-of_z w64 c.args.b c.ranges.b) in
    c.cmp.ensures ∙ ap (λ (z : ℤ). int_cmp z (pos 0)) (held_twice c.square.result c.square-2.result c.square.ensures.bound c.square-2.ensures.bound ∙ both_same (λ (s t : ℤ). s +ℤ pos 2 *ℤ t) _ _ _ _ a b)
