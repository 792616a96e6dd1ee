use Rattle.std.proofs.Common.{sym, ap, ◌∙◌}
use Rattle.std.specs.Int.{w128}
use Rattle.std.proofs.lemmas.Int.{to_z-of_z}
use Rattle.qroot2.specs.declared.sign.Sign.TheVariants as sign
use Rattle.qroot2.proofs.callers.Signs.{minus_side, plus_side, side_moved}
use Rattle.qroot2.proofs.num.order.side.Goals as goal

pub returns-in-Minus : goal.returns-in-Minus
returns-in-Minus c = sym (minus_side c.args.a c.args.b (side_moved c.args.a c.args.b c.new.result.a c.new.result.b sign.Minus (ap (λ p. p.a) c.new.ensures ∙ to_z-of_z w128 c.args.a c.ranges.a) (ap (λ p. p.b) c.new.ensures ∙ to_z-of_z w128 c.args.b c.ranges.b) c.in-Minus.ensures))

pub returns-in-Plus : goal.returns-in-Plus
returns-in-Plus c = sym (plus_side c.args.a c.args.b (side_moved c.args.a c.args.b c.new.result.a c.new.result.b sign.Plus (ap (λ p. p.a) c.new.ensures ∙ to_z-of_z w128 c.args.a c.ranges.a) (ap (λ p. p.b) c.new.ensures ∙ to_z-of_z w128 c.args.b c.ranges.b) c.in-Plus.ensures))
