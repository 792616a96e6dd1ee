use Rattle.std.proofs.Common.{◌<◌, ◌+◌, ◌%◌, arith, ap, ◌∙◌}
use Rattle.plane.proofs.callers.Imaged.{turned_even, turned_odd, even_small}
use Rattle.plane.proofs.image.doubled.Goals as goal

pub returns-then-number-eq0-clause-turned : goal.returns-then-number-eq0-clause-turned
returns-then-number-eq0-clause-turned c =
    let k : c.args.axis < 16 = omega (arith, c.number.ensures.value, c.number.ensures.small) in
    turned_even c.args.axis c.turn.result c.vector-x.result.0 c.vector-x.result.1 c.add.result c.add-then-number-eq0.result k (omega (arith, c.number-2.ensures.value, c.if-number-eq0.true))
    (c.turn.ensures ∙ ap (λ n. (c.args.axis + n) % 16) c.number.ensures.value) c.vector-x.ensures.x c.vector-x.ensures.y c.add.ensures c.add-then-number-eq0.ensures

pub returns-then-number-eq0-clause-small : goal.returns-then-number-eq0-clause-small
returns-then-number-eq0-clause-small c =
    let k : c.args.axis < 16 = omega (arith, c.number.ensures.value, c.number.ensures.small) in
    even_small c.args.axis c.turn.result c.vector-x.result.0 c.vector-x.result.1 c.add.result c.add-then-number-eq0.result k (omega (arith, c.number-2.ensures.value, c.if-number-eq0.true))
    (c.turn.ensures ∙ ap (λ n. (c.args.axis + n) % 16) c.number.ensures.value) c.vector-x.ensures.x c.vector-x.ensures.y c.add.ensures c.add-then-number-eq0.ensures

pub returns-else-number-eq0-clause-turned : goal.returns-else-number-eq0-clause-turned
returns-else-number-eq0-clause-turned c =
    let k : c.args.axis < 16 = omega (arith, c.number.ensures.value, c.number.ensures.small) in
    turned_odd c.args.axis c.turn.result c.vector-x.result.0 c.vector-x.result.1 c.new.result c.new-else-number-eq0.result c.a.result c.a-else-number-eq0.result k (λ e. c.if-number-eq0.false (omega (arith, c.number-2.ensures.value, e)))
    (c.turn.ensures ∙ ap (λ n. (c.args.axis + n) % 16) c.number.ensures.value) c.vector-x.ensures.x c.vector-x.ensures.y c.a.ensures.value c.a-else-number-eq0.ensures.value c.vector-x.ensures.small.0.0 c.vector-x.ensures.small.1.0 c.new.ensures c.new-else-number-eq0.ensures
