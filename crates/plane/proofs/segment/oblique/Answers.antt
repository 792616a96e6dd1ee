use Rattle.std.proofs.Common.{arith, ap, ◌∙◌, inl, inr}
use Rattle.qroot2.specs.Wide.{pair_neg}
use Rattle.plane.specs.Ways.{root, tilted, IsAlong, IsAhead}
use Rattle.plane.proofs.Slants.{along_1, along_3, along_13, along_15, told, untold, found_as, axis_ahead, none_oblique}
use Rattle.plane.proofs.segment.oblique.Goals as goal

pub returns-then-eq-clause-some : goal.returns-then-eq-clause-some
returns-then-eq-clause-some c = found_as (λ k. IsAhead k × IsAlong k (root c.args.x) (root c.args.y)) 1 c.new.result c.new.ensures.some
    ((omega arith, inl (omega arith)), (along_1 c.args.x c.args.y).1 (told c.args.y c.lessened-low.result (tilted c.args.x) c.eq.result c.eq.ensures c.lessened-low.ensures c.if-eq.true))

pub returns-then-eq-2-clause-some : goal.returns-then-eq-2-clause-some
returns-then-eq-2-clause-some c = found_as (λ k. IsAhead k × IsAlong k (root c.args.x) (root c.args.y)) 15 c.new-then-eq-2.result c.new-then-eq-2.ensures.some
    ((omega arith, inr (omega arith)), (along_15 c.args.x c.args.y).1 (told c.args.y c.neg.result (pair_neg (tilted c.args.x)) c.eq-else-eq.result c.eq-else-eq.ensures (c.neg.ensures ∙ ap pair_neg c.lessened-low.ensures) c.if-eq-2.true))

pub returns-then-eq-3-clause-some : goal.returns-then-eq-3-clause-some
returns-then-eq-3-clause-some c = found_as (λ k. IsAhead k × IsAlong k (root c.args.x) (root c.args.y)) 3 c.new-then-eq-3.result c.new-then-eq-3.ensures.some
    ((omega arith, inl (omega arith)), (along_3 c.args.x c.args.y).1 (told c.args.x c.lessened-narrow.result (tilted c.args.y) c.eq-else-eq-2.result c.eq-else-eq-2.ensures c.lessened-narrow.ensures c.if-eq-3.true))

pub returns-then-eq-4-clause-some : goal.returns-then-eq-4-clause-some
returns-then-eq-4-clause-some c = found_as (λ k. IsAhead k × IsAlong k (root c.args.x) (root c.args.y)) 13 c.new-then-eq-4.result c.new-then-eq-4.ensures.some
    ((omega arith, inr (omega arith)), (along_13 c.args.x c.args.y).1 (told c.args.x c.neg-else-eq-3.result (pair_neg (tilted c.args.y)) c.eq-else-eq-3.result c.eq-else-eq-3.ensures (c.neg-else-eq-3.ensures ∙ ap pair_neg c.lessened-narrow.ensures) c.if-eq-4.true))

pub returns-else-eq-4-clause-some : goal.returns-else-eq-4-clause-some
returns-else-eq-4-clause-some c = axis_ahead (root c.args.x) (root c.args.y) c.axial.result c.axial.ensures.some

pub returns-else-eq-4-clause-none : goal.returns-else-eq-4-clause-none
returns-else-eq-4-clause-none c = λ none. none_oblique (root c.args.x) (root c.args.y) (c.axial.ensures.none none).0 (c.axial.ensures.none none).1
    (λ a. untold c.args.y c.lessened-low.result (tilted c.args.x) c.eq.result c.eq.ensures c.lessened-low.ensures c.if-eq.false ((along_1 c.args.x c.args.y).0 a))
    (λ a. untold c.args.y c.neg.result (pair_neg (tilted c.args.x)) c.eq-else-eq.result c.eq-else-eq.ensures (c.neg.ensures ∙ ap pair_neg c.lessened-low.ensures) c.if-eq-2.false ((along_15 c.args.x c.args.y).0 a))
    (λ a. untold c.args.x c.lessened-narrow.result (tilted c.args.y) c.eq-else-eq-2.result c.eq-else-eq-2.ensures c.lessened-narrow.ensures c.if-eq-3.false ((along_3 c.args.x c.args.y).0 a))
    (λ a. untold c.args.x c.neg-else-eq-3.result (pair_neg (tilted c.args.y)) c.eq-else-eq-3.result c.eq-else-eq-3.ensures (c.neg-else-eq-3.ensures ∙ ap pair_neg c.lessened-narrow.ensures) c.if-eq-4.false ((along_13 c.args.x c.args.y).0 a))
