use Rattle.std.proofs.Common.{arith, refl, inl, inr}
use Rattle.qroot2.specs.Wide.{pair_neg}
use Rattle.plane.specs.Ways.{root, IsAlong, IsAhead}
use Rattle.plane.proofs.Slants.{along_2, along_14, told, untold, found_as, none_slanted}
use Rattle.plane.proofs.segment.slanted.Goals as goal

pub returns-then-eq-clause-some : goal.returns-then-eq-clause-some
returns-then-eq-clause-some c = found_as (λ k. IsAhead k × IsAlong k (root c.args.way.now.x) (root c.args.way.now.y)) 2 c.new.result c.new.ensures.some
    ((omega arith, inl (omega arith)), (along_2 c.args.way.now.x c.args.way.now.y).1 (told c.args.way.now.y c.args.way.now.x (c.args.way.now.x) c.eq.result c.eq.ensures refl c.if-eq.true))

pub returns-then-eq-2-clause-some : goal.returns-then-eq-2-clause-some
returns-then-eq-2-clause-some c = found_as (λ k. IsAhead k × IsAlong k (root c.args.way.now.x) (root c.args.way.now.y)) 14 c.new-then-eq-2.result c.new-then-eq-2.ensures.some
    ((omega arith, inr (omega arith)), (along_14 c.args.way.now.x c.args.way.now.y).1 (told c.args.way.now.y c.neg.result (pair_neg c.args.way.now.x) c.eq-else-eq.result c.eq-else-eq.ensures c.neg.ensures c.if-eq-2.true))

pub returns-else-eq-2-clause-none : goal.returns-else-eq-2-clause-none
returns-else-eq-2-clause-none c = λ none k ahead. none_slanted (root c.args.way.now.x) (root c.args.way.now.y)
    (λ a. untold c.args.way.now.y c.args.way.now.x (c.args.way.now.x) c.eq.result c.eq.ensures refl c.if-eq.false ((along_2 c.args.way.now.x c.args.way.now.y).0 a))
    (λ a. untold c.args.way.now.y c.neg.result (pair_neg c.args.way.now.x) c.eq-else-eq.result c.eq-else-eq.ensures c.neg.ensures c.if-eq-2.false ((along_14 c.args.way.now.x c.args.way.now.y).0 a))
    k (c.oblique.ensures.none none k ahead)
