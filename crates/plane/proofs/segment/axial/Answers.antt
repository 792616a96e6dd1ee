use Rattle.std.proofs.Common.{◌⊎◌, inl, inr, refl, ◌≡◌}
use Rattle.plane.specs.Ways.{root, IsAlong}
use Rattle.plane.proofs.Slants.{along_0, along_4, nothing, told, untold, found_as}
use Rattle.plane.proofs.segment.axial.Goals as goal

pub returns-then-eq-clause-some : goal.returns-then-eq-clause-some
returns-then-eq-clause-some c = found_as (λ k. ((k ≡ 0) ⊎ (k ≡ 4)) × IsAlong k (root c.args.x) (root c.args.y)) 0 c.new.result c.new.ensures.some
    (inl refl, (along_0 c.args.x c.args.y).1 (told c.args.y c.new-none.result nothing c.eq.result c.eq.ensures c.new-none.ensures c.if-eq.true))

pub returns-then-eq-2-clause-some : goal.returns-then-eq-2-clause-some
returns-then-eq-2-clause-some c = found_as (λ k. ((k ≡ 0) ⊎ (k ≡ 4)) × IsAlong k (root c.args.x) (root c.args.y)) 4 c.new-then-eq-2.result c.new-then-eq-2.ensures.some
    (inr refl, (along_4 c.args.x c.args.y).1 (told c.args.x c.new-none.result nothing c.eq-else-eq.result c.eq-else-eq.ensures c.new-none.ensures c.if-eq-2.true))

pub returns-else-eq-2-clause-none : goal.returns-else-eq-2-clause-none
returns-else-eq-2-clause-none c = λ _. (
  λ a. untold c.args.y c.new-none.result nothing c.eq.result c.eq.ensures c.new-none.ensures c.if-eq.false ((along_0 c.args.x c.args.y).0 a),
  λ a. untold c.args.x c.new-none.result nothing c.eq-else-eq.result c.eq-else-eq.ensures c.new-none.ensures c.if-eq-2.false ((along_4 c.args.x c.args.y).0 a),
)
