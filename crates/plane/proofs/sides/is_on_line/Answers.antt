use Rattle.std.proofs.Common.{◌≡◌, sym, subst, ◌∙◌, IsTrue}
use Rattle.std.specs.Prelude.{◌↔◌}
use Rattle.geometry.specs.Root.{count}
use Rattle.geometry.proofs.Found.{turn_on}
use Rattle.plane.proofs.callers.Turns.{level_told, plumb_told}
use Rattle.plane.proofs.callers.Zeros.{offset_cross}
use Rattle.plane.specs.Ways.{root}
use Rattle.plane.proofs.sides.is_on_line.Goals as goal

pub returns-in-0 : goal.returns-in-0
returns-in-0 c = level_told c.args.dir c.args.at.now c.args.point.now c.is_level.result (sym c.number.ensures.value ∙ c.in-0.is) c.is_level.ensures

pub returns-in-4 : goal.returns-in-4
returns-in-4 c = plumb_told c.args.dir c.args.at.now c.args.point.now c.is_plumb.result (sym c.number.ensures.value ∙ c.in-4.is) c.is_plumb.ensures

pub returns-in_default : goal.returns-in_default
returns-in_default c =
    let f = subst (λ r. IsTrue c.is_along.result ↔ (r ≡ count 0)) (offset_cross c.args.dir c.args.at.now c.args.point.now (root c.new.result.x) (root c.new.result.y) c.new.ensures.x c.new.ensures.y) c.is_along.ensures in
    let line = turn_on c.args.dir c.args.at.now c.args.point.now in
    (λ t. line.1 (record { on = f.0 t }), λ h. f.1 (line.0 h).on)
