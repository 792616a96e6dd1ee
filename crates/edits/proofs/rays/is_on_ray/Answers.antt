use Rattle.std.proofs.Common.{sym, ◌∙◌, inl, inr}
use Rattle.geometry.specs.Rays.{OnRay}
use Rattle.plane.proofs.callers.Told.{fails}
use Rattle.plane.proofs.callers.RayTold.{on_line, off_line, on_told, back_told, half_low, half_high}
use Rattle.pattern.proofs.callers.Told.{answers_no}
use Rattle.edits.proofs.rays.is_on_ray.Goals as goal

pub returns-in-Zero : goal.returns-in-Zero
returns-in-Zero c = on_told c.args.at.now c.args.point.now c.args.dir c.is_before.result c.leads_on.ensures.small (c.leads_on.ensures.on.0 c.if-leads_on.true)
    (on_line c.args.at.now c.args.point.now c.args.dir c.in-Zero.ensures) c.is_before.ensures

pub returns-in-Zero-2 : goal.returns-in-Zero-2
returns-in-Zero-2 c =
    let n = fails c.leads_on.ensures.on c.if-leads_on.false in
    back_told c.args.at.now c.args.point.now c.args.dir c.is_before-in-Zero-2.result (half_low c.args.dir c.leads_on.ensures.small n) (half_high c.args.dir c.leads_on.ensures.small n)
    (on_line c.args.at.now c.args.point.now c.args.dir c.in-Zero-2.ensures) c.is_before-in-Zero-2.ensures

pub returns-in-Minus : goal.returns-in-Minus
returns-in-Minus c = answers_no (OnRay c.args.at.now c.args.dir c.args.point.now) (off_line c.args.at.now c.args.point.now c.args.dir c.side.result c.side.ensures (λ e. elim c.in-Minus.is [ inl m ↦ (let f = sym m ∙ e in cc) | inr p ↦ (let f = sym p ∙ e in cc) ]))
