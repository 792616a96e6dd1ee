use Rattle.std.proofs.Common.{◌≡◌, ℕ, ◌<◌, Option, Some, subst}
use Rattle.std.specs.Prelude.{IsTrue, ◌↔◌, IfSome}
use Rattle.exact.specs.Plane.{vector}
use Rattle.geometry.specs.Gap.{cross, det}
use Rattle.geometry.proofs.Segments.{join}
use Rattle.plane.proofs.callers.Turns.{side_cross}
use Rattle.plane.specs.Walls.{LeadsLeft}
use Rattle.plane.proofs.callers.RayTold.{plus_told, det_sign}
use Rattle.edits.proofs.border.leads_left.Goals as goal

direction : (o : Option ℕ) (n d : ℕ) → o ≡ Some d → IfSome o (λ m. (m ≡ n) × (n < 16)) → d ≡ n
direction o n d e h = let k = rw e at h in k.0

pub returns : goal.returns
returns c =
    let at = c.args.at.now in
    let line = c.unwrap-line.result in
    let told = join c.first_is_plus.ensures (plus_told (cross (vector line) c.args.p.now at) (det (vector line) (vector c.args.dir)) c.side.result c.sign.result
    (side_cross line c.args.p.now at c.side.result c.side.ensures) (det_sign c.args.dir line c.det.result c.sign.result c.det.ensures c.sign.ensures)) in
    subst (λ (j : ℕ). IsTrue c.first_is_plus.result ↔ LeadsLeft at c.args.dir j c.args.p.now) (direction c.new.result c.args.line line c.unwrap-line.ensures c.new.ensures.some) told
