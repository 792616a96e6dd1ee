use Rattle.exact.specs.Plane.{vector}
use Rattle.geometry.specs.Gap.{cross, det}
use Rattle.geometry.proofs.Segments.{join}
use Rattle.plane.proofs.callers.Turns.{side_cross}
use Rattle.plane.proofs.callers.Meets.{signs_told}
use Rattle.plane.proofs.callers.RayTold.{det_sign}
use Rattle.edits.proofs.sight.faces.Goals as goal

pub returns : goal.returns
returns c = join c.are_one_side.ensures (signs_told (cross (vector c.args.line) c.args.p.now c.args.at.now) (det (vector c.args.dir) (vector c.args.line)) c.side.result c.sign.result
    (side_cross c.args.line c.args.p.now c.args.at.now c.side.result c.side.ensures) (det_sign c.args.line c.args.dir c.det.result c.sign.result c.det.ensures c.sign.ensures))
