use Rattle.plane.proofs.callers.Crossed.{det_told, det_small}
use Rattle.plane.specs.Ways.{root}
use Rattle.plane.proofs.crossing.determinant.Goals as goal

pub returns-clause-value : goal.returns-clause-value
returns-clause-value c = det_told c.args.first c.args.second c.det.result c.det.ensures

pub returns-clause-within : goal.returns-clause-within
returns-clause-within c = det_small c.args.first c.args.second (root c.det.result) (det_told c.args.first c.args.second c.det.result c.det.ensures)
