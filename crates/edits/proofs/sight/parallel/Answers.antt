use Rattle.plane.proofs.callers.Told.{fails}
use Rattle.edits.proofs.extensions.OneSegment.{parallel_first, parallel_none}
use Rattle.edits.proofs.sight.parallel.Goals as goal

pub returns-then-is_on_ray : goal.returns-then-is_on_ray
returns-then-is_on_ray c =
    let e = c.near_end-near.ensures in
    parallel_first c.args.at.now c.args.dir c.args.line c.args.seg.now c.near_end-near.result e.small c.requires.along e.on e.back e.canonical (c.is_on_ray.ensures.0 c.if-is_on_ray.true)

pub returns-else-is_on_ray : goal.returns-else-is_on_ray
returns-else-is_on_ray c =
    let e = c.near_end-near.ensures in
    parallel_none c.args.at.now c.args.dir c.args.line c.args.seg.now c.near_end-near.result e.small c.requires.along c.requires.parallel c.requires.apart e.on e.back (fails c.is_on_ray.ensures c.if-is_on_ray.false)
