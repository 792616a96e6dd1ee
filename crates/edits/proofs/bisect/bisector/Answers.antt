use Rattle.plane.proofs.callers.Told.{fails}
use Rattle.edits.proofs.bisections.Bisected.{halves_outside, halves_no_first, halves_no_second, halves_odd, halves}
use Rattle.edits.proofs.OnSheet.{within, out_of}
use Rattle.edits.proofs.bisect.bisector.Goals as goal

pub returns-then-not-in_sheet-clause-is : goal.returns-then-not-in_sheet-clause-is
returns-then-not-in_sheet-clause-is c = halves_outside c.args.pattern.now c.args.at.now c.args.first c.args.second (out_of c.args.at.now c.sheet.ensures.sheet (fails c.in_sheet.ensures c.if-not-in_sheet.true))

pub returns-then-not-has_ray-clause-is : goal.returns-then-not-has_ray-clause-is
returns-then-not-has_ray-clause-is c = halves_no_first c.args.pattern.now c.args.at.now c.args.first c.args.second (within c.args.at.now c.sheet.ensures.sheet (c.in_sheet.ensures.0 c.if-not-in_sheet.false)) (fails c.has_ray.ensures c.if-not-has_ray.true)

pub returns-then-not-has_ray-2-clause-is : goal.returns-then-not-has_ray-2-clause-is
returns-then-not-has_ray-2-clause-is c = halves_no_second c.args.pattern.now c.args.at.now c.args.first c.args.second (within c.args.at.now c.sheet.ensures.sheet (c.in_sheet.ensures.0 c.if-not-in_sheet.false)) (c.has_ray.ensures.0 c.if-not-has_ray.false) (fails c.has_ray-2.ensures c.if-not-has_ray-2.true)

pub returns-in-Some-clause-is : goal.returns-in-Some-clause-is
returns-in-Some-clause-is c = halves c.args.pattern.now c.args.at.now c.args.first c.args.second c.in-Some.middle c.extension.result
    (within c.args.at.now c.sheet.ensures.sheet (c.in_sheet.ensures.0 c.if-not-in_sheet.false)) (c.has_ray.ensures.0 c.if-not-has_ray.false) (c.has_ray-2.ensures.0 c.if-not-has_ray-2.false) c.in-Some.ensures.some c.extension.ensures.is

pub returns-in-None-clause-is : goal.returns-in-None-clause-is
returns-in-None-clause-is c = halves_odd c.args.pattern.now c.args.at.now c.args.first c.args.second
    (within c.args.at.now c.sheet.ensures.sheet (c.in_sheet.ensures.0 c.if-not-in_sheet.false)) (c.has_ray.ensures.0 c.if-not-has_ray.false) (c.has_ray-2.ensures.0 c.if-not-has_ray-2.false) c.in-None.ensures.none
