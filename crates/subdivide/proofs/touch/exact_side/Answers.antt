use Rattle.std.proofs.Common.{◌∙◌, inl, inr}
use Rattle.subdivide.proofs.Touched.{end_on_line}
use Rattle.subdivide.proofs.touch.exact_side.Goals as goal

pub returns-then-is_same_point : goal.returns-then-is_same_point
returns-then-is_same_point c = end_on_line c.args.seg.now c.args.dir c.args.point.now c.requires (inl (c.is_same_point.ensures.equal.0 c.if-is_same_point.true ∙ c.p.ensures.value))

pub returns-then-is_same_point-2 : goal.returns-then-is_same_point-2
returns-then-is_same_point-2 c = end_on_line c.args.seg.now c.args.dir c.args.point.now c.requires (inr (c.is_same_point-2.ensures.equal.0 c.if-is_same_point-2.true ∙ c.q.ensures.value))
