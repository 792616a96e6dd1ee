use Rattle.subdivide.specs.Live.{IsCutAs}
use Rattle.subdivide.proofs.live.Live.start.Goals as goal

pub invariant_of-result : goal.invariant_of-result
invariant_of-result c =
    let cut : IsCutAs c.args.pattern c.in_ok-cut.cut = record { is = rw c.pattern.view_is at c.pattern.invariant; cut = c.in_ok-cut.ensures } in
    record { cut_as = cut; rays = c.in_ok-fans.ensures c.args.pattern cut }
