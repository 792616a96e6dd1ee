use Rattle.std.proofs.Common.{subst}
use Rattle.sheet.specs.Pattern.{ExactPattern}
use Rattle.subdivide.specs.Live.{IsCut}
use Rattle.subdivide.proofs.StarsKept.{kept_cut}
use Rattle.subdivide.proofs.live.Live.pattern.Goals as goal

pub returns-clause-cut : goal.returns-clause-cut
returns-clause-cut c = subst (λ (p : ExactPattern). IsCut p) c.self.view_is (kept_cut c.self.inside.pattern c.self.inside.cut c.self.inside.fans.items c.self.invariant)
