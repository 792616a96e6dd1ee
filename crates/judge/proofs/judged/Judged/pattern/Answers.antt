use Rattle.std.proofs.Common.{subst}
use Rattle.sheet.specs.Pattern.{ExactPattern}
use Rattle.subdivide.specs.Live.{IsCut}
use Rattle.judge.proofs.judged.Judged.pattern.Goals as goal

pub returns-clause-cut : goal.returns-clause-cut
returns-clause-cut c = subst (λ (p : ExactPattern). IsCut p) c.self.view_is c.pattern.ensures.cut
