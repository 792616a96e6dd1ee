use Rattle.std.proofs.Common.{subst, ◌∙◌}
use Rattle.subdivide.specs.Live.{IsCut}
use Rattle.projects.proofs.cut.CutProject.new.Goals as goal

pub returns-clause-cut : goal.returns-clause-cut
returns-clause-cut c = subst IsCut (c.in_ok-live.ensures.ok ∙ c.into_parts-rev.ensures.pattern) c.pattern-pattern.ensures.cut
