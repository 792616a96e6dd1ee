use Rattle.std.proofs.Common.{subst}
use Rattle.sheet.specs.Pattern.{ExactPattern}
use Rattle.creases.specs.Creases.{AreOverlapping}
use Rattle.pattern.proofs.pattern.Pattern.overlapping.Goals as goal

pub returns-clause-members : goal.returns-clause-members
returns-clause-members c = subst (λ (x : ExactPattern). AreOverlapping x.creases c.args.seg.now c.overlapping.result) c.self.view_is c.overlapping.ensures.members
