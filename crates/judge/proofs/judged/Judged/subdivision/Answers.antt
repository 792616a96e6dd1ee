use Rattle.std.proofs.Common.{subst}
use Rattle.std.proofs.lemmas.Result.{IfOk-weaker}
use Rattle.sheet.specs.Pattern.{ExactPattern}
use Rattle.subdivide.specs.Subdivision.{ExactSubdivision, Answer, CutOf}
use Rattle.judge.proofs.judged.Judged.subdivision.Goals as goal

abbrev IsInto : ExactPattern → ExactSubdivision → Type 0
IsInto pattern s = CutOf pattern (Answer.Cut s.vertices s.edges)

pub returns : goal.returns
returns c =
    IfOk-weaker c.subdivision.result (IsInto c.self.inside.live) (IsInto c.args.self.now)
    (λ s h. subst (λ (p : ExactPattern). IsInto p s) c.self.view_is h) c.subdivision.ensures
