use Rattle.std.proofs.Common.{◌≡◌, subst, sym}
use Rattle.std.proofs.lemmas.Result.{IfOk-weaker}
use Rattle.sheet.specs.Pattern.{ExactPattern}
use Rattle.subdivide.specs.Subdivision.{ExactSubdivision, Answer, CutOf}
use Rattle.subdivide.proofs.live.Live.subdivision.Goals as goal

abbrev IsInto : ExactPattern → ExactSubdivision → Type 0
IsInto pattern s = CutOf pattern (Answer.Cut s.vertices s.edges)

pub returns : goal.returns
returns c =
    let cut : IsInto c.args.self.now c.self.inside.cut = subst (λ (p : ExactPattern). IsInto p c.self.inside.cut) c.self.view_is c.self.invariant.cut_as.cut in
    IfOk-weaker c.copy.result (λ s. s ≡ c.self.inside.cut) (IsInto c.args.self.now) (λ s e. subst (IsInto c.args.self.now) (sym e) cut) c.copy.ensures
