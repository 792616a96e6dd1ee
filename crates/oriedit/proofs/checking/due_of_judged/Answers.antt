use Rattle.std.proofs.Common.{◌≡◌, refl, subst, sym, ap, ◌∙◌}
use Rattle.subdivide.specs.Subdivision.{Answer}
use Rattle.judge.specs.Faults.{AreFaults}
use Rattle.oriedit.specs.CheckText.{faults_status}
use Rattle.oriedit.proofs.checking.due_of_judged.Goals as goal

pub returns : goal.returns
returns c =
    let cut = c.pattern-pattern.ensures.cut in
    let same : c.new.result ≡ c.faults-faults.result.now = c.new.ensures ∙ c.in_ok-list.ensures.items in (
      Answer.Cut cut.0 cut.1,
      cut.2,
      (c.new.result, subst (AreFaults c.args.judged.now) (sym same) c.faults-faults.ensures.faults, c.status_for-status.ensures ∙ ap faults_status (sym same), refl),
    )
