use Rattle.std.proofs.Common.{rules, subst}
use Rattle.sheet.specs.Pattern.{ExactPattern}
use Rattle.pattern.specs.Deltas.{Leads}
use Rattle.ports.specs.Stops.{Refuses}
use Rattle.subdivide.specs.CutAnswers.{IsCutAnswer}
use Rattle.subdivide.specs.Live.{RefusesStep}
use Rattle.subdivide.proofs.live.Live.check.Goals as goal

pub returns-in_err-start-clause-err : goal.returns-in_err-start-clause-err
returns-in_err-start-clause-err g c =
    let led : Leads c.args.self.now c.args.delta.now c.in_ok-new.new = subst (λ (p : ExactPattern). Leads p c.args.delta.now c.in_ok-new.new) c.self.view_is c.in_ok-new.ensures in
    let refused : RefusesStep c.args.self.now c.args.delta.now c.in_err-start.field-0.0 = λ new leads. subst (λ z. Refuses (IsCutAnswer z) c.in_err-start.field-0.0) (c.delta_leads_to_one.ensures c.args.self.now c.in_ok-new.new new c.args.delta.now led leads) c.in_err-start.ensures.err in
    search (rules, refused)
