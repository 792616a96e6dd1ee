-- What a question about an opened project answers.
use Rattle.std.proofs.Common.{◌≡◌, inl, inr, List, refl, sym, subst}
use Rattle.std.specs.Prelude.{Some, None, Ok, Err}
use Rattle.exact.specs.Plane.{ExactPoint}
use Rattle.sheet.specs.Pattern.{ExactPattern}
use Rattle.subdivide.specs.Subdivision.{IsVertex}
use Rattle.subdivide.specs.Live.{IsCut}
use Rattle.judge.specs.Faults.{AreFaults, ReportOf}
use Rattle.judge.specs.declared.fault.Fault.{Fault}
use Rattle.judge.specs.declared.report.Report.{Report}
use Rattle.judge.specs.declared.report.Report.TheVariants as report
use Rattle.dialogue.specs.declared.cause.Cause.TheVariants as cause
use Rattle.dialogue.specs.declared.reply.Reply.TheVariants as reply
use Rattle.projects.specs.Projects.{ExactProject}
use Rattle.projects.specs.Machine.{ListsFaults, Reports}

pub lists : (opened p : ExactProject) (list : List Fault) → opened ≡ p → IsCut p.pattern → AreFaults opened.pattern list → ListsFaults p.rev p.pattern (Ok (reply.Faults opened.rev list))
lists opened p list same cut a = subst (λ (x : ExactProject). ListsFaults x.rev x.pattern (Ok (reply.Faults opened.rev list))) same
    (inr (subst (λ (x : ExactProject). IsCut x.pattern) (sym same) cut, (list, a, refl)))

vertex_of : (now : ExactPattern) (at : ExactPoint) (r : Report) → ReportOf now at (Some r) → IsVertex now at
vertex_of now at report.Border h = h.0
vertex_of now at (report.Judged star verdict) h = h.inner.0

pub reports : (opened p : ExactProject) (at : ExactPoint) (r : Report) → opened ≡ p → IsCut p.pattern → ReportOf opened.pattern at (Some r) → Reports at p.rev p.pattern (Ok (reply.Vertex at r))
reports opened p at r same cut h = subst (λ (x : ExactProject). Reports at x.rev x.pattern (Ok (reply.Vertex at r))) same
    (inr (subst (λ (x : ExactProject). IsCut x.pattern) (sym same) cut, inr ((λ n. n (vertex_of opened.pattern at r h)), (r, h, refl))))

pub reports_none : (opened p : ExactProject) (at : ExactPoint) → opened ≡ p → IsCut p.pattern → ReportOf opened.pattern at None → Reports at p.rev p.pattern (Err cause.NoVertex)
reports_none opened p at same cut h = subst (λ (x : ExactProject). Reports at x.rev x.pattern (Err cause.NoVertex)) same
    (inr (subst (λ (x : ExactProject). IsCut x.pattern) (sym same) cut, inl (h, refl)))
