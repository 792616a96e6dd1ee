use Rattle.std.proofs.Common.{List, subst}
use Rattle.std.specs.Prelude.{Result, Ok, Err, IfOk, IfErr}
use Rattle.ports.specs.declared.stop.Stop.{Stop}
use Rattle.sheet.specs.Pattern.{ExactCrease, ExactPattern}
use Rattle.pattern.specs.Deltas.{Fits, Leads, IsBetween}
use Rattle.pattern.specs.declared.delta.Delta.{Delta}
use Rattle.ports.specs.Stops.{Refuses}
use Rattle.edits.specs.Drafts.{pattern_of}
use Rattle.edits.specs.EditOf.{Edited, Changed, EditOf}
use Rattle.edits.specs.declared.edit.Edit.{Edit}
use Rattle.edits.specs.declared.refusal.EditBad.{EditBad}
use Rattle.edits.proofs.Answering.{then_err}
use Rattle.edits.proofs.planning.plan.Goals as goal

leads : (old new : ExactPattern) (after : List ExactCrease) (e : Edit) (r : Result Delta (Stop EditBad)) → Edited old e (Ok after) → IfOk r (λ _. Changed old after (Ok new)) → IfOk r (λ delta. Leads old delta new) → IfOk r (IsBetween old.creases new.creases)
    → IfOk r (λ delta. (x : ExactPattern) × EditOf old e (Ok x) × Leads old delta x × IsBetween old.creases x.creases delta)
leads old new after e (Ok delta) edited changed h k = (new, (after, edited, changed), h, k)
leads old new after e (Err end) edited changed h k = tt

pub returns-clause-fits : goal.returns-clause-fits
returns-clause-fits c = subst (λ (p : ExactPattern). IfOk c.changes.result (Fits p)) c.in_ok-draft.ensures.same c.changes.ensures.fits

pub returns-clause-leads : goal.returns-clause-leads
returns-clause-leads c =
    let draft = c.in_ok-draft.draft in
    let r = c.changes.result in
    let same = c.in_ok-draft.ensures.same in
    leads c.args.pattern.now (pattern_of draft) draft.creases c.args.edit.now r c.in_ok-draft.ensures.is
    (subst (λ (p : ExactPattern). IfOk r (λ _. Changed p draft.creases (Ok (pattern_of draft)))) same c.changes.ensures.changed)
    (subst (λ (p : ExactPattern). IfOk r (λ delta. Leads p delta (pattern_of draft))) same c.changes.ensures.leads)
    (subst (λ (p : ExactPattern). IfOk r (IsBetween p.creases draft.creases)) same c.changes.ensures.lists)

pub returns-clause-refused : goal.returns-clause-refused
returns-clause-refused c =
    let draft = c.in_ok-draft.draft in
    then_err (Edited c.args.pattern.now c.args.edit.now) (Changed c.args.pattern.now) c.changes.result draft.creases c.in_ok-draft.ensures.is
    (subst (λ (p : ExactPattern). IfErr c.changes.result (λ e. Refuses (Changed p draft.creases) e)) c.in_ok-draft.ensures.same c.changes.ensures.err)
