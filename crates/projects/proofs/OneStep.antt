-- Steps lead to one project each, and take back one another.
use Rattle.std.proofs.Common.{◌≡◌, ◌-◌, List, [], ◌∷◌, ◌++◌, length, drop, sym, ap, subst, ◌∙◌, arith, length-append}
use Rattle.std.proofs.lemmas.List.{same_from_push, drop-append-le}
use Rattle.pattern.specs.Deltas.{Fits, Leads, inverse_of}
use Rattle.pattern.specs.declared.delta.Delta.{Delta}
use Rattle.pattern.proofs.callers.Leading.{leads_to_one, inverse_leads}
use Rattle.history.specs.Histories.{ExactHistory, IsBack, last_thousand}
use Rattle.history.proofs.callers.Steps.{one_earlier, one_later, same_front}
use Rattle.projects.specs.Projects.{ExactProject, IsProject}
use Rattle.projects.specs.Steps.{Stepped, StepLeads, Done, Undone, Redone}
use Rattle.projects.specs.declared.step.Step.{Step}
use Rattle.projects.specs.declared.step.Step.TheVariants.{Do, Undo, Redo}
use Rattle.projects.proofs.Stepping.{project_of, last_fits}

same_project : (project other : ExactProject) → project.rev ≡ other.rev → project.pattern ≡ other.pattern → project.history ≡ other.history → project ≡ other
same_project project other r p h = λ i. project_of (r i) (p i) (h i)

-- one delta goes over
same_back : (later earlier other : ExactHistory) (b : IsBack later earlier) (d : IsBack later other) → b.delta ≡ d.delta
same_back later earlier other b d = (let same : (earlier.past ≡ other.past) × (b.delta ≡ d.delta) = same_from_push earlier.past other.past b.delta d.delta (sym b.past ∙ d.past) in same.1)

same_forth : (later other earlier : ExactHistory) (b : IsBack later earlier) (d : IsBack other earlier) → b.delta ≡ d.delta
same_forth later other earlier b d = (let same : (b.delta ≡ d.delta) × (later.future ≡ other.future) = same_front later.future other.future b.delta d.delta (sym b.future ∙ d.future) in same.0)

one_done : (before after other : ExactProject) (delta : Delta) → after.rev ≡ other.rev → Done before delta after → Done before delta other → after ≡ other
one_done before after other delta r h k = same_project after other r (leads_to_one before.pattern after.pattern other.pattern delta h.pattern k.pattern) (h.history ∙ sym k.history)

one_undone : (before after other : ExactProject) → after.rev ≡ other.rev → Undone before after → Undone before other → after ≡ other
one_undone before after other r h k = same_project after other r
    (leads_to_one before.pattern after.pattern other.pattern (inverse_of k.back.delta) (subst (λ (d : Delta). Leads before.pattern (inverse_of d) after.pattern) (same_back before.history after.history other.history h.back k.back) h.pattern) k.pattern)
    (one_earlier before.history after.history other.history h.back k.back)

one_redone : (before after other : ExactProject) → after.rev ≡ other.rev → Redone before after → Redone before other → after ≡ other
one_redone before after other r h k = same_project after other r
    (leads_to_one before.pattern after.pattern other.pattern k.forth.delta (subst (λ (d : Delta). Leads before.pattern d after.pattern) (same_forth after.history other.history before.history h.forth k.forth) h.pattern) k.pattern)
    (one_later after.history other.history before.history h.forth k.forth)

by_step : (before after other : ExactProject) (step : Step) → after.rev ≡ other.rev → StepLeads before step after → StepLeads before step other → after ≡ other
by_step before after other (Do delta) r h k = one_done before after other delta r h k
by_step before after other Undo r h k = one_undone before after other r h k
by_step before after other Redo r h k = one_redone before after other r h k

pub one_result : (before after other : ExactProject) (step : Step) → Stepped before step after → Stepped before step other → after ≡ other
one_result before after other step h k = by_step before after other step (h.rev ∙ sym k.rev) h.leads k.leads

-- a delta that was pushed is the last of the past
pushed_last : (deltas : List Delta) (delta : Delta) → last_thousand (deltas ++ delta ∷ []) ≡ drop (length (deltas ++ delta ∷ []) - 1000) deltas ++ delta ∷ []
pushed_last deltas delta = drop-append-le (length (deltas ++ delta ∷ []) - 1000) deltas (delta ∷ []) (omega (arith, length-append deltas (delta ∷ [])))

pub undo_after_do : (before after again : ExactProject) (delta : Delta) → IsProject before → Fits before.pattern delta → Stepped before (Do delta) after → Stepped after Undo again → again.pattern ≡ before.pattern
undo_after_do before after again delta p f h k =
    let rest : List Delta = drop (length (before.history.past ++ delta ∷ []) - 1000) before.history.past in
    let past : after.history.past ≡ rest ++ delta ∷ [] = ap (λ (x : ExactHistory). x.past) h.leads.history ∙ pushed_last before.history.past delta in
    let same : (again.history.past ≡ rest) × (k.leads.back.delta ≡ delta) = same_from_push again.history.past rest k.leads.back.delta delta (sym k.leads.back.past ∙ past) in
    leads_to_one after.pattern again.pattern before.pattern (inverse_of delta) (subst (λ (d : Delta). Leads after.pattern (inverse_of d) again.pattern) same.1 k.leads.pattern)
    (inverse_leads before.pattern after.pattern delta p.pattern f h.leads.pattern)

pub redo_after_undo : (before after again : ExactProject) → IsProject before → Stepped before Undo after → Stepped after Redo again → again.pattern ≡ before.pattern
redo_after_undo before after again p h k =
    let back : IsBack before.history after.history = h.leads.back in
    let fits : Fits before.pattern (inverse_of back.delta) = last_fits before back.delta p (after.history.past, back.past) in
    let same : k.leads.forth.delta ≡ back.delta = same_forth again.history before.history after.history k.leads.forth back in
    leads_to_one after.pattern again.pattern before.pattern back.delta (subst (λ (d : Delta). Leads after.pattern d again.pattern) same k.leads.pattern)
    (inverse_leads before.pattern after.pattern (inverse_of back.delta) p.pattern fits h.leads.pattern)

pub history_after_undo : (before after again : ExactProject) → Stepped before Undo after → Stepped after Redo again → again.history ≡ before.history
history_after_undo before after again h k = one_later again.history before.history after.history k.leads.forth h.leads.back
