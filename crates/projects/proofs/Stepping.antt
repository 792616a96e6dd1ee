-- What a step leaves is a project.
use Rattle.std.proofs.Common.{◌≡◌, ℕ, ◌+◌, ◌-◌, ◌<◌, ◌≤◌, List, [], ◌∷◌, ◌++◌, length, refl, sym, ap, subst, ◌∙◌, arith, length-drop, length-append}
use Rattle.std.proofs.lemmas.List.{same_from_push}
use Rattle.sheet.specs.Pattern.{ExactPattern}
use Rattle.pattern.specs.Deltas.{Fits, Leads, inverse_of}
use Rattle.pattern.specs.declared.delta.Delta.{Delta}
use Rattle.history.specs.Histories.{ExactHistory, IsBack, IsLast, IsFirst, pushed, last_thousand}
use Rattle.projects.specs.Projects.{ExactProject, IsProject, IsPast, IsFuture, last_rev}
use Rattle.projects.specs.Steps.{Stepped, LeadsBack, LeadsForth}
use Rattle.projects.specs.declared.step.Step.TheVariants.{Undo, Redo}
use Rattle.pattern.proofs.callers.Leading.{leads_to_one}
use Rattle.projects.proofs.Walks.{IsTakenBack, taken_back, past_on, past_drop, future_step}
use Rattle.history.proofs.callers.Steps.{same_front}

abbrev pub project_of : ℕ → ExactPattern → ExactHistory → ExactProject
project_of rev pattern history = record { rev = rev; pattern = pattern; history = history }

few_pushed : (deltas : List Delta) → length (last_thousand deltas) + length {A = Delta} [] ≤ 1000
few_pushed deltas = omega (arith, length-drop (length deltas - 1000) deltas)

-- one delta more on one side, and one fewer on the other
few_back : (later earlier : ExactHistory) → IsBack later earlier → length earlier.past + length earlier.future ≡ length later.past + length later.future
few_back later earlier b = omega (arith, ap length b.past, ap length b.future, length-append earlier.past (b.delta ∷ []))

pub done_keeps : (before : ExactProject) (delta : Delta) (later : ExactPattern) (h : ExactHistory) → IsProject before → before.rev < last_rev → Fits before.pattern delta → Leads before.pattern delta later → h ≡ pushed before.history delta → IsProject (project_of (before.rev + 1) later h)
done_keeps before delta later h p r f l e = subst (λ (x : ExactHistory). IsProject (project_of (before.rev + 1) later x)) (sym e) (record {
  rev = omega (arith, r);
  pattern = l.pattern;
  history = few_pushed (before.history.past ++ delta ∷ []);
  past = past_drop (length (before.history.past ++ delta ∷ []) - 1000) (before.history.past ++ delta ∷ []) later (past_on before.history.past delta before.pattern later p.past f l);
  future = (later, refl);
})

-- the delta that is taken back is the last of the past
pub last_back : (before : ExactProject) (earlier : ExactPattern) (h : ExactHistory) (b : IsBack before.history h) → LeadsBack before earlier → Leads before.pattern (inverse_of b.delta) earlier
last_back before earlier h b u =
    let same : (u.1.0 ≡ h.past) × (u.0 ≡ b.delta) = same_from_push u.1.0 h.past u.0 b.delta (sym u.1.1 ∙ b.past) in
    subst (λ (d : Delta). Leads before.pattern (inverse_of d) earlier) same.1 u.2

pub undone_keeps : (before : ExactProject) (earlier : ExactPattern) (h : ExactHistory) → IsProject before → before.rev < last_rev → IsBack before.history h → LeadsBack before earlier → IsProject (project_of (before.rev + 1) earlier h)
undone_keeps before earlier h p r b u =
    let t : IsTakenBack h.past b.delta before.pattern = taken_back h.past b.delta before.pattern (subst (λ (xs : List Delta). IsPast xs before.pattern) b.past p.past) in
    let same : t.earlier ≡ earlier = leads_to_one before.pattern t.earlier earlier (inverse_of b.delta) t.leads_back (last_back before earlier h b u) in
    record {
      rev = omega (arith, r);
      pattern = (last_back before earlier h b u).pattern;
      history = (let few : length before.history.past + length before.history.future ≤ 1000 = p.history in omega (arith, few, few_back before.history h b));
      past = subst (IsPast h.past) same t.past;
      future = subst (λ (xs : List Delta). IsFuture earlier xs) (sym b.future)
          (p.future.0, (subst (λ (x : ExactPattern). Fits x b.delta) same t.fits, (before.pattern, subst (λ (x : ExactPattern). Leads x b.delta before.pattern) same t.leads, p.future.1)));
    }

-- the delta that is taken again is the next of the future
pub first_forth : (before : ExactProject) (later : ExactPattern) (h : ExactHistory) (b : IsBack h before.history) → LeadsForth before later → Leads before.pattern b.delta later
first_forth before later h b u =
    let same : (u.0 ≡ b.delta) × (u.1.0 ≡ h.future) = same_front u.1.0 h.future u.0 b.delta (sym u.1.1 ∙ b.future) in
    subst (λ (d : Delta). Leads before.pattern d later) same.0 u.2

pub redone_keeps : (before : ExactProject) (later : ExactPattern) (h : ExactHistory) → IsProject before → before.rev < last_rev → IsBack h before.history → LeadsForth before later → IsProject (project_of (before.rev + 1) later h)
redone_keeps before later h p r b u =
    let l : Leads before.pattern b.delta later = first_forth before later h b u in
    let ahead : IsFuture before.pattern (b.delta ∷ h.future) = subst (λ (xs : List Delta). IsFuture before.pattern xs) b.future p.future in
    record {
      rev = omega (arith, r);
      pattern = l.pattern;
      history = (let few : length before.history.past + length before.history.future ≤ 1000 = p.history in omega (arith, few, few_back h before.history b));
      past = subst (λ (xs : List Delta). IsPast xs later) (sym b.past) (past_on before.history.past b.delta before.pattern later p.past ahead.1.0 l);
      future = (future_step h.future b.delta before.pattern later ahead.1.0 l).0 ahead;
    }

pub undone_steps : (before : ExactProject) (earlier : ExactPattern) (h : ExactHistory) → IsBack before.history h → LeadsBack before earlier → Stepped before Undo (project_of (before.rev + 1) earlier h)
undone_steps before earlier h b u = record { rev = refl; leads = record { back = b; pattern = last_back before earlier h b u } }

pub redone_steps : (before : ExactProject) (later : ExactPattern) (h : ExactHistory) → IsBack h before.history → LeadsForth before later → Stepped before Redo (project_of (before.rev + 1) later h)
redone_steps before later h b u = record { rev = refl; leads = record { forth = b; pattern = first_forth before later h b u } }

-- the last delta of a project's past can be taken back, and the next of its future taken
pub last_fits : (project : ExactProject) (delta : Delta) → IsProject project → IsLast project.history.past delta → Fits project.pattern (inverse_of delta)
last_fits project delta p last = (taken_back last.0 delta project.pattern (subst (λ (xs : List Delta). IsPast xs project.pattern) last.1 p.past)).fits_back

pub first_fits : (project : ExactProject) (delta : Delta) → IsProject project → IsFirst project.history.future delta → Fits project.pattern delta
first_fits project delta p first = (subst (λ (xs : List Delta). IsFuture project.pattern xs) first.1 p.future).1.0
