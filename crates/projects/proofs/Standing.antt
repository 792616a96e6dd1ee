-- A project and the entry that it stands for, over a step.
use Rattle.std.proofs.Common.{◌≡◌, ℕ, zero, suc, ◌+◌, ◌-◌, List, [], ◌∷◌, ◌++◌, length, drop, refl, sym, ap, subst, ◌∙◌, arith}
use Rattle.sheet.specs.Sheet.{ExactSheet}
use Rattle.sheet.specs.Pattern.{ExactPattern, IsPattern}
use Rattle.pattern.specs.Deltas.{Fits, Leads, inverse_of}
use Rattle.pattern.specs.declared.delta.Delta.{Delta}
use Rattle.pattern.proofs.callers.Leading.{leads_to_one, inverse_leads}
use Rattle.history.specs.Histories.{ExactHistory, IsBack}
use Rattle.projects.specs.Projects.{ExactProject, IsProject, Walk, empty_project}
use Rattle.projects.specs.Steps.{Stepped}
use Rattle.projects.specs.declared.step.Step.TheVariants.{Do, Undo, Redo}
use Rattle.projects.specs.Entries.{Entry, next_of, LeadTo, LeadFrom, StandsFor, fresh}
use Rattle.projects.specs.Machine.{edited, undone, redone, last_thousand}

-- as many patterns as deltas
same_length : (ds : List Delta) (ps : List ExactPattern) (now : ExactPattern) → LeadTo ds ps now → length ps ≡ length ds
same_length [] [] now h = refl
same_length [] (p ∷ ps) now h = absurd h
same_length (d ∷ ds) [] now h = absurd h
same_length (d ∷ ds) (p ∷ ps) now h = (let rest : length ps ≡ length ds = same_length ds ps now h.3 in ap (λ (n : ℕ). suc n) rest)

-- what comes next is the same where one more pattern stands at the end
next_on : (ps : List ExactPattern) (now later : ExactPattern) → next_of (ps ++ now ∷ []) later ≡ next_of ps now
next_on [] now later = refl
next_on (p ∷ ps) now later = refl

-- one step more
lead_on : (ds : List Delta) (ps : List ExactPattern) (now : ExactPattern) (d : Delta) (later : ExactPattern)
    → LeadTo ds ps now → IsPattern now → Fits now d → Leads now d later → LeadTo (ds ++ d ∷ []) (ps ++ now ∷ []) later
lead_on [] [] now d later h p f l = (p, f, l, tt)
lead_on [] (q ∷ ps) now d later h p f l = absurd h
lead_on (x ∷ ds) [] now d later h p f l = absurd h
lead_on (x ∷ ds) (q ∷ ps) now d later h p f l =
    (h.0, h.1, subst (Leads q x) (sym (next_on ps now later)) h.2, lead_on ds ps now d later h.3 p f l)

-- the first ones go
lead_drop : (n : ℕ) (ds : List Delta) (ps : List ExactPattern) (now : ExactPattern) → LeadTo ds ps now → LeadTo (drop n ds) (drop n ps) now
lead_drop zero ds ps now h = h
lead_drop (suc n) [] [] now h = h
lead_drop (suc n) [] (p ∷ ps) now h = absurd h
lead_drop (suc n) (d ∷ ds) [] now h = absurd h
lead_drop (suc n) (d ∷ ds) (p ∷ ps) now h = lead_drop n ds ps now h.3

-- the last delta leads from the last of the patterns
record IsTakenBack (ds : List Delta) (d : Delta) (ps : List ExactPattern) (now : ExactPattern) : Type 0 where
  pub earlier : List ExactPattern
  pub last : ExactPattern
  pub split : ps ≡ earlier ++ last ∷ []
  pub lead : LeadTo ds earlier last
  pub fits : Fits last d
  pub leads : Leads last d now
  pub back : Leads now (inverse_of d) last

taken_back : (ds : List Delta) (d : Delta) (ps : List ExactPattern) (now : ExactPattern) → LeadTo (ds ++ d ∷ []) ps now → IsTakenBack ds d ps now
taken_back [] d [] now h = absurd h
taken_back [] d (p ∷ []) now h = record {
  earlier = [];
  last = p;
  split = refl;
  lead = tt;
  fits = h.1;
  leads = h.2;
  back = inverse_leads p now d h.0 h.1 h.2;
}
taken_back [] d (p ∷ q ∷ ps) now h = absurd h.3
taken_back (x ∷ ds) d [] now h = absurd h
taken_back (x ∷ ds) d (p ∷ ps) now h =
    let t = taken_back ds d ps now h.3 in
    let next : next_of ps now ≡ next_of t.earlier t.last = ap (λ (xs : List ExactPattern). next_of xs now) t.split ∙ next_on t.earlier t.last now in
    record {
      earlier = p ∷ t.earlier;
      last = t.last;
      split = ap (λ (xs : List ExactPattern). p ∷ xs) t.split;
      lead = (h.0, h.1, subst (Leads p x) next h.2, t.lead);
      fits = t.fits;
      leads = t.leads;
      back = t.back;
    }

-- the patterns of the past, and of the future, are those to which the deltas lead
past_is_one : (ds : List Delta) (ps qs : List ExactPattern) (now : ExactPattern) → LeadTo ds ps now → LeadTo ds qs now → ps ≡ qs
past_is_one [] [] [] now h k = refl
past_is_one [] [] (q ∷ qs) now h k = absurd k
past_is_one [] (p ∷ ps) qs now h k = absurd h
past_is_one (d ∷ ds) [] qs now h k = absurd h
past_is_one (d ∷ ds) (p ∷ ps) [] now h k = absurd k
past_is_one (d ∷ ds) (p ∷ ps) (q ∷ qs) now h k =
    let rest : ps ≡ qs = past_is_one ds ps qs now h.3 k.3 in
    let leads : Leads q d (next_of ps now) = subst (λ (xs : List ExactPattern). Leads q d (next_of xs now)) (sym rest) k.2 in
    let first : p ≡ q = leads_to_one (next_of ps now) p q (inverse_of d) (inverse_leads p (next_of ps now) d h.0 h.1 h.2) (inverse_leads q (next_of ps now) d k.0 k.1 leads) in
    λ i. first i ∷ rest i

future_is_one : (now : ExactPattern) (ds : List Delta) (ps qs : List ExactPattern) → LeadFrom now ds ps → LeadFrom now ds qs → ps ≡ qs
future_is_one now [] [] [] h k = refl
future_is_one now [] [] (q ∷ qs) h k = absurd k
future_is_one now [] (p ∷ ps) qs h k = absurd h
future_is_one now (d ∷ ds) [] qs h k = absurd h
future_is_one now (d ∷ ds) (p ∷ ps) [] h k = absurd k
future_is_one now (d ∷ ds) (p ∷ ps) (q ∷ qs) h k =
    let first : p ≡ q = leads_to_one now p q d h.1 k.1 in
    let rest : ps ≡ qs = future_is_one p ds ps qs h.2 (subst (λ (x : ExactPattern). LeadFrom x ds qs) (sym first) k.2) in
    λ i. first i ∷ rest i

abbrev entry_of : ℕ → List ExactPattern → ExactPattern → List ExactPattern → Entry
entry_of rev past now future = record { rev = rev; past = past; now = now; future = future }

pub entry_is_one : (project : ExactProject) (entry other : Entry) → StandsFor project entry → StandsFor project other → entry ≡ other
entry_is_one project entry other h k =
    let rev : entry.rev ≡ other.rev = h.rev ∙ sym k.rev in
    let past : entry.past ≡ other.past = past_is_one project.history.past entry.past other.past project.pattern h.past k.past in
    let now : entry.now ≡ other.now = h.now ∙ sym k.now in
    let future : entry.future ≡ other.future = future_is_one project.pattern project.history.future entry.future other.future h.future k.future in
    λ i. entry_of (rev i) (past i) (now i) (future i)

-- each walk passes patterns
past_exists : (from : ExactPattern) (ds : List Delta) (to : ExactPattern) → IsPattern from → Walk from ds to → (ps : List ExactPattern) × LeadTo ds ps to × (next_of ps to ≡ from)
past_exists from [] to p w = ([], tt, sym w)
past_exists from (d ∷ ds) to p w =
    let r = past_exists w.1.0 ds to w.1.1.pattern w.1.2 in
    (from ∷ r.0, (p, w.0, subst (Leads from d) (sym r.2) w.1.1, r.1), refl)

future_exists : (from : ExactPattern) (ds : List Delta) (to : ExactPattern) → Walk from ds to → (ps : List ExactPattern) × LeadFrom from ds ps
future_exists from [] to w = ([], tt)
future_exists from (d ∷ ds) to w = (let r = future_exists w.1.0 ds to w.1.2 in (w.1.0 ∷ r.0, (w.0, w.1.1, r.1)))

pub entry_exists : (project : ExactProject) → IsProject project → (entry : Entry) × StandsFor project entry
entry_exists project p =
    let past = past_exists p.past.0 project.history.past project.pattern p.past.1 p.past.2 in
    let future = future_exists project.pattern project.history.future p.future.0 p.future.1 in (
      record { rev = project.rev; past = past.0; now = project.pattern; future = future.0 },
      record { rev = refl; now = refl; past = past.1; future = future.1 },
    )

pub empty_stands : (sheet : ExactSheet) → StandsFor (empty_project sheet) (fresh sheet)
empty_stands sheet = record { rev = refl; now = refl; past = tt; future = tt }

-- one rev more
next_rev : (entry rev after : ℕ) → entry ≡ rev → after ≡ rev + 1 → entry + 1 ≡ after
next_rev entry rev after e a = omega arith

-- only the last thousand are kept, of deltas and of patterns
lead_last : (ds : List Delta) (ps : List ExactPattern) (now : ExactPattern) → LeadTo ds ps now → LeadTo (drop (length ds - 1000) ds) (last_thousand ps) now
lead_last ds ps now h =
    subst (λ (n : ℕ). LeadTo (drop (length ds - 1000) ds) (drop (n - 1000) ps) now) (sym (same_length ds ps now h)) (lead_drop (length ds - 1000) ds ps now h)

pub edit_stands : (project after : ExactProject) (entry : Entry) (delta : Delta)
    → IsProject project → StandsFor project entry → Fits project.pattern delta → Stepped project (Do delta) after
    → StandsFor after (edited entry after.pattern)
edit_stands project after entry delta p h f s =
    let on : LeadTo (project.history.past ++ delta ∷ []) (entry.past ++ project.pattern ∷ []) after.pattern
    = lead_on project.history.past entry.past project.pattern delta after.pattern h.past p.pattern f s.leads.pattern in
    let last = lead_last (project.history.past ++ delta ∷ []) (entry.past ++ project.pattern ∷ []) after.pattern on in
    let past = subst (λ (x : ExactPattern). LeadTo (drop (length (project.history.past ++ delta ∷ []) - 1000) (project.history.past ++ delta ∷ [])) (last_thousand (entry.past ++ x ∷ [])) after.pattern) (sym h.now) last in
    record {
      rev = next_rev entry.rev project.rev after.rev h.rev s.rev;
      now = refl;
      past = subst (λ (x : ExactHistory). LeadTo x.past (last_thousand (entry.past ++ entry.now ∷ [])) after.pattern) (sym s.leads.history) past;
      future = subst (λ (x : ExactHistory). LeadFrom after.pattern x.future []) (sym s.leads.history) tt;
    }

-- the entry before an undo, cut at its last pattern
pub record IsUndone (entry : Entry) (after : ExactProject) : Type 0 where
  pub earlier : List ExactPattern
  pub split : entry.past ≡ earlier ++ after.pattern ∷ []
  pub stands : StandsFor after (undone entry earlier after.pattern)

pub undo_stands : (project after : ExactProject) (entry : Entry) → StandsFor project entry → Stepped project Undo after → IsUndone entry after
undo_stands project after entry h s =
    let b : IsBack project.history after.history = s.leads.back in
    let t : IsTakenBack after.history.past b.delta entry.past project.pattern
    = taken_back after.history.past b.delta entry.past project.pattern (subst (λ (ds : List Delta). LeadTo ds entry.past project.pattern) b.past h.past) in
    let same : t.last ≡ after.pattern = leads_to_one project.pattern t.last after.pattern (inverse_of b.delta) t.back s.leads.pattern in
    let future : LeadFrom after.pattern (b.delta ∷ project.history.future) (project.pattern ∷ entry.future)
    = (subst (λ (x : ExactPattern). Fits x b.delta) same t.fits, subst (λ (x : ExactPattern). Leads x b.delta project.pattern) same t.leads, h.future) in
    record {
      earlier = t.earlier;
      split = t.split ∙ ap (λ (x : ExactPattern). t.earlier ++ x ∷ []) same;
      stands = record {
        rev = next_rev entry.rev project.rev after.rev h.rev s.rev;
        now = refl;
        past = subst (LeadTo after.history.past t.earlier) same t.lead;
        future = subst (λ (ds : List Delta). LeadFrom after.pattern ds (entry.now ∷ entry.future)) (sym b.future)
            (subst (λ (x : ExactPattern). LeadFrom after.pattern (b.delta ∷ project.history.future) (x ∷ entry.future)) (sym h.now) future);
      };
    }

-- the entry before a redo, cut at its next pattern
pub record IsRedone (entry : Entry) (after : ExactProject) : Type 0 where
  pub later : List ExactPattern
  pub split : entry.future ≡ after.pattern ∷ later
  pub stands : StandsFor after (redone entry after.pattern later)

-- the patterns of a future with a delta have a first one
record IsGoneOn (now : ExactPattern) (d : Delta) (ds : List Delta) (ps : List ExactPattern) : Type 0 where
  pub next : ExactPattern
  pub later : List ExactPattern
  pub split : ps ≡ next ∷ later
  pub fits : Fits now d
  pub leads : Leads now d next
  pub lead : LeadFrom next ds later

gone_on : (now : ExactPattern) (d : Delta) (ds : List Delta) (ps : List ExactPattern) → LeadFrom now (d ∷ ds) ps → IsGoneOn now d ds ps
gone_on now d ds [] h = absurd h
gone_on now d ds (p ∷ ps) h = record { next = p; later = ps; split = refl; fits = h.0; leads = h.1; lead = h.2 }

pub redo_stands : (project after : ExactProject) (entry : Entry) → IsProject project → StandsFor project entry → Stepped project Redo after → IsRedone entry after
redo_stands project after entry p h s =
    let b : IsBack after.history project.history = s.leads.forth in
    let g : IsGoneOn project.pattern b.delta after.history.future entry.future
    = gone_on project.pattern b.delta after.history.future entry.future (subst (λ (ds : List Delta). LeadFrom project.pattern ds entry.future) b.future h.future) in
    let same : g.next ≡ after.pattern = leads_to_one project.pattern g.next after.pattern b.delta g.leads s.leads.pattern in
    let past : LeadTo (project.history.past ++ b.delta ∷ []) (entry.past ++ project.pattern ∷ []) after.pattern
    = lead_on project.history.past entry.past project.pattern b.delta after.pattern h.past p.pattern g.fits s.leads.pattern in
    record {
      later = g.later;
      split = g.split ∙ ap (λ (x : ExactPattern). x ∷ g.later) same;
      stands = record {
        rev = next_rev entry.rev project.rev after.rev h.rev s.rev;
        now = refl;
        past = subst (λ (ds : List Delta). LeadTo ds (entry.past ++ entry.now ∷ []) after.pattern) (sym b.past)
            (subst (λ (x : ExactPattern). LeadTo (project.history.past ++ b.delta ∷ []) (entry.past ++ x ∷ []) after.pattern) (sym h.now) past);
        future = subst (λ (x : ExactPattern). LeadFrom x after.history.future g.later) same g.lead;
      };
    }
