-- What a change makes of a project is what it makes of its entry.
use Rattle.std.proofs.Common.{◌≡◌, ℕ, ◌+◌, ◌<◌, ◌≤◌, inl, inr, List, [], ◌∷◌, ◌++◌, length, refl, sym, ap, subst, ◌∙◌, arith, length-append}
use Rattle.std.specs.Prelude.{Option, Result, Ok, Err, IfOk, IfErr}
use Rattle.sheet.specs.Pattern.{ExactPattern}
use Rattle.pattern.specs.Deltas.{Fits, Leads, inverse_of}
use Rattle.pattern.specs.declared.delta.Delta.{Delta}
use Rattle.pattern.proofs.callers.Leading.{leads_to_one}
use Rattle.ports.specs.Stops.{Refuses as RefusesBy}
use Rattle.ports.specs.declared.stop.Stop.{Stop}
use Rattle.ports.specs.declared.stop.Stop.TheVariants as stop
use Rattle.subdivide.specs.CutAnswers.{IsCutAnswer}
use Rattle.subdivide.specs.Live.{IsCut}
use Rattle.subdivide.specs.declared.edge.CutBad.{CutBad}
use Rattle.edits.specs.EditOf.{EditOf}
use Rattle.edits.specs.declared.edit.Edit.{Edit}
use Rattle.edits.specs.declared.edit.Edit.TheVariants as edit
use Rattle.edits.specs.declared.refusal.EditBad.{EditBad}
use Rattle.history.specs.Histories.{pushed, IsLast, IsFirst}
use Rattle.lattice.specs.Lattice.{Measures}
use Rattle.cpfile.specs.CpReading.{ReadsCp}
use Rattle.cpfile.specs.declared.bad.CpBad.{CpBad}
use Rattle.cpfile.specs.declared.drawn.CpLines.{CpLines}
use Rattle.dialogue.specs.declared.cause.Cause.{Cause}
use Rattle.dialogue.specs.declared.cause.Cause.TheVariants as cause
use Rattle.dialogue.specs.declared.command.Change.{Change}
use Rattle.dialogue.specs.declared.command.Change.TheVariants as change
use Rattle.dialogue.specs.declared.reply.Reply.{Reply}
use Rattle.dialogue.specs.declared.reply.Reply.TheVariants as reply
use Rattle.projects.specs.Projects.{ExactProject, IsProject, last_rev}
use Rattle.projects.specs.Steps.{StepFits, Stepped, LeadsBack, LeadsForth}
use Rattle.projects.specs.declared.step.Step.{Step}
use Rattle.projects.specs.declared.step.Step.TheVariants.{Do, Undo, Redo}
use Rattle.projects.specs.declared.changes.Ready.{Ready}
use Rattle.projects.specs.declared.early.Early.{Early}
use Rattle.projects.specs.declared.early.Early.TheVariants as early
use Rattle.projects.specs.Entries.{Entry, LeadTo, LeadFrom, StandsFor}
use Rattle.projects.specs.Machine.{Unless, IsStale, edited, undone, redone, Made, made, imported, Edits, Changes}
use Rattle.projects.specs.Ends.{of_cut, of_edit, of_cp, EndsBy, IsUncut}
use Rattle.projects.specs.Changes.{Plans, PlansOn, StopsEdit, RefusesEdit, StepsTo, StepsOn, Stops, Refuses, LeadsToCut, IsUncutAfter, SaysDone, MakesStep, RefusesChange}
use Rattle.projects.proofs.Stepping.{project_of}
use Rattle.projects.proofs.OneStep.{one_result}
use Rattle.projects.proofs.Standing.{IsUndone, IsRedone, edit_stands, undo_stands, redo_stands}

-- the ends that are left
pub ends_map : (P Q : Cause → Type 0) → ((why : Cause) → P why → Q why) → (e : Early) → EndsBy P e
    → EndsBy Q e
ends_map P Q f (early.Refused why) h = f why h
ends_map P Q f early.KeeperFailed h = h
ends_map P Q f early.NoMemory h = tt

pub err_map : {A : Type 0} (P Q : Cause → Type 0) → ((why : Cause) → P why → Q why)
    → (r : Result A Early) → IfErr r (EndsBy P) → IfErr r (EndsBy Q)
err_map P Q f (Ok a) h = tt
err_map P Q f (Err e) h = ends_map P Q f e h

pub ok_map : {A : Type 0} (P Q : A → Type 0) → ((a : A) → P a → Q a) → (r : Result A Early) → IfOk r P
    → IfOk r Q
ok_map P Q f (Ok a) h = f a h
ok_map P Q f (Err e) h = tt

-- the step of an edit leads to a project
record PlanGoes (p : ExactProject) (e : Entry) (edit : Edit) (step : Step) (new : ExactPattern) : Type 0 where
  pub after : ExactProject
  pub taken : Stepped p step after
  pub is : EditOf e.now edit (Ok new)
  pub stands : StandsFor after (edited e new)

plan_goes : (p : ExactProject) (e : Entry) (edit : Edit) (step : Step) (new : ExactPattern) → IsProject p
    → StandsFor p e
    → Plans p edit step new → PlanGoes p e edit step new
plan_goes p e edit step new is h s =
    let after : ExactProject = project_of (p.rev + 1) new (pushed p.history s.0) in
    let taken : Stepped p (Do s.0) after = record { rev = refl; leads = record { pattern = s.3; history = refl } } in
    record {
      after = after;
      taken = subst (λ (t : Step). Stepped p t after) (sym s.1) taken;
      is = subst (λ (x : ExactPattern). EditOf x edit (Ok new)) (sym h.now) s.4;
      stands = edit_stands p after e s.0 is h s.2 taken;
    }

-- the step that a change makes leads to a project
record Goes (p : ExactProject) (e : Entry) (c : Change) (ready : Ready) (new : ExactPattern) : Type 0 where
  pub after : ExactProject
  pub next : Made
  pub taken : Stepped p ready.step after
  pub changes : Changes e c (Ok next)
  pub says : next.reply ≡ ready.reply
  pub stands : StandsFor after next.entry
  pub new_is : next.entry.now ≡ new

-- the answer names the rev of the next entry
names_rev : (kept rev : ℕ) (r : Reply) → kept ≡ rev → r ≡ reply.Done (rev + 1) → reply.Done (kept + 1) ≡ r
names_rev kept rev r e is = ap (λ (n : ℕ). reply.Done (n + 1)) e ∙ sym is

names_counts : (kept rev : ℕ) (read : CpLines) (r : Reply) → kept ≡ rev
    → r ≡ reply.Imported (rev + 1) (length read.lines) read.dropped
    → reply.Imported (kept + 1) (length read.lines) read.dropped ≡ r
names_counts kept rev read r e is = ap (λ (n : ℕ). reply.Imported (n + 1) (length read.lines) read.dropped) e ∙ sym is

edit_goes : (p : ExactProject) (e : Entry) (edit : Edit) (ready : Ready) (new : ExactPattern)
    → IsProject p → StandsFor p e
    → StepsTo p (change.Edit edit) ready new → Goes p e (change.Edit edit) ready new
edit_goes p e edit ready new is h s =
    let g : PlanGoes p e edit ready.step new = plan_goes p e edit ready.step new is h s.0 in
    record {
      after = g.after;
      next = made (edited e new);
      taken = g.taken;
      changes = inr (new, g.is, refl);
      says = names_rev e.rev p.rev ready.reply h.rev s.1;
      stands = g.stands;
      new_is = refl;
    }

import_goes : (p : ExactProject) (e : Entry) (lattice : Measures) (text : List ℕ) (ready : Ready) (new : ExactPattern)
    → IsProject p → StandsFor p e → StepsTo p (change.Import lattice text) ready new
    → Goes p e (change.Import lattice text) ready new
import_goes p e lattice text ready new is h s =
    let read : CpLines = s.0 in
    let g : PlanGoes p e (edit.Lines read.lines) ready.step new = plan_goes p e (edit.Lines read.lines) ready.step new is h s.2 in
    record {
      after = g.after;
      next = imported read (edited e new);
      taken = g.taken;
      changes = inr (read, subst (λ (x : ExactPattern). ReadsCp lattice x.sheet text (Ok read)) (sym h.now) s.1, inr (new, g.is, refl));
      says = names_counts e.rev p.rev read ready.reply h.rev s.3;
      stands = g.stands;
      new_is = refl;
    }

undo_goes : (p : ExactProject) (e : Entry) (ready : Ready) (new : ExactPattern) → StandsFor p e
    → StepsTo p change.Undo ready new → Goes p e change.Undo ready new
undo_goes p e ready new h s =
    let b : LeadsBack p new = s.1 in
    let after : ExactProject = project_of (p.rev + 1) new (record { past = b.1.0; future = b.0 ∷ p.history.future }) in
    let taken : Stepped p Undo after = record { rev = refl; leads = record { back = record { delta = b.0; past = b.1.1; future = refl }; pattern = b.2 } } in
    let u : IsUndone e after = undo_stands p after e h taken in
    record {
      after = after;
      next = made (undone e u.earlier new);
      taken = subst (λ (t : Step). Stepped p t after) (sym s.0) taken;
      changes = inr (u.earlier, new, u.split, refl);
      says = names_rev e.rev p.rev ready.reply h.rev s.2;
      stands = u.stands;
      new_is = refl;
    }

redo_goes : (p : ExactProject) (e : Entry) (ready : Ready) (new : ExactPattern) → IsProject p → StandsFor p e
    → StepsTo p change.Redo ready new → Goes p e change.Redo ready new
redo_goes p e ready new is h s =
    let f : LeadsForth p new = s.1 in
    let after : ExactProject = project_of (p.rev + 1) new (record { past = p.history.past ++ f.0 ∷ []; future = f.1.0 }) in
    let taken : Stepped p Redo after = record { rev = refl; leads = record { forth = record { delta = f.0; past = refl; future = f.1.1 }; pattern = f.2 } } in
    let r : IsRedone e after = redo_stands p after e is h taken in
    record {
      after = after;
      next = made (redone e new r.later);
      taken = subst (λ (t : Step). Stepped p t after) (sym s.0) taken;
      changes = inr (new, r.later, r.split, refl);
      says = names_rev e.rev p.rev ready.reply h.rev s.2;
      stands = r.stands;
      new_is = refl;
    }

goes_on : (p : ExactProject) (e : Entry) (c : Change) (ready : Ready) (new : ExactPattern) → IsProject p
    → StandsFor p e
    → StepsTo p c ready new → Goes p e c ready new
goes_on p e (change.Edit edit) ready new is h s = edit_goes p e edit ready new is h s
goes_on p e (change.Import lattice text) ready new is h s = import_goes p e lattice text ready new is h s
goes_on p e change.Undo ready new is h s = undo_goes p e ready new h s
goes_on p e change.Redo ready new is h s = redo_goes p e ready new is h s

some_past : (deltas : List Delta) (d : Delta) → IsLast deltas d → 0 < length deltas
some_past deltas d l = omega (arith, ap length l.1, length-append l.0 (d ∷ []))

some_future : (deltas : List Delta) (d : Delta) → IsFirst deltas d → 0 < length deltas
some_future deltas d f = omega (arith, ap length f.1)

plan_fits : (p : ExactProject) (edit : Edit) (step : Step) (new : ExactPattern) → Plans p edit step new
    → StepFits p step
plan_fits p edit step new s = subst (StepFits p) (sym s.1) s.2

step_fits : (p : ExactProject) (c : Change) (ready : Ready) (new : ExactPattern) → StepsTo p c ready new
    → StepFits p ready.step
step_fits p (change.Edit edit) ready new s = plan_fits p edit ready.step new s.0
step_fits p (change.Import lattice text) ready new s = plan_fits p (edit.Lines s.0.lines) ready.step new s.2
step_fits p change.Undo ready new s = subst (StepFits p) (sym s.0) (some_past p.history.past s.1.0 s.1.1)
step_fits p change.Redo ready new s = subst (StepFits p) (sym s.0) (some_future p.history.future s.1.0 s.1.1)

done_says : (rev : ℕ) (r : Reply) → r ≡ reply.Done rev → SaysDone r
done_says rev r e = subst SaysDone (sym e) tt

imported_says : (rev drawn dropped : ℕ) (r : Reply) → r ≡ reply.Imported rev drawn dropped → SaysDone r
imported_says rev drawn dropped r e = subst SaysDone (sym e) tt

step_says : (p : ExactProject) (c : Change) (ready : Ready) (new : ExactPattern) → StepsTo p c ready new
    → SaysDone ready.reply
step_says p (change.Edit edit) ready new s = done_says (p.rev + 1) ready.reply s.1
step_says p (change.Import lattice text) ready new s = imported_says (p.rev + 1) (length s.0.lines) s.0.dropped ready.reply s.3
step_says p change.Undo ready new s = done_says (p.rev + 1) ready.reply s.2
step_says p change.Redo ready new s = done_says (p.rev + 1) ready.reply s.2

below : (rev last : ℕ) → rev ≤ last → (¬ (rev ≡ last)) → rev < last
below rev last m n = omega (arith, m, n)

-- what the test of a rev answers
abbrev pub IsRevTested : ℕ → Option ℕ → Result (Unit {0}) Cause → Type 0
IsRevTested kept given = Unless {A = Unit {0}} (IsStale given kept) (cause.Stale kept) (Unless {A = Unit {0}} (kept ≡ last_rev) cause.RevFull (λ a. a ≡ Ok tt))

-- the rev was tested
pub record IsTested (p : ExactProject) (given : Option ℕ) : Type 0 where
  pub right : ¬ IsStale given p.rev
  pub room : ¬ (p.rev ≡ last_rev)

pub tested : (p : ExactProject) (given : Option ℕ) → IsRevTested p.rev given (Ok tt) → IsTested p given
tested p given h = elim h [
  | inl x ↦ cc
  | inr x ↦ elim (x.1) [
    | inl y ↦ cc
    | inr y ↦ record { right = x.0; room = y.0 }
  ]
]

pub makes_step : (p : ExactProject) (given : Option ℕ) (c : Change) → IsProject p → IsCut p.pattern
    → IsTested p given
    → (ready : Ready) → StepsOn p c ready → MakesStep p given c ready
makes_step p given c is cut t ready s = record {
  rev = below p.rev last_rev is.rev t.room;
  fits = step_fits p c ready ready.next s.0;
  says = step_says p c ready ready.next s.0;
  makes = λ e h. (let g : Goes p e c ready ready.next = goes_on p e c ready ready.next is h s.0 in (
    g.next,
    inr (subst IsCut (sym h.now) cut, inr ((λ x. t.right (subst (IsStale given) h.rev x)), inr ((λ x. t.room (sym h.rev ∙ x)), inr (g.next, g.changes, inr (subst IsCut (sym g.new_is) s.1, refl))))),
    g.says,
    λ after k. subst (λ (x : ExactProject). StandsFor x g.next.entry) (one_result p g.after after ready.step g.taken k) g.stands,
  ));
}

abbrev refused : Cause → Result (Unit {0}) Cause
refused why = Err why

same_cause : (x y : Cause) → refused x ≡ refused y → x ≡ y
same_cause x y e = cc

pub refuses_rev : (p : ExactProject) (given : Option ℕ) (c : Change) → IsCut p.pattern → (why : Cause)
    → IsRevTested p.rev given (Err why) → RefusesChange p given c why
refuses_rev p given c cut why t e h = elim t [
  | inl x ↦ inr (subst IsCut (sym h.now) cut, inl (subst (IsStale given) (sym h.rev) x.0, ap Err (same_cause why (cause.Stale p.rev) x.1) ∙ ap (λ (n : ℕ). Err (cause.Stale n)) (sym h.rev)))
  | inr x ↦ elim (x.1) [
    | inl y ↦ inr (subst IsCut (sym h.now) cut, inr ((λ s. x.0 (subst (IsStale given) h.rev s)), inl (h.rev ∙ y.0, ap Err (same_cause why cause.RevFull y.1))))
    | inr y ↦ cc
  ]
]

no_past : (ds : List Delta) (ps : List ExactPattern) (now : ExactPattern) → ds ≡ [] → LeadTo ds ps now
    → ps ≡ []
no_past [] [] now e h = refl
no_past [] (p ∷ ps) now e h = absurd h
no_past (d ∷ ds) ps now e h = cc

no_future : (now : ExactPattern) (ds : List Delta) (ps : List ExactPattern) → ds ≡ []
    → LeadFrom now ds ps → ps ≡ []
no_future now [] [] e h = refl
no_future now [] (p ∷ ps) e h = absurd h
no_future now (d ∷ ds) ps e h = cc

stops_edit : (p : ExactProject) (edit : Edit) (tell : Entry → Made) (why : Cause) (e : Entry) → StandsFor p e
    → StopsEdit p edit why → Edits e edit tell (Err why)
stops_edit p edit tell why e h s = inl (s.0, subst (λ (x : ExactPattern). EditOf x edit (Err s.0)) (sym h.now) s.1, ap Err s.2)

stops_import : (p : ExactProject) (lattice : Measures) (text : List ℕ) (why : Cause) (e : Entry)
    → StandsFor p e
    → Stops p (change.Import lattice text) why → Changes e (change.Import lattice text) (Err why)
stops_import p lattice text why e h s = elim s [
  | inl x ↦ inl (x.0, subst (λ (y : ExactPattern). ReadsCp lattice y.sheet text (Err x.0)) (sym h.now) x.1, ap Err x.2)
  | inr x ↦ (let read : CpLines = x.0 in
      inr (read, subst (λ (y : ExactPattern). ReadsCp lattice y.sheet text (Ok read)) (sym h.now) x.1, stops_edit p (edit.Lines read.lines) (imported read) why e h x.2))
]

stops : (p : ExactProject) (c : Change) (why : Cause) (e : Entry) → StandsFor p e → Stops p c why
    → Changes e c (Err why)
stops p (change.Edit edit) why e h s = stops_edit p edit made why e h s
stops p (change.Import lattice text) why e h s = stops_import p lattice text why e h s
stops p change.Undo why e h s = inl (no_past p.history.past e.past p.pattern s.0 h.past, ap Err s.1)
stops p change.Redo why e h s = inl (no_future p.pattern p.history.future e.future s.0 h.future, ap Err s.1)

pub refuses_change : (p : ExactProject) (given : Option ℕ) (c : Change) → IsProject p → IsCut p.pattern
    → IsTested p given → (why : Cause) → Refuses p c why → RefusesChange p given c why
refuses_change p given c is cut t why r e h = inr (
  subst IsCut (sym h.now) cut,
  inr (
    (λ x. t.right (subst (IsStale given) h.rev x)),
    inr (
      (λ x. t.room (sym h.rev ∙ x)),
      elim r [
        | inl s ↦ inl (why, stops p c why e h s, refl)
        | inr s ↦ (let g : Goes p e c s.0 s.1 = goes_on p e c s.0 s.1 is h s.2 in
            inr (g.next, g.changes, inl (s.3.0, subst (λ (x : ExactPattern). IsCutAnswer x (Err s.3.0)) (sym g.new_is) s.3.1, ap Err s.3.2)))
      ],
    ),
  ),
)

-- the end of an edit that is planned
pub plan_ends : (p : ExactProject) (edit : Edit) (e : Stop EditBad)
    → RefusesBy (EditOf p.pattern edit) e → EndsBy (RefusesEdit p edit) (of_edit e)
plan_ends p edit stop.NoMemory h = tt
plan_ends p edit (stop.Why bad) h = inl (bad, h, refl)

pub plan_on : (p : ExactProject) (edit : Edit) (d : Delta) (new next : ExactPattern) → Fits p.pattern d
    → Leads p.pattern d new → EditOf p.pattern edit (Ok new)
    → LeadsToCut p.pattern d next → PlansOn p edit (Do d) next
plan_on p edit d new next f l o t = (
  (d, refl, f, t.0, subst (λ (x : ExactPattern). EditOf p.pattern edit (Ok x)) (leads_to_one p.pattern new next d l t.0) o),
  t.1,
)

pub plan_uncut : (p : ExactProject) (edit : Edit) (d : Delta) (new : ExactPattern) → Fits p.pattern d
    → Leads p.pattern d new → EditOf p.pattern edit (Ok new)
    → (why : Cause) → IsUncutAfter p.pattern d why → RefusesEdit p edit why
plan_uncut p edit d new f l o why u = inr (Do d, new, (d, refl, f, l, o), u new l)

-- the step of a change, the pattern after it, and its answer
abbrev pub ready_of : Step → ExactPattern → Reply → Ready
ready_of step next r = record { step = step; next = next; reply = r }

pub edit_refuses : (p : ExactProject) (edit : Edit) (why : Cause) → RefusesEdit p edit why
    → Refuses p (change.Edit edit) why
edit_refuses p edit why r = elim r [
  | inl s ↦ inl s
  | inr s ↦ inr (ready_of s.0 s.1 (reply.Done (p.rev + 1)), s.1, (s.2, refl), s.3)
]

pub import_refuses : (p : ExactProject) (lattice : Measures) (text : List ℕ) (read : CpLines)
    → ReadsCp lattice p.pattern.sheet text (Ok read)
    → (why : Cause) → RefusesEdit p (edit.Lines read.lines) why → Refuses p (change.Import lattice text) why
import_refuses p lattice text read is why r = elim r [
  | inl s ↦ inl (inr (read, is, s))
  | inr s ↦ inr (ready_of s.0 s.1 (reply.Imported (p.rev + 1) (length read.lines) read.dropped), s.1, (read, is, s.2, refl), s.3)
]

pub undo_uncut : (p : ExactProject) (d back : Delta) → IsLast p.history.past d → back ≡ inverse_of d
    → Fits p.pattern back → (why : Cause) → IsUncutAfter p.pattern back why → Refuses p change.Undo why
undo_uncut p d back l e f why u =
    inr (ready_of Undo f.leads.0 (reply.Done (p.rev + 1)), f.leads.0, (refl, (d, l, subst (λ (x : Delta). Leads p.pattern x f.leads.0) e f.leads.1), refl), u f.leads.0 f.leads.1)

pub redo_uncut : (p : ExactProject) (d : Delta) → IsFirst p.history.future d → Fits p.pattern d
    → (why : Cause) → IsUncutAfter p.pattern d why → Refuses p change.Redo why
redo_uncut p d l f why u = inr (ready_of Redo f.leads.0 (reply.Done (p.rev + 1)), f.leads.0, (refl, (d, l, f.leads.1), refl), u f.leads.0 f.leads.1)

-- an end that is handed on
pub handed_on : {A : Type 0} (r : Result A Early) (P : Cause → Type 0) {y e : Early} → r ≡ Err y → y ≡ e
    → EndsBy P e → IfErr r (EndsBy P)
handed_on {A = A} r P same end h = subst (λ (x : Result A Early). IfErr x (EndsBy P)) (sym same) (subst (EndsBy P) (sym end) h)

-- where cutting refuses the pattern to which a delta leads, it refuses each such pattern
pub uncut_after : (old new : ExactPattern) (d : Delta) → Leads old d new → (end : Stop CutBad)
    → RefusesBy (IsCutAnswer new) end → EndsBy (IsUncutAfter old d) (of_cut end)
uncut_after old new d l stop.NoMemory h = tt
uncut_after old new d l (stop.Why bad) h =
    λ other k. (bad, subst (λ (x : ExactPattern). IsCutAnswer x (Err bad)) (leads_to_one old new other d l k) h, refl)

-- the delta that is planned for an edit of this pattern
pub record IsPlanned (now : ExactPattern) (edit : Edit) (d : Delta) : Type 0 where
  pub new : ExactPattern
  pub fits : Fits now d
  pub leads : Leads now d new
  pub is : EditOf now edit (Ok new)

pub planned : (old now : ExactPattern) (edit : Edit) (d : Delta) (new : ExactPattern) → old ≡ now
    → Fits old d → EditOf old edit (Ok new) → Leads old d new → IsPlanned now edit d
planned old now edit d new same f o l = subst (λ (x : ExactPattern). IsPlanned x edit d) same (record { new = new; fits = f; leads = l; is = o })
