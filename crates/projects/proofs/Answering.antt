-- What a call of the desk says of the tables, by what each call of the keeper says.
use Rattle.std.proofs.Common.{◌≡◌, ℕ, ◌<◌, ◌≤◌, inl, inr, arith, List, true, false, refl, sym, ap, subst, ◌∙◌}
use Rattle.std.specs.Prelude.{Option, Some, None, IsSome, Result, Ok, Err}
use Rattle.sheet.specs.Sheet.{ExactSheet}
use Rattle.sheet.specs.Pattern.{ExactPattern}
use Rattle.ports.specs.Streams.{Rose}
use Rattle.ports.specs.declared.stop.NoMemory.{NoMemory}
use Rattle.dialogue.specs.declared.cause.Cause.{Cause}
use Rattle.dialogue.specs.declared.cause.Cause.TheVariants as cause
use Rattle.dialogue.specs.declared.command.Change.{Change}
use Rattle.dialogue.specs.declared.command.Command.{Command}
use Rattle.dialogue.specs.declared.command.Command.TheVariants as command
use Rattle.dialogue.specs.declared.reply.Reply.{Reply}
use Rattle.dialogue.specs.declared.reply.Reply.TheVariants as reply
use Rattle.projects.specs.Projects.{ExactProject, empty_project, last_rev}
use Rattle.projects.specs.Steps.{StepFits, Stepped}
use Rattle.projects.specs.Tables.{Tables, names_of, project_at, Created, CanCommit, IsCommitted}
use Rattle.projects.specs.Keeping.{Tells, AreTold, FailsWhereRose}
use Rattle.projects.specs.Entries.{Entry, Entries, StandsFor, StandFor, entry_at, with_entry, fresh}
use Rattle.projects.specs.Machine.{Made, Said, told, done, Under, Asked, Changed, Answered}
use Rattle.projects.specs.Ends.{of_keeper, EndsBy, Answers}
use Rattle.projects.specs.Changes.{MakesStep, RefusesChange}
use Rattle.projects.specs.Desk.{Replies, RepliesWhereRose, Does, EndsWhereRose, Fetched, FetchesWhereRose}
use Rattle.projects.specs.declared.keeper.KeeperEnd.{KeeperEnd}
use Rattle.projects.specs.declared.keeper.KeeperEnd.TheVariants as keeper
use Rattle.projects.specs.declared.step.Step.{Step}
use Rattle.projects.specs.declared.changes.Ready.{Ready}
use Rattle.projects.specs.declared.early.Early.{Early}
use Rattle.projects.specs.declared.early.Early.TheVariants as early
use Rattle.projects.proofs.Committing.{can_commit}
use Rattle.projects.proofs.Entries.{some_same}
use Rattle.projects.proofs.Standing.{empty_stands}
use Rattle.projects.proofs.TablesStanding.{names_stand, stand_at, found_stands, none_stands, some_stands, put_stands}
use Rattle.creases.proofs.callers.SegmentChanges.{none_or_some}

-- what is told more
pub tells_more : (old new : Option Tables) (clean : Type 0) (F G : Tables → Tables → Type 0)
    → ((before after : Tables) → F before after → G before after)
    → Tells old clean new F → Tells old clean new G
tells_more old new clean F G f h before e c =
    let t : (after : Tables) × AreTold before after new F = h before e c in
    (t.0, record { told = t.1.told; old_tables = t.1.old_tables; new_tables = t.1.new_tables; holds = f before t.0 t.1.holds })

-- what is told of one call after another
pub tells_on : (old mid new : Option Tables) (first last : Type 0) (F G H : Tables → Tables → Type 0)
    → ((before between after : Tables) → F before between → G between after → H before after)
    → Tells old first mid F → (last → first) → Tells mid last new G → Tells old last new H
tells_on old mid new first last F G H f h clean k before e c =
    let t : (between : Tables) × AreTold before between mid F = h before e (clean c) in
    let u : (after : Tables) × AreTold t.0 after new G = k t.0 t.1.told c in
    (u.0, record { told = u.1.told; old_tables = t.1.old_tables; new_tables = u.1.new_tables; holds = f before t.0 u.0 t.1.holds u.1.holds })

-- what is under a name is there, or not
is_there : (kept : Option Entry) (e : Entry) → kept ≡ Some e → ¬ (kept ≡ None)
is_there kept e s n = none_or_some kept e n s

not_there : (kept : Option Entry) → kept ≡ None → ¬ IsSome kept
not_there None e h = cc
not_there (Some x) e h = cc

-- the project that was fetched stands for the entry under the name
entry_found : (tables : Tables) (entries : Entries) (name : List ℕ) (p : ExactProject)
    → StandFor tables entries → project_at tables name ≡ Some p
    → (e : Entry) × (entry_at entries name ≡ Some e) × StandsFor p e
entry_found tables entries name p h f = found_stands (project_at tables name) (entry_at entries name) p (stand_at tables entries name h) f

-- a command under a name where there is no project
pub does_without : (before after : Tables) (c : Command) (name : List ℕ) (Of : Entries → Entry → Result Said Cause → Type 0)
    → ((entries : Entries) (answer : Result Said Cause) → Under entries name (Of entries) answer → Answered entries c answer)
    → (e : Early) → after ≡ before → Fetched before name (Err e) → Does before c (Err e) after
does_without before after c name Of n (early.Refused why) same f =
    ((λ entries h. n entries (Err why) (inl (none_stands (project_at before name) (entry_at entries name) (stand_at before entries name h) f.0, ap Err f.1))), same)
does_without before after c name Of n early.KeeperFailed same f = same
does_without before after c name Of n early.NoMemory same f = same

-- a question about the project that was fetched
question_on : (Q : ℕ → ExactPattern → Result Reply Cause → Type 0) (p : ExactProject) (e : Entry) (r : Result Reply Cause) → StandsFor p e → Q p.rev p.pattern r → Q e.rev e.now r
question_on Q p e r h q = subst (λ (n : ℕ). Q n e.now r) (sym h.rev) (subst (λ (x : ExactPattern). Q p.rev x r) (sym h.now) q)

asked : (entries : Entries) (name : List ℕ) (Q : ℕ → ExactPattern → Result Reply Cause → Type 0) (p : ExactProject) (e : Entry) (r : Result Reply Cause)
    → entry_at entries name ≡ Some e → StandsFor p e → Q p.rev p.pattern r
    → Asked entries name Q (told entries r)
asked entries name Q p e r at h q = inr (is_there (entry_at entries name) e at, (e, at, (r, question_on Q p e r h q, refl)))

pub does_ask : (before after : Tables) (c : Command) (name : List ℕ) (Q : ℕ → ExactPattern → Result Reply Cause → Type 0)
    → ((entries : Entries) (answer : Result Said Cause) → Asked entries name Q answer → Answered entries c answer)
    → (p : ExactProject) (r : Result Reply Early) → after ≡ before → project_at before name ≡ Some p
    → Answers (Q p.rev p.pattern) r → Does before c r after
does_ask before after c name Q n p (Ok r) same f q = record {
  answer = λ entries h.
      (let e = entry_found before entries name p h f in
      (entries, subst (λ (t : Tables). StandFor t entries) (sym same) h, n entries (told entries (Ok r)) (asked entries name Q p e.0 (Ok r) e.1 e.2 q)));
  same = λ k. same;
}
does_ask before after c name Q n p (Err (early.Refused why)) same f q =
    ((λ entries h. (let e = entry_found before entries name p h f in n entries (told entries (Err why)) (asked entries name Q p e.0 (Err why) e.1 e.2 q))), same)
does_ask before after c name Q n p (Err early.KeeperFailed) same f q = absurd q
does_ask before after c name Q n p (Err early.NoMemory) same f q = same

-- a new project, and the names of all
pub does_create : (E : Type 0) (before after : Tables) (name : List ℕ) (sheet : ExactSheet)
    → Created {E = E} before name sheet (Ok true) after
    → Does before (command.New name sheet) (Ok (reply.Done 0)) after
does_create E before after name sheet c = record {
  answer = λ entries h. (
    with_entry entries name (fresh sheet),
    subst (λ (t : Tables). StandFor t (with_entry entries name (fresh sheet))) (sym c.1) (put_stands before entries name (empty_project sheet) (fresh sheet) h (empty_stands sheet)),
    inr (not_there (entry_at entries name) (none_stands (project_at before name) (entry_at entries name) (stand_at before entries name h) c.0), refl),
  );
  same = λ n. absurd (n tt);
}

pub does_exist : (E : Type 0) (before after : Tables) (name : List ℕ) (sheet : ExactSheet)
    → Created {E = E} before name sheet (Ok false) after
    → Does before (command.New name sheet) (Err (early.Refused cause.Exists)) after
does_exist E before after name sheet c =
    ((λ entries h. inl (some_stands (project_at before name) (entry_at entries name) (stand_at before entries name h) c.0, refl)), c.1)

pub does_list : (before after : Tables) (names : List (List ℕ)) → after ≡ before
    → names ≡ names_of before → Does before command.List (Ok (reply.Names names)) after
does_list before after names same e = record {
  answer = λ entries h. (
    entries,
    subst (λ (t : Tables). StandFor t entries) (sym same) h,
    ap (λ (ns : List (List ℕ)). Ok (record { reply = reply.Names ns; entries = entries })) (e ∙ names_stand before entries h),
  );
  same = λ n. same;
}

-- a change of the project that was fetched
pub does_refuse : (before after : Tables) (name : List ℕ) (given : Option ℕ) (c : Change) (p : ExactProject) (e : Early) → after ≡ before → project_at before name ≡ Some p
    → EndsBy (RefusesChange p given c) e → Does before (command.Change name given c) (Err e) after
does_refuse before after name given c p (early.Refused why) same f r = (
  (λ entries h. (let e = entry_found before entries name p h f in
      inr (is_there (entry_at entries name) e.0 e.1, (e.0, e.1, (Err why, r e.0 e.2, refl))))),
  same,
)
does_refuse before after name given c p early.KeeperFailed same f r = absurd r
does_refuse before after name given c p early.NoMemory same f r = same

pub does_change : (before after : Tables) (name : List ℕ) (given : Option ℕ) (c : Change) (p : ExactProject) (ready : Ready) → project_at before name ≡ Some p
    → MakesStep p given c ready → IsCommitted before name ready.step after
    → Does before (command.Change name given c) (Ok ready.reply) after
does_change before after name given c p ready f m k = record {
  answer = λ entries h.
      (let e = entry_found before entries name p h f in
      let next = m.makes e.0 e.2 in
      let same : k.project ≡ p = some_same k.project p (sym k.there ∙ f) in
      let stepped : Stepped p ready.step k.next = subst (λ (x : ExactProject). Stepped x ready.step k.next) same k.stepped in
      let stands : StandsFor k.next next.0.entry = next.3 k.next stepped in (
        with_entry entries name next.0.entry,
        subst (λ (t : Tables). StandFor t (with_entry entries name next.0.entry)) (sym k.tables) (put_stands before entries name k.next next.0.entry h stands),
        inr (
          is_there (entry_at entries name) e.0 e.1,
          (
            e.0,
            e.1,
            (
              Ok next.0,
              next.1,
              ap (λ (r : Reply). Ok (record { reply = r; entries = with_entry entries name next.0.entry })) (sym next.2),
            ),
          ),
        ),
      ));
  same = λ n. absurd (n m.says);
}

-- an end that is handed on
pub does_end : (before after : Tables) (c : Command) (r : Result Reply Early) {y e : Early} → r ≡ Err y
    → y ≡ e → Does before c (Err e) after → Does before c r after
does_end before after c r same end d = subst (λ (x : Result Reply Early). Does before c x after) (sym same) (subst (λ (x : Early). Does before c (Err x) after) (sym end) d)

-- what is answered of the entry under a name
abbrev pub ChangedOf : List ℕ → Option ℕ → Change → Entries → Entry → Result Said Cause → Type 0
ChangedOf name given c entries e answer = (r : Result Made Cause) × Changed e given c r × (answer ≡ done entries name r)

abbrev pub AskedOf : (ℕ → ExactPattern → Result Reply Cause → Type 0) → Entries → Entry → Result Said Cause → Type 0
AskedOf Q entries e answer = (r : Result Reply Cause) × Q e.rev e.now r × (answer ≡ told entries r)

-- a question about a project that is not there, or was not fetched
pub missing : (old new : Option Tables) (clean : Type 0) (name : List ℕ) (asked c : Command) (Q : ℕ → ExactPattern → Result Reply Cause → Type 0) → asked ≡ c
    → ((entries : Entries) (answer : Result Said Cause) → Asked entries name Q answer → Answered entries c answer)
    → (r : Result Reply Early) (y e : Early) → r ≡ Err y → y ≡ e
    → Tells old clean new (λ before after. (after ≡ before) × Fetched before name (Err e))
    → Tells old clean new (λ before after. Does before asked r after)
missing old new clean name asked c Q is n r y e same end t = tells_more old new clean
    (λ before after. (after ≡ before) × Fetched before name (Err e)) (λ before after. Does before asked r after)
    (λ before after h. subst (λ (x : Command). Does before x r after) (sym is)
    (does_end before after c r same end (does_without before after c name (AskedOf Q) n e h.0 h.1))) t

-- a question about the project that was fetched
pub answering : (old new : Option Tables) (clean : Type 0) (name : List ℕ) (asked c : Command) (Q : ℕ → ExactPattern → Result Reply Cause → Type 0) → asked ≡ c
    → ((entries : Entries) (answer : Result Said Cause) → Asked entries name Q answer → Answered entries c answer)
    → (p : ExactProject) (r : Result Reply Early) → Answers (Q p.rev p.pattern) r
    → Tells old clean new (λ before after. (after ≡ before) × (project_at before name ≡ Some p))
    → Tells old clean new (λ before after. Does before asked r after)
answering old new clean name asked c Q is n p r q t = tells_more old new clean
    (λ before after. (after ≡ before) × (project_at before name ≡ Some p)) (λ before after. Does before asked r after)
    (λ before after h. subst (λ (x : Command). Does before x r after) (sym is) (does_ask before after c name Q n p r h.0 h.1 q)) t
