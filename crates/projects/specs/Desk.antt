-- What a call of the desk says of the tables and of the keeper's count of faults.
use Rattle.std.specs.Prelude.{◌≡◌, ℕ, ◌≤◌, List, Some, None, Result, Ok, Err}
use Rattle.ports.specs.Streams.{Rose}
use Rattle.ports.specs.declared.stop.NoMemory.{NoMemory}
use Rattle.dialogue.specs.declared.cause.Cause.TheVariants as cause
use Rattle.dialogue.specs.declared.command.Command.{Command}
use Rattle.dialogue.specs.declared.reply.Reply.{Reply}
use Rattle.dialogue.specs.declared.reply.Reply.TheVariants as reply
use Rattle.projects.specs.Projects.{ExactProject}
use Rattle.projects.specs.Tables.{Tables, project_at}
use Rattle.projects.specs.Entries.{Entries, StandFor}
use Rattle.projects.specs.Machine.{Answered, StepOrFault}
use Rattle.projects.specs.Changes.{SaysDone}
use Rattle.projects.specs.declared.early.Early.{Early}
use Rattle.projects.specs.declared.early.Early.TheVariants as early

-- The reply to a command is a step of the machine over the entries for which the tables stand, or
-- the keeper failed. Where the reply does not say that a change is made, the tables are as before:
-- so after each question, after each refusal, and where the keeper failed.
pub record IsReply (before : Tables) (c : Command) (r : Reply) (after : Tables) : Type 0 where
  pub step : (entries : Entries) → StandFor before entries
      → (next : Entries) × StandFor after next × StepOrFault entries c r next
  pub same : (¬ SaysDone r) → after ≡ before

-- without memory the tables are as before
abbrev pub Replies : Tables → Command → Result Reply NoMemory → Tables → Type 0
Replies before c (Ok r) after = IsReply before c r after
Replies before c (Err e) after = after ≡ before

-- the count has not fallen, and the keeper failed only where it rose
pub record RepliesWhereRose (before now : ℕ) (result : Result Reply NoMemory) : Type 0 where
  pub later : before ≤ now
  pub failed : result ≡ Ok reply.KeeperFailed → Rose before now

-- the reply is that of the machine; where it does not say that a change is made, the tables are as before
pub record IsDone (before : Tables) (c : Command) (r : Reply) (after : Tables) : Type 0 where
  pub answer : (entries : Entries) → StandFor before entries
      → (next : Entries) × StandFor after next
      × Answered entries c (Ok (record { reply = r; entries = next }))
  pub same : (¬ SaysDone r) → after ≡ before

-- the same, for a command that may end before it is done
abbrev pub Does : Tables → Command → Result Reply Early → Tables → Type 0
Does before c (Ok r) after = IsDone before c r after
Does before c (Err (early.Refused why)) after =
    ((entries : Entries) → StandFor before entries → Answered entries c (Err why)) × (after ≡ before)
Does before c (Err early.KeeperFailed) after = after ≡ before
Does before c (Err early.NoMemory) after = after ≡ before

-- the keeper failed, or that is the reply
abbrev pub HasFailed : Result Reply Early → Type 0
HasFailed (Ok r) = r ≡ reply.KeeperFailed
HasFailed (Err (early.Refused why)) = ⊥
HasFailed (Err early.KeeperFailed) = Unit {0}
HasFailed (Err early.NoMemory) = ⊥

pub record EndsWhereRose (before now : ℕ) (result : Result Reply Early) : Type 0 where
  pub later : before ≤ now
  pub failed : HasFailed result → Rose before now

-- the count has not fallen, and a fetch failed only where it rose
pub record FetchesWhereRose (before now : ℕ) (result : Result ExactProject Early) : Type 0 where
  pub later : before ≤ now
  pub failed : result ≡ Err early.KeeperFailed → Rose before now

-- the project under the name, or the refusal that there is none
abbrev pub Fetched : Tables → List ℕ → Result ExactProject Early → Type 0
Fetched tables name (Ok project) = project_at tables name ≡ Some project
Fetched tables name (Err (early.Refused why)) = (project_at tables name ≡ None) × (why ≡ cause.NoProject)
Fetched tables name (Err early.KeeperFailed) = Unit {0}
Fetched tables name (Err early.NoMemory) = Unit {0}
