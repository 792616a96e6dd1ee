-- What came of answering units of a script, one after another.
use Rattle.std.specs.Prelude.{◌≡◌, ◌≤◌, ℕ, List, [], ◌∷◌, Result, Ok, Err}
use Rattle.ports.specs.Streams.{IsFront, Rose}
use Rattle.dialogue.specs.declared.command.Command.{Command}
use Rattle.projects.specs.Tables.{Tables}
use Rattle.projects.specs.Entries.{Entries, StandFor}
use Rattle.oriedit.specs.Outputs.{Gained}
use Rattle.oriedit.specs.Units.{AreUnits}
use Rattle.oriedit.specs.Turns.{Replied}
use Rattle.oriedit.specs.Script.{Works, KeepsTelling, RoseBy, AreAnswered, AreCutOff, DoesSome}
use Rattle.oriedit.specs.declared.early.Early.{Early}
use Rattle.oriedit.specs.declared.early.Early.TheVariants as early
use Rattle.oriedit.specs.declared.status.Status.{Status}
use Rattle.oriedit.specs.declared.status.Status.TheVariants as status

-- the status with which a script ends that ends early
abbrev pub status_of : Early → Status
status_of early.WriteFault = status.WriteFault
status_of early.NoMemory = status.NoMemory

-- the count of faults of a sink has not fallen, and writing failed only where it rose
pub record WritesWhereRose (before now : ℕ) (result : Result Unit Early) : Type 0 where
  pub later : before ≤ now
  pub failed : result ≡ Err early.WriteFault → Rose before now

-- over each list of entries for which the tables stand the command is replied with this text
abbrev pub ReplyTables : Tables → Command → List ℕ → ℕ → Tables → Type 0
ReplyTables before c text fails after =
    (entries : Entries) → StandFor before entries → (next : Entries) × StandFor after next
    × Replied entries c text fails next

-- a command was done; its text was written, or a front of it
pub record IsReplied (c : Command) (old : Works) (clean : Type 0) (new : Works)
    (text written : List ℕ) : Type 0 where
  pub fails : ℕ
  pub told : KeepsTelling old.tables clean new.tables (λ before after. ReplyTables before c text fails after)
  pub counted : RoseBy old.faults new.faults fails
  pub gained : Gained old.held new.held written

-- nothing was done
pub record IsLeft (old : Works) (clean : Type 0) (new : Works) : Type 0 where
  pub told : KeepsTelling old.tables clean new.tables (λ before after. after ≡ before)
  pub faults : old.faults ≤ new.faults
  pub held : new.held ≡ old.held

-- one command was replied, its text was written in part, or nothing was done
abbrev pub RepliesTo : Command → Works → Type 0 → Works → Result Unit Early → Type 0
RepliesTo c old clean new (Ok x) = (text : List ℕ) × IsReplied c old clean new text text
RepliesTo c old clean new (Err early.WriteFault) =
    (text : List ℕ) × (part : List ℕ) × IsFront part text × IsReplied c old clean new text part
RepliesTo c old clean new (Err early.NoMemory) = IsLeft old clean new

-- the same for a unit
abbrev pub AnswersOne : List ℕ → Works → Type 0 → Works → Result Unit Early → Type 0
AnswersOne unit old clean new (Ok x) = AreAnswered old clean new (unit ∷ [])
AnswersOne unit old clean new (Err early.WriteFault) = AreCutOff old clean new (unit ∷ [])
AnswersOne unit old clean new (Err early.NoMemory) = AreAnswered old clean new []

-- the whole units of some bytes were answered and the rest is kept, or some of the first were
abbrev pub AnswersUnits : List ℕ → List ℕ → Works → Type 0 → Works → Result Unit Early → Type 0
AnswersUnits bytes kept old clean new (Ok x) =
    (units : List (List ℕ)) × AreUnits bytes units kept × AreAnswered old clean new units
AnswersUnits bytes kept old clean new (Err early.WriteFault) = DoesSome bytes (AreCutOff old clean new)
AnswersUnits bytes kept old clean new (Err early.NoMemory) = DoesSome bytes (AreAnswered old clean new)
