-- What `generate` asks, what it is replied, and what it writes.
use Rattle.std.specs.Prelude.{◌≡◌, ℕ, zero, suc, ◌+◌, ◌%◌, ◌≤◌, ◌⊎◌, List, [], ◌∷◌, ◌++◌, length, codes}
use Rattle.sheet.specs.Sheet.{square}
use Rattle.dialogue.specs.declared.command.Command.{Command}
use Rattle.dialogue.specs.declared.command.Command.TheVariants as command
use Rattle.dialogue.specs.declared.reply.Reply.{Reply}
use Rattle.generator.specs.Turns.{IsTurn}
use Rattle.projects.specs.Tables.{Tables}
use Rattle.projects.specs.Entries.{Entries, StandFor}
use Rattle.projects.specs.Machine.{StepOrFault}
use Rattle.oriedit.specs.Outputs.{Gained, GainedFront}
use Rattle.oriedit.specs.Turns.{failures}
use Rattle.oriedit.specs.Script.{Works, KeepsTelling, RoseBy}
use Rattle.oriedit.specs.Summary.{nothing, plus, of_turn, of_question, creases_told, sizes_told, faults_told}
use Rattle.oriedit.specs.Summary.{final_line, summary}
use Rattle.oriedit.specs.declared.tally.Tally.{Tally}
use Rattle.oriedit.specs.declared.status.Status.{Status}
use Rattle.oriedit.specs.declared.status.Status.TheVariants as status

-- the project's name
abbrev pub subject : List ℕ
subject = codes "g"

-- what the reply to a command is counted as
pub data Kind : Type 0 where
  Turning : Kind
  Asking : Kind
  Framing : Kind

pub record Asked : Type 0 where
  pub kind : Kind
  pub command : Command

abbrev pub asked : Kind → Command → Asked
asked kind command = record { kind = kind; command = command }

-- the commands of the turns from a state, and the state after them
abbrev pub AreTurns : ℕ → List Command → ℕ → Type 0
AreTurns s [] next = next ≡ s
AreTurns s (c ∷ cs) next = (mid : ℕ) × IsTurn subject s c mid × AreTurns mid cs next

-- after every sixteenth turn the faults are asked for: here by what is left of the turn's number
abbrev pub question : ℕ → List Asked
question zero = asked Asking (command.Faults subject) ∷ []
question (suc n) = []

-- the turns, the first of which has this number, with the questions between them
abbrev pub with_questions : ℕ → List Command → List Asked
with_questions n [] = []
with_questions n (c ∷ cs) = asked Turning c ∷ (question (n % 16) ++ with_questions (n + 1) cs)

-- before them the project is made, and after them it is asked for
abbrev pub opening : Asked
opening = asked Framing (command.New subject square)

abbrev pub closing : List Asked
closing =
    asked Framing (command.PatternText subject) ∷ asked Framing (command.Show subject)
    ∷ asked Framing (command.Faults subject) ∷ []

-- the commands make steps, one after another, or what keeps the projects fails
abbrev pub Steps : Entries → List Asked → List Reply → Entries → Type 0
Steps before [] [] after = after ≡ before
Steps before [] (r ∷ rs) after = ⊥
Steps before (a ∷ asks) [] after = ⊥
Steps before (a ∷ asks) (r ∷ rs) after =
    (mid : Entries) × StepOrFault before a.command r mid × Steps mid asks rs after

-- the same over tables: over each list of entries for which they stand
abbrev pub StepTables : Tables → List Asked → List Reply → Tables → Type 0
StepTables before asks rs after =
    (entries : Entries) → StandFor before entries
    → (next : Entries) × StandFor after next × Steps entries asks rs next

-- the failures that replies tell
abbrev pub all_failures : List Reply → ℕ
all_failures [] = 0
all_failures (r ∷ rs) = failures r + all_failures rs

-- the commands were done, with these replies
pub record AreReplied (old : Works) (clean : Type 0) (new : Works) (asks : List Asked)
    (rs : List Reply) : Type 0 where
  pub each : length rs ≡ length asks
  pub told : KeepsTelling old.tables clean new.tables (λ before after. StepTables before asks rs after)
  pub counted : RoseBy old.faults new.faults (all_failures rs)

-- what a reply comes to
abbrev pub counted_as : Kind → Reply → Tally
counted_as Turning r = of_turn r
counted_as Asking r = of_question r
counted_as Framing r = nothing

abbrev pub totals : List Asked → List Reply → Tally
totals [] rs = nothing
totals (a ∷ asks) [] = nothing
totals (a ∷ asks) (r ∷ rs) = plus (counted_as a.kind r) (totals asks rs)

-- so many turns were done, with all before and after them
pub record AreAll (seed count : ℕ) (asks : List Asked) : Type 0 where
  pub turns : List Command
  pub state : ℕ
  pub are : AreTurns seed turns state
  pub many : length turns ≡ count
  pub all : asks ≡ opening ∷ (with_questions 1 turns ++ closing)

-- some of the first of these commands
pub record AreSome (seed count : ℕ) (asks : List Asked) : Type 0 where
  pub turns : List Command
  pub state : ℕ
  pub are : AreTurns seed turns state
  pub few : length turns ≤ count
  pub last : List Asked
  pub end : (last ≡ []) ⊎ ((last ≡ closing) × (length turns ≡ count))
  pub later : List Asked
  pub first : opening ∷ (with_questions 1 turns ++ last) ≡ asks ++ later

-- the summary of the replies: the last three replies make its last line
pub record IsSummary (seed count : ℕ) (asks : List Asked) (rs : List Reply) (text : List ℕ) : Type 0 where
  pub front : List Reply
  pub pattern : Reply
  pub shown : Reply
  pub listed : Reply
  pub replies : rs ≡ front ++ pattern ∷ shown ∷ listed ∷ []
  pub text_is : text ≡ summary seed count (totals asks rs)
      (final_line (creases_told pattern) (sizes_told shown) (faults_told listed))

-- all was done, and this is the summary
pub record IsGenerated (seed count : ℕ) (old : Works) (clean : Type 0) (new : Works)
    (text : List ℕ) : Type 0 where
  pub asks : List Asked
  pub rs : List Reply
  pub all : AreAll seed count asks
  pub replied : AreReplied old clean new asks rs
  pub is_summary : IsSummary seed count asks rs text

-- some of the first commands were done
pub record IsBegun (seed count : ℕ) (old : Works) (clean : Type 0) (new : Works) : Type 0 where
  pub asks : List Asked
  pub rs : List Reply
  pub some : AreSome seed count asks
  pub replied : AreReplied old clean new asks rs

-- How a run of a generator ends.
abbrev pub Generates : ℕ → ℕ → Works → Type 0 → Works → Status → Type 0
Generates seed count old clean new status.Ok =
    (text : List ℕ) × IsGenerated seed count old clean new text × Gained old.held new.held text
Generates seed count old clean new status.WriteFault =
    (text : List ℕ) × IsGenerated seed count old clean new text × GainedFront old.held new.held text
Generates seed count old clean new status.NoMemory = IsBegun seed count old clean new × (new.held ≡ old.held)
Generates seed count old clean new status.FaultsFound = ⊥
Generates seed count old clean new status.Usage = ⊥
Generates seed count old clean new status.ReadFault = ⊥
Generates seed count old clean new status.KeeperFault = ⊥
Generates seed count old clean new status.DoorFault = ⊥
Generates seed count old clean new status.TooLong = ⊥
Generates seed count old clean new status.Refused = ⊥
