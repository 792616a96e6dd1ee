-- What the units of a script make of the entries of projects, and what is written for them.
use Rattle.std.specs.Prelude.{◌≡◌, ℕ, ◌+◌, List, [], ◌∷◌, Option, Some, None, Result, Ok, Err}
use Rattle.dialogue.specs.declared.command.Command.{Command}
use Rattle.dialogue.specs.declared.reply.Reply.{Reply}
use Rattle.dialogue.specs.declared.reply.Reply.TheVariants as reply
use Rattle.commands.specs.Lines.{ReadsCommand}
use Rattle.commands.specs.ReplyText.{reply_text, bad_text}
use Rattle.commands.specs.declared.bad.BadText.{BadText}
use Rattle.projects.specs.Tables.{Tables}
use Rattle.projects.specs.Entries.{Entries, StandFor}
use Rattle.projects.specs.Machine.{StepOrFault}

-- how many failures of what keeps the projects a reply tells
abbrev pub failures : Reply → ℕ
failures (reply.Done rev) = 0
failures (reply.Shown rev s) = 0
failures (reply.Faults rev list) = 0
failures (reply.Vertex at r) = 0
failures (reply.Text bytes) = 0
failures (reply.Names names) = 0
failures (reply.Imported rev drawn dropped) = 0
failures (reply.Refused why) = 0
failures reply.KeeperFailed = 1

-- a command makes a step, or what keeps the projects fails; the reply is written
pub record Replied (before : Entries) (c : Command) (text : List ℕ) (fails : ℕ)
    (after : Entries) : Type 0 where
  pub reply : Reply
  pub step : StepOrFault before c reply after
  pub text_is : text ≡ reply_text reply
  pub fails_is : fails ≡ failures reply

-- the same for what a unit is read as: a blank line or a comment gets no text, a wrong one is told,
-- and both change nothing
abbrev pub TurnOf : Entries → Result (Option Command) BadText → List ℕ → ℕ → Entries → Type 0
TurnOf before (Ok None) text fails after = (text ≡ []) × (fails ≡ 0) × (after ≡ before)
TurnOf before (Ok (Some c)) text fails after = Replied before c text fails after
TurnOf before (Err why) text fails after = (text ≡ bad_text why) × (fails ≡ 0) × (after ≡ before)

-- what a unit makes of the entries, the text that is written for it, and how many failures that tells
abbrev pub Turn : Entries → List ℕ → List ℕ → ℕ → Entries → Type 0
Turn before unit text fails after =
    (read : Result (Option Command) BadText) × ReadsCommand unit read × TurnOf before read text fails after

-- the same for units one after another, with a text for each
abbrev pub Turns : Entries → List (List ℕ) → List (List ℕ) → ℕ → Entries → Type 0
Turns before [] [] fails after = (fails ≡ 0) × (after ≡ before)
Turns before [] (text ∷ texts) fails after = ⊥
Turns before (unit ∷ units) [] fails after = ⊥
Turns before (unit ∷ units) (text ∷ texts) fails after =
    (mid : Entries) × (first : ℕ) × (rest : ℕ) × Turn before unit text first mid
    × Turns mid units texts rest after
    × (fails ≡ first + rest)

-- the same over tables: over each list of entries for which they stand
abbrev pub TurnTables : Tables → List (List ℕ) → List (List ℕ) → ℕ → Tables → Type 0
TurnTables before units texts fails after =
    (entries : Entries) → StandFor before entries → (next : Entries) × StandFor after next
    × Turns entries units texts fails next
