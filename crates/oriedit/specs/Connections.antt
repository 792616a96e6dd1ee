-- A connection that is answered: what its bytes ask, the answer that is due, and what comes of it.
use Rattle.std.specs.Prelude.{◌≡◌, ℕ, ◌≤◌, ◌⊎◌, List, [], Option, Some, None, option_map, Result, Ok, Err}
use Rattle.ports.specs.Streams.{Rose, Puts}
use Rattle.ports.specs.declared.streams.Failed.{Failed}
use Rattle.ports.specs.Taken.{Gave}
use Rattle.dialogue.specs.declared.command.Command.{Command}
use Rattle.dialogue.specs.declared.reply.Reply.{Reply}
use Rattle.commands.specs.Lines.{ReadsCommand}
use Rattle.commands.specs.declared.bad.BadText.{BadText}
use Rattle.api.specs.Answers.{AskOf, all_of}
use Rattle.api.specs.declared.ask.Ask.{Ask}
use Rattle.api.specs.declared.ask.AskEnd.{AskEnd}
use Rattle.api.specs.declared.ask.AskEnd.TheVariants as end
use Rattle.projects.specs.Tables.{Tables}
use Rattle.projects.specs.Desk.{IsReply}
use Rattle.oriedit.specs.Outputs.{Gained, GainedFront}
use Rattle.oriedit.specs.Turns.{failures}
use Rattle.oriedit.specs.Script.{KeepsTelling, RoseBy}
use Rattle.oriedit.specs.HttpAnswers.{HttpAnswer, answer_text, reply_answer, wrong_answer, bad_answer}
use Rattle.oriedit.specs.HttpAnswers.{no_memory_answer}
use Rattle.oriedit.specs.declared.connection.Served.{Served}
use Rattle.oriedit.specs.declared.connection.Served.TheVariants as served

-- what is left of the bytes of a connection, what was written to it, and how often takes and puts have failed
pub record EndSide : Type 0 where
  pub left : Option (List ℕ)
  pub takes : ℕ
  pub held : Option (List ℕ)
  pub puts : ℕ

-- the tables and the count of faults of what keeps the projects
pub record Kept : Type 0 where
  pub tables : Option Tables
  pub faults : ℕ

abbrev pub end_side : Option (List ℕ) → ℕ → Option (List ℕ) → ℕ → EndSide
end_side left takes held puts = record { left = left; takes = takes; held = held; puts = puts }

abbrev pub kept : Option Tables → ℕ → Kept
kept tables faults = record { tables = tables; faults = faults }

-- nothing was changed: told tables are as before
pub record IsKept (old : Kept) (clean : Type 0) (new : Kept) : Type 0 where
  pub told : KeepsTelling old.tables clean new.tables (λ before after. after ≡ before)
  pub faults : old.faults ≤ new.faults

-- a command was done, with this reply: a step of the machine, or the keeper failed
pub record IsDone (c : Command) (r : Reply) (old : Kept) (clean : Type 0) (new : Kept) : Type 0 where
  pub told : KeepsTelling old.tables clean new.tables (λ before after. IsReply before c r after)
  pub counted : RoseBy old.faults new.faults (failures r)

-- An answer, and what comes of it to what keeps the projects.
abbrev pub Dues : Type 1
Dues = HttpAnswer → Kept → Type 0 → Kept → Type 0

-- the same, or that there was no memory; then nothing is changed
abbrev pub OrNoMemory : Dues → Dues
OrNoMemory Due a old clean new = Due a old clean new ⊎ ((a ≡ no_memory_answer) × IsKept old clean new)

-- the answer to a command
abbrev pub CommandDue : Command → Dues
CommandDue c a old clean new = (r : Reply) × (a ≡ reply_answer c r) × IsDone c r old clean new

-- The answer to what a command text is read as. No such text is a blank line or a comment.
abbrev pub ReadDue : Result (Option Command) BadText → Dues
ReadDue (Ok None) a old clean new = ⊥
ReadDue (Ok (Some c)) a old clean new = CommandDue c a old clean new
ReadDue (Err bad) a old clean new = (a ≡ wrong_answer bad) × IsKept old clean new

-- the answer to a command text
abbrev pub TextDue : List ℕ → Dues
TextDue text a old clean new =
    (read : Result (Option Command) BadText) × ReadsCommand text read × ReadDue read a old clean new

-- the answer to what the bytes of a connection ask
abbrev pub AskDue : Result Ask AskEnd → Dues
AskDue (Ok ask) a old clean new = TextDue ask.text a old clean new
AskDue (Err (end.Bad bad)) a old clean new =
    (a ≡ bad_answer bad.why (option_map (λ methods. methods.now) bad.allow)) × IsKept old clean new
AskDue (Err end.Closed) a old clean new = ⊥
AskDue (Err end.Failed) a old clean new = ⊥

-- the answer to all bytes of a connection
abbrev pub BytesDue : List ℕ → Dues
BytesDue bytes a old clean new = (ask : Result Ask AskEnd) × AskOf bytes ask × AskDue ask a old clean new

-- a sink that tells what it holds gained an answer of which this holds, or a front of it
abbrev pub PutsDue : Dues → Kept → Type 0 → Kept → Option (List ℕ) → Option (List ℕ) → Result Unit Failed
    → Type 0
PutsDue Due old clean new held now result =
    (a : HttpAnswer) × OrNoMemory Due a old clean new × Puts held now (answer_text a) result

-- nothing was written, and nothing was changed
pub record IsSilent (before after : EndSide) (old : Kept) (clean : Type 0) (new : Kept) : Type 0 where
  pub held : after.held ≡ before.held
  pub puts : after.puts ≡ before.puts
  pub stays : IsKept old clean new

-- how a connection with these bytes in all is served: the answer that is due was written, or a front of it
abbrev pub ServesBytes : List ℕ → EndSide → EndSide → Kept → Type 0 → Kept → Served → Type 0
ServesBytes bytes before after old clean new served.Answered =
    (a : HttpAnswer) × OrNoMemory (BytesDue bytes) a old clean new
    × Gained before.held after.held (answer_text a)
ServesBytes bytes before after old clean new served.WriteFault =
    (a : HttpAnswer) × OrNoMemory (BytesDue bytes) a old clean new
    × GainedFront before.held after.held (answer_text a)
    × Rose before.puts after.puts
ServesBytes bytes before after old clean new served.Closed =
    (bytes ≡ []) × IsSilent before after old clean new
ServesBytes bytes before after old clean new served.ReadFault =
    Rose before.takes after.takes × IsSilent before after old clean new

-- A connection was served. Bytes were taken from the front of those that it had left.
pub record IsServed (before after : EndSide) (old : Kept) (clean : Type 0) (new : Kept)
    (s : Served) : Type 0 where
  pub got : List ℕ
  pub gave : Gave before.left after.left got
  pub takes : before.takes ≤ after.takes
  pub puts : before.puts ≤ after.puts
  pub answer : ServesBytes (all_of got after.left) before after old clean new s

-- how a connection is served whose answer was put
abbrev pub served_as : Result Unit Failed → Served
served_as (Ok x) = served.Answered
served_as (Err e) = served.WriteFault
