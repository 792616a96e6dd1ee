-- What is said of a keeper whose store is clean at some time holds where it is clean at a later time.
use Rattle.std.proofs.Common.{ℕ, List, inl, inr}
use Rattle.std.specs.Prelude.{Option, Some, None, Result, Ok, Err}
use Rattle.dialogue.specs.declared.command.Command.{Command}
use Rattle.commands.specs.declared.bad.BadText.{BadText}
use Rattle.api.specs.declared.ask.Ask.{Ask}
use Rattle.api.specs.declared.ask.AskEnd.{AskEnd}
use Rattle.api.specs.declared.ask.AskEnd.TheVariants as end
use Rattle.api.specs.Answers.{all_of}
use Rattle.oriedit.specs.HttpAnswers.{HttpAnswer}
use Rattle.oriedit.specs.Connections.{EndSide, Kept, IsKept, OrNoMemory, ReadDue, AskDue, BytesDue, IsSilent, ServesBytes, IsServed}
use Rattle.oriedit.specs.declared.connection.Served.{Served}
use Rattle.oriedit.specs.declared.connection.Served.TheVariants as served

module _ (old new : Kept) (C D : Type 0) (f : D → C) where
  pub later_kept : IsKept old C new → IsKept old D new
  later_kept k = record { told = λ before e d. k.told before e (f d); faults = k.faults }

  later_read : (read : Result (Option Command) BadText) (a : HttpAnswer) → ReadDue read a old C new → ReadDue read a old D new
  later_read (Ok None) a d = absurd d
  later_read (Ok (Some c)) a d =
      (d.0, d.1, record { told = λ before e x. d.2.told before e (f x); counted = d.2.counted })
  later_read (Err bad) a d = (d.0, later_kept d.1)

  later_ask : (ask : Result Ask AskEnd) (a : HttpAnswer) → AskDue ask a old C new → AskDue ask a old D new
  later_ask (Ok ask) a d = (d.0, d.1, later_read d.0 a d.2)
  later_ask (Err (end.Bad bad)) a d = (d.0, later_kept d.1)
  later_ask (Err end.Closed) a d = absurd d
  later_ask (Err end.Failed) a d = absurd d

  later_due : (bytes : List ℕ) (a : HttpAnswer) → OrNoMemory (BytesDue bytes) a old C new
      → OrNoMemory (BytesDue bytes) a old D new
  later_due bytes a (inl d) = inl (d.0, d.1, later_ask d.0 a d.2)
  later_due bytes a (inr d) = inr (d.0, later_kept d.1)

  later_silent : (before after : EndSide) → IsSilent before after old C new → IsSilent before after old D new
  later_silent before after s = record { held = s.held; puts = s.puts; stays = later_kept s.stays }

  later_bytes : (bytes : List ℕ) (before after : EndSide) (s : Served) → ServesBytes bytes before after old C new s
      → ServesBytes bytes before after old D new s
  later_bytes bytes before after served.Answered d = (d.0, later_due bytes d.0 d.1, d.2)
  later_bytes bytes before after served.WriteFault d = (d.0, later_due bytes d.0 d.1, d.2, d.3)
  later_bytes bytes before after served.Closed d = (d.0, later_silent before after d.1)
  later_bytes bytes before after served.ReadFault d = (d.0, later_silent before after d.1)

  pub later_served : (before after : EndSide) (s : Served) → IsServed before after old C new s
      → IsServed before after old D new s
  later_served before after s d = record {
    got = d.got;
    gave = d.gave;
    takes = d.takes;
    puts = d.puts;
    answer = later_bytes (all_of d.got after.left) before after s d.answer;
  }
