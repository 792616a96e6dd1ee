-- One connection: what came of its command, and of its bytes.
use Rattle.std.proofs.Common.{◌≡◌, ℕ, ◌≤◌, List, inl, inr, refl, sym, ap, subst, arith}
use Rattle.std.specs.Prelude.{Option, Some, option_map, Result, Ok, Err}
use Rattle.ports.specs.Streams.{HasCause, Puts}
use Rattle.ports.specs.declared.streams.Failed.{Failed}
use Rattle.ports.specs.declared.stop.NoMemory.{NoMemory}
use Rattle.ports.specs.Taken.{Gave}
use Rattle.dialogue.specs.declared.command.Command.{Command}
use Rattle.dialogue.specs.declared.reply.Reply.{Reply}
use Rattle.projects.specs.Tables.{Tables}
use Rattle.projects.specs.Keeping.{Tells}
use Rattle.projects.specs.Desk.{Replies, IsReply, RepliesWhereRose}
use Rattle.commands.specs.Lines.{ReadsCommand}
use Rattle.commands.specs.declared.bad.BadText.{BadText}
use Rattle.api.specs.declared.ask.Ask.{Ask}
use Rattle.api.specs.declared.ask.AskEnd.TheVariants as end
use Rattle.api.specs.declared.bad.HttpBad.{HttpBad}
use Rattle.api.specs.declared.bad.BadWhy.{BadWhy}
use Rattle.api.specs.Answers.{AskOf, all_of}
use Rattle.oriedit.specs.HttpAnswers.{answer_text, wrong_answer, bad_answer, no_memory_answer}
use Rattle.oriedit.specs.Connections.{Dues, EndSide, end_side, Kept, kept, IsKept, IsDone, OrNoMemory, CommandDue, TextDue, BytesDue, PutsDue, ServesBytes, IsServed, served_as}
use Rattle.oriedit.proofs.Answered.{still_told, untouched, fails_counted, put_gained, put_part}

-- a command was done
pub is_done : (c : Command) (r : Reply) (old new : Option Tables) (f g : ℕ) (clean : Type 0)
    → Tells old clean new (λ b a. Replies b c (Ok r) a) → RepliesWhereRose f g (Ok r)
    → IsDone c r (kept old f) clean (kept new g)
is_done c r old new f g clean t w = record {
  told = still_told old new clean (λ b a. Replies b c (Ok r) a) (λ b a. IsReply b c r a) (λ b a h. h) t;
  counted = fails_counted r f g w.later (λ e. w.failed (ap Ok e));
}

-- nothing was called
pub is_kept : (t : Option Tables) (f : ℕ) (clean : Type 0) → IsKept (kept t f) clean (kept t f)
is_kept t f clean = record { told = untouched t clean (λ b a. a ≡ b) (λ b. refl); faults = omega arith }

-- an answer to the bytes was put
pub puts_served : (bytes : List ℕ) (before after : EndSide) (old : Kept) (clean : Type 0) (new : Kept) (r : Result Unit Failed)
    → PutsDue (BytesDue bytes) old clean new before.held after.held r → HasCause before.puts after.puts r
    → ServesBytes bytes before after old clean new (served_as r)
puts_served bytes before after old clean new (Ok x) d c =
    (d.0, d.1, put_gained Failed before.held after.held (answer_text d.0) x d.2)
puts_served bytes before after old clean new (Err e) d c =
    let p = put_part Failed before.held after.held (answer_text d.0) e d.2 in
    (d.0, d.1, (p.part, p.front, p.gained), c.failed)

-- the answer to a command text is the one to the bytes that ask for it
pub text_due : (bytes : List ℕ) (ask : Ask) (old : Kept) (clean : Type 0) (new : Kept) (held now : Option (List ℕ)) (r : Result Unit Failed)
    → AskOf bytes (Ok ask) → PutsDue (TextDue ask.text) old clean new held now r
    → PutsDue (BytesDue bytes) old clean new held now r
text_due bytes ask old clean new held now r asks d = (d.0, more d.1, d.2) where
  more : OrNoMemory (TextDue ask.text) d.0 old clean new → OrNoMemory (BytesDue bytes) d.0 old clean new
  more (inl t) = inl (Ok ask, asks, t)
  more (inr n) = inr n

-- The sides of a connection of which some bytes were taken, and to which an answer was put then.
pub served : (l m n : Option (List ℕ)) (t u v : ℕ) (h i j : Option (List ℕ)) (p q s : ℕ) (got : List ℕ) (old : Kept) (clean : Type 0) (new : Kept) (r : Result Unit Failed)
    → Gave l m got → t ≤ u → i ≡ h → q ≡ p → n ≡ m → v ≡ u → HasCause q s r
    → PutsDue (BytesDue (all_of got m)) old clean new i j r
    → IsServed (end_side l t h p) (end_side n v j s) old clean new (served_as r)
served l m n t u v h i j p q s got old clean new r gave later ih qp nm vu cause due =
    let c = subst (λ x. HasCause x s r) qp cause in
    record {
      got = got;
      gave = subst (λ x. Gave l x got) (sym nm) gave;
      takes = subst (λ x. t ≤ x) (sym vu) later;
      puts = c.later;
      answer = subst (λ x. ServesBytes (all_of got x) (end_side l t h p) (end_side n v j s) old clean new (served_as r)) (sym nm)
          (puts_served (all_of got m) (end_side l t h p) (end_side n v j s) old clean new r
          (subst (λ x. PutsDue (BytesDue (all_of got m)) old clean new x j r) ih due) c);
    }

-- the same refusal
pub wrong_put : (h k : Option (List ℕ)) (told bad : BadText) (r : Result Unit Failed)
    → Puts h k (answer_text (wrong_answer told)) r → told ≡ bad → Puts h k (answer_text (wrong_answer bad)) r
wrong_put h k told bad r p e = subst (λ b. Puts h k (answer_text (wrong_answer b)) r) e p

pub refused_due : (bytes : List ℕ) (w : BadWhy) (allow : Option (List ℕ)) (bad : HttpBad) (t : Option Tables) (f : ℕ) (clean : Type 0) (h k : Option (List ℕ)) (r : Result Unit Failed)
    → AskOf bytes (Err (end.Bad bad)) → Puts h k (answer_text (bad_answer w allow)) r → w ≡ bad.why
    → allow ≡ option_map (λ methods. methods.now) bad.allow
    → PutsDue (BytesDue bytes) (kept t f) clean (kept t f) h k r
refused_due bytes w allow bad t f clean h k r asks p e a = (
  bad_answer bad.why (option_map (λ methods. methods.now) bad.allow),
  inl (Err (end.Bad bad), asks, (refl, is_kept t f clean)),
  subst (λ o. Puts h k (answer_text (bad_answer bad.why o)) r) a (subst (λ b. Puts h k (answer_text (bad_answer b allow)) r) e p),
)

pub none_due : (Due : Dues) (t : Option Tables) (f : ℕ) (clean : Type 0) (h k : Option (List ℕ)) (r : Result Unit Failed)
    → Puts h k (answer_text no_memory_answer) r → PutsDue Due (kept t f) clean (kept t f) h k r
none_due Due t f clean h k r p = (no_memory_answer, inr (refl, is_kept t f clean), p)

-- there was no memory to do a command
pub kept_still : (c : Command) (e : NoMemory) (old new : Option Tables) (f g : ℕ) (clean : Type 0)
    → Tells old clean new (λ b a. Replies b c (Err e) a) → f ≤ g → IsKept (kept old f) clean (kept new g)
kept_still c e old new f g clean t l = record {
  told = still_told old new clean (λ b a. Replies b c (Err e) a) (λ b a. a ≡ b) (λ b a h. h) t;
  faults = l;
}

-- the answer to a command is the one to the text that is read as it
pub command_due : (text : List ℕ) (c : Command) (old : Kept) (clean : Type 0) (new : Kept) (held now : Option (List ℕ)) (r : Result Unit Failed)
    → ReadsCommand text (Ok (Some c)) → PutsDue (CommandDue c) old clean new held now r
    → PutsDue (TextDue text) old clean new held now r
command_due text c old clean new held now r reads d = (d.0, more d.1, d.2) where
  more : OrNoMemory (CommandDue c) d.0 old clean new → OrNoMemory (TextDue text) d.0 old clean new
  more (inl t) = inl (Ok (Some c), reads, t)
  more (inr n) = inr n

-- the same for an equal text
pub text_put : (told text : List ℕ) (old : Kept) (clean : Type 0) (new : Kept) (h k : Option (List ℕ)) (r : Result Unit Failed)
    → told ≡ text → PutsDue (TextDue told) old clean new h k r → PutsDue (TextDue text) old clean new h k r
text_put told text old clean new h k r e p = subst (λ t. PutsDue (TextDue t) old clean new h k r) e p
