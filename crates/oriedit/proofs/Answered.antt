-- One unit of a script that was answered, or none.
use Rattle.std.proofs.Common.{◌≡◌, ℕ, ◌+◌, ◌≤◌, List, [], ◌∷◌, refl, sym, ap, subst, arith, append-nil}
use Rattle.std.specs.Prelude.{Option, Some, None, Result, Ok, Err}
use Rattle.ports.specs.Streams.{IsFront, Rose, Puts}
use Rattle.dialogue.specs.declared.command.Command.{Command}
use Rattle.dialogue.specs.declared.reply.Reply.{Reply}
use Rattle.dialogue.specs.declared.reply.Reply.TheVariants as reply
use Rattle.commands.specs.Lines.{ReadsCommand}
use Rattle.commands.specs.declared.bad.BadText.{BadText}
use Rattle.commands.specs.ReplyText.{reply_text, bad_text}
use Rattle.projects.specs.Keeping.{Tells}
use Rattle.projects.specs.Desk.{Replies, RepliesWhereRose}
use Rattle.projects.specs.Tables.{Tables}
use Rattle.projects.specs.Entries.{Entries, StandFor}
use Rattle.oriedit.specs.Outputs.{Gained}
use Rattle.oriedit.specs.Turns.{TurnOf, TurnTables, failures}
use Rattle.oriedit.specs.Script.{Works, works, KeepsTelling, RoseBy, AreAnswered, AreCutOff}
use Rattle.oriedit.specs.Answering.{ReplyTables, IsReplied, IsLeft, RepliesTo, AnswersOne}
use Rattle.oriedit.specs.declared.early.Early.{Early}
use Rattle.oriedit.specs.declared.early.Early.TheVariants as early

-- what a call of the keeper tells
pub still_told : (old new : Option Tables) (clean : Type 0) (H G : Tables → Tables → Type 0)
    → ((b a : Tables) → H b a → G b a) → Tells old clean new H → KeepsTelling old clean new G
still_told old new clean H G f t = λ before e c.
    let a = t before e c in
    (a.0, record { told = a.1.told; tables = λ x. a.1.new_tables; holds = f before a.0 a.1.holds })

pub weaker : (old new : Option Tables) (clean : Type 0) (H G : Tables → Tables → Type 0)
    → ((b a : Tables) → H b a → G b a) → KeepsTelling old clean new H → KeepsTelling old clean new G
weaker old new clean H G f t = λ before e c.
    let a = t before e c in
    (a.0, record { told = a.1.told; tables = a.1.tables; holds = f before a.0 a.1.holds })

-- tables that no call touched
pub untouched : (t : Option Tables) (clean : Type 0) (H : Tables → Tables → Type 0) → ((b : Tables) → H b b)
    → KeepsTelling t clean t H
untouched t clean H f = λ before e c. (before, record { told = e; tables = λ x. x; holds = f before })

no_turn : (b a : Tables) → a ≡ b → TurnTables b [] [] 0 a
no_turn b a e = λ entries s. (entries, subst (λ t. StandFor t entries) (sym e) s, (refl, refl))

pub rose_none : (a b : ℕ) → a ≤ b → RoseBy a b 0
rose_none a b l = omega (arith, l)

pub gained_none : (h : Option (List ℕ)) → Gained h h []
gained_none None = tt
gained_none (Some x) = sym (append-nil x)

pub none_answered : (old new : Works) (clean : Type 0) → IsLeft old clean new → AreAnswered old clean new []
none_answered old new clean l = record {
  texts = [];
  fails = 0;
  done = record {
    told = weaker old.tables new.tables clean (λ b a. a ≡ b) (λ b a. TurnTables b [] [] 0 a) (λ b a e. no_turn b a e) l.told;
    counted = rose_none old.faults new.faults l.faults;
  };
  written = subst (λ h. Gained old.held h []) (sym l.held) (gained_none old.held);
}

pub nothing_yet : (w : Works) (clean : Type 0) → AreAnswered w clean w []
nothing_yet w clean = none_answered w w clean (record {
  told = untouched w.tables clean (λ b a. a ≡ b) (λ b. refl);
  faults = omega arith;
  held = refl;
})

-- the turn of a unit that is a command
command_turn : (unit text : List ℕ) (c : Command) (fails : ℕ) (b a : Tables) → ReadsCommand unit (Ok (Some c))
    → ReplyTables b c text fails a → TurnTables b (unit ∷ []) (text ∷ []) fails a
command_turn unit text c fails b a reads h = λ entries s.
    let r = h entries s in
    let e : fails ≡ fails + 0 = omega arith in
    (r.0, r.1, (r.0, fails, 0, (Ok (Some c), reads, r.2), (refl, refl), e))

-- the turn of a unit that is none
other_turn : (unit text : List ℕ) (read : Result (Option Command) BadText) (b a : Tables)
    → ReadsCommand unit read → ((x y : Entries) → y ≡ x → TurnOf x read text 0 y) → a ≡ b
    → TurnTables b (unit ∷ []) (text ∷ []) 0 a
other_turn unit text read b a reads turn e = λ entries s.
    (entries, subst (λ t. StandFor t entries) (sym e) s, (entries, 0, 0, (read, reads, turn entries entries refl), (refl, refl), refl))

pub command_answered : (unit text : List ℕ) (c : Command) (old new : Works) (clean : Type 0)
    → ReadsCommand unit (Ok (Some c)) → IsReplied c old clean new text text
    → AreAnswered old clean new (unit ∷ [])
command_answered unit text c old new clean reads r = record {
  texts = text ∷ [];
  fails = r.fails;
  done = record {
    told = weaker old.tables new.tables clean (λ b a. ReplyTables b c text r.fails a) (λ b a. TurnTables b (unit ∷ []) (text ∷ []) r.fails a)
        (λ b a h. command_turn unit text c r.fails b a reads h) r.told;
    counted = r.counted;
  };
  written = subst (Gained old.held new.held) (sym (append-nil text)) r.gained;
}

pub command_cut_off : (unit text part : List ℕ) (c : Command) (old new : Works) (clean : Type 0)
    → ReadsCommand unit (Ok (Some c)) → IsFront part text → IsReplied c old clean new text part
    → AreCutOff old clean new (unit ∷ [])
command_cut_off unit text part c old new clean reads f r = record {
  texts = [];
  last = text;
  fails = r.fails;
  done = record {
    told = weaker old.tables new.tables clean (λ b a. ReplyTables b c text r.fails a) (λ b a. TurnTables b (unit ∷ []) (text ∷ []) r.fails a)
        (λ b a h. command_turn unit text c r.fails b a reads h) r.told;
    counted = r.counted;
  };
  part = part;
  front = f;
  written = r.gained;
}

-- the sink after a put
pub put_gained : (E : Type 0) (a b : Option (List ℕ)) (text : List ℕ) (x : Unit)
    → Puts {T = Unit} {E = E} a b text (Ok x) → Gained a b text
put_gained E None None text x p = tt
put_gained E None (Some v) text x p = absurd p
put_gained E (Some u) None text x p = absurd p
put_gained E (Some u) (Some v) text x p = p

-- the front of a text that a put that failed left in the sink
pub record HasPart (a b : Option (List ℕ)) (text : List ℕ) : Type 0 where
  pub part : List ℕ
  pub front : IsFront part text
  pub gained : Gained a b part

pub put_part : (E : Type 0) (a b : Option (List ℕ)) (text : List ℕ) (e : E)
    → Puts {T = Unit} {E = E} a b text (Err e) → HasPart a b text
put_part E None None text e p = record { part = []; front = (text, refl); gained = tt }
put_part E None (Some v) text e p = absurd p
put_part E (Some u) None text e p = absurd p
put_part E (Some u) (Some v) text e p = record { part = p.0; front = p.1; gained = p.2 }

-- the same of a wrong text
pub bad_gained : (E : Type 0) (a b : Option (List ℕ)) (told bad : BadText) (x : Unit)
    → Puts {T = Unit} {E = E} a b (bad_text told) (Ok x) → told ≡ bad → Gained a b (bad_text bad)
bad_gained E a b told bad x p e =
    subst (λ t. Gained a b (bad_text t)) e (put_gained E a b (bad_text told) x p)

pub bad_part : (E : Type 0) (a b : Option (List ℕ)) (told bad : BadText) (e : E)
    → Puts {T = Unit} {E = E} a b (bad_text told) (Err e) → told ≡ bad → HasPart a b (bad_text bad)
bad_part E a b told bad e p h = subst (λ t. HasPart a b (bad_text t)) h (put_part E a b (bad_text told) e p)

-- a unit that is none, and its text
pub other_answered : (unit text : List ℕ) (read : Result (Option Command) BadText) (t : Option Tables) (f : ℕ) (a b : Option (List ℕ)) (clean : Type 0)
    → ReadsCommand unit read → ((x y : Entries) → y ≡ x → TurnOf x read text 0 y) → Gained a b text
    → AreAnswered (record { held = a; tables = t; faults = f }) clean (record { held = b; tables = t; faults = f }) (unit ∷ [])
other_answered unit text read t f a b clean reads turn g = record {
  texts = text ∷ [];
  fails = 0;
  done = record {
    told = untouched t clean (λ b a. TurnTables b (unit ∷ []) (text ∷ []) 0 a) (λ b. other_turn unit text read b b reads turn refl);
    counted = rose_none f f (omega arith);
  };
  written = subst (Gained a b) (sym (append-nil text)) g;
}

pub other_cut_off : (unit text : List ℕ) (read : Result (Option Command) BadText) (t : Option Tables) (f : ℕ) (a b : Option (List ℕ)) (clean : Type 0)
    → ReadsCommand unit read → ((x y : Entries) → y ≡ x → TurnOf x read text 0 y) → HasPart a b text
    → AreCutOff (record { held = a; tables = t; faults = f }) clean (record { held = b; tables = t; faults = f }) (unit ∷ [])
other_cut_off unit text read t f a b clean reads turn p = record {
  texts = [];
  last = text;
  fails = 0;
  done = record {
    told = untouched t clean (λ b a. TurnTables b (unit ∷ []) (text ∷ []) 0 a) (λ b. other_turn unit text read b b reads turn refl);
    counted = rose_none f f (omega arith);
  };
  part = p.part;
  front = p.front;
  written = p.gained;
}

-- the failures that a reply tells
pub fails_counted : (r : Reply) (a b : ℕ) → a ≤ b → (r ≡ reply.KeeperFailed → Rose a b)
    → RoseBy a b (failures r)
fails_counted (reply.Done rev) a b l f = rose_none a b l
fails_counted (reply.Shown rev s) a b l f = rose_none a b l
fails_counted (reply.Faults rev list) a b l f = rose_none a b l
fails_counted (reply.Vertex at r) a b l f = rose_none a b l
fails_counted (reply.Text bytes) a b l f = rose_none a b l
fails_counted (reply.Names names) a b l f = rose_none a b l
fails_counted (reply.Refused why) a b l f = rose_none a b l
fails_counted (reply.Imported rev drawn dropped) a b l f = rose_none a b l
fails_counted reply.KeeperFailed a b l f = f refl

-- a reply of the desk
reply_tables : (c : Command) (r : Reply) (b a : Tables) → Replies b c (Ok r) a
    → ReplyTables b c (reply_text r) (failures r) a
reply_tables c r b a h = λ entries s.
    let x = h.step entries s in
    (x.0, x.1, record { reply = r; step = x.2; text_is = refl; fails_is = refl })

pub replied : (c : Command) (r : Reply) (old new : Option Tables) (held now : Option (List ℕ)) (before after : ℕ) (clean : Type 0) (written : List ℕ)
    → Tells old clean new (λ b a. Replies b c (Ok r) a) → RepliesWhereRose before after (Ok r) → Gained held now written
    → IsReplied c (works held old before) clean (works now new after) (reply_text r) written
replied c r old new held now before after clean written t w g = record {
  fails = failures r;
  told = still_told old new clean (λ b a. Replies b c (Ok r) a) (λ b a. ReplyTables b c (reply_text r) (failures r) a) (λ b a h. reply_tables c r b a h) t;
  counted = fails_counted r before after w.later (λ e. w.failed (ap Ok e));
  gained = g;
}

-- the turn of a wrong text
pub wrong : (bad : BadText) (x y : Entries) → y ≡ x → TurnOf x (Err bad) (bad_text bad) 0 y
wrong bad x y e = (refl, refl, e)

-- the turn of a blank line or a comment
pub silent : (x y : Entries) → y ≡ x → TurnOf x (Ok None) [] 0 y
silent x y e = (refl, refl, e)

-- what came of the command of a unit
pub unit_answered : (unit : List ℕ) (c : Command) (old new : Works) (clean : Type 0) (r : Result Unit Early)
    → ReadsCommand unit (Ok (Some c)) → RepliesTo c old clean new r → AnswersOne unit old clean new r
unit_answered unit c old new clean (Ok x) reads h = command_answered unit h.0 c old new clean reads h.1
unit_answered unit c old new clean (Err early.WriteFault) reads h =
    command_cut_off unit h.0 h.1 c old new clean reads h.2 h.3
unit_answered unit c old new clean (Err early.NoMemory) reads h = none_answered old new clean h
