-- Commands that were done with their replies, and more after them.
use Rattle.std.proofs.Common.{◌≡◌, ℕ, ◌+◌, List, [], ◌∷◌, ◌++◌, length, length-append, append_assoc, refl, sym, ap, subst, ◌∙◌, arith}
use Rattle.std.specs.Prelude.{Option, None, Result, Ok, Err}
use Rattle.ports.specs.declared.stop.NoMemory.{NoMemory}
use Rattle.dialogue.specs.declared.command.Command.{Command}
use Rattle.dialogue.specs.declared.command.Command.TheVariants as command
use Rattle.dialogue.specs.declared.reply.Reply.{Reply}
use Rattle.projects.specs.Keeping.{Tells}
use Rattle.projects.specs.Desk.{Replies, RepliesWhereRose}
use Rattle.projects.specs.Tables.{Tables}
use Rattle.projects.specs.Entries.{Entries, StandFor}
use Rattle.oriedit.specs.Script.{Works, works, RoseBy}
use Rattle.oriedit.specs.Summary.{nothing, plus, of_question}
use Rattle.oriedit.specs.Generating.{Asked, Steps, StepTables, AreReplied, totals, all_failures, counted_as, question, asked, Kind, Asking, subject}
use Rattle.oriedit.specs.Counting.{ArePartly, Learns, AreCounted, Counts}
use Rattle.oriedit.specs.declared.tally.Tally.{Tally}
use Rattle.oriedit.proofs.Answered.{still_told, untouched, rose_none, fails_counted}
use Rattle.oriedit.proofs.Joining.{rose_more}

-- steps, and more after them
steps_more : (before mid after : Entries) (asks bs : List Asked) (rs ss : List Reply) → Steps before asks rs mid → Steps mid bs ss after → Steps before (asks ++ bs) (rs ++ ss) after
steps_more before mid after [] bs [] ss p q = subst (λ x. Steps x bs ss after) p q
steps_more before mid after [] bs (r ∷ rs) ss p q = absurd p
steps_more before mid after (a ∷ asks) bs [] ss p q = absurd p
steps_more before mid after (a ∷ asks) bs (r ∷ rs) ss p q = (p.0, p.1, steps_more p.0 mid after asks bs rs ss p.2 q)

tables_more : (before mid after : Tables) (asks bs : List Asked) (rs ss : List Reply) → StepTables before asks rs mid → StepTables mid bs ss after → StepTables before (asks ++ bs) (rs ++ ss) after
tables_more before mid after asks bs rs ss p q = λ entries s.
    let a = p entries s in
    let b = q a.0 a.1 in
    (b.0, b.1, steps_more entries a.0 b.0 asks bs rs ss a.2 b.2)

failures_more : (rs ss : List Reply) → all_failures (rs ++ ss) ≡ all_failures rs + all_failures ss
failures_more [] ss = omega arith
failures_more (r ∷ rs) ss = let e = failures_more rs ss in omega (arith, e)

pub replied_more : (old mid new : Works) (C D : Type 0) → (D → C) → (asks bs : List Asked) (rs ss : List Reply) → AreReplied old C mid asks rs → AreReplied mid D new bs ss → AreReplied old D new (asks ++ bs) (rs ++ ss)
replied_more old mid new C D f asks bs rs ss p q = record {
  each = length-append rs ss ∙ omega (arith, p.each, q.each) ∙ sym (length-append asks bs);
  told = λ before e clean.
      let a = p.told before e (f clean) in
      let b = q.told a.0 a.1.told clean in (
        b.0,
        record {
          told = b.1.told;
          tables = λ t. b.1.tables (a.1.tables t);
          holds = tables_more before a.0 b.0 asks bs rs ss a.1.holds b.1.holds;
        },
      );
  counted = subst (RoseBy old.faults new.faults) (sym (failures_more rs ss)) (rose_more old.faults mid.faults new.faults (all_failures rs) (all_failures ss) p.counted q.counted);
}

no_steps : (b a : Tables) → a ≡ b → StepTables b [] [] a
no_steps b a e = λ entries s. (entries, subst (λ t. StandFor t entries) (sym e) s, refl)

-- nothing was asked
pub none_replied : (w : Works) (clean : Type 0) → AreReplied w clean w [] []
none_replied w clean = record {
  each = refl;
  told = untouched w.tables clean (λ b a. StepTables b [] [] a) (λ b. no_steps b b refl);
  counted = rose_none w.faults w.faults (omega arith);
}

-- a call that found no memory
pub unreplied : (c : Command) (e : NoMemory) (old new : Option Tables) (before after : ℕ) (clean : Type 0)
    → Tells old clean new (λ b a. Replies b c (Err e) a) → RepliesWhereRose before after (Err e) → AreReplied (works None old before) clean (works None new after) [] []
unreplied c e old new before after clean t w = record {
  each = refl;
  told = still_told old new clean (λ b a. Replies b c (Err e) a) (λ b a. StepTables b [] [] a) (λ b a h. no_steps b a h) t;
  counted = rose_none before after w.later;
}

one_step : (a : Asked) (r : Reply) (before after : Tables) → Replies before a.command (Ok r) after → StepTables before (a ∷ []) (r ∷ []) after
one_step a r before after h = λ entries s.
    let x = h.step entries s in
    (x.0, x.1, (x.0, x.2, refl))

-- a call that replied
pub one_replied : (a : Asked) (r : Reply) (old new : Option Tables) (before after : ℕ) (clean : Type 0)
    → Tells old clean new (λ b a'. Replies b a.command (Ok r) a') → RepliesWhereRose before after (Ok r) → AreReplied (works None old before) clean (works None new after) (a ∷ []) (r ∷ [])
one_replied a r old new before after clean t w = record {
  each = refl;
  told = still_told old new clean (λ b x. Replies b a.command (Ok r) x) (λ b x. StepTables b (a ∷ []) (r ∷ []) x) (λ b x h. one_step a r b x h) t;
  counted = subst (RoseBy before after) (omega arith) (fails_counted r before after w.later (λ e. w.failed (ap Ok e)));
}

pub part_more : (old mid new : Works) (C D : Type 0) → (D → C) → (asks bs : List Asked) (rs : List Reply) → AreReplied old C mid asks rs → ArePartly mid D new bs → ArePartly old D new (asks ++ bs)
part_more old mid new C D f asks bs rs r p = record {
  some = asks ++ p.some;
  later = p.later;
  all = ap (λ t. asks ++ t) p.all ∙ sym (append_assoc asks p.some p.later);
  rs = rs ++ p.rs;
  replied = replied_more old mid new C D f asks p.some rs p.rs r p.replied;
}

-- none of them
pub part_none : (old new : Works) (C : Type 0) (asks : List Asked) → AreReplied old C new [] [] → ArePartly old C new asks
part_none old new C asks r = record { some = []; later = asks; all = refl; rs = []; replied = r }

-- tallies
tally_is : (a a' b b' c c' d d' : ℕ) → a ≡ a' → b ≡ b' → c ≡ c' → d ≡ d' → (let t : Tally = record { done = a; refused = b; failed = c; seen = d } in t) ≡ record { done = a'; refused = b'; failed = c'; seen = d' }
tally_is a a' b b' c c' d d' e f g h = cc

pub plus_more : (t u v : Tally) → plus (plus t u) v ≡ plus t (plus u v)
plus_more t u v = tally_is _ _ _ _ _ _ _ _ (omega arith) (omega arith) (omega arith) (omega arith)

pub plus_none : (t : Tally) → plus t nothing ≡ t
plus_none t = tally_is _ _ _ _ _ _ _ _ (omega arith) (omega arith) (omega arith) (omega arith)

pub none_plus : (t : Tally) → plus nothing t ≡ t
none_plus t = tally_is _ _ _ _ _ _ _ _ (omega arith) (omega arith) (omega arith) (omega arith)

pub totals_more : (asks bs : List Asked) (rs ss : List Reply) → length rs ≡ length asks → totals (asks ++ bs) (rs ++ ss) ≡ plus (totals asks rs) (totals bs ss)
totals_more [] bs [] ss e = sym (none_plus (totals bs ss))
totals_more [] bs (r ∷ rs) ss e = absurd (omega (arith, e))
totals_more (a ∷ asks) bs [] ss e = absurd (omega (arith, e))
totals_more (a ∷ asks) bs (r ∷ rs) ss e =
    ap (plus (counted_as a.kind r)) (totals_more asks bs rs ss (omega (arith, e))) ∙ sym (plus_more (counted_as a.kind r) (totals asks rs) (totals bs ss))

-- a call of the desk
pub acted : (ask : Asked) (result : Result Reply NoMemory) (old new : Option Tables) (before after : ℕ) (clean : Type 0)
    → Tells old clean new (λ b x. Replies b ask.command result x) → RepliesWhereRose before after result
    → Learns {A = Reply} {E = NoMemory} (λ r told. told ≡ r) (works None old before) clean (works None new after) ask result
acted ask (Ok r) old new before after clean t w = (r, one_replied ask r old new before after clean t w, refl)
acted ask (Err e) old new before after clean t w = unreplied ask.command e old new before after clean t w

-- one command is counted
pub counted_one : (ask : Asked) (r : Reply) (t : Tally) (old new : Works) (clean : Type 0) (next : Tally)
    → AreReplied old clean new (ask ∷ []) (r ∷ []) → next ≡ plus t (counted_as ask.kind r) → AreCounted old clean new (ask ∷ []) t next
counted_one ask r t old new clean next h e = record {
  rs = r ∷ [];
  replied = h;
  tally = e ∙ ap (plus t) (sym (plus_none (counted_as ask.kind r)));
}

-- more is counted
pub counted_more : (old mid new : Works) (C D : Type 0) → (D → C) → (asks more : List Asked) (t u v : Tally) → AreCounted old C mid asks t u → AreCounted mid D new more u v → AreCounted old D new (asks ++ more) t v
counted_more old mid new C D f asks more t u v p q = record {
  rs = p.rs ++ q.rs;
  replied = replied_more old mid new C D f asks more p.rs q.rs p.replied q.replied;
  tally = q.tally ∙ ap (λ x. plus x (totals more q.rs)) p.tally ∙ plus_more t (totals asks p.rs) (totals more q.rs)
      ∙ ap (plus t) (sym (totals_more asks more p.rs q.rs p.replied.each));
}

-- and with one
pub counted_question : (k : ℕ) (turn : Asked) (r : Reply) (t u : Tally) (old mid new : Works) (C D : Type 0) (result : Result Tally NoMemory) → (D → C) → k ≡ 0
    → AreReplied old C mid (turn ∷ []) (r ∷ []) → u ≡ plus t (counted_as turn.kind r) → Learns (λ s next. next ≡ plus u (of_question s)) mid D new (asked Asking (command.Faults subject)) result
    → Counts old D new (turn ∷ question k) t result
counted_question k turn r t u old mid new C D (Ok v) f z h e q = subst (λ x. AreCounted old D new (turn ∷ question x) t v) (sym z)
    (counted_more old mid new C D f (turn ∷ []) (question 0) t u v (counted_one turn r t old mid C u h e) (counted_one (asked Asking (command.Faults subject)) q.0 u mid new D v q.1 q.2))
counted_question k turn r t u old mid new C D (Err w) f z h e q = subst (λ x. ArePartly old D new (turn ∷ question x)) (sym z)
    (part_more old mid new C D f (turn ∷ []) (question 0) (r ∷ []) h (part_none mid new D (question 0) q))

-- a command by an equal name
pub named : (f : List ℕ → Command) (kind : Kind) (n m : List ℕ) (r : Reply) (old new : Works) (clean : Type 0) → n ≡ m
    → AreReplied old clean new (asked kind (f n) ∷ []) (r ∷ []) → AreReplied old clean new (asked kind (f m) ∷ []) (r ∷ [])
named f kind n m r old new clean e h = subst (λ x. AreReplied old clean new (asked kind (f x) ∷ []) (r ∷ [])) e h
