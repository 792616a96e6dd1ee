-- Turns of a generator, one after another, and what is asked before and after them.
use Rattle.std.proofs.Common.{◌≡◌, ℕ, ◌+◌, ◌≤◌, ◌%◌, List, [], ◌∷◌, ◌++◌, length, length-append, append_assoc, append-nil, refl, sym, ap, subst, ◌∙◌, inl, inr, arith}
use Rattle.std.specs.Prelude.{Option, Result, Ok, IfOk}
use Rattle.sheet.specs.Sheet.{ExactSheet, square}
use Rattle.dialogue.specs.declared.command.Command.{Command}
use Rattle.dialogue.specs.declared.command.Command.TheVariants as command
use Rattle.dialogue.specs.declared.reply.Reply.{Reply}
use Rattle.generator.specs.Turns.{IsTurn}
use Rattle.projects.specs.Tables.{Tables}
use Rattle.oriedit.specs.Script.{Works, works}
use Rattle.oriedit.specs.Summary.{nothing, plus, creases_told, sizes_told, faults_told, final_line, summary}
use Rattle.oriedit.specs.Generating.{Asked, asked, Turning, Framing, subject, AreTurns, question, with_questions, opening, closing, AreReplied, totals, IsGenerated, IsBegun}
use Rattle.oriedit.specs.Counting.{IsSmall, ArePartly, AreCounted, IsTallied, IsBroken, IsClosed, IsAnswered}
use Rattle.oriedit.specs.declared.summary.Last.{Last}
use Rattle.oriedit.specs.declared.tally.Tally.{Tally}
use Rattle.oriedit.proofs.Stepping.{replied_more, none_replied, part_more, part_none, counted_more, none_plus, plus_none, totals_more}

turns_more : (s mid next : ℕ) (cs : List Command) (c : Command) → AreTurns s cs mid → IsTurn subject mid c next → AreTurns s (cs ++ c ∷ []) next
turns_more s mid next [] c p t = (next, subst (λ x. IsTurn subject x c next) p t, refl)
turns_more s mid next (d ∷ cs) c p t = (p.0, p.1, turns_more p.0 mid next cs c p.2 t)

questions_more : (n : ℕ) (cs : List Command) (c : Command) → with_questions n (cs ++ c ∷ []) ≡ with_questions n cs ++ (asked Turning c ∷ question ((n + length cs) % 16))
questions_more n [] c =
    let e : n % 16 ≡ (n + 0) % 16 = ap (λ k. k % 16) (omega arith) in
    ap (λ t. asked Turning c ∷ t) (append-nil (question (n % 16)) ∙ ap question e)
questions_more n (d ∷ cs) c =
    let e : (n + 1 + length cs) % 16 ≡ (n + length (d ∷ cs)) % 16 = ap (λ k. k % 16) (omega arith) in
    ap (λ t. asked Turning d ∷ t) (
    ap (λ t. question (n % 16) ++ t) (questions_more (n + 1) cs c)
    ∙ sym (append_assoc (question (n % 16)) (with_questions (n + 1) cs) (asked Turning c ∷ question ((n + 1 + length cs) % 16)))
    ∙ ap (λ k. (question (n % 16) ++ with_questions (n + 1) cs) ++ (asked Turning c ∷ question k)) e)

-- no turn yet
pub no_turns : (seed s : ℕ) (t : Tally) (w : Works) (clean : Type 0) → s ≡ seed → t ≡ nothing → IsTallied seed 0 s w clean w t
no_turns seed s t w clean e f = record {
  turns = [];
  are = e;
  many = refl;
  counted = record { rs = []; replied = none_replied w clean; tally = f ∙ sym (plus_none nothing) };
}

pub none_small : (t : Tally) → t ≡ nothing → IsSmall 0 t
none_small t e = subst (IsSmall 0) (sym e) (record { done = omega arith; refused = omega arith; failed = omega arith; seen = omega arith })

pub turn_named : (n m : List ℕ) (s next : ℕ) (c : Command) → n ≡ m → IsTurn n s c next → IsTurn m s c next
turn_named n m s next c e h = subst (λ x. IsTurn x s c next) e h

questions_at : (n : ℕ) (cs : List Command) (c : Command) → length cs ≡ n → with_questions 1 cs ++ (asked Turning c ∷ question ((n + 1) % 16)) ≡ with_questions 1 (cs ++ c ∷ [])
questions_at n cs c e = let k : 1 + length cs ≡ n + 1 = omega (arith, e) in sym (questions_more 1 cs c ∙ ap (λ k. with_questions 1 cs ++ (asked Turning c ∷ question (k % 16))) k)

one_longer : (n : ℕ) (cs : List Command) (c : Command) → length cs ≡ n → length (cs ++ c ∷ []) ≡ n + 1
one_longer n cs c e = length-append cs (c ∷ []) ∙ omega (arith, e)

-- one more turn
pub turn_more : (seed n mid next : ℕ) (c : Command) (t u : Tally) (old now new : Works) (C D : Type 0) → (D → C)
    → IsTallied seed n mid old C now t → IsTurn subject mid c next → AreCounted now D new (asked Turning c ∷ question ((n + 1) % 16)) t u → IsTallied seed (n + 1) next old D new u
turn_more seed n mid next c t u old now new C D f p h q = record {
  turns = p.turns ++ c ∷ [];
  are = turns_more seed mid next p.turns c p.are h;
  many = one_longer n p.turns c p.many;
  counted = subst (λ x. AreCounted old D new x nothing u) (questions_at n p.turns c p.many)
      (counted_more old now new C D f (with_questions 1 p.turns) (asked Turning c ∷ question ((n + 1) % 16)) nothing t u p.counted q);
}

-- a turn in which memory ran out
pub turn_broken : (seed n count mid next : ℕ) (c : Command) (t : Tally) (old now new : Works) (C D : Type 0) → (D → C) → n + 1 ≤ count
    → IsTallied seed n mid old C now t → IsTurn subject mid c next → ArePartly now D new (asked Turning c ∷ question ((n + 1) % 16)) → IsBroken seed count old D new
turn_broken seed n count mid next c t old now new C D f l p h q = record {
  turns = p.turns ++ c ∷ [];
  state = next;
  are = turns_more seed mid next p.turns c p.are h;
  few = omega (arith, l, one_longer n p.turns c p.many);
  part = subst (ArePartly old D new) (questions_at n p.turns c p.many)
      (part_more old now new C D f (with_questions 1 p.turns) (asked Turning c ∷ question ((n + 1) % 16)) p.counted.rs p.counted.replied q);
}

-- of the last three commands one was done, and two
pub closed_one : (p : Reply) (old now new : Works) (C D : Type 0) → (D → C)
    → AreReplied old C now (asked Framing (command.PatternText subject) ∷ []) (p ∷ []) → AreReplied now D new [] [] → ArePartly old D new closing
closed_one p old now new C D f h q =
    let rest : List Asked = asked Framing (command.Show subject) ∷ asked Framing (command.Faults subject) ∷ [] in
    part_more old now new C D f (asked Framing (command.PatternText subject) ∷ []) rest (p ∷ []) h (part_none now new D rest q)

both_done : (p s : Reply) (old now new : Works) (C D : Type 0) → (D → C)
    → AreReplied old C now (asked Framing (command.PatternText subject) ∷ []) (p ∷ []) → AreReplied now D new (asked Framing (command.Show subject) ∷ []) (s ∷ [])
    → AreReplied old D new (asked Framing (command.PatternText subject) ∷ asked Framing (command.Show subject) ∷ []) (p ∷ s ∷ [])
both_done p s old now new C D f h k = replied_more old now new C D f (asked Framing (command.PatternText subject) ∷ []) (asked Framing (command.Show subject) ∷ []) (p ∷ []) (s ∷ []) h k

pub closed_two : (p s : Reply) (old mid now new : Works) (B C D : Type 0) → (C → B) → (D → C)
    → AreReplied old B mid (asked Framing (command.PatternText subject) ∷ []) (p ∷ []) → AreReplied mid C now (asked Framing (command.Show subject) ∷ []) (s ∷ []) → AreReplied now D new [] [] → ArePartly old D new closing
closed_two p s old mid now new B C D e f h k q =
    let rest : List Asked = asked Framing (command.Faults subject) ∷ [] in
    part_more old now new C D f (asked Framing (command.PatternText subject) ∷ asked Framing (command.Show subject) ∷ []) rest (p ∷ s ∷ [])
    (both_done p s old mid now B C e h k) (part_none now new D rest q)

-- all three
pub closed_three : (p s l : Reply) (last : Last) (old mid now new : Works) (B C D : Type 0) → (C → B) → (D → C)
    → AreReplied old B mid (asked Framing (command.PatternText subject) ∷ []) (p ∷ []) → AreReplied mid C now (asked Framing (command.Show subject) ∷ []) (s ∷ [])
    → AreReplied now D new (asked Framing (command.Faults subject) ∷ []) (l ∷ []) → last.creases ≡ creases_told p → last.sizes ≡ sizes_told s → last.faults ≡ faults_told l → IsClosed old D new last
closed_three p s l last old mid now new B C D e f h k q x y z = record {
  pattern = p;
  shown = s;
  listed = l;
  replied = replied_more old now new C D f (asked Framing (command.PatternText subject) ∷ asked Framing (command.Show subject) ∷ []) (asked Framing (command.Faults subject) ∷ []) (p ∷ s ∷ []) (l ∷ [])
      (both_done p s old mid now B C e h k) q;
  creases = x;
  sizes = y;
  faults = z;
}

-- the name, and the command that makes the project
pub name_is : {E : Type 0} (r : Result (List ℕ) E) (x b : List ℕ) → r ≡ Ok x → IfOk r (λ n. n ≡ b) → x ≡ b
name_is r x b e h = rw e at h

pub opened : (n : List ℕ) (sheet : ExactSheet) (r : Reply) (old new : Works) (clean : Type 0) → n ≡ subject → sheet ≡ square
    → AreReplied old clean new (asked Framing (command.New n sheet) ∷ []) (r ∷ []) → AreReplied old clean new (opening ∷ []) (r ∷ [])
opened n sheet r old new clean e f h = subst (λ x. AreReplied old clean new (asked Framing (command.New subject x) ∷ []) (r ∷ [])) f
    (subst (λ x. AreReplied old clean new (asked Framing (command.New x sheet) ∷ []) (r ∷ [])) e h)

-- the project was not made
pub unopened : (seed count : ℕ) (old new : Works) (C : Type 0) → AreReplied old C new [] [] → IsBegun seed count old C new
unopened seed count old new C r = record {
  asks = [];
  rs = [];
  some = record {
    turns = [];
    state = seed;
    are = refl;
    few = omega arith;
    last = [];
    end = inl refl;
    later = opening ∷ [];
    first = refl;
  };
  replied = r;
}

-- the turns were not all done
pub broken : (seed count : ℕ) (r : Reply) (old mid new : Works) (C D : Type 0) → (D → C) → AreReplied old C mid (opening ∷ []) (r ∷ []) → IsBroken seed count mid D new → IsBegun seed count old D new
broken seed count r old mid new C D f h b =
    let p = part_more old mid new C D f (opening ∷ []) (with_questions 1 b.turns) (r ∷ []) h b.part in
    record {
      asks = p.some;
      rs = p.rs;
      some = record {
        turns = b.turns;
        state = b.state;
        are = b.are;
        few = b.few;
        last = [];
        end = inl refl;
        later = p.later;
        first = ap (λ t. opening ∷ t) (append-nil (with_questions 1 b.turns)) ∙ p.all;
      };
      replied = p.replied;
    }

-- they were, and not all was asked after them
pub unclosed : (seed count state : ℕ) (r : Reply) (t : Tally) (old mid now new : Works) (B C D : Type 0) → (C → B) → (D → C)
    → AreReplied old B mid (opening ∷ []) (r ∷ []) → IsTallied seed count state mid C now t → ArePartly now D new closing → IsBegun seed count old D new
unclosed seed count state r t old mid now new B C D e f h b q =
    let p = part_more old now new C D f (opening ∷ with_questions 1 b.turns) closing (r ∷ b.counted.rs)
    (replied_more old mid now B C e (opening ∷ []) (with_questions 1 b.turns) (r ∷ []) b.counted.rs h b.counted.replied) q in
    record {
      asks = p.some;
      rs = p.rs;
      some = record {
        turns = b.turns;
        state = state;
        are = b.are;
        few = omega (arith, b.many);
        last = closing;
        end = inr (refl, b.many);
        later = p.later;
        first = p.all;
      };
      replied = p.replied;
    }

-- all was done
pub all_answered : (seed count state : ℕ) (r : Reply) (t : Tally) (last : Last) (old mid now new : Works) (B C D : Type 0) → (C → B) → (D → C)
    → AreReplied old B mid (opening ∷ []) (r ∷ []) → IsTallied seed count state mid C now t → IsClosed now D new last → IsAnswered seed count old D new t last
all_answered seed count state r t last old mid now new B C D e f h b q =
    let first = replied_more old mid now B C e (opening ∷ []) (with_questions 1 b.turns) (r ∷ []) b.counted.rs h b.counted.replied in
    let replies : List Reply = q.pattern ∷ q.shown ∷ q.listed ∷ [] in
    record {
      asks = (opening ∷ with_questions 1 b.turns) ++ closing;
      rs = (r ∷ b.counted.rs) ++ replies;
      all = record { turns = b.turns; state = state; are = b.are; many = b.many; all = refl };
      replied = replied_more old now new C D f (opening ∷ with_questions 1 b.turns) closing (r ∷ b.counted.rs) replies first q.replied;
      tally_is = b.counted.tally ∙ none_plus (totals (with_questions 1 b.turns) b.counted.rs)
          ∙ sym (plus_none (totals (with_questions 1 b.turns) b.counted.rs))
          ∙ sym (none_plus (plus (totals (with_questions 1 b.turns) b.counted.rs) nothing))
          ∙ ap (plus nothing) (sym (totals_more (with_questions 1 b.turns) closing b.counted.rs replies b.counted.replied.each));
      front = r ∷ b.counted.rs;
      pattern = q.pattern;
      shown = q.shown;
      listed = q.listed;
      replies = refl;
      creases = q.creases;
      sizes = q.sizes;
      faults = q.faults;
    }

-- all was done, and there was no memory for the summary
pub unsummarized : (seed count : ℕ) (t : Tally) (last : Last) (old new : Works) (C : Type 0) → IsAnswered seed count old C new t last → IsBegun seed count old C new
unsummarized seed count t last old new C h = record {
  asks = h.asks;
  rs = h.rs;
  some = record {
    turns = h.all.turns;
    state = h.all.state;
    are = h.all.are;
    few = omega (arith, h.all.many);
    last = closing;
    end = inr (refl, h.all.many);
    later = [];
    first = sym h.all.all ∙ sym (append-nil h.asks);
  };
  replied = h.replied;
}

pub summarized_all : (seed count : ℕ) (t : Tally) (last : Last) (text : List ℕ) (old new : Works) (C : Type 0) → IsAnswered seed count old C new t last
    → text ≡ summary seed count t (final_line last.creases last.sizes last.faults) → IsGenerated seed count old C new text
summarized_all seed count t last text old new C h e = record {
  asks = h.asks;
  rs = h.rs;
  all = h.all;
  replied = h.replied;
  is_summary = record {
    front = h.front;
    pattern = h.pattern;
    shown = h.shown;
    listed = h.listed;
    replies = h.replies;
    text_is = rw (e, h.tally_is, h.creases, h.sizes, h.faults) refl;
  };
}
