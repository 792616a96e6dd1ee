-- A script up to some place.
use Rattle.std.proofs.Common.{◌≡◌, ℕ, ◌+◌, ◌<◌, ◌≤◌, length, length-append, take, List, [], ◌++◌, append_assoc, append-nil, refl, sym, ap, subst, ◌∙◌, inl, inr, arith}
use Rattle.std.specs.Prelude.{Option, Some, None, Ok, Err}
use Rattle.std.specs.List.{concat}
use Rattle.std.proofs.lemmas.List.{take-append-le, length-take-le}
use Rattle.std.proofs.lemmas.List.Elements.{All-nil, All-append}
use Rattle.ports.specs.Streams.{Takes}
use Rattle.ports.specs.Taken.{Gave, IsSpent}
use Rattle.ports.proofs.callers.Taken.{gave_nothing}
use Rattle.oriedit.specs.Units.{IsUnit, StandsFirst, AreUnits, last_unit}
use Rattle.oriedit.specs.Script.{Works, AreAnswered, AreCutOff, DoesSome, ScriptRuns}
use Rattle.oriedit.specs.Answering.{AnswersUnits, status_of}
use Rattle.oriedit.specs.Lasting.{AnswersLast}
use Rattle.oriedit.specs.Limits.{script_limit}
use Rattle.oriedit.specs.declared.early.Early.{Early}
use Rattle.oriedit.specs.declared.early.Early.TheVariants as early
use Rattle.oriedit.specs.declared.status.Status.{Status}
use Rattle.oriedit.specs.declared.status.Status.TheVariants as status
use Rattle.oriedit.proofs.Taken.{took_more}
use Rattle.oriedit.proofs.Joining.{concat_more, answered_more, cut_off_more}
use Rattle.oriedit.proofs.Answered.{nothing_yet}
use Rattle.oriedit.proofs.UnitEnds.{nothing_kept, no_feed}

-- Bytes were taken: their whole units were answered, and a unit was begun.
pub record IsRead (was left : Option (List ℕ)) (line : List ℕ) (taken : ℕ) (old : Works) (clean : Type 0) (now : Works) : Type 0 where
  pub bytes : List ℕ
  pub units : List (List ℕ)
  pub gave : Gave was left bytes
  pub count : length bytes ≡ taken
  pub all : AreUnits bytes units line
  pub answered : AreAnswered old clean now units

pub nothing_read : (was : Option (List ℕ)) (line : List ℕ) (w : Works) (clean : Type 0) → line ≡ []
    → IsRead was was line 0 w clean w
nothing_read was line w clean e = record {
  bytes = [];
  units = [];
  gave = gave_nothing was;
  count = refl;
  all = record { first = record { all = sym e; each = All-nil IsUnit }; unfinished = no_feed line (nothing_kept line 0 e refl) };
  answered = nothing_yet w clean;
}

-- units of more bytes, behind whole units and one that was begun
units_behind : (bytes line piece kept : List ℕ) (us vs : List (List ℕ)) → StandsFirst bytes us line
    → StandsFirst (line ++ piece) vs kept → StandsFirst (bytes ++ piece) (us ++ vs) kept
units_behind bytes line piece kept us vs l m = record {
  all = ap (λ t. t ++ piece) l.all ∙ append_assoc (concat us) line piece ∙ ap (λ t. concat us ++ t) m.all
      ∙ sym (append_assoc (concat us) (concat vs) kept) ∙ ap (λ t. t ++ kept) (sym (concat_more us vs));
  each = All-append IsUnit us vs l.each m.each;
}

-- a piece was taken and its units were answered
pub more_read : (was mid left : Option (List ℕ)) (line piece kept : List ℕ) (taken after : ℕ) (old now new : Works) (C D : Type 0)
    → (D → C)
    → (r : IsRead was mid line taken old C now) → Gave was left (r.bytes ++ piece) → after ≡ taken + length piece → AnswersUnits (line ++ piece) kept now D new (Ok tt)
    → IsRead was left kept after old D new
more_read was mid left line piece kept taken after old now new C D f r g e a = record {
  bytes = r.bytes ++ piece;
  units = r.units ++ a.0;
  gave = g;
  count = length-append r.bytes piece ∙ ap (λ n. n + length piece) r.count ∙ sym e;
  all = record { first = units_behind r.bytes line piece kept r.units a.0 r.all.first a.1.first; unfinished = a.1.unfinished };
  answered = answered_more old now new C D f r.units a.0 r.answered a.2;
}

some_behind : (bytes line piece : List ℕ) (us : List (List ℕ)) (P Q : List (List ℕ) → Type 0)
    → StandsFirst bytes us line → ((vs : List (List ℕ)) → P vs → Q (us ++ vs)) → DoesSome (line ++ piece) P
    → DoesSome (bytes ++ piece) Q
some_behind bytes line piece us P Q l f d = record {
  units = us ++ d.units;
  rest = d.rest;
  all = units_behind bytes line piece d.rest us d.units l d.all;
  done = f d.units d.done;
}

-- a piece was taken, and the script ended at one of its units
pub ended_at : (was mid left : Option (List ℕ)) (line piece kept : List ℕ) (taken : ℕ) (old now new : Works) (C D : Type 0) (e : Early)
    → (D → C)
    → (r : IsRead was mid line taken old C now) → Gave was left (r.bytes ++ piece) → taken + length piece ≤ script_limit → AnswersUnits (line ++ piece) kept now D new (Err e)
    → ScriptRuns was left old D new (status_of e)
ended_at was mid left line piece kept taken old now new C D early.WriteFault f r g l a =
    let short : length (r.bytes ++ piece) ≤ script_limit = simp length-append (omega (arith, r.count, l)) in
    (r.bytes ++ piece, g, inl (short, some_behind r.bytes line piece r.units (AreCutOff now D new) (AreCutOff old D new) r.all.first (λ vs c. cut_off_more old now new C D f r.units vs r.answered c) a))
ended_at was mid left line piece kept taken old now new C D early.NoMemory f r g l a =
    let short : length (r.bytes ++ piece) ≤ script_limit = simp length-append (omega (arith, r.count, l)) in
    (r.bytes ++ piece, g, (short, some_behind r.bytes line piece r.units (AreAnswered now D new) (AreAnswered old D new) r.all.first (λ vs c. answered_more old now new C D f r.units vs r.answered c) a))

-- the source has ended, and the last unit was answered
ended_whole : (was left : Option (List ℕ)) (line : List ℕ) (taken : ℕ) (old now new : Works) (C D : Type 0) (s : Status)
    → (D → C) → taken < script_limit → IsSpent left
    → IsRead was left line taken old C now → AnswersLast line now D new s → ScriptRuns was left old D new s
ended_whole was left line taken old now new C D status.Ok f l z r a = (
  r.bytes,
  r.gave,
  (
    omega (arith, r.count, l),
    record {
      units = r.units;
      rest = line;
      all = r.all;
      spent = z;
      done = answered_more old now new C D f r.units (last_unit line) r.answered a;
    },
  ),
)
ended_whole was left line taken old now new C D status.WriteFault f l z r a = (
  r.bytes,
  r.gave,
  inr (
    omega (arith, r.count, l),
    record {
      units = r.units;
      rest = line;
      all = r.all;
      spent = z;
      done = cut_off_more old now new C D f r.units (last_unit line) r.answered a;
    },
  ),
)
ended_whole was left line taken old now new C D status.NoMemory f l z r a = (
  r.bytes,
  r.gave,
  (
    omega (arith, r.count, l),
    record {
      units = r.units;
      rest = line;
      all = r.all.first;
      done = subst (AreAnswered old D new) (append-nil r.units) (answered_more old now new C D f r.units [] r.answered a);
    },
  ),
)
ended_whole was left line taken old now new C D status.FaultsFound f l z r a = absurd a
ended_whole was left line taken old now new C D status.Usage f l z r a = absurd a
ended_whole was left line taken old now new C D status.ReadFault f l z r a = absurd a
ended_whole was left line taken old now new C D status.KeeperFault f l z r a = absurd a
ended_whole was left line taken old now new C D status.DoorFault f l z r a = absurd a
ended_whole was left line taken old now new C D status.TooLong f l z r a = absurd a
ended_whole was left line taken old now new C D status.Refused f l z r a = absurd a

pub ended : (was left : Option (List ℕ)) (line rest : List ℕ) (taken : ℕ) (old now new : Works) (C D : Type 0) (s : Status)
    → (D → C) → taken < script_limit → IsSpent left
    → IsRead was left line taken old C now → rest ≡ line → AnswersLast rest now D new s → ScriptRuns was left old D new s
ended was left line rest taken old now new C D s f l z r e a =
    ended_whole was left line taken old now new C D s f l z r (subst (λ t. AnswersLast t now D new s) e a)

-- nothing was done at all
pub nothing_done : (was : Option (List ℕ)) (w : Works) (clean : Type 0)
    → ScriptRuns was was w clean w status.NoMemory
nothing_done was w clean = (
  [],
  gave_nothing was,
  (
    omega arith,
    record {
      units = [];
      rest = [];
      all = record { all = refl; each = All-nil IsUnit };
      done = nothing_yet w clean;
    },
  ),
)

-- a take that saw the end
pub end_gave : (E : Type 0) (was mid left : Option (List ℕ)) (bytes a b : List ℕ) (n : ℕ) → n ≡ 0
    → Takes {E = E} mid left a b (Ok n) → Gave was mid bytes → Gave was left bytes
end_gave E None None None bytes a b n z t g = tt
end_gave E None None (Some y) bytes a b n z t g = absurd t
end_gave E None (Some x) left bytes a b n z t g = absurd g
end_gave E (Some w) None left bytes a b n z t g = absurd g
end_gave E (Some w) (Some x) None bytes a b n z t g = absurd t
end_gave E (Some w) (Some x) (Some y) bytes a b n z t g =
    g ∙ ap (λ r. bytes ++ r) (t.front ∙ ap (λ k. take k b ++ y) z)

pub read_on : (was mid left : Option (List ℕ)) (line : List ℕ) (taken : ℕ) (old now : Works) (clean : Type 0)
    → (r : IsRead was mid line taken old clean now) → Gave was left r.bytes
    → IsRead was left line taken old clean now
read_on was mid left line taken old now clean r g = record {
  bytes = r.bytes;
  units = r.units;
  gave = g;
  count = r.count;
  all = r.all;
  answered = r.answered;
}

-- what a take gave, as the front of the whole block
pub piece_gave : (E : Type 0) (was mid left : Option (List ℕ)) (bytes a b rest : List ℕ) (n : ℕ)
    → n ≤ length b → Gave was mid bytes → Takes {E = E} mid left a b (Ok n)
    → Gave was left (bytes ++ take n (b ++ rest))
piece_gave E was mid left bytes a b rest n l g t =
    subst (λ p. Gave was left (bytes ++ p)) (sym (take-append-le n b rest l)) (took_more E was mid left bytes a b n g t)

pub piece_length : (b rest : List ℕ) (n : ℕ) → n ≤ length b → length (take n (b ++ rest)) ≡ n
piece_length b rest n l = ap length (take-append-le n b rest l) ∙ length-take-le n b l
