-- Units of a script that are answered one after another.
use Rattle.std.proofs.Common.{◌≡◌, ℕ, List, [], ◌∷◌, ◌++◌, append_assoc, append-nil, refl, sym, ap, subst, ◌∙◌}
use Rattle.std.specs.Prelude.{All, Contains, Ok, Err}
use Rattle.std.specs.List.{concat}
use Rattle.std.proofs.lemmas.List.Elements.{All-nil, All-cons, All-append}
use Rattle.lines.specs.Lines.{IsFirst}
use Rattle.oriedit.specs.Units.{IsUnit}
use Rattle.oriedit.specs.Unfinished.{IsUnfinished}
use Rattle.oriedit.specs.Answering.{AnswersOne, AnswersUnits}
use Rattle.oriedit.specs.declared.early.Early.{Early}
use Rattle.oriedit.specs.declared.early.Early.TheVariants as early
use Rattle.oriedit.specs.Script.{Works, AreAnswered, AreCutOff, DoesSome}
use Rattle.oriedit.proofs.Joining.{concat_more, answered_more, cut_off_more}
use Rattle.oriedit.proofs.Answered.{nothing_yet}
use Rattle.oriedit.proofs.UnitEnds.{IsOneCount, kept_more, no_unit, nothing_kept}

-- Some units were answered; one was begun, and bytes stand behind what was taken of it.
pub record IsSoFar (bytes kept : List ℕ) (wanted : ℕ) (rest : List ℕ) (old : Works) (clean : Type 0) (now : Works) : Type 0 where
  pub units : List (List ℕ)
  pub all : bytes ≡ concat units ++ (kept ++ rest)
  pub each : All IsUnit units
  pub unfinished : IsUnfinished kept wanted
  pub answered : AreAnswered old clean now units

pub begun : (kept bytes : List ℕ) (n : ℕ) (w : Works) (clean : Type 0) → IsUnfinished kept n
    → IsSoFar (kept ++ bytes) kept n bytes w clean w
begun kept bytes n w clean u = record {
  units = [];
  all = refl;
  each = All-nil IsUnit;
  unfinished = u;
  answered = nothing_yet w clean;
}

-- the bytes as they are where the line that was begun is ended
ended_all : (bytes kept rest end later more : List ℕ) (units : List (List ℕ))
    → bytes ≡ concat units ++ (kept ++ rest) → IsFirst rest end later → more ≡ kept ++ end
    → bytes ≡ concat units ++ (more ++ later)
ended_all bytes kept rest end later more units e i m =
    e ∙ ap (λ t. concat units ++ t) (ap (λ t. kept ++ t) i.whole ∙ sym (append_assoc kept end later) ∙ ap (λ t. t ++ later) (sym m))

-- a line was ended, and the unit lacks more
pub line_more : (bytes kept rest end later more : List ℕ) (n m : ℕ) (old now : Works) (clean : Type 0)
    → IsFirst rest end later → more ≡ kept ++ end → IsUnfinished more m
    → IsSoFar bytes kept n rest old clean now → IsSoFar bytes more m later old clean now
line_more bytes kept rest end later more n m old now clean i e u s = record {
  units = s.units;
  all = ended_all bytes kept rest end later more s.units s.all i e;
  each = s.each;
  unfinished = u;
  answered = s.answered;
}

-- the bytes as they are behind a unit that is whole
cut_behind : (bytes whole later : List ℕ) (units : List (List ℕ)) → bytes ≡ concat units ++ (whole ++ later)
    → bytes ≡ concat (units ++ whole ∷ []) ++ later
cut_behind bytes whole later units e =
    let one : concat (units ++ whole ∷ []) ≡ concat units ++ whole = concat_more units (whole ∷ []) ∙ ap (λ t. concat units ++ t) (append-nil whole) in
    e ∙ sym (append_assoc (concat units) whole later) ∙ ap (λ t. t ++ later) (sym one)

units_and_one : (whole : List ℕ) (units : List (List ℕ)) → All IsUnit units → IsUnit whole
    → All IsUnit (units ++ whole ∷ [])
units_and_one whole units a u = All-append IsUnit units _ a (All-cons IsUnit whole [] u (All-nil IsUnit))

-- one more unit was answered
pub one_more : (bytes kept rest end later whole unit none : List ℕ) (n m : ℕ) (old mid new : Works) (C D : Type 0)
    → (D → C) → IsFirst rest end later → whole ≡ kept ++ end → IsUnit whole
    → unit ≡ whole → none ≡ [] → m ≡ 0 → IsSoFar bytes kept n rest old C mid → AreAnswered mid D new (unit ∷ []) → IsSoFar bytes none m later old D new
one_more bytes kept rest end later whole unit none n m old mid new C D f i e u v z k s a = record {
  units = s.units ++ whole ∷ [];
  all = cut_behind bytes whole later s.units (ended_all bytes kept rest end later whole s.units s.all i e) ∙ ap (λ t. concat (s.units ++ whole ∷ []) ++ (t ++ later)) (sym z);
  each = units_and_one whole s.units s.each u;
  unfinished = nothing_kept none m z k;
  answered = answered_more old mid new C D f s.units _ s.answered (subst (λ t. AreAnswered mid D new (t ∷ [])) v a);
}

-- those were the first units
pub some_of : (bytes kept rest : List ℕ) (n : ℕ) (old : Works) (clean : Type 0) (now : Works)
    → IsSoFar bytes kept n rest old clean now → DoesSome bytes (AreAnswered old clean now)
some_of bytes kept rest n old clean now s = record {
  units = s.units;
  rest = kept ++ rest;
  all = record { all = s.all; each = s.each };
  done = s.answered;
}

-- one more unit was answered in part
cut_off_in : (bytes kept rest end later whole : List ℕ) (n : ℕ) (old mid new : Works) (C D : Type 0) → (D → C)
    → IsFirst rest end later → whole ≡ kept ++ end → IsUnit whole
    → IsSoFar bytes kept n rest old C mid → AreCutOff mid D new (whole ∷ []) → DoesSome bytes (AreCutOff old D new)
cut_off_in bytes kept rest end later whole n old mid new C D f i e u s a = record {
  units = s.units ++ whole ∷ [];
  rest = later;
  all = record {
    all = cut_behind bytes whole later s.units (ended_all bytes kept rest end later whole s.units s.all i e);
    each = units_and_one whole s.units s.each u;
  };
  done = cut_off_more old mid new C D f s.units _ s.answered a;
}

-- the same where that unit found no memory
left_by : (bytes kept rest : List ℕ) (n : ℕ) (old mid new : Works) (C D : Type 0) → (D → C)
    → IsSoFar bytes kept n rest old C mid → AreAnswered mid D new [] → DoesSome bytes (AreAnswered old D new)
left_by bytes kept rest n old mid new C D f s a = record {
  units = s.units;
  rest = kept ++ rest;
  all = record { all = s.all; each = s.each };
  done = subst (AreAnswered old D new) (append-nil s.units) (answered_more old mid new C D f s.units [] s.answered a);
}

-- what came of the unit that was ended, where it ends the script
pub ends_at : (bytes kept rest end later whole unit after : List ℕ) (n : ℕ) (old mid new : Works) (C D : Type 0) (e : Early)
    → (D → C) → IsFirst rest end later → whole ≡ kept ++ end → IsUnit whole
    → unit ≡ whole → IsSoFar bytes kept n rest old C mid → AnswersOne unit mid D new (Err e) → AnswersUnits bytes after old D new (Err e)
ends_at bytes kept rest end later whole unit after n old mid new C D early.WriteFault f i e u v s a =
    cut_off_in bytes kept rest end later whole n old mid new C D f i e u s (subst (λ t. AreCutOff mid D new (t ∷ [])) v a)
ends_at bytes kept rest end later whole unit after n old mid new C D early.NoMemory f i e u v s a =
    left_by bytes kept rest n old mid new C D f s a

-- no line is ended any more, and the rest is kept
pub all_answered : IsOneCount → (bytes kept rest after : List ℕ) (n : ℕ) (old now : Works) (clean : Type 0)
    → ¬ Contains rest 10 → after ≡ kept ++ rest
    → IsSoFar bytes kept n rest old clean now → AnswersUnits bytes after old clean now (Ok tt)
all_answered one bytes kept rest after n old now clean r e s = (
  s.units,
  record {
    first = record { all = s.all ∙ ap (λ t. concat s.units ++ t) (sym e); each = s.each };
    unfinished = no_unit one after n (subst (λ t. IsUnfinished t n) (sym e) (kept_more kept rest n s.unfinished r));
  },
  s.answered,
)

pub still_unfinished : (bytes kept rest after : List ℕ) (n : ℕ) (old now : Works) (clean : Type 0)
    → ¬ Contains rest 10 → after ≡ kept ++ rest
    → IsSoFar bytes kept n rest old clean now → IsUnfinished after n
still_unfinished bytes kept rest after n old now clean r e s =
    subst (λ t. IsUnfinished t n) (sym e) (kept_more kept rest n s.unfinished r)
