-- What came of asking some of a generator's commands.
use Rattle.std.specs.Prelude.{◌≡◌, ℕ, ◌≤◌, ◌+◌, ◌*◌, ◌^◌, List, [], ◌∷◌, ◌++◌, length, Result, Ok, Err}
use Rattle.dialogue.specs.declared.command.Command.{Command}
use Rattle.dialogue.specs.declared.reply.Reply.{Reply}
use Rattle.oriedit.specs.Script.{Works}
use Rattle.oriedit.specs.Summary.{nothing, plus, creases_told, sizes_told, faults_told}
use Rattle.oriedit.specs.Generating.{Asked, AreTurns, with_questions, closing, AreReplied, totals}
use Rattle.oriedit.specs.Generating.{IsGenerated, IsBegun, AreAll}
use Rattle.oriedit.specs.declared.summary.Last.{Last}
use Rattle.oriedit.specs.declared.tally.Tally.{Tally}

-- the tally of so many turns at most
pub record IsSmall (n : ℕ) (t : Tally) : Type 0 where
  pub done : t.done ≤ n
  pub refused : t.refused ≤ n
  pub failed : t.failed ≤ n
  pub seen : t.seen ≤ n * 2 ^ 64

-- one more turn, and one more question, at most
pub record IsTurnMore (t next : Tally) : Type 0 where
  pub done : next.done ≤ t.done + 1
  pub refused : next.refused ≤ t.refused + 1
  pub failed : next.failed ≤ t.failed + 1
  pub seen : next.seen ≤ t.seen

pub record IsQuestionMore (t next : Tally) : Type 0 where
  pub done : next.done ≤ t.done
  pub refused : next.refused ≤ t.refused
  pub failed : next.failed ≤ t.failed
  pub seen : next.seen ≤ t.seen + 2 ^ 64

-- one command was done, and its reply tells this, or none was
abbrev pub Learns : {A E : Type 0} → (Reply → A → Type 0) → Works → Type 0 → Works → Asked → Result A E
    → Type 0
Learns Tells old clean new ask (Ok told) =
    (r : Reply) × AreReplied old clean new (ask ∷ []) (r ∷ []) × Tells r told
Learns Tells old clean new ask (Err e) = AreReplied old clean new [] []

-- the commands were done, and their replies are added to a tally
pub record AreCounted (old : Works) (clean : Type 0) (new : Works) (asks : List Asked)
    (before after : Tally) : Type 0 where
  pub rs : List Reply
  pub replied : AreReplied old clean new asks rs
  pub tally : after ≡ plus before (totals asks rs)

-- some of the first of them were done
pub record ArePartly (old : Works) (clean : Type 0) (new : Works) (asks : List Asked) : Type 0 where
  pub some : List Asked
  pub later : List Asked
  pub all : asks ≡ some ++ later
  pub rs : List Reply
  pub replied : AreReplied old clean new some rs

abbrev pub Counts : {E : Type 0} → Works → Type 0 → Works → List Asked → Tally → Result Tally E → Type 0
Counts old clean new asks before (Ok after) = AreCounted old clean new asks before after
Counts old clean new asks before (Err e) = ArePartly old clean new asks

-- so many turns were done, and this is their tally
pub record IsTallied (seed count state : ℕ) (old : Works) (clean : Type 0) (new : Works)
    (tally : Tally) : Type 0 where
  pub turns : List Command
  pub are : AreTurns seed turns state
  pub many : length turns ≡ count
  pub counted : AreCounted old clean new (with_questions 1 turns) nothing tally

-- at most so many turns were begun
pub record IsBroken (seed count : ℕ) (old : Works) (clean : Type 0) (new : Works) : Type 0 where
  pub turns : List Command
  pub state : ℕ
  pub are : AreTurns seed turns state
  pub few : length turns ≤ count
  pub part : ArePartly old clean new (with_questions 1 turns)

abbrev pub Tallies : {E : Type 0} → ℕ → ℕ → Works → Type 0 → Works → Result Tally E → Type 0
Tallies seed count old clean new (Ok tally) = (state : ℕ) × IsTallied seed count state old clean new tally
Tallies seed count old clean new (Err e) = IsBroken seed count old clean new

-- the last three commands were done, with replies that tell this
pub record IsClosed (old : Works) (clean : Type 0) (new : Works) (last : Last) : Type 0 where
  pub pattern : Reply
  pub shown : Reply
  pub listed : Reply
  pub replied : AreReplied old clean new closing (pattern ∷ shown ∷ listed ∷ [])
  pub creases : last.creases ≡ creases_told pattern
  pub sizes : last.sizes ≡ sizes_told shown
  pub faults : last.faults ≡ faults_told listed

abbrev pub Closes : {E : Type 0} → Works → Type 0 → Works → Result Last E → Type 0
Closes old clean new (Ok last) = IsClosed old clean new last
Closes old clean new (Err e) = ArePartly old clean new closing

-- all was done, and this is its tally and what its last replies tell
pub record IsAnswered (seed count : ℕ) (old : Works) (clean : Type 0) (new : Works) (tally : Tally)
    (last : Last) : Type 0 where
  pub asks : List Asked
  pub rs : List Reply
  pub all : AreAll seed count asks
  pub replied : AreReplied old clean new asks rs
  pub tally_is : tally ≡ totals asks rs
  pub front : List Reply
  pub pattern : Reply
  pub shown : Reply
  pub listed : Reply
  pub replies : rs ≡ front ++ pattern ∷ shown ∷ listed ∷ []
  pub creases : last.creases ≡ creases_told pattern
  pub sizes : last.sizes ≡ sizes_told shown
  pub faults : last.faults ≡ faults_told listed

abbrev pub AnswersAll : {E : Type 0} → ℕ → ℕ → Works → Type 0 → Works → Result (Tally × Last) E → Type 0
AnswersAll seed count old clean new (Ok told) = IsAnswered seed count old clean new told.0 told.1
AnswersAll seed count old clean new (Err e) = IsBegun seed count old clean new

-- the summary of all, or some of it was done
abbrev pub Summarizes : {A E : Type 0} → (A → List ℕ) → ℕ → ℕ → Works → Type 0 → Works → Result A E → Type 0
Summarizes items seed count old clean new (Ok text) = IsGenerated seed count old clean new (items text)
Summarizes items seed count old clean new (Err e) = IsBegun seed count old clean new
