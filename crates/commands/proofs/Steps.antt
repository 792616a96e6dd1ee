-- One word after another: what the words that are left are read as, by the first of them.
use Rattle.std.proofs.Common.{◌≡◌, ◌≢◌, ℕ, List, [], ◌∷◌, Result, Ok, Err, sym, subst, refl, inl, inr}
use Rattle.qroot2.specs.declared.text.NumText.{NumText}
use Rattle.sheet.specs.Sheet.{square}
use Rattle.dialogue.specs.declared.command.Command.TheVariants as ask
use Rattle.lines.specs.Words.{Word, Left}
use Rattle.commands.specs.Fields.{ALength}
use Rattle.commands.specs.Reading.{TakesFirst, Takes, EndsWith, Ends, SheetOf, CommandOf, whole, wrong_at}
use Rattle.commands.specs.Taking.{IsTaken, IsWrong, IsWrongWord, HasMore}
use Rattle.commands.specs.declared.ask.Asked.{Asked}
use Rattle.vocabulary.specs.declared.verb.Verb.{Verb}
use Rattle.commands.specs.declared.bad.BadText.{BadText}
use Rattle.commands.specs.declared.bad.BadText.TheVariants as bad

-- the first word is read, and the next make this of the rest
pub then : {A : Type 0} {Reads : List ℕ → Result A NumText → Type 0} {Next : A → Left → Result Asked BadText → Type 0} {old new : Left} {a : A} {answer : Result Asked BadText}
    → IsTaken Reads old a new → Next a new answer → Takes Reads Next old answer
then {Reads = Reads} {Next = Next} {a = a} {answer = answer} t n =
    let P : Left → Type 0 = λ s. TakesFirst Reads Next s.missing s.words answer in
    record { first = subst P (sym t.taken) (inr (a, t.reads, n)) }

wrong_word : {A : Type 0} (Reads : List ℕ → Result A NumText → Type 0) (Next : A → Left → Result Asked BadText → Type 0) (old : Left) (why : BadText)
    → IsWrongWord Reads old why → TakesFirst Reads Next old.missing old.words (Err why)
wrong_word Reads Next old why w =
    let P : Left → Type 0 = λ s. TakesFirst Reads Next s.missing s.words (Err why) in
    let answer : Result Asked BadText = Err why in
    let e : answer ≡ Err (wrong_at w.word.column w.because) = cc in
    subst P (sym w.taken) (inl (w.because, w.reads, e))

missing : {A : Type 0} (Reads : List ℕ → Result A NumText → Type 0) (Next : A → Left → Result Asked BadText → Type 0) (old : Left) (why : BadText)
    → old.words ≡ [] → why ≡ bad.Syntax old.missing → TakesFirst Reads Next old.missing old.words (Err why)
missing Reads Next old why none at =
    let answer : Result Asked BadText = Err why in
    let e : answer ≡ Err (bad.Syntax old.missing) = cc in
    subst (λ words. TakesFirst Reads Next old.missing words answer) (sym none) e

-- the first word is missing or wrong
pub wrong : {A : Type 0} {Reads : List ℕ → Result A NumText → Type 0} {Next : A → Left → Result Asked BadText → Type 0} {old : Left} {why : BadText}
    → IsWrong Reads old why → Takes Reads Next old (Err why)
wrong {Reads = Reads} {Next = Next} {old = old} {why = why} w = elim w [
  | inl m ↦ record { first = missing Reads Next old why m.0 m.1 }
  | inr r ↦ record { first = wrong_word Reads Next old why r }
]

-- no word is left
pub ended : {asks : Asked} {old : Left} → old.words ≡ [] → Ends asks old (Ok asks)
ended {asks = asks} e = record { none = subst (λ words. EndsWith asks words (Ok asks)) (sym e) refl }

-- there is a word more
pub more : {asks : Asked} {old : Left} {why : BadText} → HasMore old why → Ends asks old (Err why)
more {asks = asks} {why = why} m =
    let P : Left → Type 0 = λ s. EndsWith asks s.words (Err why) in
    let answer : Result Asked BadText = Err why in
    let e : answer ≡ Err (bad.Syntax m.word.column) = cc in
    record { none = subst P (sym m.taken) e }

-- a sheet that is not given
pub no_sheet : (name : List ℕ) (left : Left) → left.words ≡ [] → SheetOf name left.missing left.words (Ok (whole (ask.New name square)))
no_sheet name left e = subst (λ words. SheetOf name left.missing words (Ok (whole (ask.New name square)))) (sym e) refl

abbrev Sized : List ℕ → Left → Result Asked BadText → Type 0
Sized name = Takes ALength (λ w. Takes ALength (λ h. Ends (whole (ask.New name (record { w = w; h = h })))))

-- one that is given by two words
sheet_by : (name : List ℕ) (missing : ℕ) (words : List Word) (answer : Result Asked BadText) → words ≢ [] → Sized name (record { words = words; missing = missing }) answer → SheetOf name missing words answer
sheet_by name missing [] answer some h = absurd (some refl)
sheet_by name missing (w ∷ words) answer some h = h

pub sheet : {name : List ℕ} {left : Left} {answer : Result Asked BadText} → left.words ≢ [] → Sized name left answer → SheetOf name left.missing left.words answer
sheet {name = name} {left = left} {answer = answer} some h = sheet_by name left.missing left.words answer some h

-- the command of a verb that is known
pub by_verb : (left : Left) (answer : Result Asked BadText) {v w : Verb} → v ≡ w → CommandOf w left answer → CommandOf v left answer
by_verb left answer e h = subst (λ v. CommandOf v left answer) (sym e) h
