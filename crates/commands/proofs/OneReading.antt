-- A text is read as one command, is none, or is wrong in one place.
use Rattle.std.proofs.Common.{◌≡◌, ℕ, ◌+◌, List, [], ◌∷◌, length, Option, None, Result, Ok, Err, sym, ap, subst, ◌∙◌, ◌⊎◌, inl, inr, arith, lit<}
use Rattle.qroot2.specs.declared.text.NumText.{NumText}
use Rattle.dialogue.specs.declared.command.Command.{Command}
use Rattle.lines.specs.Words.{Word, Left, AreWords}
use Rattle.commands.specs.Reading.{TakesFirst, Takes, EndsWith, Ends, SheetOf, CountOf, ImportOf, CommandOf, ReadsWords, wrong_at}
use Rattle.commands.specs.Lines.{IsSilent, Asks, Completes, ReadsLine, ReadsCommand, IsWanted, count_of}
use Rattle.commands.specs.Imports.{ImportAnswers, IsImport}
use Rattle.commands.specs.declared.ask.Asked.{Asked}
use Rattle.commands.specs.declared.ask.Asked.TheVariants as asked
use Rattle.commands.specs.declared.ask.ImportLine.{ImportLine}
use Rattle.commands.specs.declared.who.Who.{Who}
use Rattle.lattice.specs.Lattice.{Measures}
use Rattle.commands.specs.declared.bad.BadText.{BadText}
use Rattle.vocabulary.specs.declared.verb.Verb.{Verb}
use Rattle.vocabulary.specs.declared.verb.Verb.TheVariants as verb
use Rattle.lines.proofs.callers.Lines.{one_line, one_bare, one_front}
use Rattle.lines.proofs.callers.Words.{one_list}
use Rattle.commands.proofs.OneField.{HasOne, one_verb, one_name, one_who, one_colour, one_mark, one_direction, one_number, one_length}
use Rattle.commands.proofs.OnePoint.{HasOneNumber, one_point}

-- words are read as one command, or one is the first wrong word
abbrev IsOne : (Left → Result Asked BadText → Type 0) → Type 0
IsOne Reads = (left : Left) (r s : Result Asked BadText) → Reads left r → Reads left s → r ≡ s

same_why : {A : Type 0} (Reads : List ℕ → Result A NumText → Type 0) → HasOne Reads
    → (bytes : List ℕ) (why other : NumText) → Reads bytes (Err why) → Reads bytes (Err other) → why ≡ other
same_why {A = A} Reads one bytes why other h k = (let e : (let r : Result A NumText = Err why in r) ≡ Err other = one bytes (Err why) (Err other) h k in cc)

same_value : {A : Type 0} (Reads : List ℕ → Result A NumText → Type 0) → HasOne Reads
    → (bytes : List ℕ) (a b : A) → Reads bytes (Ok a) → Reads bytes (Ok b) → a ≡ b
same_value {A = A} Reads one bytes a b h k = (let e : (let r : Result A NumText = Ok a in r) ≡ Ok b = one bytes (Ok a) (Ok b) h k in cc)

not_both : {A : Type 0} (Reads : List ℕ → Result A NumText → Type 0) → HasOne Reads
    → (bytes : List ℕ) (a : A) (why : NumText) → Reads bytes (Ok a) → Reads bytes (Err why) → ⊥
not_both {A = A} Reads one bytes a why h k = (let e : (let r : Result A NumText = Ok a in r) ≡ Err why = one bytes (Ok a) (Err why) h k in cc)

first_one : {A : Type 0} (Reads : List ℕ → Result A NumText → Type 0) (Next : A → Left → Result Asked BadText → Type 0)
    → HasOne Reads → ((a : A) → IsOne (Next a))
    → (missing : ℕ) (words : List Word) (r s : Result Asked BadText) → TakesFirst Reads Next missing words r
    → TakesFirst Reads Next missing words s → r ≡ s
first_one Reads Next one next missing [] r s h k = h ∙ sym k
first_one Reads Next one next missing (word ∷ words) r s h k = elim h [
  | inl f ↦ elim k [
    | inl g ↦ (let e = same_why Reads one word.text f.0 g.0 f.1 g.1 in f.2 ∙ ap (λ why. Err (wrong_at word.column why)) e ∙ sym g.2)
    | inr g ↦ absurd (not_both Reads one word.text g.0 f.0 g.1 f.1)
  ]
  | inr f ↦ elim k [
    | inl g ↦ absurd (not_both Reads one word.text f.0 g.0 f.1 g.1)
    | inr g ↦ (let e = same_value Reads one word.text f.0 g.0 f.1 g.1 in
        next g.0 (record { words = words; missing = missing }) r s (subst (λ a. Next a (record { words = words; missing = missing }) r) e f.2) g.2)
  ]
]

takes_one : {A : Type 0} {Reads : List ℕ → Result A NumText → Type 0} {Next : A → Left → Result Asked BadText → Type 0}
    → HasOne Reads → ((a : A) → IsOne (Next a)) → IsOne (Takes Reads Next)
takes_one {Reads = Reads} {Next = Next} one next left r s h k = first_one Reads Next one next left.missing left.words r s h.first k.first

ends_by : (asks : Asked) (words : List Word) (r s : Result Asked BadText) → EndsWith asks words r
    → EndsWith asks words s → r ≡ s
ends_by asks [] r s h k = h ∙ sym k
ends_by asks (word ∷ words) r s h k = h ∙ sym k

ends_one : {asks : Asked} → IsOne (Ends asks)
ends_one {asks = asks} left r s h k = ends_by asks left.words r s h.none k.none

sheet_by : (name : List ℕ) (missing : ℕ) (words : List Word) (r s : Result Asked BadText)
    → SheetOf name missing words r → SheetOf name missing words s → r ≡ s
sheet_by name missing [] r s h k = h ∙ sym k
sheet_by name missing (word ∷ words) r s h k =
    takes_one one_length (λ w. takes_one one_length (λ l. ends_one)) (record { words = word ∷ words; missing = missing }) r s h k

count_one : (who : Who) (l : Measures) → IsOne (CountOf who l)
count_one who l left r s h k = takes_one (one_number 0 40000 (lit< tt)) (λ count. ends_one) left r s h k

import_one : IsOne ImportOf
import_one =
    takes_one one_who (λ who. takes_one (one_number 1 1024 (lit< tt)) (λ d. takes_one (one_number d 1024 (lit< tt)) (λ k. takes_one (one_number 1 100000 (lit< tt))
    (λ tol. count_one who (record { d = d; k = k; tol = tol })))))

command_one : HasOneNumber → (v : Verb) → IsOne (CommandOf v)
command_one num verb.New = takes_one one_name (λ name left r s h k. sheet_by name left.missing left.words r s h k)
command_one num verb.List = ends_one
command_one num verb.Show = takes_one one_name (λ name. ends_one)
command_one num verb.Faults = takes_one one_name (λ name. ends_one)
command_one num verb.Vertex = takes_one one_name (λ name. takes_one (one_point num) (λ at. ends_one))
command_one num verb.Pattern = takes_one one_name (λ name. ends_one)
command_one num verb.Cp = takes_one one_name (λ name. ends_one)
command_one num verb.Fold = takes_one one_name (λ name. ends_one)
command_one num verb.Import = import_one
command_one num verb.Draw = takes_one one_who (λ who. takes_one one_colour (λ c. takes_one (one_point num) (λ p. takes_one (one_point num) (λ q. ends_one))))
command_one num verb.Erase = takes_one one_who (λ who. takes_one (one_point num) (λ p. takes_one (one_point num) (λ q. ends_one)))
command_one num verb.Recolour = takes_one one_who (λ who. takes_one one_colour (λ c. takes_one (one_point num) (λ p. takes_one (one_point num) (λ q. ends_one))))
command_one num verb.Flip = takes_one one_who (λ who. ends_one)
command_one num verb.Extend = takes_one one_who (λ who. takes_one one_colour (λ c. takes_one (one_point num) (λ at. takes_one one_direction (λ k. ends_one))))
command_one num verb.Bisect = takes_one one_who (λ who. takes_one one_colour (λ c. takes_one (one_point num) (λ at. takes_one one_direction (λ first. takes_one one_direction (λ second. ends_one)))))
command_one num verb.Mirror = takes_one one_who (λ who. takes_one (one_point num) (λ at. takes_one one_direction (λ k. ends_one)))
command_one num verb.RabbitEar = takes_one one_who (λ who. takes_one one_mark (λ m. takes_one (one_point num) (λ p. takes_one (one_point num) (λ q. takes_one (one_point num) (λ r. ends_one)))))
command_one num verb.Undo = takes_one one_who (λ who. ends_one)
command_one num verb.Redo = takes_one one_who (λ who. ends_one)

words_one : HasOneNumber → IsOne ReadsWords
words_one num = takes_one one_verb (command_one num)

abbrev Answer : Type 0
Answer = Result (Option Command) BadText

asks_one : HasOneNumber → (line : List ℕ) (words : List Word) (r s : Result Asked BadText)
    → Asks line words r → Asks line words s → r ≡ s
asks_one num line words r s h k = elim h [
  | inl f ↦ elim k [ inl g ↦ f.1 ∙ sym g.1 | inr g ↦ absurd (let p = f.0 in let q = g.0 in omega arith) ]
  | inr f ↦ elim k [
    | inl g ↦ absurd (let p = f.0 in let q = g.0 in omega arith)
    | inr g ↦ words_one num (record { words = words; missing = length line + 1 }) r s f.1 g.1
  ]
]

-- an import has one list of lines, and one answer
lines_one : (line : ImportLine) (lines : List (List ℕ)) (rest : List ℕ) (r s : Answer)
    → ImportAnswers line lines rest r → ImportAnswers line lines rest s → r ≡ s
lines_one line lines rest r s h k = elim h [
  | inl f ↦ elim k [
    | inl g ↦ f.1 ∙ sym g.1
    | inr g ↦ elim g [ inl x ↦ absurd (f.0 x.0) | inr x ↦ absurd (f.0 x.0) ]
  ]
  | inr f ↦ elim f [
    | inl x ↦ elim k [
      | inl g ↦ absurd (g.0 x.0)
      | inr g ↦ elim g [ inl y ↦ x.2 ∙ sym y.2 | inr y ↦ absurd (let p = x.1 in let q = y.1 in omega arith) ]
    ]
    | inr x ↦ elim k [
      | inl g ↦ absurd (g.0 x.0)
      | inr g ↦ elim g [ inl y ↦ absurd (let p = x.1 in let q = y.1 in omega arith) | inr y ↦ x.2 ∙ sym y.2 ]
    ]
  ]
]

import_answer : (line : ImportLine) (after : List ℕ) (r s : Answer) → IsImport line after r
    → IsImport line after s → r ≡ s
import_answer line after r s h k =
    let e = one_front line.count after h.rest k.rest h.lines k.lines h.belong.front k.belong.front h.belong.most k.belong.most h.belong.lacking k.belong.lacking in
    let m : ImportAnswers line k.lines k.rest r =
    subst (λ rest. ImportAnswers line k.lines rest r) e.1 (subst (λ lines. ImportAnswers line lines h.rest r) e.0 h.answers) in
    lines_one line k.lines k.rest r s m k.answers

completes_one : (read : Result Asked BadText) (after : List ℕ) (r s : Answer) → Completes read after r
    → Completes read after s → r ≡ s
completes_one (Err why) after r s h k = h ∙ sym k
completes_one (Ok (asked.Command command)) after r s h k = h ∙ sym k
completes_one (Ok (asked.Import line)) after r s h k = import_answer line after r s h k

line_one : HasOneNumber → (line after : List ℕ) (words : List Word) (r s : Answer)
    → ReadsLine line words after r → ReadsLine line words after s → r ≡ s
line_one num line after words r s h k =
    let e = asks_one num line words h.0 k.0 h.1 k.1 in
    completes_one k.0 after r s (subst (λ read. Completes read after r) e h.2) k.2

abbrev IsRead : List ℕ → List Word → List ℕ → Answer → Type 0
IsRead line words after r = (IsSilent words × (r ≡ Ok None)) ⊎ ((¬ IsSilent words) × ReadsLine line words after r)

read_one : HasOneNumber → (line after : List ℕ) (words : List Word) (r s : Answer)
    → IsRead line words after r → IsRead line words after s → r ≡ s
read_one num line after words r s h k = elim h [
  | inl f ↦ elim k [ inl g ↦ f.1 ∙ sym g.1 | inr g ↦ absurd (g.0 f.0) ]
  | inr f ↦ elim k [ inl g ↦ absurd (f.0 g.0) | inr g ↦ line_one num line after words r s f.1 g.1 ]
]

pub one_answer : HasOneNumber → (text : List ℕ) (r s : Answer) → ReadsCommand text r → ReadsCommand text s
    → r ≡ s
one_answer num text r s h k =
    let l = one_line text h.line k.line h.after k.after h.first k.first in
    let w : h.words ≡ k.words = one_list k.line h.words k.words (subst (λ line. AreWords line h.words) l.0 h.all) k.all in
    let P : List ℕ → List Word → List ℕ → Type 0 = λ line words after. IsRead line words after r in
    let m : IsRead k.line k.words k.after r =
    subst (λ after. P k.line k.words after) l.1 (subst (λ words. P k.line words h.after) w (subst (λ line. P line h.words h.after) l.0 h.read)) in
    read_one num k.line k.after k.words r s m k.read

-- as many lines belong to a line
pub one_count : HasOneNumber → (first : List ℕ) (n m : ℕ) → IsWanted first n → IsWanted first m → n ≡ m
one_count num first n m h k =
    let l = one_bare first h.line k.line h.bare k.bare in
    let w : h.words ≡ k.words = one_list k.line h.words k.words (subst (λ line. AreWords line h.words) l h.all) k.all in
    let a : Asks k.line k.words h.read = subst (λ words. Asks k.line words h.read) w (subst (λ line. Asks line h.words h.read) l h.asks) in
    h.count_is ∙ ap count_of (asks_one num k.line k.words h.read k.read a k.asks) ∙ sym k.count_is
