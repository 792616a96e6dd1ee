-- What the words of a line ask for, or the first wrong word from the left.
use Rattle.std.specs.Prelude.{◌≡◌, ℕ, ◌⊎◌, List, [], ◌∷◌, Result, Ok, Err}
use Rattle.qroot2.specs.declared.text.NumText.{NumText}
use Rattle.qroot2.specs.declared.text.NumText.TheVariants.{Syntax, Range}
use Rattle.sheet.specs.Sheet.{square}
use Rattle.edits.specs.declared.edit.Edit.{Edit}
use Rattle.edits.specs.declared.edit.Edit.TheVariants as edit
use Rattle.dialogue.specs.declared.command.Change.{Change}
use Rattle.dialogue.specs.declared.command.Change.TheVariants as change
use Rattle.dialogue.specs.declared.command.Command.{Command}
use Rattle.dialogue.specs.declared.command.Command.TheVariants as ask
use Rattle.lattice.specs.Lattice.{Measures}
use Rattle.lines.specs.Words.{Word, Left}
use Rattle.commands.specs.Fields.{AVerb, AName, AWho, AColour, AMark, ADirection, ANumber, ALength, APoint}
use Rattle.commands.specs.declared.ask.Asked.{Asked}
use Rattle.commands.specs.declared.ask.Asked.TheVariants as asked
use Rattle.commands.specs.declared.bad.BadText.{BadText}
use Rattle.commands.specs.declared.bad.BadText.TheVariants as bad
use Rattle.commands.specs.declared.who.Who.{Who}
use Rattle.vocabulary.specs.declared.verb.Verb.{Verb}
use Rattle.vocabulary.specs.declared.verb.Verb.TheVariants as verb

-- a word that is wrong at this column
abbrev pub wrong_at : ℕ → NumText → BadText
wrong_at column Syntax = bad.Syntax column
wrong_at column Range = bad.Range column

-- what the first word is read as, and then what the next make of the rest
abbrev pub TakesFirst : {A : Type 0} → (List ℕ → Result A NumText → Type 0)
    → (A → Left → Result Asked BadText → Type 0) → ℕ → List Word → Result Asked BadText → Type 0
TakesFirst Reads Next missing [] answer = answer ≡ Err (bad.Syntax missing)
TakesFirst {A = A} Reads Next missing (word ∷ words) answer =
    ((why : NumText) × Reads word.text (Err why) × (answer ≡ Err (wrong_at word.column why)))
    ⊎ ((a : A) × Reads word.text (Ok a) × Next a (record { words = words; missing = missing }) answer)

pub record Takes {A : Type 0} (Reads : List ℕ → Result A NumText → Type 0)
    (Next : A → Left → Result Asked BadText → Type 0) (left : Left)
    (answer : Result Asked BadText) : Type 0 where
  pub first : TakesFirst Reads Next left.missing left.words answer

-- no word is left
abbrev pub EndsWith : Asked → List Word → Result Asked BadText → Type 0
EndsWith asks [] answer = answer ≡ Ok asks
EndsWith asks (word ∷ words) answer = answer ≡ Err (bad.Syntax word.column)

pub record Ends (asks : Asked) (left : Left) (answer : Result Asked BadText) : Type 0 where
  pub none : EndsWith asks left.words answer

-- the change of a project
abbrev pub changed : Who → Change → Command
changed who change = ask.Change who.name who.rev change

-- a command that its line says whole
abbrev pub whole : Command → Asked
whole command = asked.Command command

abbrev pub edited : Who → Edit → Asked
edited who edit = whole (changed who (change.Edit edit))

-- a width and a height, or neither for the square
abbrev pub SheetOf : List ℕ → ℕ → List Word → Result Asked BadText → Type 0
SheetOf name missing [] answer = answer ≡ Ok (whole (ask.New name square))
SheetOf name missing (word ∷ words) answer =
    Takes ALength (λ w. Takes ALength (λ h. Ends (whole (ask.New name (record { w = w; h = h })))))
    (record { words = word ∷ words; missing = missing }) answer

-- the column of the first of some words
abbrev pub first_column : List Word → ℕ
first_column [] = 0
first_column (word ∷ words) = word.column

-- how many lines are to come, and where that is said
abbrev pub CountOf : Who → Measures → Left → Result Asked BadText → Type 0
CountOf who l left =
    Takes (ANumber 0 40000)
    (λ count. Ends (asked.Import (record {
      who = who;
      lattice = l;
      count = count;
      column = first_column left.words;
    }))) left

-- the denominator of a lattice, its bound, which is not less, its tolerance, and that count
abbrev pub ImportOf : Left → Result Asked BadText → Type 0
ImportOf =
    Takes AWho (λ who. Takes (ANumber 1 1024) (λ d. Takes (ANumber d 1024) (λ k. Takes (ANumber 1 100000)
    (λ tol. CountOf who (record { d = d; k = k; tol = tol })))))

-- what the words behind the first are
abbrev pub CommandOf : Verb → Left → Result Asked BadText → Type 0
CommandOf verb.New = Takes AName (λ name left. SheetOf name left.missing left.words)
CommandOf verb.List = Ends (whole ask.List)
CommandOf verb.Show = Takes AName (λ name. Ends (whole (ask.Show name)))
CommandOf verb.Faults = Takes AName (λ name. Ends (whole (ask.Faults name)))
CommandOf verb.Vertex = Takes AName (λ name. Takes APoint (λ at. Ends (whole (ask.Vertex name at))))
CommandOf verb.Pattern = Takes AName (λ name. Ends (whole (ask.PatternText name)))
CommandOf verb.Cp = Takes AName (λ name. Ends (whole (ask.CpText name)))
CommandOf verb.Fold = Takes AName (λ name. Ends (whole (ask.FoldText name)))
CommandOf verb.Draw =
    Takes AWho (λ who. Takes AColour (λ c. Takes APoint (λ p. Takes APoint
    (λ q. Ends (edited who (edit.Draw c p q))))))
CommandOf verb.Erase =
    Takes AWho (λ who. Takes APoint (λ p. Takes APoint (λ q. Ends (edited who (edit.Erase p q)))))
CommandOf verb.Recolour =
    Takes AWho (λ who. Takes AColour (λ c. Takes APoint (λ p. Takes APoint
    (λ q. Ends (edited who (edit.Recolour c p q))))))
CommandOf verb.Flip = Takes AWho (λ who. Ends (edited who edit.Flip))
CommandOf verb.Extend =
    Takes AWho (λ who. Takes AColour (λ c. Takes APoint (λ at. Takes ADirection
    (λ k. Ends (edited who (edit.Extend c at k))))))
CommandOf verb.Bisect =
    Takes AWho (λ who. Takes AColour (λ c. Takes APoint (λ at. Takes ADirection (λ first. Takes ADirection
    (λ second. Ends (edited who (edit.Bisect c at first second)))))))
CommandOf verb.Mirror =
    Takes AWho (λ who. Takes APoint (λ at. Takes ADirection (λ k. Ends (edited who (edit.Mirror at k)))))
CommandOf verb.RabbitEar =
    Takes AWho (λ who. Takes AMark (λ m. Takes APoint (λ p. Takes APoint (λ q. Takes APoint
    (λ r. Ends (edited who (edit.RabbitEar m p q r)))))))
CommandOf verb.Import = ImportOf
CommandOf verb.Undo = Takes AWho (λ who. Ends (whole (changed who change.Undo)))
CommandOf verb.Redo = Takes AWho (λ who. Ends (whole (changed who change.Redo)))

-- what these words ask for, the first of which says what is to be done
abbrev pub ReadsWords : Left → Result Asked BadText → Type 0
ReadsWords = Takes AVerb CommandOf
