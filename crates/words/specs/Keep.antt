-- Which words ask for a keeper of projects in a file, read before the grammar is.
use Rattle.std.specs.Prelude.{◌≡◌, ℕ, ◌⊎◌, List, ◌∷◌, ◌++◌, Contains, codes}

-- the option with its value behind it or in the same word
abbrev pub NamesKeep : List ℕ → Type 0
NamesKeep word = (word ≡ codes "--keep") ⊎ ((path : List ℕ) × (word ≡ codes "--keep=" ++ path))

abbrev pub Keeps : List ℕ → Type 0
Keeps first = (first ≡ codes "script") ⊎ (first ≡ codes "serve")

abbrev pub HasKeep : List (List ℕ) → Type 0
HasKeep further = (word : List ℕ) × Contains further word × NamesKeep word

-- the first word is `script` or `serve`, and a further word names the option
abbrev pub WantsKeeper : List (List ℕ) → Type 0
WantsKeeper words =
    (first : List ℕ) × (further : List (List ℕ)) × (words ≡ first ∷ further) × Keeps first × HasKeep further
