-- The grammar of the words behind the first word of a command, one for all commands: options with
-- their values, and a port, in any order.
use Rattle.std.specs.Prelude.{◌≡◌, ◌≢◌, ℕ, ◌≤◌, ◌⊎◌, List, [], ◌∷◌, ◌++◌, Option, Some, None, All, AllPairs}
use Rattle.std.specs.Prelude.{Contains, codes, decimal}
use Rattle.words.specs.declared.argument.Argument.{Argument}
use Rattle.words.specs.declared.argument.Argument.TheVariants as argument

-- the word that names an option; a port is an argument without a name
abbrev pub option_word : Argument → Option (List ℕ)
option_word argument.Port = None
option_word argument.D = Some (codes "--d")
option_word argument.K = Some (codes "--k")
option_word argument.Tol = Some (codes "--tol")
option_word argument.W = Some (codes "--w")
option_word argument.H = Some (codes "--h")
option_word argument.Connections = Some (codes "--connections")
option_word argument.Keep = Some (codes "--keep")

-- a value is not empty and does not begin with a hyphen (45)
abbrev pub IsValue : List ℕ → Type 0
IsValue [] = ⊥
IsValue (b ∷ bs) = b ≢ 45

-- an argument and the value that words give to it
pub record Given : Type 0 where
  pub argument : Argument
  pub value : List ℕ

abbrev pub giving : Argument → List ℕ → Given
giving a v = record { argument = a; value = v }

-- The words that give a value: the value alone for an argument without a name. The value of an
-- option is the next word, or follows `=` in the same word.
abbrev pub AreFor : Option (List ℕ) → List ℕ → List (List ℕ) → Type 0
AreFor None value words = words ≡ value ∷ []
AreFor (Some name) value words =
    (words ≡ name ∷ value ∷ []) ⊎ (words ≡ (name ++ (codes "=" ++ value)) ∷ [])

-- the words give these values, one after another
abbrev pub AreWritten : List Given → List (List ℕ) → Type 0
AreWritten [] words = words ≡ []
AreWritten (g ∷ given) words =
    (own : List (List ℕ)) × (rest : List (List ℕ)) × (words ≡ own ++ rest)
    × AreFor (option_word g.argument) g.value own × AreWritten given rest

-- the words give these values to some of these arguments, each at most once
pub record Gives (arguments : List Argument) (given : List Given) (words : List (List ℕ)) : Type 0 where
  pub written : AreWritten given words
  pub values : All (λ g. IsValue g.value) given
  pub known : All (λ g. Contains arguments g.argument) given
  pub once : AllPairs (λ g h. g.argument ≢ h.argument) given

abbrev pub LeavesOut : List Given → Argument → Type 0
LeavesOut given a = All (λ g. a ≢ g.argument) given

-- the value of an argument, if it has one
abbrev pub IsTextOf : List Given → Argument → Option (List ℕ) → Type 0
IsTextOf given a (Some value) = Contains given (giving a value)
IsTextOf given a None = LeavesOut given a

-- the number that an argument is given, from 1 to `most`
abbrev pub IsGivenNumber : List Given → Argument → ℕ → ℕ → Type 0
IsGivenNumber given a most n = Contains given (giving a (decimal n)) × (1 ≤ n) × (n ≤ most)

-- the number of an argument, or the usual one where it is given none
abbrev pub IsNumberOf : List Given → Argument → ℕ → ℕ → ℕ → Type 0
IsNumberOf given a most usual n = IsGivenNumber given a most n ⊎ (LeavesOut given a × (n ≡ usual))
