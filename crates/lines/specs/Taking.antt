-- What the taker of words knows.
use Rattle.std.specs.Prelude.{ℕ, ◌+◌, ◌-◌, Bool, true, ◌||◌, cond, ◌==◌, List, [], ◌∷◌, length}
use Rattle.lines.specs.Words.{Word, Left}

abbrev pub is_blank : ℕ → Bool
is_blank b = (b == 32) || (b == 9)

-- whether no byte of a word comes first
abbrev pub is_apart : List ℕ → Bool
is_apart [] = true
is_apart (b ∷ bytes) = is_blank b

-- a byte before the first word
abbrev pub with_byte : ℕ → List Word → List Word
with_byte b [] = []
with_byte b (word ∷ words) = record { column = word.column - 1; text = b ∷ word.text } ∷ words

-- the words of bytes that stand behind so many others of their line
unfoldable pub words_from : ℕ → List ℕ → List Word
words_from at [] = []
words_from at (b ∷ bytes) =
    cond (is_blank b) (words_from (at + 1) bytes)
    (cond (is_apart bytes) (record { column = at + 1; text = b ∷ [] } ∷ words_from (at + 1) bytes)
    (with_byte b (words_from (at + 1) bytes)))

abbrev pub left_of : ℕ → List ℕ → Left
left_of at bytes = record { words = words_from at bytes; missing = at + length bytes + 1 }
