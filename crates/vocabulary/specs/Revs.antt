-- How often a project was changed, and how that is spelled behind its name.
use Rattle.std.specs.Prelude.{ℕ, ◌^◌, List, [], ◌∷◌, Option, Some, None, decimal}

-- the greatest rev
abbrev pub last_rev : ℕ
last_rev = 10 ^ 12

-- `@` (64) and the rev, where one is given
abbrev pub rev_text : Option ℕ → List ℕ
rev_text None = []
rev_text (Some rev) = 64 ∷ decimal rev
