-- Creases while they are drawn on, beside the pattern from which they come.
use Rattle.std.specs.Prelude.{List}
use Rattle.sheet.specs.Pattern.{ExactCrease, ExactPattern}

-- the pattern that is drawn on, and the creases that stand so far
pub record ExactDraft : Type 0 where
  pub pattern : ExactPattern
  pub creases : List ExactCrease

-- a pattern with these creases in place of its own
abbrev pub with_creases : ExactPattern → List ExactCrease → ExactPattern
with_creases old creases = record { sheet = old.sheet; creases = creases }

-- the pattern that a draft makes
abbrev pub pattern_of : ExactDraft → ExactPattern
pattern_of draft = with_creases draft.pattern draft.creases
