-- What the gatherer of an import's lines knows.
use Rattle.std.specs.Prelude.{◌≡◌, ◌↔◌, ℕ, List, length, Bool, IsTrue}
use Rattle.lines.specs.Lines.{AreFirstLines}
use Rattle.commands.specs.Imports.{AreShort, lines_text}

-- so many lines behind the first, their text, and whether none of them is too long
pub record Gathers (after text : List ℕ) (count : ℕ) (short : Bool) (rest : List ℕ) : Type 0 where
  pub lines : List (List ℕ)
  pub front : AreFirstLines after lines rest
  pub text_is : text ≡ lines_text lines
  pub count_is : count ≡ length lines
  pub short_is : IsTrue short ↔ AreShort lines
