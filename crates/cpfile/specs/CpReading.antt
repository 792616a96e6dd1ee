-- What reading a CP text answers.
use Rattle.std.specs.Prelude.{◌≡◌, ℕ, ◌+◌, List, [], ◌∷◌, ◌++◌, length, map, All, Result, Ok, Err}
use Rattle.sheet.specs.Sheet.{ExactSheet}
use Rattle.sheet.specs.Pattern.{ExactCrease}
use Rattle.lattice.specs.Lattice.{Measures}
use Rattle.cpfile.specs.CpDrawing.{AreTextLines, DrawsLine}
use Rattle.cpfile.specs.declared.bad.CpBad.{CpBad}
use Rattle.cpfile.specs.declared.drawn.CpLines.{CpLines}
use Rattle.cpfile.specs.declared.line.Drawn.{Drawn}
use Rattle.cpfile.specs.declared.line.Drawn.TheVariants as drawn

-- A line and what it draws.
pub record DrawnLine : Type 0 where
  pub line : List ℕ
  pub drawn : Drawn

-- the line draws this, and is not bad
abbrev pub IsDrawn : Measures → ExactSheet → DrawnLine → Type 0
IsDrawn l sheet d = DrawsLine l sheet d.line (Ok d.drawn)

abbrev pub lines_of : List DrawnLine → List (List ℕ)
lines_of = map (λ d. d.line)

-- with the crease that a line draws, if it draws one
abbrev pub creases_by : Drawn → List ExactCrease → List ExactCrease
creases_by drawn.Nothing creases = creases
creases_by drawn.Dropped creases = creases
creases_by (drawn.Line f) creases = f ∷ creases

-- the creases that lines draw, in their order
abbrev pub creases_of : List DrawnLine → List ExactCrease
creases_of [] = []
creases_of (d ∷ ds) = creases_by d.drawn (creases_of ds)

-- with a line that is dropped, if it is
abbrev pub dropped_by : Drawn → ℕ → ℕ
dropped_by drawn.Nothing n = n
dropped_by drawn.Dropped n = n + 1
dropped_by (drawn.Line f) n = n

-- how many lines are dropped
abbrev pub dropped_of : List DrawnLine → ℕ
dropped_of [] = 0
dropped_of (d ∷ ds) = dropped_by d.drawn (dropped_of ds)

-- no line is bad, and these are the creases and the number of lines that are dropped
pub record AreDrawn (l : Measures) (sheet : ExactSheet) (bytes : List ℕ) (read : CpLines) : Type 0 where
  pub all : List DrawnLine
  pub lines : AreTextLines bytes (lines_of all)
  pub drawn : All (IsDrawn l sheet) all
  pub creases : read.lines ≡ creases_of all
  pub dropped : read.dropped ≡ dropped_of all

-- the first bad line, counted from 1, and what is wrong with it
pub record IsFirstBad (l : Measures) (sheet : ExactSheet) (bytes : List ℕ) (bad : CpBad) : Type 0 where
  pub before : List DrawnLine
  pub line : List ℕ
  pub after : List (List ℕ)
  pub lines : AreTextLines bytes (lines_of before ++ line ∷ after)
  pub drawn : All (IsDrawn l sheet) before
  pub number : bad.line ≡ length before + 1
  pub why : DrawsLine l sheet line (Err bad.why)

-- What reading a CP text answers: what its lines draw, or its first bad line.
abbrev pub ReadsCp : Measures → ExactSheet → List ℕ → Result CpLines CpBad → Type 0
ReadsCp l sheet bytes (Ok read) = AreDrawn l sheet bytes read
ReadsCp l sheet bytes (Err bad) = IsFirstBad l sheet bytes bad
