-- What the reader of CP text keeps while it goes from line to line.
use Rattle.std.specs.Prelude.{◌≡◌, ℕ, ◌+◌, ◌≤◌, List, ◌∷◌, ◌++◌, [], length, All}
use Rattle.sheet.specs.Pattern.{ExactCrease}
use Rattle.ports.specs.declared.stop.Stop.{Stop}
use Rattle.ports.specs.declared.stop.Stop.TheVariants as stop
use Rattle.cpfile.specs.declared.bad.CpBad.{CpBad}
use Rattle.cpfile.specs.declared.bad.CpWhy.{CpWhy}
use Rattle.cpfile.specs.CpDrawing.{AreTextLines}
use Rattle.cpfile.specs.CpReading.{DrawnLine, IsDrawn, lines_of, creases_of, dropped_of}
use Rattle.cpfile.specs.CpAxes.{Ruled}
use Rattle.cpfile.specs.declared.line.Drawn.{Drawn}
use Rattle.cpfile.specs.declared.line.Drawn.TheVariants as drawn

-- The creases so far, the number of lines that were dropped, and the number of lines.
pub record Tally : Type 0 where
  pub creases : List ExactCrease
  pub dropped : ℕ
  pub lines : ℕ

-- with one line more, which draws this
abbrev pub with_line : Drawn → Tally → Tally
with_line drawn.Nothing t = record { creases = t.creases; dropped = t.dropped; lines = t.lines + 1 }
with_line drawn.Dropped t = record { creases = t.creases; dropped = t.dropped + 1; lines = t.lines + 1 }
with_line (drawn.Line f) t = record {
  creases = t.creases ++ f ∷ [];
  dropped = t.dropped;
  lines = t.lines + 1;
}

abbrev pub tally_of : List DrawnLine → Tally
tally_of all = record { creases = creases_of all; dropped = dropped_of all; lines = length all }

-- the lines before the rest of the bytes are read, and none of them is bad
pub record IsReadUpTo (r : Ruled) (bytes rest : List ℕ) (t : Tally) : Type 0 where
  pub all : List DrawnLine
  pub lines : (later : List (List ℕ)) → AreTextLines rest later → AreTextLines bytes (lines_of all ++ later)
  pub drawn : All (IsDrawn r.lattice r.sheet) all
  pub tally : t ≡ tally_of all
  pub few : t.lines + length rest ≤ length bytes

-- why a line of this number ends the reading
abbrev pub stop_at : ℕ → Stop CpWhy → Stop CpBad
stop_at line stop.NoMemory = stop.NoMemory
stop_at line (stop.Why why) = stop.Why (record { line = line; why = why })
