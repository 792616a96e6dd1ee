-- What the readers of rows find.
use Rattle.std.specs.Prelude.{◌≡◌, ◌+◌, List, ◌++◌, length}
use Rattle.std.specs.List.{AllZip}
use Rattle.plane.specs.Segments.{IsHeld}
use Rattle.sheet.specs.Pattern.{ExactCrease, ExactPattern, IsPattern}
use Rattle.sheet.specs.Sheet.{ExactSheet}
use Rattle.history.specs.Histories.{ExactHistory}
use Rattle.rows.specs.Rows.{ExactCreaseRow, ExactStepRow, IsRowOf, AreCreasesOf, AreStepsFrom}
use Rattle.rows.specs.declared.project.ProjectRow.{ProjectRow}

-- the row of a crease that can be held
pub record IsHeldRowOf (row : ExactCreaseRow) (f : ExactCrease) : Type 0 where
  pub held : IsHeld f.seg
  pub is : IsRowOf row f

-- the rows of these creases, one by one
abbrev pub AreRowsOf : List ExactCreaseRow → List ExactCrease → Type 0
AreRowsOf rows creases = AllZip IsHeldRowOf rows creases

-- the pattern on this sheet of which the creases are those of the rows
pub record IsPatternOf (on : ExactSheet) (rows : List ExactCreaseRow) (made : ExactPattern) : Type 0 where
  pub pattern : IsPattern made
  pub sheet : made.sheet ≡ on
  pub creases : AreCreasesOf rows made.creases

-- the history of which the steps are these, divided at the mark
pub record IsHistoryOf (row : ProjectRow) (steps : List ExactStepRow) (made : ExactHistory) : Type 0 where
  pub deltas : AreStepsFrom row.low steps (made.past ++ made.future)
  pub past : row.low + length made.past ≡ row.mark
  pub future : row.mark + length made.future ≡ row.high
