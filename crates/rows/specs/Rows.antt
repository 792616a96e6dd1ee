-- The rows of a kept project: one of the project, at most one of its sheet, one for each crease,
-- one for each step.
use Rattle.std.specs.Prelude.{◌≡◌, ◌≢◌, ℕ, ◌+◌, List, [], ◌∷◌, ◌++◌, length, All, AllPairs, Contains, Option}
use Rattle.std.specs.Prelude.{Some, None}
use Rattle.sheet.specs.Sheet.{ExactSheet, square}
use Rattle.sheet.specs.Pattern.{ExactCrease}
use Rattle.pattern.specs.NativeText.{letter, seg_text}
use Rattle.pattern.specs.DeltaText.{IsDeltaText}
use Rattle.pattern.specs.declared.delta.Delta.{Delta}
use Rattle.projects.specs.Projects.{ExactProject, IsProject}
use Rattle.rows.specs.Marks.{AreMarks}
use Rattle.rows.specs.declared.project.ProjectRow.{ProjectRow}
use Rattle.rows.specs.declared.project.SheetRow.{SheetRow}

-- the bytes of a segment's text and of a colour's letter
pub record ExactCreaseRow : Type 0 where
  pub seg : List ℕ
  pub colour : List ℕ

-- a position, and the bytes of a delta's text
pub record ExactStepRow : Type 0 where
  pub pos : ℕ
  pub body : List ℕ

-- the sheet of the row, or the one of width 1 and height 1 where there is no row
abbrev pub IsSheetOf : Option SheetRow → ExactSheet → Type 0
IsSheetOf None sheet = sheet ≡ square
IsSheetOf (Some row) sheet = (sheet.w ≡ row.w) × (sheet.h ≡ row.h)

-- the row of this crease
pub record IsRowOf (row : ExactCreaseRow) (f : ExactCrease) : Type 0 where
  pub seg_is : row.seg ≡ seg_text f.seg
  pub colour_is : row.colour ≡ letter f.colour ∷ []

-- The rows are those of just these creases. The segment is their key.
pub record AreCreasesOf (rows : List ExactCreaseRow) (creases : List ExactCrease) : Type 0 where
  pub keys : AllPairs (λ r s. r.seg ≢ s.seg) rows
  pub formed : All (λ r. (f : ExactCrease) × Contains creases f × IsRowOf r f) rows
  pub complete : All (λ f. (r : ExactCreaseRow) × Contains rows r × IsRowOf r f) creases

-- the rows are those of these deltas, one by one, at the positions that follow this one
abbrev pub AreStepsFrom : ℕ → List ExactStepRow → List Delta → Type 0
AreStepsFrom pos [] [] = Unit {0}
AreStepsFrom pos (r ∷ rows) (d ∷ deltas) =
    (r.pos ≡ pos + 1) × IsDeltaText r.body d × AreStepsFrom (pos + 1) rows deltas
AreStepsFrom pos _ _ = ⊥

-- The rows stand for this project. The steps are listed by their positions: those of the past, and
-- then those of the future.
pub record RowsStandFor (row : ProjectRow) (on : Option SheetRow) (lines : List ExactCreaseRow)
    (steps : List ExactStepRow) (project : ExactProject) : Type 0 where
  pub marks : AreMarks row
  pub rev : project.rev ≡ row.rev
  pub sheet : IsSheetOf on project.pattern.sheet
  pub creases : AreCreasesOf lines project.pattern.creases
  pub deltas : AreStepsFrom row.low steps (project.history.past ++ project.history.future)
  pub past : row.low + length project.history.past ≡ row.mark
  pub future : row.mark + length project.history.future ≡ row.high
  pub whole : IsProject project
