-- The rows of a project after a step, by those before it: just these rows change.
use Rattle.std.specs.Prelude.{◌≡◌, ◌≢◌, ◌⊎◌, ◌↔◌, ◌-◌, List, [], ◌∷◌, ◌++◌, take, drop, AllPairs, Contains}
use Rattle.sheet.specs.Pattern.{ExactCrease}
use Rattle.pattern.specs.Deltas.{inverse_of}
use Rattle.pattern.specs.DeltaText.{delta_text}
use Rattle.pattern.specs.declared.delta.Delta.{Delta}
use Rattle.history.specs.Histories.{IsLast, IsFirst}
use Rattle.projects.specs.Projects.{ExactProject}
use Rattle.rows.specs.Marks.{IsDone, IsUndone, IsRedone}
use Rattle.rows.specs.Rows.{ExactCreaseRow, ExactStepRow, IsRowOf}
use Rattle.rows.specs.declared.project.ProjectRow.{ProjectRow}

-- the row is that of one of these creases
abbrev pub IsRowOfOne : ExactCreaseRow → List ExactCrease → Type 0
IsRowOfOne r creases = (f : ExactCrease) × Contains creases f × IsRowOf r f

-- the row is there, and is not that of a crease that leaves
abbrev pub Remains : List ExactCreaseRow → Delta → ExactCreaseRow → Type 0
Remains rows delta r = Contains rows r × (¬ IsRowOfOne r delta.removed)

-- The rows of the creases that leave are taken out, and those of the creases that come are put in.
-- The segment is still the key.
pub record RowsExchanged (delta : Delta) (before after : List ExactCreaseRow) : Type 0 where
  pub keys : AllPairs (λ r s. r.seg ≢ s.seg) after
  pub rows : (r : ExactCreaseRow)
      → Contains after r ↔ (Remains before delta r ⊎ IsRowOfOne r delta.added)

-- the row of a delta at this position
pub record IsStepRow (at : ExactStepRow) (row : ProjectRow) (delta : Delta) : Type 0 where
  pub place : at.pos ≡ row.mark
  pub text : at.body ≡ delta_text delta

-- The steps above the mark go, the one of the delta comes behind the others, and the first goes
-- where low is raised.
abbrev pub steps_done : ProjectRow → ProjectRow → ExactStepRow → List ExactStepRow → List ExactStepRow
steps_done before after step old =
    drop (after.low - before.low) (take (before.mark - before.low) old ++ step ∷ [])

-- a delta is taken
pub record RowsDone (delta : Delta) (before after : ProjectRow) (lines now : List ExactCreaseRow)
    (old new : List ExactStepRow) : Type 0 where
  pub row : IsDone before after
  pub creases : RowsExchanged delta lines now
  pub step : ExactStepRow
  pub is : IsStepRow step after delta
  pub steps : new ≡ steps_done before after step old

-- The last delta of the past is taken back. The rows of the steps stay.
pub record RowsUndone (project : ExactProject) (before after : ProjectRow)
    (lines now : List ExactCreaseRow) : Type 0 where
  pub row : IsUndone before after
  pub creases : (delta : Delta) → IsLast project.history.past delta
      → RowsExchanged (inverse_of delta) lines now

-- The next delta of the future is taken again. The rows of the steps stay.
pub record RowsRedone (project : ExactProject) (before after : ProjectRow)
    (lines now : List ExactCreaseRow) : Type 0 where
  pub row : IsRedone before after
  pub creases : (delta : Delta) → IsFirst project.history.future delta → RowsExchanged delta lines now
