-- Rows stand for one project, which is put together of its parts.
use Rattle.std.proofs.Common.{◌≡◌, refl, sym, subst, ◌∙◌}
use Rattle.std.specs.Prelude.{◌↔◌, List, Option, Some, None, Result, Ok, Err, IfOk, IsSome, IsNone}
use Rattle.sheet.specs.Sheet.{ExactSheet}
use Rattle.sheet.specs.Pattern.{ExactPattern}
use Rattle.history.specs.Histories.{ExactHistory}
use Rattle.projects.specs.Projects.{ExactProject, IsProject}
use Rattle.rows.specs.Marks.{AreMarks}
use Rattle.rows.specs.Rows.{ExactCreaseRow, ExactStepRow, IsSheetOf, RowsStandFor}
use Rattle.rows.specs.Reading.{IsPatternOf, IsHistoryOf}
use Rattle.rows.specs.declared.project.ProjectRow.{ProjectRow}
use Rattle.rows.specs.declared.project.SheetRow.{SheetRow}
use Rattle.rows.proofs.CreaseRows.{same_creases}
use Rattle.rows.proofs.StepRows.{same_history}

abbrev pub made_of : ProjectRow → ExactPattern → ExactHistory → ExactProject
made_of row pattern history = record { rev = row.rev; pattern = pattern; history = history }

pub stands : (row : ProjectRow) (on : Option SheetRow) (lines : List ExactCreaseRow) (steps : List ExactStepRow) (sheet : ExactSheet) (pattern : ExactPattern) (history : ExactHistory)
    → AreMarks row → IsSheetOf on sheet → IsPatternOf sheet lines pattern → IsHistoryOf row steps history → IsProject (made_of row pattern history) → RowsStandFor row on lines steps (made_of row pattern history)
stands row on lines steps sheet pattern history m s p h w = record {
  marks = m;
  rev = refl;
  sheet = subst (IsSheetOf on) (sym p.sheet) s;
  creases = p.creases;
  deltas = h.deltas;
  past = h.past;
  future = h.future;
  whole = w;
}

pub pattern_part : (row : ProjectRow) (on : Option SheetRow) (lines : List ExactCreaseRow) (steps : List ExactStepRow) (project : ExactProject) → RowsStandFor row on lines steps project → IsPatternOf project.pattern.sheet lines project.pattern
pattern_part row on lines steps project s = record { pattern = s.whole.pattern; sheet = refl; creases = s.creases }

pub history_part : (row : ProjectRow) (on : Option SheetRow) (lines : List ExactCreaseRow) (steps : List ExactStepRow) (project : ExactProject) → RowsStandFor row on lines steps project → IsHistoryOf row steps project.history
history_part row on lines steps project s = record { deltas = s.deltas; past = s.past; future = s.future }

pub same_sheet : (on : Option SheetRow) (one other : ExactSheet) → IsSheetOf on one → IsSheetOf on other → one ≡ other
same_sheet None one other a b = a ∙ sym b
same_sheet (Some row) one other a b = λ i. record { w = (a.0 ∙ sym b.0) i; h = (a.1 ∙ sym b.1) i }

pub same_pattern : (lines : List ExactCreaseRow) (sheet : ExactSheet) (one other : ExactPattern) → IsPatternOf sheet lines one → IsPatternOf sheet lines other → one ≡ other
same_pattern lines sheet one other a b = (let c = same_creases lines one other a.pattern b.pattern a.creases b.creases in λ i. record { sheet = (a.sheet ∙ sym b.sheet) i; creases = c i })

-- the pattern for which rows stand is on their sheet
pub pattern_on : (row : ProjectRow) (on : Option SheetRow) (lines : List ExactCreaseRow) (steps : List ExactStepRow) (sheet : ExactSheet) (project : ExactProject) → IsSheetOf on sheet → RowsStandFor row on lines steps project → IsPatternOf sheet lines project.pattern
pattern_on row on lines steps sheet project s h = subst (λ (x : ExactSheet). IsPatternOf x lines project.pattern) (same_sheet on project.pattern.sheet sheet h.sheet s) (pattern_part row on lines steps project h)

-- a project for which the rows stand is the one of these parts
pub made_whole : (row : ProjectRow) (on : Option SheetRow) (lines : List ExactCreaseRow) (steps : List ExactStepRow) (sheet : ExactSheet) (pattern : ExactPattern) (history : ExactHistory) (project : ExactProject)
    → IsSheetOf on sheet → IsPatternOf sheet lines pattern → IsHistoryOf row steps history → RowsStandFor row on lines steps project → project ≡ made_of row pattern history
made_whole row on lines steps sheet pattern history project s p h t =
    let same = same_pattern lines sheet project.pattern pattern (pattern_on row on lines steps sheet project s t) p in
    let deltas = same_history row steps project.history history (history_part row on lines steps project t) h in
    λ i. record { rev = t.rev i; pattern = same i; history = deltas i }

pub one_project : (row : ProjectRow) (on : Option SheetRow) (lines : List ExactCreaseRow) (steps : List ExactStepRow) (one other : ExactProject) → RowsStandFor row on lines steps one → RowsStandFor row on lines steps other → one ≡ other
one_project row on lines steps one other a b =
    made_whole row on lines steps other.pattern.sheet other.pattern other.history one b.sheet (pattern_part row on lines steps other b) (history_part row on lines steps other b) a
    ∙ (λ i. record { rev = sym b.rev i; pattern = other.pattern; history = other.history })

-- where the parts make no project, the rows stand for none
pub none_made : {E : Type 0} (row : ProjectRow) (on : Option SheetRow) (lines : List ExactCreaseRow) (steps : List ExactStepRow) (sheet : ExactSheet) (pattern : ExactPattern) (history : ExactHistory) (r : Result (Option ExactProject) E)
    → IsSheetOf on sheet → IsPatternOf sheet lines pattern → IsHistoryOf row steps history → IfOk r (λ found. IsSome found ↔ IsProject (made_of row pattern history)) → IfOk r (λ found. IsNone found → (project : ExactProject) → ¬ RowsStandFor row on lines steps project)
none_made row on lines steps sheet pattern history (Ok None) s p h e = λ n project t. (let k = e.1 (subst IsProject (made_whole row on lines steps sheet pattern history project s p h t) t.whole) in cc)
none_made row on lines steps sheet pattern history (Ok (Some made)) s p h e = λ n project t. cc
none_made row on lines steps sheet pattern history (Err x) s p h e = tt
