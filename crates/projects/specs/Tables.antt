-- Tables: a finite map from names to projects, listed by the names, ascending.
use Rattle.std.specs.Prelude.{◌≡◌, ℕ, ◌<◌, List, All, Option, Some, None, IsSome, Result, Ok, Err, Bool, true}
use Rattle.std.specs.Prelude.{false}
use Rattle.std.specs.BTreeMap.{is_at, insert_entry}
use Rattle.std.specs.Map.{lookup, keys_of, values_of}
use Rattle.std.specs.List.Sorted.{IsStrictlySortedBy}
use Rattle.sheet.specs.Sheet.{ExactSheet}
use Rattle.vocabulary.specs.Names.{IsName, name_cmp}
use Rattle.projects.specs.Projects.{ExactProject, IsProject, empty_project, last_rev}
use Rattle.projects.specs.Steps.{StepFits, Stepped}
use Rattle.projects.specs.declared.step.Step.{Step}

abbrev pub Tables : Type 0
Tables = List (List ℕ × ExactProject)

-- all names of the tables, in their order
abbrev pub names_of : Tables → List (List ℕ)
names_of tables = keys_of tables

-- the names are names and ascend, and the projects are projects
pub record IsTables (tables : Tables) : Type 0 where
  pub names : All IsName (names_of tables)
  pub ascend : IsStrictlySortedBy name_cmp (names_of tables)
  pub projects : All IsProject (values_of tables)

-- the project under a name, if there is one
abbrev pub project_at : Tables → List ℕ → Option ExactProject
project_at tables name = lookup (is_at (name_cmp name)) tables

-- the tables with this project under this name, and all else as it was
abbrev pub with_project : Tables → List ℕ → ExactProject → Tables
with_project tables name project = insert_entry name_cmp tables name project

-- an empty project on the sheet comes under a new name, and otherwise all stays
abbrev pub Created : {E : Type 0} → Tables → List ℕ → ExactSheet → Result Bool E → Tables → Type 0
Created before name sheet (Ok true) after =
    (project_at before name ≡ None) × (after ≡ with_project before name (empty_project sheet))
Created before name sheet (Ok false) after = IsSome (project_at before name) × (after ≡ before)
Created before name sheet (Err e) after = after ≡ before

-- The project under the name can take the step.
pub record CanCommit (tables : Tables) (name : List ℕ) (step : Step) : Type 0 where
  pub project : ExactProject
  pub there : project_at tables name ≡ Some project
  pub rev : project.rev < last_rev
  pub fits : StepFits project step

-- The project under the name has taken the step, and all others stay.
pub record IsCommitted (before : Tables) (name : List ℕ) (step : Step) (after : Tables) : Type 0 where
  pub project : ExactProject
  pub next : ExactProject
  pub there : project_at before name ≡ Some project
  pub stepped : Stepped project step next
  pub tables : after ≡ with_project before name next

-- the step is taken, or all stays
abbrev pub Committed : {T E : Type 0} → Tables → List ℕ → Step → Result T E → Tables → Type 0
Committed before name step (Ok x) after = IsCommitted before name step after
Committed before name step (Err e) after = after ≡ before
