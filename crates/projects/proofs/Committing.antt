-- A step that fits a fetched project may be committed.
use Rattle.std.proofs.Common.{◌≡◌, ◌<◌, ℕ, List, sym, ap, ◌∙◌}
use Rattle.std.specs.Prelude.{Option, Some, None, IsSome}
use Rattle.projects.specs.Projects.{ExactProject, last_rev}
use Rattle.projects.specs.Steps.{StepFits}
use Rattle.projects.specs.Tables.{Tables, project_at, CanCommit}
use Rattle.projects.specs.Keeping.{Tells, AreTold}
use Rattle.projects.specs.declared.step.Step.{Step}

told_before : (old : Option Tables) → IsSome old → (before : Tables) × (old ≡ Some before)
told_before None h = cc
told_before (Some before) h = (before, cc)

is_some : (new : Option Tables) (after : Tables) → new ≡ Some after → IsSome new
is_some None after e = cc
is_some (Some x) after e = cc

same_tables : (x y : Tables) → Some x ≡ Some y → x ≡ y
same_tables x y e = cc

-- the keeper told its tables, with this project under the name, as it ended a fetch
pub can_commit : (old new : Option Tables) (clean : Type 0) (name : List ℕ) (step : Step) (found : Option ExactProject) (project : ExactProject)
    → Tells old clean new (λ before after. (after ≡ before) × (found ≡ project_at before name)) → (IsSome new → clean → IsSome old)
    → found ≡ Some project → project.rev < last_rev → StepFits project step
    → (tables : Tables) → new ≡ Some tables → clean → CanCommit tables name step
can_commit old new clean name step found project told untold p r f tables e c =
    let b : (before : Tables) × (old ≡ Some before) = told_before old (untold (is_some new tables e) c) in
    let t : (after : Tables) × AreTold b.0 after new (λ before after. (after ≡ before) × (found ≡ project_at before name)) = told b.0 b.1 c in
    let same : tables ≡ b.0 = same_tables tables t.0 (sym e ∙ t.1.told) ∙ t.1.holds.0 in
    record {
      project = project;
      there = ap (λ (x : Tables). project_at x name) same ∙ sym t.1.holds.1 ∙ p;
      rev = r;
      fits = f;
    }
