-- Projects: a pattern, how often it was changed, and the deltas that lead to it and on from it.
use Rattle.std.specs.Prelude.{◌≡◌, ℕ, ◌≤◌, List, [], ◌∷◌}
use Rattle.sheet.specs.Sheet.{ExactSheet}
use Rattle.sheet.specs.Pattern.{ExactPattern, IsPattern}
use Rattle.pattern.specs.Deltas.{Fits, Leads}
use Rattle.pattern.specs.declared.delta.Delta.{Delta}
use Rattle.history.specs.Histories.{ExactHistory, IsHistory}
pub use Rattle.dialogue.specs.Revs.{last_rev}

-- The number of steps that were taken, the present pattern, and the deltas of the past and the future.
pub record ExactProject : Type 0 where
  pub rev : ℕ
  pub pattern : ExactPattern
  pub history : ExactHistory

-- each delta fits the pattern where it stands and leads to the next one
abbrev pub Walk : ExactPattern → List Delta → ExactPattern → Type 0
Walk from [] to = from ≡ to
Walk from (delta ∷ deltas) to = Fits from delta
    × ((next : ExactPattern) × Leads from delta next × Walk next deltas to)

-- the deltas lead from some pattern to this one
abbrev pub IsPast : List Delta → ExactPattern → Type 0
IsPast deltas now = (first : ExactPattern) × IsPattern first × Walk first deltas now

-- the deltas lead from this pattern to some other
abbrev pub IsFuture : ExactPattern → List Delta → Type 0
IsFuture now deltas = (last : ExactPattern) × Walk now deltas last

-- The past leads to the present pattern, and the future leads on from it.
pub record IsProject (project : ExactProject) : Type 0 where
  pub rev : project.rev ≤ last_rev
  pub pattern : IsPattern project.pattern
  pub history : IsHistory project.history
  pub past : IsPast project.history.past project.pattern
  pub future : IsFuture project.pattern project.history.future

-- the project on a sheet without creases and without steps
abbrev pub empty_project : ExactSheet → ExactProject
empty_project sheet =
    record {
      rev = 0;
      pattern = record { sheet = sheet; creases = [] };
      history = record { past = []; future = [] };
    }
