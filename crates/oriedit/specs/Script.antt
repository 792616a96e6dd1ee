-- A run of a script: what it takes from its source, what it does, what it writes, and how it ends.
use Rattle.std.specs.Prelude.{◌≡◌, ℕ, ◌+◌, ◌-◌, ◌≤◌, ◌<◌, ◌^◌, ◌⊎◌, min, List, [], ◌∷◌, ◌++◌, length, Option}
use Rattle.std.specs.Prelude.{Some}
use Rattle.std.specs.List.{concat}
use Rattle.ports.specs.Streams.{IsFront}
use Rattle.projects.specs.Tables.{Tables, IsTables}
use Rattle.ports.specs.Taken.{Gave, IsSpent}
use Rattle.oriedit.specs.Limits.{script_limit}
use Rattle.oriedit.specs.Outputs.{Gained}
use Rattle.oriedit.specs.Units.{AreUnits, StandsFirst, last_unit}
use Rattle.oriedit.specs.Turns.{TurnTables}
use Rattle.oriedit.specs.declared.status.Status.{Status}
use Rattle.oriedit.specs.declared.status.Status.TheVariants as status

-- What a script works on: what its sink holds, and the tables and the count of faults of what keeps
-- the projects.
pub record Works : Type 0 where
  pub held : Option (List ℕ)
  pub tables : Option Tables
  pub faults : ℕ

abbrev pub works : Option (List ℕ) → Option Tables → ℕ → Works
works held tables faults = record { held = held; tables = tables; faults = faults }

-- tables that are told before and after, of which this holds
pub record StayTold (before after : Tables) (new : Option Tables)
    (Holds : Tables → Tables → Type 0) : Type 0 where
  pub told : new ≡ Some after
  pub tables : IsTables before → IsTables after
  pub holds : Holds before after

-- where tables are told as this begins, and the store is clean as it ends, they are told as it ends too
abbrev pub KeepsTelling : Option Tables → Type 0 → Option Tables → (Tables → Tables → Type 0) → Type 0
KeepsTelling old clean new Holds =
    (before : Tables) → old ≡ Some before → clean → (after : Tables) × StayTold before after new Holds

-- the count rose by at least so many, or stands at the last value of its counter
abbrev pub RoseBy : ℕ → ℕ → ℕ → Type 0
RoseBy before now n = min (before + n) (2 ^ 64 - 1) ≤ now

-- units were done, with these texts, so many of which say that what keeps the projects failed
pub record AreDone (old : Works) (clean : Type 0) (new : Works) (units texts : List (List ℕ))
    (fails : ℕ) : Type 0 where
  pub told : KeepsTelling old.tables clean new.tables
      (λ before after. TurnTables before units texts fails after)
  pub counted : RoseBy old.faults new.faults fails

-- units were done, and their texts were written and nothing else
pub record AreAnswered (old : Works) (clean : Type 0) (new : Works) (units : List (List ℕ)) : Type 0 where
  pub texts : List (List ℕ)
  pub fails : ℕ
  pub done : AreDone old clean new units texts fails
  pub written : Gained old.held new.held (concat texts)

-- units were done, and their texts were written up to some place in the last of them
pub record AreCutOff (old : Works) (clean : Type 0) (new : Works) (units : List (List ℕ)) : Type 0 where
  pub texts : List (List ℕ)
  pub last : List ℕ
  pub fails : ℕ
  pub done : AreDone old clean new units (texts ++ last ∷ []) fails
  pub part : List ℕ
  pub front : IsFront part last
  pub written : Gained old.held new.held (concat texts ++ part)

-- all units of the bytes were done, the last one too that is not whole
pub record DoesAll (bytes : List ℕ) (left : Option (List ℕ)) (Done : List (List ℕ) → Type 0) : Type 0 where
  pub units : List (List ℕ)
  pub rest : List ℕ
  pub all : AreUnits bytes units rest
  pub spent : IsSpent left
  pub done : Done (units ++ last_unit rest)

-- the whole units were done
pub record DoesWhole (bytes : List ℕ) (Done : List (List ℕ) → Type 0) : Type 0 where
  pub units : List (List ℕ)
  pub rest : List ℕ
  pub all : AreUnits bytes units rest
  pub done : Done units

-- some of the first of them were done
pub record DoesSome (bytes : List ℕ) (Done : List (List ℕ) → Type 0) : Type 0 where
  pub units : List (List ℕ)
  pub rest : List ℕ
  pub all : StandsFirst bytes units rest
  pub done : Done units

-- How a script ends after these bytes were taken.
abbrev pub ScriptEnds : List ℕ → Option (List ℕ) → Works → Type 0 → Works → Status → Type 0
ScriptEnds bytes left old clean new status.Ok =
    (length bytes < script_limit) × DoesAll bytes left (AreAnswered old clean new)
ScriptEnds bytes left old clean new status.ReadFault =
    (length bytes < script_limit) × DoesWhole bytes (AreAnswered old clean new)
ScriptEnds bytes left old clean new status.TooLong =
    (length bytes ≡ script_limit) × DoesWhole bytes (AreAnswered old clean new)
ScriptEnds bytes left old clean new status.WriteFault =
    ((length bytes ≤ script_limit) × DoesSome bytes (AreCutOff old clean new))
    ⊎ ((length bytes < script_limit) × DoesAll bytes left (AreCutOff old clean new))
ScriptEnds bytes left old clean new status.NoMemory =
    (length bytes ≤ script_limit) × DoesSome bytes (AreAnswered old clean new)
ScriptEnds bytes left old clean new status.FaultsFound = ⊥
ScriptEnds bytes left old clean new status.Usage = ⊥
ScriptEnds bytes left old clean new status.KeeperFault = ⊥
ScriptEnds bytes left old clean new status.DoorFault = ⊥
ScriptEnds bytes left old clean new status.Refused = ⊥

-- A run of a script. A source that tells had the taken bytes at its front and has what stood behind them.
abbrev pub ScriptRuns : Option (List ℕ) → Option (List ℕ) → Works → Type 0 → Works → Status → Type 0
ScriptRuns was left old clean new s =
    (bytes : List ℕ) × Gave was left bytes × ScriptEnds bytes left old clean new s
