-- What a call of a keeper says of its tables, its path and its count of faults.
use Rattle.std.specs.Prelude.{◌≡◌, ℕ, ◌≤◌, List, Option, Some, None, Result, Ok, Err}
use Rattle.ports.specs.Streams.{Rose}
use Rattle.projects.specs.Tables.{Tables, IsTables}
use Rattle.projects.specs.declared.keeper.KeeperEnd.{KeeperEnd}
use Rattle.projects.specs.declared.keeper.KeeperEnd.TheVariants.{Failed, NoMemory}

-- tables that are told before and after a call, of which this holds
pub record AreTold (before after : Tables) (new : Option Tables)
    (Holds : Tables → Tables → Type 0) : Type 0 where
  pub told : new ≡ Some after
  pub old_tables : IsTables before
  pub new_tables : IsTables after
  pub holds : Holds before after

-- Where the keeper tells its tables as the call begins, and its store is clean as it ends, it tells
-- them as it ends too, and this holds of both.
abbrev pub Tells : Option Tables → Type 0 → Option Tables → (Tables → Tables → Type 0) → Type 0
Tells old clean new Holds = (before : Tables) → old ≡ Some before → clean → (after : Tables)
    × AreTold before after new Holds

-- the count has not fallen, and the call failed only where it rose
pub record FailsWhereRose {T : Type 0} (before now : ℕ) (result : Result T KeeperEnd) : Type 0 where
  pub later : before ≤ now
  pub failed : result ≡ Err Failed → Rose before now

-- the path that was given, but none where there was no memory
abbrev pub path_after : {T : Type 0} → List ℕ → Result T KeeperEnd → Option (List ℕ)
path_after path (Ok x) = Some path
path_after path (Err Failed) = Some path
path_after path (Err NoMemory) = None
