-- What comes before the work of a command: where its words name a path, the keeper is attached there.
use Rattle.std.specs.Prelude.{◌≡◌, ℕ, ◌≤◌, ◌⊎◌, List, Option, Some, None}
use Rattle.ports.specs.Streams.{Rose}
use Rattle.oriedit.specs.Script.{KeepsTelling, ScriptRuns}
use Rattle.oriedit.specs.Connections.{Kept, kept}
use Rattle.oriedit.specs.Serving.{ServingEnds}
use Rattle.oriedit.specs.Outside.{Outside, LeavesSource, LeavesSink}
use Rattle.oriedit.specs.declared.status.Status.{Status}
use Rattle.oriedit.specs.declared.status.Status.TheVariants as status

-- `attach` was called with a path, and nothing else was done. Told tables are as before.
pub record IsTold (old : Outside) (clean : Type 0) (new : Outside) (path : Option (List ℕ)) : Type 0 where
  pub source : LeavesSource old new
  pub sink : LeavesSink old new
  pub told : KeepsTelling old.works.tables clean new.works.tables (λ before after. after ≡ before)
  pub faults : old.works.faults ≤ new.works.faults
  pub path_is : new.path ≡ path
  pub door : new.door ≡ old.door

-- It answered so: the command ends where it failed, and then its count of faults rose, or found no memory.
abbrev pub EndsAtOnce : List ℕ → Outside → Type 0 → Outside → Status → Type 0
EndsAtOnce path old clean new s =
    ((s ≡ status.KeeperFault) × Rose old.works.faults new.works.faults × IsTold old clean new (Some path))
    ⊎ ((s ≡ status.NoMemory) × IsTold old clean new None)

-- A command that may have a path for its keeper: without one it begins at once, and with one once
-- the keeper is attached.
abbrev pub Attached : Option (List ℕ) → (Outside → Outside → Status → Type 0) → Outside → Type 0 → Outside
    → Status
    → Type 0
Attached None Then old clean new s = Then old new s
Attached (Some path) Then old clean new s =
    EndsAtOnce path old clean new s
    ⊎ ((mid : Outside) × IsTold old clean mid (Some path) × Then mid new s)

-- a script, which leaves the path and the door
abbrev pub Scripts : Type 0 → Outside → Outside → Status → Type 0
Scripts clean old new s =
    ScriptRuns old.left new.left old.works clean new.works s × (new.path ≡ old.path) × (new.door ≡ old.door)

-- what keeps the projects, as a connection finds it
abbrev pub kept_of : Outside → Kept
kept_of o = kept o.works.tables o.works.faults

-- Connections are served at the port, at most so many. Nothing is taken from the source or written
-- to the sink.
pub record Serves (port most : ℕ) (clean : Type 0) (old new : Outside) (s : Status) : Type 0 where
  pub source : LeavesSource old new
  pub sink : LeavesSink old new
  pub path_is : new.path ≡ old.path
  pub ends : ServingEnds port most old.door (kept_of old) clean new.door (kept_of new) s
