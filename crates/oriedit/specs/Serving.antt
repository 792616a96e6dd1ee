-- Connections that a door hands out, served one after another.
use Rattle.std.specs.Prelude.{◌≡◌, ℕ, ◌≤◌, ◌⊎◌, List, [], ◌∷◌, ◌++◌, length, map, Bool, true, false, Option}
use Rattle.std.specs.Prelude.{Some, None, Result, Ok, Err}
use Rattle.ports.specs.Streams.{Rose}
use Rattle.ports.specs.Doors.{Ends}
use Rattle.ports.specs.declared.streams.Failed.{Failed}
use Rattle.oriedit.specs.Connections.{EndSide, Kept, IsKept, IsServed}
use Rattle.oriedit.specs.declared.connection.Served.{Served}
use Rattle.oriedit.specs.declared.status.Status.{Status}
use Rattle.oriedit.specs.declared.status.Status.TheVariants as status

-- each connection begins with the tables that the one before it left
abbrev pub AreServed : List EndSide → List EndSide → Kept → Type 0 → Kept → Type 0
AreServed [] [] old clean new = new ≡ old
AreServed [] (after ∷ afters) old clean new = ⊥
AreServed (before ∷ befores) [] old clean new = ⊥
AreServed (before ∷ befores) (after ∷ afters) old clean new =
    (mid : Kept) × (s : Served) × IsServed before after old clean mid s
    × AreServed befores afters mid clean new

-- a door that tells its ends handed out these, the first that were to come, and got each back as it was left
abbrev pub HandedOut : Option (Ends EndSide) → Option (Ends EndSide) → List EndSide → List EndSide → Type 0
HandedOut None None befores afters = Unit {0}
HandedOut None (Some new) befores afters = ⊥
HandedOut (Some old) None befores afters = ⊥
HandedOut (Some old) (Some new) befores afters =
    (old.coming ≡ befores ++ new.coming) × (new.finished ≡ old.finished ++ afters) × (new.out ≡ old.out)

-- no end is to come, where the door tells its ends
abbrev pub HasNone : Option (Ends EndSide) → Type 0
HasNone None = Unit {0}
HasNone (Some ends) = ends.coming ≡ []

-- the ends of a door, each as it is seen
abbrev pub ends_seen : {E : Type 0} → (E → EndSide) → Option (Ends E) → Option (Ends EndSide)
ends_seen side None = None
ends_seen side (Some ends) =
    Some (record { coming = map side ends.coming; out = ends.out; finished = map side ends.finished })

-- what came of serving the next connection: there was one, there is none, or the door failed
abbrev pub ServesNext : Option (Ends EndSide) → Kept → Type 0 → Option (Ends EndSide) → Kept
    → Result Bool Failed → Type 0
ServesNext ends old clean later new (Ok true) =
    (before : EndSide) × (after : EndSide) × (s : Served) × HandedOut ends later (before ∷ []) (after ∷ [])
    × IsServed before after old clean new s
ServesNext ends old clean later new (Ok false) = HasNone later × (later ≡ ends) × (new ≡ old)
ServesNext ends old clean later new (Err e) = (later ≡ ends) × (new ≡ old)

-- the port of a door, its ends, and how often its calls have failed
pub record DoorSide : Type 0 where
  pub port : Option ℕ
  pub ends : Option (Ends EndSide)
  pub faults : ℕ

abbrev pub door_side : Option ℕ → Option (Ends EndSide) → ℕ → DoorSide
door_side port ends faults = record { port = port; ends = ends; faults = faults }

-- some connections were served, at most so many, each with what the one before it left
pub record ServesSome (most : ℕ) (door : DoorSide) (old : Kept) (clean : Type 0) (later : DoorSide)
    (new : Kept) : Type 0 where
  pub befores : List EndSide
  pub afters : List EndSide
  pub handed : HandedOut door.ends later.ends befores afters
  pub served : AreServed befores afters old clean new
  pub few : length afters ≤ most

-- so many were served, or there are no more
abbrev pub ServesAll : ℕ → DoorSide → Kept → Type 0 → DoorSide → Kept → Type 0
ServesAll most door old clean later new =
    (some : ServesSome most door old clean later new) × ((length some.afters ≡ most) ⊎ HasNone later.ends)

-- How serving at a port ends. Where there is no memory to begin, nothing is done.
abbrev pub ServingEnds : ℕ → ℕ → DoorSide → Kept → Type 0 → DoorSide → Kept → Status → Type 0
ServingEnds port most door old clean later new status.Ok =
    (later.port ≡ Some port) × ServesAll most door old clean later new
ServingEnds port most door old clean later new status.DoorFault =
    (later.port ≡ Some port) × Rose door.faults later.faults × ServesSome most door old clean later new
ServingEnds port most door old clean later new status.NoMemory = (later ≡ door) × IsKept old clean new
ServingEnds port most door old clean later new status.FaultsFound = ⊥
ServingEnds port most door old clean later new status.Usage = ⊥
ServingEnds port most door old clean later new status.ReadFault = ⊥
ServingEnds port most door old clean later new status.WriteFault = ⊥
ServingEnds port most door old clean later new status.KeeperFault = ⊥
ServingEnds port most door old clean later new status.TooLong = ⊥
ServingEnds port most door old clean later new status.Refused = ⊥
