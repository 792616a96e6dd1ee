-- What lies outside of a run of the program: what it takes from, what it writes to, what keeps the
-- projects, and the door.
use Rattle.std.specs.Prelude.{◌≡◌, ℕ, List, Option}
use Rattle.oriedit.specs.Script.{Works}
use Rattle.oriedit.specs.Serving.{DoorSide}

-- What its source has left, and what is to be seen of its sink and its keeper; then how often takes
-- and puts have failed, the path at which the keeper was attached, if it was, and the door.
pub record Outside : Type 0 where
  pub left : Option (List ℕ)
  pub works : Works
  pub takes : ℕ
  pub puts : ℕ
  pub path : Option (List ℕ)
  pub door : DoorSide

abbrev pub outside : Option (List ℕ) → Works → ℕ → ℕ → Option (List ℕ) → DoorSide → Outside
outside left works takes puts path door =
    record { left = left; works = works; takes = takes; puts = puts; path = path; door = door }

-- nothing was taken
pub record LeavesSource (old new : Outside) : Type 0 where
  pub left : new.left ≡ old.left
  pub takes : new.takes ≡ old.takes

-- nothing was written
pub record LeavesSink (old new : Outside) : Type 0 where
  pub held : new.works.held ≡ old.works.held
  pub puts : new.puts ≡ old.puts

-- what keeps the projects was not touched
pub record LeavesKeeper (old new : Outside) : Type 0 where
  pub tables : new.works.tables ≡ old.works.tables
  pub faults : new.works.faults ≡ old.works.faults
  pub path : new.path ≡ old.path
