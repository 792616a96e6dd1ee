-- A keeper in memory as plain data.
use Rattle.std.specs.Prelude.{◌≡◌, ℕ, List, Option, Result, Ok, Err, Contains}
use Rattle.ports.specs.Memory.{counted}
use Rattle.projects.specs.Tables.{Tables}
use Rattle.projects.specs.declared.keeper.KeeperEnd.{KeeperEnd}
use Rattle.projects.specs.declared.keeper.KeeperEnd.TheVariants.{Failed, NoMemory}

-- The tables and the path, which commits and which other calls fail, and the commits, other calls
-- and faults so far.
pub record KeeperState : Type 0 where
  pub tables : Tables
  pub path : Option (List ℕ)
  pub fail_commits : List ℕ
  pub fail_others : List ℕ
  pub commits : ℕ
  pub others : ℕ
  pub faults : ℕ

-- Exactly a call whose number is among these fails, and the count of faults rises in no other. Any
-- call may answer want of memory in its place.
abbrev pub FailsByNumber : {T : Type 0} → List ℕ → ℕ → ℕ → ℕ → Result T KeeperEnd → Type 0
FailsByNumber fail calls old new (Ok x) = (¬ Contains fail (counted calls)) × (new ≡ old)
FailsByNumber fail calls old new (Err Failed) = Contains fail (counted calls) × (new ≡ counted old)
FailsByNumber fail calls old new (Err NoMemory) = new ≡ old

-- the calls that fail are the same, and the call was counted among those that are no commits
pub record CountsOther (old new : KeeperState) : Type 0 where
  pub fail_commits : new.fail_commits ≡ old.fail_commits
  pub fail_others : new.fail_others ≡ old.fail_others
  pub commits : new.commits ≡ old.commits
  pub others : new.others ≡ counted old.others

-- the calls that fail are the same, and the call was counted among the commits
pub record CountsCommit (old new : KeeperState) : Type 0 where
  pub fail_commits : new.fail_commits ≡ old.fail_commits
  pub fail_others : new.fail_others ≡ old.fail_others
  pub commits : new.commits ≡ counted old.commits
  pub others : new.others ≡ old.others

-- the tables and the path are as they were
pub record IsUntouched (old new : KeeperState) : Type 0 where
  pub tables : new.tables ≡ old.tables
  pub path : new.path ≡ old.path
