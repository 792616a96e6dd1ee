-- The row of a project: its rev, and the positions of its steps. The past has those from low + 1 to mark, the
-- future those from mark + 1 to high.
use Rattle.std.specs.Prelude.{◌≡◌, ◌+◌, ◌-◌, ◌≤◌, max}
use Rattle.projects.specs.Projects.{last_rev}
use Rattle.rows.specs.declared.project.ProjectRow.{ProjectRow}

-- The numbers are in order. There are at most a thousand steps, and no more than the rev.
pub record AreMarks (row : ProjectRow) : Type 0 where
  pub rev : row.rev ≤ last_rev
  pub low : row.low ≤ row.mark
  pub mark : row.mark ≤ row.high
  pub kept : row.high ≤ row.low + 1000
  pub high : row.high ≤ row.rev

-- A delta was taken: its step is the last one, and of the steps the last thousand are kept.
pub record IsDone (before after : ProjectRow) : Type 0 where
  pub rev : after.rev ≡ before.rev + 1
  pub low : after.low ≡ max before.low (after.mark - 1000)
  pub mark : after.mark ≡ before.mark + 1
  pub high : after.high ≡ after.mark

-- The last step of the past was taken back.
pub record IsUndone (before after : ProjectRow) : Type 0 where
  pub rev : after.rev ≡ before.rev + 1
  pub low : after.low ≡ before.low
  pub mark : after.mark + 1 ≡ before.mark
  pub high : after.high ≡ before.high

-- The next step of the future was taken again.
pub record IsRedone (before after : ProjectRow) : Type 0 where
  pub rev : after.rev ≡ before.rev + 1
  pub low : after.low ≡ before.low
  pub mark : after.mark ≡ before.mark + 1
  pub high : after.high ≡ before.high
