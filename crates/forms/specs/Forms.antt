-- How far the lines of a direction run from the origin.
use Rattle.std.specs.Prelude.{◌≡◌, ℕ, ◌<◌}
use Rattle.exact.specs.Number.{ExactNumber}
use Rattle.exact.specs.Plane.{ExactPoint, vector, turn}
use Rattle.qroot2.specs.Wide.{Pair}
use Rattle.geometry.specs.Root.{times, count}
use Rattle.geometry.specs.Gap.{num, dn}
use Rattle.plane.specs.Ways.{root}

-- The form of a point in direction k: the turn from the vector of k to the point. All points of a line
-- in that direction have one form. That of direction 0 is y, and that of direction 4 is -x.
abbrev pub form_of : ℕ → ExactPoint → ExactNumber
form_of k p = turn (vector k) p

-- u and v are the coordinates of p times w
pub record IsLifted (p : ExactPoint) (u v : Pair) (w : ℕ) : Type 0 where
  pub some : 0 < w
  pub x : times (root u) (dn p.x) ≡ times (num p.x) (count w)
  pub y : times (root v) (dn p.y) ≡ times (num p.y) (count w)
