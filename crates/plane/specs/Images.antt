-- The image of a point in a line.
use Rattle.std.specs.Prelude.{◌≡◌, ℕ, ◌+◌, ◌%◌}
use Rattle.exact.specs.Number.{Same, neg}
use Rattle.exact.specs.Plane.{ExactPoint, vector}
use Rattle.geometry.specs.Root.{Root, plus, times, minus, count}
use Rattle.geometry.specs.Gap.{num}
use Rattle.plane.specs.Sides.{IsOnLine, turn_of}

-- f is the foot of p on the line through at in direction k: it is on that line, and p is from it
-- along a quarter turn
pub record IsFoot (at : ExactPoint) (k : ℕ) (p f : ExactPoint) : Type 0 where
  pub on_axis : IsOnLine at k f
  pub upright : IsOnLine f ((k + 4) % 16) p

-- q is the image of p in that line: both have one foot on it, and they are equally far from it on
-- opposite sides
pub record IsImage (at : ExactPoint) (k : ℕ) (p q : ExactPoint) : Type 0 where
  pub foot : (f : ExactPoint) × IsFoot at k p f × IsFoot at k q f
  pub opposite : Same (turn_of at k q) (neg (turn_of at k p))

-- c and t are twice the cosine and the sine of twice the angle of direction k: its vector is its own image
pub record AreTurned (k : ℕ) (c t : Root) : Type 0 where
  pub along : plus (times (num (vector k).x) c) (times (num (vector k).y) t) ≡ times (count 2)
      (num (vector k).x)
  pub across : plus (times (num (vector k).x) t) (minus (times (num (vector k).y) c)) ≡ times (count 2)
      (num (vector k).y)
