-- The common point of two lines, as the code makes it.
use Rattle.std.specs.Prelude.{ℕ, ◌*◌}
use Rattle.exact.specs.Number.{ExactNumber, den}
use Rattle.exact.specs.Plane.{ExactPoint}
use Rattle.geometry.specs.Root.{Root, times, count}
use Rattle.geometry.specs.Gap.{num, dn}
use Rattle.plane.specs.Ways.{offset_of}

-- a number over a whole number
abbrev pub over : Root → ℕ → ExactNumber
over n m = record { a = n.a; b = n.b; d = m }

-- both denominators of a point
abbrev pub weight_of : ExactPoint → ℕ
weight_of p = den p.x * den p.y

-- how far the line through p in direction k is from the origin, over the denominators of p and of
-- another point
abbrev pub lift_of : ℕ → ExactPoint → ExactPoint → Root
lift_of k p other = times (offset_of k (times (num p.x) (dn p.y)) (times (num p.y) (dn p.x)))
    (count (weight_of other))
