-- Ways by their numerators.
use Rattle.std.specs.Prelude.{◌≡◌, ℕ, ◌<◌, ◌⊎◌, pos, ◌*ℤ◌, ◌-ℤ◌}
use Rattle.exact.specs.Plane.{vector}
use Rattle.qroot2.specs.Wide.{Pair}
use Rattle.geometry.specs.Root.{Root, plus, times, minus, count}
use Rattle.geometry.specs.Gap.{num}

-- a pair of whole numbers, as a number of the ring
abbrev pub root : Pair → Root
root x = record { a = x.a; b = x.b }

-- how far the way by x and y leads to the left of direction k
abbrev pub offset_of : ℕ → Root → Root → Root
offset_of k x y = plus (times (num (vector k).x) y) (minus (times (num (vector k).y) x))

-- the way leads along the lines of direction k
abbrev pub IsAlong : ℕ → Root → Root → Type 0
IsAlong k x y = offset_of k x y ≡ count 0

-- direction k leads to later points
abbrev pub IsAhead : ℕ → Type 0
IsAhead k = (k < 16) × ((k < 5) ⊎ (12 < k))

-- √2 - 1 times a number
abbrev pub tilted : Pair → Pair
tilted x = record { a = pos 2 *ℤ x.b -ℤ x.a; b = x.a -ℤ x.b }
