use Rattle.std.proofs.Common.{◌≤◌, ◌-◌, length}
use Rattle.pattern.proofs.Searching.{IsWithinPlaces}
use Rattle.pattern.proofs.fits.is_among.Given as goal

abbrev pub invariant-loop-low : goal.invariant-loop-low
invariant-loop-low l = record {
  below : l.high ≤ length l.creases;
  within : IsWithinPlaces l.creases l.crease l.low l.high;
}

abbrev pub decreases-loop-low : goal.decreases-loop-low
decreases-loop-low l = l.high - l.low
