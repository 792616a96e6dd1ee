use Rattle.std.proofs.Common.{◌≡◌, ◌<◌, ℕ, length, get_or}
use Rattle.std.specs.Prelude.{pos, ◌+ℤ◌}
use Rattle.layers.specs.LayerOrder.{place}
use Rattle.layers.proofs.tables.places_of.Given as goal

abbrev pub invariant-loop-i : goal.invariant-loop-i
invariant-loop-i l = record { long : length l.places.items ≡ l.i; each : (i : ℕ) → i < l.i → pos (get_or l.places.items i 0) ≡ place l.sectors i +ℤ pos 4096 }
