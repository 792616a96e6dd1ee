use Rattle.std.proofs.Common.{◌≡◌, ◌<◌, ℕ, length}
use Rattle.layers.specs.Sectors.{IsSector, sector_at}
use Rattle.layers.proofs.sector_list.Sectors.between.Given as goal

abbrev pub invariant-loop-i : goal.invariant-loop-i
invariant-loop-i l = record { long : length l.sectors.items ≡ l.i; each : (i : ℕ) → i < l.i → IsSector l.rays i (sector_at l.sectors.items i) }
