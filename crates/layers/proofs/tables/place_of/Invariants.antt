use Rattle.std.proofs.Common.{◌≡◌, ◌≤◌, ◌+◌, ◌*◌}
use Rattle.std.specs.Prelude.{pos, ◌+ℤ◌}
use Rattle.layers.specs.LayerOrder.{place}
use Rattle.layers.proofs.tables.place_of.Given as goal

abbrev pub invariant-loop-k : goal.invariant-loop-k
invariant-loop-k l = record { value : pos l.x ≡ place l.sectors l.k +ℤ pos 4096; high : l.x ≤ 4096 + 255 * l.k; low : 4096 ≤ l.x + 255 * l.k }
