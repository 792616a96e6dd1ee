use Rattle.std.proofs.Common.{◌≡◌, ◌<◌, ◌≤◌, ◌+◌, ℕ, length, take}
use Rattle.layers.specs.Star.{ray_at}
use Rattle.layers.proofs.star.Star.new.Given as goal

abbrev pub invariant-loop-ray : goal.invariant-loop-ray
invariant-loop-ray l = record {
  value : l.kept.items ≡ take l.ray-index l.rays;
  long : length l.kept.items ≡ l.ray-index;
  few : l.ray-index ≤ l.least;
  turn : l.least ≤ 16;
  start : l.ray-index ≡ 0 → l.least ≡ 0;
  last : (i : ℕ) → i + 1 ≡ l.ray-index → l.least ≡ (ray_at l.rays i).dir + 1;
  ascends : (i : ℕ) → i + 1 < l.ray-index → (ray_at l.rays i).dir < (ray_at l.rays (i + 1)).dir;
  directions : (i : ℕ) → i < l.ray-index → (ray_at l.rays i).dir < 16;
}
