-- Where the i of a near value stands, and where its n.
use Rattle.std.proofs.Common.{◌≡◌, ℕ, ◌+◌, ◌-◌, ◌*◌, ◌/◌, ◌%◌, ◌<◌, ◌≤◌, arith, lit<}
use Rattle.lattice.specs.Search.{IsWindow, Fits}
use Rattle.lattice.specs.declared.search.Window.{Window}
use Rattle.lattice.proofs.Sides.{nn_pair, nn_times}
use Rattle.lattice.proofs.Roots.{IsBase, rounded}

base : IsBase 400000000000000 565685424949238
base = record { c_some = lit< tt; r_some = lit< tt; below = lit< tt; above = lit< tt }

abbrev pub have : Window → ℕ
have w = w.d * w.reach + 1024 + w.k * 965685424949238

abbrev pub need : Window → ℕ → ℕ → ℕ
need w n j = j * 565685424949238 + n * w.d * 400000000000000

pub record Stands (w : Window) (n i j : ℕ) : Type 0 where
  pub room : need w n j ≤ have w
  pub low : need w n j + 400000000000000 * i ≤ have w
  pub full : have w ≤ need w n j + 400000000000000 * i + (2 * w.spread + 2048)
  pub quotient : (have w - need w n j) / 400000000000000 ≡ i
  pub rest : (have w - need w n j) % 400000000000000 ≤ 2 * w.spread + 2048

divided : (x y i s : ℕ) → y + 400000000000000 * i ≤ x → x ≤ y + 400000000000000 * i + s → s < 400000000000000 → ((x - y) / 400000000000000 ≡ i) × ((x - y) % 400000000000000 ≤ s)
divided x y i s h k l = (omega arith, omega arith)

pub stands : (w : Window) (n i j : ℕ) → IsWindow w → Fits w n i j → Stands w n i j
stands w n i j b f =
    let high = rounded 400000000000000 565685424949238 (w.d * w.reach + 400000000000000 * w.k) (400000000000000 * (n * w.d + i)) w.k j 1024 base (omega (arith, b.k_small)) f.to.side in
    let low = rounded 400000000000000 565685424949238 (400000000000000 * (n * w.d + i) + 2 * w.spread) (400000000000000 * w.k + w.d * w.reach) j w.k 1024 base (omega (arith, b.k_small, f.j_small)) f.from.side in
    let room : need w n j + 400000000000000 * i ≤ have w = omega (arith, high) in
    let full : have w ≤ need w n j + 400000000000000 * i + (2 * w.spread + 2048) = omega (arith, low) in
    let d = divided (have w) (need w n j) i (2 * w.spread + 2048) room full (omega (arith, b.spread_small)) in
    record { room = omega (arith, room); low = room; full = full; quotient = d.0; rest = d.1 }

-- the field n reaches from below to above what is near
pub above_field : (w : Window) (n i j : ℕ) → Fits w n i j → w.d * (n * 400000000000000) ≤ w.d * w.reach
above_field w n i j f = omega (arith, nn_pair (400000000000000 * i) (400000000000000 * w.k) (w.d * w.reach + 400000000000000 * w.k) (400000000000000 * (n * w.d + i)) (400000000000000 * j) (400000000000000 * w.k) (nn_times i w.k j w.k 400000000000000 (lit< tt) f.from_zero.side) f.to.side)

pub below_field : (w : Window) (n i j : ℕ) → Fits w n i j → w.d * w.reach ≤ w.d * ((n + 1) * 400000000000000) + 2 * w.spread
below_field w n i j f = omega (arith, nn_pair (400000000000000 * (w.d + w.k)) (400000000000000 * i) (400000000000000 * (n * w.d + i) + 2 * w.spread) (400000000000000 * w.k + w.d * w.reach) (400000000000000 * w.k) (400000000000000 * j) (nn_times (w.d + w.k) i w.k j 400000000000000 (lit< tt) f.to_one.side) f.from.side)
