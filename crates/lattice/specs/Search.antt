-- What the search goes over.
use Rattle.std.specs.Prelude.{◌≡◌, ℕ, ◌≤◌, ◌<◌, ◌+◌, ◌*◌, ◌⊎◌}
use Rattle.exact.specs.Number.{ExactNumber, Same}
use Rattle.lattice.specs.Side.{NotBelow}
use Rattle.lattice.specs.Found.{value_of}
use Rattle.lattice.specs.declared.found.Numerators.{Numerators}
use Rattle.lattice.specs.declared.search.Window.{Window}

pub record IsWindow (w : Window) : Type 0 where
  pub d_some : 1 ≤ w.d
  pub d_small : w.d ≤ 1024
  pub k_small : w.k ≤ 1024
  pub spread_small : w.spread ≤ 102400000000000
  pub reach_small : w.reach ≤ 3600000000000000

-- n + ((i - k) + (j - k) √2)/d is a lattice value, and near
pub record Fits (w : Window) (n i j : ℕ) : Type 0 where
  pub i_small : i ≤ 2 * w.k
  pub j_small : j ≤ 2 * w.k
  pub from_zero : NotBelow i w.k j w.k
  pub to_one : NotBelow (w.d + w.k) i w.k j
  pub from : NotBelow (400000000000000 * (n * w.d + i) + 2 * w.spread)
      (400000000000000 * w.k + w.d * w.reach) (400000000000000 * j) (400000000000000 * w.k)
  pub to : NotBelow (w.d * w.reach + 400000000000000 * w.k) (400000000000000 * (n * w.d + i))
      (400000000000000 * w.k) (400000000000000 * j)

-- s is a near value at a whole part below n, or at n with a root part below j
pub record IsSeen (w : Window) (n j : ℕ) (s : Numerators) : Type 0 where
  pub seen : (m i : ℕ) × (s.whole ≡ m * w.d + i) × Fits w m i s.root × ((m < n) ⊎ ((m ≡ n) × (s.root < j)))

-- v is a near value at a whole part below m
pub record IsSeenValue (w : Window) (m : ℕ) (v : ExactNumber) : Type 0 where
  pub seen : (s : Numerators) × IsSeen w m 0 s × Same v (value_of w.d w.k s.whole s.root)
