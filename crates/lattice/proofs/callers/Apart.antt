-- With the usual lattice no two values are near one decimal, and none is near one far away.
use Rattle.std.proofs.Common.{◌≡◌, ℕ, zero, suc, ◌+◌, ◌-◌, ◌*◌, ◌%◌, ◌<◌, ◌≤◌, ◌^◌, Bool, true, false, ◌⊎◌, refl, sym, subst, arith, inl, inr, lit≤}
use Rattle.std.specs.Prelude.{ℤ, pos, negsuc, ◌+ℤ◌, nat_lt, ◌&&◌, unsigned_abs, ◌<ℤ◌}
use Rattle.std.proofs.lemmas.Int.{ints}
use Rattle.std.proofs.lemmas.Bool.{cases_lt, false≢true}
use Rattle.exact.specs.Number.{ExactNumber, Same}
use Rattle.exact.proofs.Told.{same_on}
use Rattle.exact.proofs.Order.{same_turned}
use Rattle.lattice.specs.Lattice.{Measures, IsLattice, IsNearValue, usual}
use Rattle.lattice.specs.Search.{IsWindow, Fits}
use Rattle.lattice.specs.Found.{value_of}
use Rattle.lattice.specs.declared.search.Window.{Window}
use Rattle.lattice.proofs.Fitting.{stands, have}
use Rattle.lattice.proofs.Translated.{stand, fit, below_axis, above_axis, off_axis, window_of, top_end}
use Rattle.chains.proofs.callers.Elements.{below_yes}

-- no multiple of √2 by at most that many is within 2 · spread of a whole number
pub apart : ℕ → Bool
apart zero = true
apart (suc q) = nat_lt 128000002048 ((suc q * 565685424949238) % 400000000000000) && (nat_lt ((suc q * 565685424949238) % 400000000000000) 399871999997952 && apart q)

all_apart : apart 256 ≡ true
unfolding apart
all_apart = refl

both : (a b : Bool) → (a && b) ≡ true → (a ≡ true) × (b ≡ true)
both true b e = (refl, e)
both false b e = absurd (false≢true e)

pub each_apart : (n q : ℕ) → apart n ≡ true → 1 ≤ q → q ≤ n → (128000002048 < (q * 565685424949238) % 400000000000000) × ((q * 565685424949238) % 400000000000000 < 399871999997952)
unfolding apart
each_apart zero q e p h = absurd (omega arith)
each_apart (suc n) q e p h =
    let a = both (nat_lt 128000002048 ((suc n * 565685424949238) % 400000000000000)) (nat_lt ((suc n * 565685424949238) % 400000000000000) 399871999997952 && apart n) e in
    let b = both (nat_lt ((suc n * 565685424949238) % 400000000000000) 399871999997952) (apart n) a.1 in
    elim (cases_lt n q) [
      | inl lt ↦ (
          let same : suc n ≡ q = omega arith in
          subst (λ y. (128000002048 < (y * 565685424949238) % 400000000000000) × ((y * 565685424949238) % 400000000000000 < 399871999997952)) same (below_yes _ _ a.0, below_yes _ _ b.0))
      | inr ge ↦ each_apart n q b.1 p ge
    ]

-- two near values with roots s apart
no_gap : (s x y : ℕ) → 128000002048 < s % 400000000000000 → s % 400000000000000 < 399871999997952 → 400000000000000 * x ≤ s + 400000000000000 * y + 128000002048 → s + 400000000000000 * y ≤ 400000000000000 * x + 128000002048 → ⊥
no_gap s x y h k l r = omega arith

same_whole : (x y : ℕ) → 400000000000000 * x ≤ 400000000000000 * y + 128000002048 → 400000000000000 * y ≤ 400000000000000 * x + 128000002048 → x ≡ y
same_whole x y h k = omega arith

abbrev window : ℕ → Window
window r = window_of 64 128 1000 r

-- where a near value stands, with the usual lattice
record At (r p j : ℕ) : Type 0 where
  small : j ≤ 256
  low : j * 565685424949238 + 400000000000000 * p ≤ have (window r)
  full : have (window r) ≤ j * 565685424949238 + 400000000000000 * p + 128000002048

at : (r n i j : ℕ) → IsWindow (window r) → Fits (window r) n i j → At r (n * 64 + i) j
at r n i j b f = (let s = stands (window r) n i j b f in record { small = f.j_small; low = omega (arith, s.low); full = omega (arith, s.full) })

not_apart : (r p j p' j' : ℕ) → At r p j → At r p' j' → j < j' → ⊥
not_apart r p j p' j' a b lt =
    let q = j' - j in
    let e : j' ≡ j + (j' - j) = omega arith in
    let d = each_apart 256 (j' - j) all_apart (omega arith) (omega (arith, b.small)) in
    let f : j' * 565685424949238 ≡ j * 565685424949238 + (j' - j) * 565685424949238 = grow j (j' - j) j' e in
    no_gap ((j' - j) * 565685424949238) p p' d.0 d.1 (omega (arith, a.low, b.full, f)) (omega (arith, b.low, a.full, f))
  where
    grow : (j q k : ℕ) → k ≡ j + q → k * 565685424949238 ≡ j * 565685424949238 + q * 565685424949238
    grow j q k e = rw e (omega arith)

one_root : (r p j p' j' : ℕ) → At r p j → At r p' j' → j ≡ j'
one_root r p j p' j' a b = elim (cases_lt j j') [
  | inl lt ↦ absurd (not_apart r p j p' j' a b lt)
  | inr ge ↦ elim (cases_lt j' j) [ inl lt ↦ absurd (not_apart r p' j' p j b a lt) | inr le ↦ omega (arith, ge, le) ]
]

one_whole : (r p p' j : ℕ) → At r p j → At r p' j → p ≡ p'
one_whole r p p' j a b = same_whole p p' (omega (arith, a.low, b.full)) (omega (arith, b.low, a.full))

usual_lattice : IsLattice usual
usual_lattice = record { d_some = lit≤ tt; d_small = lit≤ tt; k_from = lit≤ tt; k_small = lit≤ tt; tol_some = lit≤ tt; tol_small = lit≤ tt }

usual_window : (r : ℕ) → r ≤ 3600000000000000 → IsWindow (window r)
usual_window r h = record { d_some = lit≤ tt; d_small = lit≤ tt; k_small = lit≤ tt; spread_small = lit≤ tt; reach_small = h }

joined : (u v : ExactNumber) (p p' j j' : ℕ) → p ≡ p' → j ≡ j' → Same u (value_of 64 128 p j) → Same v (value_of 64 128 p' j') → Same u v
joined u v p p' j j' e f h k = same_on u (value_of 64 128 p' j') v (rw (e, f) at h) (same_turned v (value_of 64 128 p' j') k)

two_same : (m : ℕ) (x z : ℤ) (u v : ExactNumber) → z ≡ top_end usual x → m ≤ 8 → IsNearValue usual m x u → IsNearValue usual m x v → Same u v
two_same m x (negsuc q) u v e small h k = absurd (below_axis usual m x q usual_lattice (sym e) u h)
two_same m x (pos r) u v e small h k = elim (cases_lt 3600000000000000 r) [
  | inl far ↦ absurd (above_axis usual m x r usual_lattice small e far u h)
  | inr ge ↦ (
      let s = stand usual m x u usual_lattice h in
      let t = stand usual m x v usual_lattice k in
      let a = at r s.0 s.1 s.2 (usual_window r ge) (fit usual m x u r s.0 s.1 s.2 usual_lattice e s.3) in
      let b = at r t.0 t.1 t.2 (usual_window r ge) (fit usual m x v r t.0 t.1 t.2 usual_lattice e t.3) in
      let j : s.2 ≡ t.2 = one_root r (s.0 * 64 + s.1) s.2 (t.0 * 64 + t.1) t.2 a b in
      let p : s.0 * 64 + s.1 ≡ t.0 * 64 + t.1 = one_whole r (s.0 * 64 + s.1) (t.0 * 64 + t.1) t.2 (subst (λ y. At r (s.0 * 64 + s.1) y) j a) b in
      joined u v (s.0 * 64 + s.1) (t.0 * 64 + t.1) s.2 t.2 p j s.3.placed.value t.3.placed.value)
]

pub usual_apart : (m : ℕ) (x : ℤ) (u v : ExactNumber) → m ≤ 8 → IsNearValue usual m x u → IsNearValue usual m x v → Same u v
usual_apart m x u v small h k = two_same m x (top_end usual x) u v refl small h k

far_end : (x : ℤ) (t : ℕ) → 2 ^ 60 < unsigned_abs x → t ≤ 100000 → (((x +ℤ pos (t * 1000000)) +ℤ pos 200000000000000) <ℤ pos 0) ⊎ (pos 3600000000000000 <ℤ ((x +ℤ pos (t * 1000000)) +ℤ pos 200000000000000))
far_end (pos n) t h k = inr (omega (arith, ints))
far_end (negsuc n) t h k = inl (omega (arith, ints))

pub far_away : (l : Measures) (m : ℕ) (x : ℤ) (u : ExactNumber) → IsLattice l → m ≤ 8 → 2 ^ 60 < unsigned_abs x → ¬ IsNearValue l m x u
far_away l m x u b small far = off_axis l m x (top_end l x) b small refl (far_end x l.tol far b.tol_small) u
