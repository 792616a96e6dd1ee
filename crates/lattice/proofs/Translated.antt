-- The near values of the lattice are what the search goes over.
use Rattle.std.proofs.Common.{◌≡◌, ℕ, suc, ◌+◌, ◌*◌, ◌<◌, ◌≤◌, ◌⊎◌, max, refl, sym, subst, arith, inl, inr, lit<}
use Rattle.std.specs.Prelude.{ℤ, pos, negsuc, neg_ℤ, ◌+ℤ◌, ◌-ℤ◌, ◌*ℤ◌, ◌<ℤ◌}
use Rattle.std.proofs.lemmas.Int.{ints}
use Rattle.std.proofs.Math.Nat.{le_of_mul-le-mul_left}
use Rattle.exact.specs.Number.{ExactNumber, Same}
use Rattle.exact.proofs.Ring.{is_eq, is_mul, is_sub, is_neg, is_lit}
use Rattle.exact.proofs.Order.{same_turned}
use Rattle.lattice.specs.Side.{NotNegative}
use Rattle.lattice.specs.Lattice.{Measures, IsLattice, IsPlace, IsNearValue}
use Rattle.lattice.specs.Near.{IsAnswer, IsAnswerOf}
use Rattle.lattice.specs.Search.{Fits, IsSeenValue}
use Rattle.lattice.specs.Found.{value_of}
use Rattle.lattice.specs.declared.search.Window.{Window}
use Rattle.lattice.specs.declared.near.Near.{Near}
use Rattle.lattice.specs.declared.near.Near.TheVariants.{Nothing, One, Two}
use Rattle.lattice.proofs.Sides.{nn_moved, nn_pair, nn_times}
use Rattle.lattice.proofs.Fitting.{below_field}
use Rattle.lattice.proofs.Placed.{Placed, NearFrom, NearTo, shifted, placed_at, place_of, from_same, to_same, place_from, place_to, to_place, from_place}

from_eq : (c d k p r t s e : ℕ) (low : ℤ) → low ≡ pos r -ℤ pos (2 * t) → e ≡ d → s ≡ d * t → pos c *ℤ (pos p -ℤ pos k) -ℤ low *ℤ pos e ≡ pos (c * p + 2 * s) -ℤ pos (c * k + d * r)
from_eq c d k p r t s e low f g h = rw (f, g, h) (is_eq (is_sub (is_mul (is_lit c) (is_sub (is_lit p) (is_lit k))) (is_mul (is_sub (is_lit r) (is_lit (2 * t))) (is_lit d))) (is_sub (is_lit (c * p + 2 * (d * t))) (is_lit (c * k + d * r))) (omega arith))

from_root_eq : (c j k : ℕ) → pos c *ℤ (pos j -ℤ pos k) ≡ pos (c * j) -ℤ pos (c * k)
from_root_eq c j k = is_eq (is_mul (is_lit c) (is_sub (is_lit j) (is_lit k))) (is_sub (is_lit (c * j)) (is_lit (c * k))) (omega arith)

to_eq : (c d k p r e : ℕ) (top : ℤ) → top ≡ pos r → e ≡ d → top *ℤ pos e -ℤ pos c *ℤ (pos p -ℤ pos k) ≡ pos (d * r + c * k) -ℤ pos (c * p)
to_eq c d k p r e top f g = rw (f, g) (is_eq (is_sub (is_mul (is_lit r) (is_lit d)) (is_mul (is_lit c) (is_sub (is_lit p) (is_lit k)))) (is_sub (is_lit (d * r + c * k)) (is_lit (c * p))) (omega arith))

to_neg_eq : (c d k p q e : ℕ) (top : ℤ) → top ≡ neg_ℤ (pos q) → e ≡ d → top *ℤ pos e -ℤ pos c *ℤ (pos p -ℤ pos k) ≡ pos (c * k) -ℤ pos (q * d + c * p)
to_neg_eq c d k p q e top f g = rw (f, g) (is_eq (is_sub (is_mul (is_neg (is_lit q)) (is_lit d)) (is_mul (is_lit c) (is_sub (is_lit p) (is_lit k)))) (is_sub (is_lit (c * k)) (is_lit (q * d + c * p))) (omega arith))

to_root_eq : (c j k : ℕ) → neg_ℤ (pos c *ℤ (pos j -ℤ pos k)) ≡ pos (c * k) -ℤ pos (c * j)
to_root_eq c j k = is_eq (is_neg (is_mul (is_lit c) (is_sub (is_lit j) (is_lit k)))) (is_sub (is_lit (c * k)) (is_lit (c * j))) (omega arith)

low_is : (x : ℤ) (t h r : ℕ) → pos r ≡ (x +ℤ pos t) +ℤ pos h → (x -ℤ pos t) +ℤ pos h ≡ pos r -ℤ pos (2 * t)
low_is x t h r e = omega (arith, ints)

-- the two ends of what is near, at a scale that begins at 0
abbrev pub low_end : Measures → ℤ → ℤ
low_end l x = (x -ℤ pos (l.tol * 1000000)) +ℤ pos 200000000000000

abbrev pub top_end : Measures → ℤ → ℤ
top_end l x = (x +ℤ pos (l.tol * 1000000)) +ℤ pos 200000000000000

abbrev pub window_of : ℕ → ℕ → ℕ → ℕ → Window
window_of d k t r = record { d = d; k = k; spread = d * (t * 1000000); reach = r }

-- a near value, by its whole numbers
pub record Stands (l : Measures) (m : ℕ) (x : ℤ) (u : ExactNumber) (n i j : ℕ) : Type 0 where
  pub placed : Placed l.d l.k m n i j u
  pub from : NearFrom 400000000000000 (low_end l x) (pos (n * l.d + i) -ℤ pos l.k) (pos j -ℤ pos l.k) (max 1 l.d)
  pub to : NearTo 400000000000000 (top_end l x) (pos (n * l.d + i) -ℤ pos l.k) (pos j -ℤ pos l.k) (max 1 l.d)

pub stand : (l : Measures) (m : ℕ) (x : ℤ) (u : ExactNumber) → IsLattice l → IsNearValue l m x u → (n i j : ℕ) × Stands l m x u n i j
stand l m x u b h =
    let n = h.0.0 in
    let i = shifted h.0.1 l.k h.0.3.a_small in
    let j = shifted h.0.2 l.k h.0.3.b_small in
    let place : IsPlace l m n (pos i.0 -ℤ pos l.k) (pos j.0 -ℤ pos l.k) u = subst (λ z. IsPlace l m n z (pos j.0 -ℤ pos l.k) u) i.1 (subst (λ z. IsPlace l m n h.0.1 z u) j.1 h.0.3) in
    let q = placed_at l m n i.0 j.0 u b.d_some i.2 j.2 place in
    let v : ExactNumber = value_of l.d l.k (n * l.d + i.0) j.0 in (
      n,
      i.0,
      j.0,
      record {
        placed = q;
        from = from_same 400000000000000 (low_end l x) u v q.value (from_place 400000000000000 200000000000000 (x -ℤ pos (l.tol * 1000000)) u h.1.from);
        to = to_same 400000000000000 (top_end l x) u v q.value (to_place 400000000000000 200000000000000 (x +ℤ pos (l.tol * 1000000)) u h.1.to);
      },
    )

pub fit : (l : Measures) (m : ℕ) (x : ℤ) (u : ExactNumber) (r n i j : ℕ) → IsLattice l → pos r ≡ top_end l x → Stands l m x u n i j → Fits (window_of l.d l.k l.tol r) n i j
fit l m x u r n i j b e s = record {
  i_small = s.placed.i_small;
  j_small = s.placed.j_small;
  from_zero = s.placed.from_zero;
  to_one = s.placed.to_one;
  from = record { side = nn_moved _ _ _ _ (from_eq 400000000000000 l.d l.k (n * l.d + i) r (l.tol * 1000000) (l.d * (l.tol * 1000000)) (max 1 l.d) (low_end l x) (low_is x (l.tol * 1000000) 200000000000000 r e) (omega (arith, b.d_some)) refl) (from_root_eq 400000000000000 j l.k) s.from };
  to = record { side = nn_moved _ _ _ _ (to_eq 400000000000000 l.d l.k (n * l.d + i) r (max 1 l.d) (top_end l x) (sym e) (omega (arith, b.d_some))) (to_root_eq 400000000000000 j l.k) s.to };
}

pub seen_value : (l : Measures) (m : ℕ) (x : ℤ) (r : ℕ) → IsLattice l → pos r ≡ top_end l x → (u : ExactNumber) → IsNearValue l m x u → IsSeenValue (window_of l.d l.k l.tol r) m u
seen_value l m x r b e u h =
    let s = stand l m x u b h in
    record { seen = (record { whole = s.0 * l.d + s.1; root = s.2 }, record { seen = (s.0, s.1, refl, fit l m x u r s.0 s.1 s.2 b e s.3, inl s.3.placed.below) }, s.3.placed.value) }

pub value_seen : (l : Measures) (m : ℕ) (x : ℤ) (r : ℕ) → IsLattice l → pos r ≡ top_end l x → (u : ExactNumber) → IsSeenValue (window_of l.d l.k l.tol r) m u → IsNearValue l m x u
value_seen l m x r b e u h =
    let s = h.seen.0 in
    let seen = h.seen.1.seen in
    let n = seen.0 in
    let i = seen.1 in
    let f = seen.3 in
    let v : ExactNumber = value_of l.d l.k (n * l.d + i) s.root in
    let same : Same u v = subst (λ p. Same u (value_of l.d l.k p s.root)) seen.2 h.seen.2 in
    let back = same_turned u v same in
    let placed : Placed l.d l.k m n i s.root u = record { below = elim seen.4 [ inl a ↦ a | inr a ↦ absurd (omega (arith, a.1)) ]; i_small = f.i_small; j_small = f.j_small; from_zero = f.from_zero; to_one = f.to_one; value = same } in (
      (n, pos i -ℤ pos l.k, pos s.root -ℤ pos l.k, place_of l m n i s.root u b.d_some placed),
      record {
        from = place_from 400000000000000 200000000000000 (x -ℤ pos (l.tol * 1000000)) u (from_same 400000000000000 (low_end l x) v u back
            (nn_moved _ _ _ _ (sym (from_eq 400000000000000 l.d l.k (n * l.d + i) r (l.tol * 1000000) (l.d * (l.tol * 1000000)) (max 1 l.d) (low_end l x) (low_is x (l.tol * 1000000) 200000000000000 r e) (omega (arith, b.d_some)) refl)) (sym (from_root_eq 400000000000000 s.root l.k)) f.from.side));
        to = place_to 400000000000000 200000000000000 (x +ℤ pos (l.tol * 1000000)) u (to_same 400000000000000 (top_end l x) v u back
            (nn_moved _ _ _ _ (sym (to_eq 400000000000000 l.d l.k (n * l.d + i) r (max 1 l.d) (top_end l x) (sym e) (omega (arith, b.d_some)))) (sym (to_root_eq 400000000000000 s.root l.k)) f.to.side));
      },
    )

-- the decimal is below the axis, or above it
pub below_axis : (l : Measures) (m : ℕ) (x : ℤ) (q : ℕ) → IsLattice l → top_end l x ≡ neg_ℤ (pos (suc q)) → (u : ExactNumber) → IsNearValue l m x u → ⊥
below_axis l m x q b e u h =
    let s = stand l m x u b h in
    let t = s.3 in
    let side : NotNegative (pos (400000000000000 * l.k) -ℤ pos (suc q * l.d + 400000000000000 * (s.0 * l.d + s.1))) (pos (400000000000000 * l.k) -ℤ pos (400000000000000 * s.2)) =
    nn_moved _ _ _ _ (to_neg_eq 400000000000000 l.d l.k (s.0 * l.d + s.1) (suc q) (max 1 l.d) (top_end l x) e (omega (arith, b.d_some))) (to_root_eq 400000000000000 s.2 l.k) t.to in
    let low = nn_pair (400000000000000 * s.1) (400000000000000 * l.k) (400000000000000 * l.k) (suc q * l.d + 400000000000000 * (s.0 * l.d + s.1)) (400000000000000 * s.2) (400000000000000 * l.k) (nn_times s.1 l.k s.2 l.k 400000000000000 (lit< tt) t.placed.from_zero.side) side in
    omega (arith, low, b.d_some)

high : (d n t r : ℕ) → 1 ≤ d → n < 8 → t ≤ 100000 → d * r ≤ d * ((n + 1) * 400000000000000) + 2 * (d * (t * 1000000)) → r ≤ 3600000000000000
high d n t r p q s h =
    let k : d * r ≤ d * ((n + 1) * 400000000000000 + 2 * (t * 1000000)) = omega (arith, h) in
    let g : r ≤ (n + 1) * 400000000000000 + 2 * (t * 1000000) = le_of_mul-le-mul_left k p in
    omega (arith, g)

pub above_axis : (l : Measures) (m : ℕ) (x : ℤ) (r : ℕ) → IsLattice l → m ≤ 8 → pos r ≡ top_end l x → 3600000000000000 < r → (u : ExactNumber) → IsNearValue l m x u → ⊥
above_axis l m x r b small e far u h =
    let s = stand l m x u b h in
    let reach = high l.d s.0 l.tol r b.d_some (omega (arith, s.3.placed.below, small)) b.tol_small (below_field (window_of l.d l.k l.tol r) s.0 s.1 s.2 (fit l m x u r s.0 s.1 s.2 b e s.3)) in
    omega (arith, reach, far)

pub off_axis : (l : Measures) (m : ℕ) (x z : ℤ) → IsLattice l → m ≤ 8 → z ≡ top_end l x → (z <ℤ pos 0) ⊎ (pos 3600000000000000 <ℤ z) → (u : ExactNumber) → IsNearValue l m x u → ⊥
off_axis l m x (pos r) b small e far = elim far [ inl a ↦ absurd (omega (arith, ints, a)) | inr a ↦ above_axis l m x r b small e (omega (arith, ints, a)) ]
off_axis l m x (negsuc q) b small e far = below_axis l m x q b (sym e)

end_is : (l : Measures) (x y : ℤ) (t : ℕ) → y ≡ x → t ≡ l.tol → (y +ℤ pos (t * 1000000)) +ℤ pos 200000000000000 ≡ top_end l x
end_is l x y t e f = rw (e, f) refl

pub finish_none : (l : Measures) (m : ℕ) (x y : ℤ) (t : ℕ) → IsLattice l → m ≤ 8 → y ≡ x → t ≡ l.tol
    → (((y +ℤ pos (t * 1000000)) +ℤ pos 200000000000000) <ℤ pos 0) ⊎ (pos 3600000000000000 <ℤ ((y +ℤ pos (t * 1000000)) +ℤ pos 200000000000000)) → (u : ExactNumber) → IsNearValue l m x u → ⊥
finish_none l m x y t b small e f far = off_axis l m x ((y +ℤ pos (t * 1000000)) +ℤ pos 200000000000000) b small (end_is l x y t e f) far

-- an answer is that of the set
answer_same : (V W : ExactNumber → Type 0) (r : Near) → ((v : ExactNumber) → V v → W v) → ((v : ExactNumber) → W v → V v) → IsAnswerOf V r → IsAnswerOf W r
answer_same V W Nothing to from h = λ v w. h v (from v w)
answer_same V W (One u) to from h = (to u h.0, λ v w. h.1 v (from v w))
answer_same V W (Two u z) to from h = (to u h.0, to z h.1, h.2, λ v w. h.3 v (from v w))

pub finish_some : (l : Measures) (m : ℕ) (x y : ℤ) (d k t r : ℕ) (a : Near) → IsLattice l → y ≡ x → t ≡ l.tol → d ≡ l.d → k ≡ l.k → pos r ≡ (y +ℤ pos (t * 1000000)) +ℤ pos 200000000000000
    → IsAnswerOf (IsSeenValue (window_of d k t r) m) a → IsAnswer l m x a
finish_some l m x y d k t r a b ey et ed ek er h =
    let e : pos r ≡ top_end l x = rw (ey, et) at er in
    answer_same (IsSeenValue (window_of l.d l.k l.tol r) m) (IsNearValue l m x) a (value_seen l m x r b e) (seen_value l m x r b e)
    (subst (λ n. IsAnswerOf (IsSeenValue (window_of n l.k l.tol r) m) a) ed (subst (λ n. IsAnswerOf (IsSeenValue (window_of d n l.tol r) m) a) ek (subst (λ n. IsAnswerOf (IsSeenValue (window_of d k n r) m) a) et h)))
