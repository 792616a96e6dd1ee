-- How large the parts of numbers become under the operations of the ring, and those of points that can be held.
use Rattle.std.proofs.Common.{◌≡◌, ℕ, zero, suc, ◌+◌, ◌*◌, ◌/◌, ◌%◌, ◌≤◌, arith, ap, ◌∙◌}
use Rattle.std.specs.Prelude.{ℤ, pos, negsuc, ◌+ℤ◌, ◌*ℤ◌, unsigned_abs}
use Rattle.std.proofs.lemmas.Int.{ints, unsigned_abs-mul}
use Rattle.std.proofs.lemmas.Nat.{mul-le}
use Rattle.exact.specs.Plane.{ExactPoint, vector, first_vector, quarters}
use Rattle.geometry.specs.Root.{Root, plus, times, minus, count, size}
use Rattle.geometry.specs.Gap.{num, det}
use Rattle.geometry.proofs.RootRing.{both}
use Rattle.geometry.proofs.Gap.{scale}
use Rattle.exact.proofs.Ring.{neg_size}

pub sum_size : (x y : ℤ) → unsigned_abs (x +ℤ y) ≤ unsigned_abs x + unsigned_abs y
sum_size x y = omega (arith, ints)

pub size_plus : (x y : Root) → size (plus x y) ≤ size x + size y
unfolding plus
size_plus x y = omega (arith, sum_size x.a y.a, sum_size x.b y.b)

pub size_minus : (x : Root) → size (minus x) ≡ size x
unfolding minus
size_minus x = omega (arith, neg_size x.a, neg_size x.b)

pub size_times : (x y : Root) → size (times x y) ≤ 2 * (size x * size y)
unfolding times
size_times x y = omega (
  arith,
  sum_size (x.a *ℤ y.a) (pos 2 *ℤ (x.b *ℤ y.b)),
  sum_size (x.a *ℤ y.b) (x.b *ℤ y.a),
  unsigned_abs-mul x.a y.a,
  unsigned_abs-mul (pos 2) (x.b *ℤ y.b),
  unsigned_abs-mul x.b y.b,
  unsigned_abs-mul x.a y.b,
  unsigned_abs-mul x.b y.a,
)

pub size_scaled : (x : Root) (n : ℕ) → size (times x (count n)) ≡ size x * n
size_scaled x n = ap size (scale x n) ∙ (let e : unsigned_abs (x.a *ℤ pos n) + unsigned_abs (x.b *ℤ pos n) ≡ size x * n = omega (arith, unsigned_abs-mul x.a (pos n), unsigned_abs-mul x.b (pos n)) in e)

-- a product, by bounds on its factors
pub times_within : (x y : Root) (m n : ℕ) → size x ≤ m → size y ≤ n → size (times x y) ≤ 2 * (m * n)
times_within x y m n h k = omega (arith, size_times x y, mul-le (size x) (size y) m n h k)

pub scaled_within : (x : Root) (k m n : ℕ) → size x ≤ m → k ≤ n → size (times x (count k)) ≤ m * n
scaled_within x k m n h l = omega (arith, size_scaled x k, mul-le (size x) k m n h l)

-- the vectors of directions have small parts
first_small : (k : ℕ) → (size (num (first_vector k).x) ≤ 2) × (size (num (first_vector k).y) ≤ 2)
unfolding num
first_small zero = (omega arith, omega arith)
first_small (suc zero) = (omega arith, omega arith)
first_small (suc (suc zero)) = (omega arith, omega arith)
first_small (suc (suc (suc k))) = (omega arith, omega arith)

quarters_small : (n : ℕ) (p : ExactPoint) → (size (num p.x) ≤ 2) × (size (num p.y) ≤ 2) → (size (num (quarters n p).x) ≤ 2) × (size (num (quarters n p).y) ≤ 2)
unfolding num
quarters_small zero p h = h
quarters_small (suc n) p h = (let g = quarters_small n p h in (omega (arith, g.1, neg_size (quarters n p).y.a, neg_size (quarters n p).y.b), g.0))

pub vector_small : (k : ℕ) → (size (num (vector k).x) ≤ 2) × (size (num (vector k).y) ≤ 2)
vector_small k = quarters_small (k / 4) (first_vector (k % 4)) (first_small (k % 4))

pub det_within : (k j : ℕ) → size (det (vector j) (vector k)) ≤ 16
unfolding det
det_within k j = (let v = vector_small k in let w = vector_small j in omega (
  arith,
  size_plus (times (num (vector j).x) (num (vector k).y)) (minus (times (num (vector j).y) (num (vector k).x))),
  size_minus (times (num (vector j).y) (num (vector k).x)),
  times_within (num (vector j).x) (num (vector k).y) 2 2 w.0 v.1,
  times_within (num (vector j).y) (num (vector k).x) 2 2 w.1 v.0,
))

-- how far a way leads to the left of a direction
pub turned_within : (k : ℕ) (x y : Root) (n : ℕ) → size x ≤ n → size y ≤ n → size (plus (times (num (vector k).x) y) (minus (times (num (vector k).y) x))) ≤ 8 * n
turned_within k x y n h l = (let v = vector_small k in omega (
  arith,
  size_plus (times (num (vector k).x) y) (minus (times (num (vector k).y) x)),
  size_minus (times (num (vector k).y) x),
  times_within (num (vector k).x) y 2 n v.0 l,
  times_within (num (vector k).y) x 2 n v.1 h,
))

-- only zero has no size
pub no_size : (x : Root) → size x ≡ 0 → x ≡ count 0
unfolding count
no_size x e = both x (count 0) (abs_zero x.a (omega arith)) (abs_zero x.b (omega arith))
  where
    abs_zero : (z : ℤ) → unsigned_abs z ≡ 0 → z ≡ pos 0
    abs_zero (pos n) e = ap pos e
    abs_zero (negsuc n) e = absurd (omega arith)
