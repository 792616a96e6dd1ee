use Rattle.std.specs.Prelude.{◌≡◌, ℕ, ℤ, pos, ◌+◌, ◌*◌, ◌≤◌, ◌<◌, ◌+ℤ◌, ◌-ℤ◌, ◌*ℤ◌, ◌<ℤ◌, ◌≤ℤ◌, neg_ℤ, unsigned_abs}
use Rattle.std.proofs.Common.{arith, ap}
use Rattle.std.proofs.lemmas.Int.{ints}
use borrow.Author.Differences.{up, down, same_in, sum_is_lem, product_is, neg_is, below_in, at_most_in}

-- z is p - n
pub record Is (z : ℤ) (p n : ℕ) : Type 0 where
  pub is : up z + n ≡ down z + p

pub is_atom : (z : ℤ) → Is z (up z) (down z)
is_atom z = record { is = omega arith }

pub is_lit : (n : ℕ) → Is (pos n) n 0
is_lit n = record { is = omega arith }

pub is_add : {a b : ℤ} {p n q m : ℕ} → Is a p n → Is b q m → Is (a +ℤ b) (p + q) (n + m)
is_add {a} {b} {p} {n} {q} {m} h k = record { is = omega (arith, h.is, k.is, sum_is_lem a b) }

pub is_neg : {a : ℤ} {p n : ℕ} → Is a p n → Is (neg_ℤ a) n p
is_neg {a} {p} {n} h = record { is = omega (arith, h.is, neg_is a) }

pub is_sub : {a b : ℤ} {p n q m : ℕ} → Is a p n → Is b q m → Is (a -ℤ b) (p + m) (n + q)
is_sub {a} {b} {p} {n} {q} {m} h k = is_add h (is_neg k)

cross : (u d p n x : ℕ) → u + n ≡ d + p → u * x + n * x ≡ d * x + p * x
cross u d p n x h = let e : (u + n) * x ≡ (d + p) * x = ap (λ (t : ℕ). t * x) h in omega (arith, e)

pub is_mul : {a b : ℤ} {p n q m : ℕ} → Is a p n → Is b q m → Is (a *ℤ b) (p * q + n * m) (p * m + n * q)
is_mul {a} {b} {p} {n} {q} {m} h k = record { is = omega (arith, product_is a b, cross (up a) (down a) p n (up b) h.is, cross (up a) (down a) p n (down b) h.is, cross (up b) (down b) q m p k.is, cross (up b) (down b) q m n k.is) }

pub is_eq : {a b : ℤ} {p n q m : ℕ} → Is a p n → Is b q m → p + m ≡ q + n → a ≡ b
is_eq {a} {b} {p} {n} {q} {m} h k e = same_in a b (omega (arith, h.is, k.is))

pub is_le : {a b : ℤ} {p n q m : ℕ} → Is a p n → Is b q m → p + m ≤ q + n → a ≤ℤ b
is_le {a} {b} {p} {n} {q} {m} h k e = at_most_in a b (omega (arith, h.is, k.is))

pub dist : (a b c : ℤ) → a *ℤ (b +ℤ c) ≡ a *ℤ b +ℤ a *ℤ c
dist a b c = is_eq (is_mul (is_atom a) (is_add (is_atom b) (is_atom c))) (is_add (is_mul (is_atom a) (is_atom b)) (is_mul (is_atom a) (is_atom c))) (omega arith)

-- norm is multiplicative
pub norm : (a b c d : ℤ) → (a *ℤ c +ℤ pos 2 *ℤ (b *ℤ d)) *ℤ (a *ℤ c +ℤ pos 2 *ℤ (b *ℤ d)) -ℤ pos 2 *ℤ ((a *ℤ d +ℤ b *ℤ c) *ℤ (a *ℤ d +ℤ b *ℤ c)) ≡ (a *ℤ a -ℤ pos 2 *ℤ (b *ℤ b)) *ℤ (c *ℤ c -ℤ pos 2 *ℤ (d *ℤ d))
norm a b c d =
    let A = is_atom a in let B = is_atom b in let C = is_atom c in let D = is_atom d in let two = is_lit 2 in
    let P = is_add (is_mul A C) (is_mul two (is_mul B D)) in
    let Q = is_add (is_mul A D) (is_mul B C) in
    is_eq (is_sub (is_mul P P) (is_mul two (is_mul Q Q)))
    (is_mul (is_sub (is_mul A A) (is_mul two (is_mul B B))) (is_sub (is_mul C C) (is_mul two (is_mul D D))))
    (omega arith)

pub is_lt : {a b : ℤ} {p n q m : ℕ} → Is a p n → Is b q m → p + m < q + n → a <ℤ b
is_lt {a} {b} {p} {n} {q} {m} h k e = below_in a b (omega (arith, h.is, k.is))

pub neg_size : (x : ℤ) → unsigned_abs (neg_ℤ x) ≡ unsigned_abs x
neg_size x = omega (arith, ints)

-- a number against the whole number 0
pub over_one : (a : ℤ) (n : ℕ) → a *ℤ pos 1 -ℤ pos 0 *ℤ pos n ≡ a
over_one a n = is_eq (is_sub (is_mul (is_atom a) (is_lit 1)) (is_mul (is_lit 0) (is_lit n))) (is_atom a) (omega arith)
