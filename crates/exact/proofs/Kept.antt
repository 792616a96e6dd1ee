-- The order is kept by adding one number to both sides, and by a positive factor.
use Rattle.std.proofs.Common.{◌≡◌, ℕ, zero, suc, ◌*◌, ◌<◌, max, arith}
use Rattle.std.specs.Prelude.{ℤ, pos, ◌+ℤ◌, ◌-ℤ◌, ◌*ℤ◌}
use Rattle.exact.specs.Number.{ExactNumber, den, Less, Positive, add, mul}
use Rattle.exact.proofs.Ring.{is_add, is_sub, is_lit, is_atom, is_mul, is_eq}
use Rattle.exact.proofs.Positive.{moved, scaled}
use Rattle.exact.proofs.Products.{positive_product, whole_part, root_part}

-- a product of denominators is a denominator
pub tall : (m n : ℕ) → 0 < m → 0 < n → max 1 (m * n) ≡ m * n
tall zero n p q = absurd (omega arith)
tall (suc m) zero p q = absurd (omega arith)
tall (suc m) (suc n) p q = omega arith

pub den_above : (x : ExactNumber) → 0 < den x
den_above x = omega arith

den_product : (x z : ExactNumber) → max 1 (den x * den z) ≡ den x * den z
den_product x z = tall (den x) (den z) (den_above x) (den_above z)

-- y + z less x + z is y less x
added : (x y z : ℤ) (d e f : ℕ) → (y *ℤ pos f +ℤ z *ℤ pos e) *ℤ pos (d * f) -ℤ (x *ℤ pos f +ℤ z *ℤ pos d) *ℤ pos (e * f) ≡ (y *ℤ pos d -ℤ x *ℤ pos e) *ℤ pos (f * f)
added x y z d e f =
    let X = is_atom x in let Y = is_atom y in let Z = is_atom z in let D = is_lit d in let E = is_lit e in let F = is_lit f in
    is_eq (is_sub (is_mul (is_add (is_mul Y F) (is_mul Z E)) (is_lit (d * f))) (is_mul (is_add (is_mul X F) (is_mul Z D)) (is_lit (e * f))))
    (is_mul (is_sub (is_mul Y D) (is_mul X E)) (is_lit (f * f))) (omega arith)

square_above : (n : ℕ) → 0 < n → 0 < n * n
square_above zero h = absurd (omega arith)
square_above (suc n) h = omega arith

pub less_add : (x y z : ExactNumber) → Less x y → Less (add x z) (add y z)
less_add x y z h = rw (den_product x z, den_product y z)
    (moved _ _ _ _ (added x.a y.a z.a (den x) (den y) (den z)) (added x.b y.b z.b (den x) (den y) (den z))
    (scaled _ _ (den z * den z) (square_above (den z) (den_above z)) h))

-- y z less x z is y less x, times z
factored_whole : (xa xb ya yb a b : ℤ) (d e f : ℕ) → whole_part ya yb a b *ℤ pos (d * f) -ℤ whole_part xa xb a b *ℤ pos (e * f) ≡ whole_part (ya *ℤ pos d -ℤ xa *ℤ pos e) (yb *ℤ pos d -ℤ xb *ℤ pos e) a b *ℤ pos f
factored_whole xa xb ya yb a b d e f =
    let X = is_atom xa in let U = is_atom xb in let Y = is_atom ya in let V = is_atom yb in let A = is_atom a in let B = is_atom b in let D = is_lit d in let E = is_lit e in let F = is_lit f in let two = is_lit 2 in
    is_eq (is_sub (is_mul (is_add (is_mul Y A) (is_mul two (is_mul V B))) (is_lit (d * f))) (is_mul (is_add (is_mul X A) (is_mul two (is_mul U B))) (is_lit (e * f))))
    (is_mul (is_add (is_mul (is_sub (is_mul Y D) (is_mul X E)) A) (is_mul two (is_mul (is_sub (is_mul V D) (is_mul U E)) B))) F) (omega arith)

factored_root : (xa xb ya yb a b : ℤ) (d e f : ℕ) → root_part ya yb a b *ℤ pos (d * f) -ℤ root_part xa xb a b *ℤ pos (e * f) ≡ root_part (ya *ℤ pos d -ℤ xa *ℤ pos e) (yb *ℤ pos d -ℤ xb *ℤ pos e) a b *ℤ pos f
factored_root xa xb ya yb a b d e f =
    let X = is_atom xa in let U = is_atom xb in let Y = is_atom ya in let V = is_atom yb in let A = is_atom a in let B = is_atom b in let D = is_lit d in let E = is_lit e in let F = is_lit f in
    is_eq (is_sub (is_mul (is_add (is_mul Y B) (is_mul V A)) (is_lit (d * f))) (is_mul (is_add (is_mul X B) (is_mul U A)) (is_lit (e * f))))
    (is_mul (is_add (is_mul (is_sub (is_mul Y D) (is_mul X E)) B) (is_mul (is_sub (is_mul V D) (is_mul U E)) A)) F) (omega arith)

pub less_mul : (x y z : ExactNumber) → Positive z.a z.b → Less x y → Less (mul x z) (mul y z)
less_mul x y z p h = rw (den_product x z, den_product y z)
    (moved _ _ _ _ (factored_whole x.a x.b y.a y.b z.a z.b (den x) (den y) (den z)) (factored_root x.a x.b y.a y.b z.a z.b (den x) (den y) (den z))
    (scaled _ _ (den z) (den_above z) (positive_product _ _ z.a z.b h p)))
