-- Numbers in sixteenths, after they passed through calls.
use Rattle.std.proofs.Common.{◌≡◌, ℕ, ◌*◌, ◌≤◌, arith, refl, subst}
use Rattle.std.specs.Prelude.{ℤ, pos, ◌+ℤ◌, ◌*ℤ◌, unsigned_abs}
use Rattle.std.proofs.lemmas.Int.{ints, unsigned_abs-mul}
use Rattle.std.proofs.Math.Nat.{mul-le-mul}
use Rattle.exact.specs.Number.{ExactNumber, Same, add, mul}
use Rattle.exact.proofs.Ring.{is_eq, is_add, is_mul, is_atom, is_lit}
use Rattle.exact.proofs.Told.{same_on}
use Rattle.exact.proofs.Unique.{triple}
use Rattle.lattice.specs.Lattice.{fraction}
use Rattle.qroot2.specs.Wide.{Pair, pair_number}
use Rattle.qroot2.proofs.callers.Held.{through, held_128}
use Rattle.generator.specs.Turns.{sixteenths}

part_small : (n : ℕ) (a : ℤ) → n ≤ 16 → unsigned_abs a ≤ 1 → unsigned_abs (pos n *ℤ a) ≤ 16
part_small n a h k = let e = unsigned_abs-mul (pos n) a in let m : n * unsigned_abs a ≤ 16 * 1 = mul-le-mul h k in omega (arith, e, m)

-- a part, and the number that lies a part ahead
pub part_held : (n : ℕ) (r s a : ℤ) → r ≡ pos n → s ≡ a → n ≤ 16 → unsigned_abs a ≤ 1 → through (through r *ℤ through s) ≡ pos n *ℤ a
part_held n r s a e f h k =
    rw (e, f, held_128 (pos n) (omega arith), held_128 a (omega arith)) (held_128 (pos n *ℤ a) (omega (arith, part_small n a h k)))

pub place_held : (i n : ℕ) (q r s a : ℤ) → q ≡ pos i → r ≡ pos n → s ≡ a → i ≤ 16 → n ≤ 16 → unsigned_abs a ≤ 1 → through (through q +ℤ through (through r *ℤ through s)) ≡ pos i +ℤ pos n *ℤ a
place_held i n q r s a d e f g h k =
    rw (part_held n r s a e f h k, d, held_128 (pos i) (omega arith)) (held_128 (pos i +ℤ pos n *ℤ a) (omega (arith, ints, part_small n a h k)))

-- the sum over sixteen is the sum of the numbers
same_sum : (i n : ℕ) (p : Pair) → Same (fraction (pos i +ℤ pos n *ℤ p.a) (pos n *ℤ p.b) 16) (add (sixteenths i) (mul (sixteenths n) (pair_number p)))
same_sum i n p = record {
  a = is_eq (is_mul (is_add (is_lit i) (is_mul (is_lit n) (is_atom p.a))) (is_lit 256))
      (is_mul (is_add (is_mul (is_lit i) (is_lit 16)) (is_mul (is_add (is_mul (is_lit n) (is_atom p.a)) (is_mul (is_lit 2) (is_mul (is_lit 0) (is_atom p.b)))) (is_lit 16))) (is_lit 16)) (omega arith);
  b = is_eq (is_mul (is_mul (is_lit n) (is_atom p.b)) (is_lit 256))
      (is_mul (is_add (is_mul (is_lit 0) (is_lit 16)) (is_mul (is_add (is_mul (is_lit n) (is_atom p.b)) (is_mul (is_lit 0) (is_atom p.a))) (is_lit 16))) (is_lit 16)) (omega arith);
}

pub same_ahead : (r : ExactNumber) (i n : ℕ) (p : Pair) (a b : ℤ) → a ≡ pos i +ℤ pos n *ℤ p.a → b ≡ pos n *ℤ p.b → Same r (fraction a b 16) → Same r (add (sixteenths i) (mul (sixteenths n) (pair_number p)))
same_ahead r i n p a b e f h = same_on r _ _ (subst (λ (z : ExactNumber). Same r z) (triple _ _ _ _ 16 16 e f refl) h) (same_sum i n p)
