-- The turn of two vectors from the products of their parts.
use Rattle.std.proofs.Common.{◌≡◌, arith, refl, ◌∙◌}
use Rattle.std.specs.Prelude.{ℤ, pos, neg_ℤ, ◌+ℤ◌, ◌-ℤ◌, ◌*ℤ◌}
use Rattle.exact.specs.Number.{sub}
use Rattle.exact.specs.Plane.{ExactPoint, turn}
use Rattle.exact.proofs.Ring.{is_eq, is_add, is_sub, is_mul, is_neg, is_atom, is_lit}
use Rattle.exact.proofs.Unique.{triple}
use Rattle.qroot2.specs.Wide.{Pair, pair_number, pair_mul, pair_sub}

over_one : (x y : ℤ) → x -ℤ y ≡ x *ℤ pos 1 +ℤ neg_ℤ y *ℤ pos 1
over_one x y = is_eq (is_sub (is_atom x) (is_atom y)) (is_add (is_mul (is_atom x) (is_lit 1)) (is_mul (is_neg (is_atom y)) (is_lit 1))) (omega arith)

difference_number : (x y : Pair) → pair_number (pair_sub x y) ≡ sub (pair_number x) (pair_number y)
difference_number x y = triple _ _ _ _ _ _ (over_one x.a y.a) (over_one x.b y.b) refl

pub turn_number : (x y u v r s t : Pair) (w z : ExactPoint) → pair_number x ≡ w.x → pair_number y ≡ w.y → pair_number u ≡ z.x → pair_number v ≡ z.y
    → r ≡ pair_mul x v → s ≡ pair_mul y u → t ≡ pair_sub r s → pair_number t ≡ turn w z
turn_number x y u v r s t w z e f g h i j k = rw (k, i, j, ← e, ← f, ← g, ← h) (difference_number (pair_mul x v) (pair_mul y u) ∙ refl)
