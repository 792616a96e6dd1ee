-- A number of any size made of a reduced triple.
use Rattle.std.proofs.Common.{◌≡◌, ℕ, ◌*◌, ◌<◌, ◌≤◌, ◌^◌, arith, ap, ◌∙◌}
use Rattle.std.specs.Prelude.{ℤ, unsigned_abs}
use Rattle.std.specs.Int.{cast_signed, cast_unsigned, w128}
use Rattle.std.proofs.Math.Nat.{mul-le-mul_left}
use Rattle.std.proofs.lemmas.Int.{to_z-of_z, fits_signed_from_abs}
use Rattle.exact.specs.Number.{ExactNumber, Same}
use Rattle.qroot2.specs.Num.{Reduces, signed}
use Rattle.qroot2.specs.Lowest.{IsInLowestTerms}
use Rattle.qroot2.proofs.callers.Made.{abs_signed, same_small, low, above}

held_back : (z r : ℤ) (s : ℕ) → s ≤ 2 ^ 120 → r ≡ signed z s → cast_signed w128 (cast_unsigned w128 r) ≡ signed z s
held_back z r s h e =
    let size : unsigned_abs r ≡ s = ap unsigned_abs e ∙ abs_signed z s in
    to_z-of_z w128 r (fits_signed_from_abs w128 r (omega (arith, size))) ∙ e

part_fits : (n x g : ℕ) → 0 < g → n ≡ x * g → n ≤ 2 ^ 120 → x ≤ 2 ^ 120
part_fits n x g p e h = (let more : x * 1 ≤ x * g = mul-le-mul_left x (omega arith) in omega (arith, e, more))

pub in_lowest_terms : (a b r s : ℤ) (d x y z : ℕ) → 0 < d → Reduces (unsigned_abs a) (unsigned_abs b) d x y z → unsigned_abs a ≤ 2 ^ 120 → unsigned_abs b ≤ 2 ^ 120 → r ≡ signed a x → s ≡ signed b y
    → (let n : ExactNumber = record { a = cast_signed w128 (cast_unsigned w128 r); b = cast_signed w128 (cast_unsigned w128 s); d = z } in Same n (record { a = a; b = b; d = d }) × IsInLowestTerms n)
in_lowest_terms a b r s d x y z p h hx hy e f =
    rw (held_back a r x (part_fits (unsigned_abs a) x h.factor.0 h.factor.1 h.factor.2 hx) e, held_back b s y (part_fits (unsigned_abs b) y h.factor.0 h.factor.1 h.factor.3 hy) f) (same_small a b d x y z p h, record { positive = above z h.factor.0 d p h.factor.4; lowest = low a b x y z h.lowest })
