-- The number of a pair can be held, and differences that pass through calls.
use Rattle.std.proofs.Common.{◌≡◌, ℕ, suc, ◌*◌, ◌/◌, ◌<◌, ◌≤◌, ◌^◌, refl, arith, Option, Some, None}
use Rattle.std.specs.Prelude.{ℤ, pos, ◌-ℤ◌, unsigned_abs, IfNone, IsSome}
use Rattle.std.proofs.Math.Nat.{mul-le-mul_left}
use Rattle.std.proofs.lemmas.Int.{ints}
use Rattle.exact.specs.Number.{ExactNumber, IsRepresentable}
use Rattle.exact.proofs.Lowest.{scales}
use Rattle.exact.proofs.Order.{same_turned}
use Rattle.qroot2.proofs.callers.Held.{through, held_128}
use Rattle.qroot2.proofs.callers.Reduced.{reduced}
use Rattle.qroot2.proofs.callers.Made.{small, same_small, low, above, abs_signed}

part_small : (n x g k : ℕ) → 0 < g → n ≡ x * g → n ≤ k → x ≤ k
part_small n x g k p e h = (let more : x * 1 ≤ x * g = mul-le-mul_left x (omega arith) in omega (arith, e, more))

pub representable : (a b : ℤ) (d : ℕ) → 0 < d → unsigned_abs a ≤ 2 ^ 48 → unsigned_abs b ≤ 2 ^ 48 → d ≤ 2 ^ 20 → IsRepresentable (record { a = a; b = b; d = d })
representable a b d p ha hb hd =
    let r = scales (suc d) (unsigned_abs a) d (omega arith) in
    let s = scales (suc r.g) (unsigned_abs b) r.g (omega arith) in
    let h = reduced (unsigned_abs a) (unsigned_abs b) d r.g s.g p r.here s.here in
    let x = unsigned_abs a / s.g in
    let y = unsigned_abs b / s.g in
    let z = d / s.g in (
      small a b x y z,
      same_turned (small a b x y z) (record { a = a; b = b; d = d }) (same_small a b d x y z p h),
      record {
        positive = above z h.factor.0 d p h.factor.4;
        lowest = low a b x y z h.lowest;
        a = omega (arith, abs_signed a x, part_small (unsigned_abs a) x h.factor.0 (2 ^ 48) h.factor.1 h.factor.2 ha);
        b = omega (arith, abs_signed b y, part_small (unsigned_abs b) y h.factor.0 (2 ^ 48) h.factor.1 h.factor.3 hb);
        d = part_small d z h.factor.0 (2 ^ 20) h.factor.1 h.factor.4 hd;
      },
    )

pub is_some : (o : Option ExactNumber) (w : ExactNumber) → IsRepresentable w → IfNone o (IsRepresentable w → ⊥) → IsSome o
is_some None w r f = absurd (f r)
is_some (Some x) w r f = refl

pub minus : (r s : ℤ) (a c : ℕ) → r ≡ pos a → s ≡ pos c → a ≤ 2 ^ 20 → c ≤ 2 ^ 20 → through r -ℤ through s ≡ pos a -ℤ pos c
minus r s a c e f h k = rw (e, f, held_128 (pos a) (omega arith), held_128 (pos c) (omega arith)) refl

pub minus_small : (r s : ℤ) (a c : ℕ) → r ≡ pos a → s ≡ pos c → a ≤ 2 ^ 20 → c ≤ 2 ^ 20 → unsigned_abs (through r -ℤ through s) ≤ 2 ^ 120
minus_small r s a c e f h k = rw (minus r s a c e f h k) (omega (arith, ints))

pub whole_small : (r : ℤ) (d : ℕ) → r ≡ pos d → d ≤ 2 ^ 20 → unsigned_abs r ≤ 2 ^ 120
whole_small r d e h = rw e (omega arith)

pub gap_small : (a c : ℕ) → a ≤ 2 ^ 20 → c ≤ 2 ^ 20 → unsigned_abs (pos a -ℤ pos c) ≤ 2 ^ 48
gap_small a c h k = omega (arith, ints)
