-- The place of a point by numerators, as code computes it.
use Rattle.std.proofs.Common.{◌≡◌, ℕ, ◌<◌, sym, ap, subst, ◌∙◌, arith}
use Rattle.std.specs.Prelude.{ℤ}
use Rattle.exact.specs.Number.{ExactNumber, Same, den, sub}
use Rattle.exact.specs.Plane.{ExactPoint, vector, turn}
use Rattle.exact.proofs.Unique.{same_trans}
use Rattle.qroot2.specs.Wide.{Pair}
use Rattle.geometry.specs.Root.{times, count}
use Rattle.geometry.specs.Gap.{num, dn}
use Rattle.geometry.proofs.Gap.{num_same, dn_sub}
use Rattle.plane.specs.Ways.{root, offset_of}
use Rattle.plane.proofs.callers.Supports.{turn_num, turn_dn}
use Rattle.exact.proofs.Order.{same_turned}

-- what the turn to a point is, by its numerator and its denominator
pub turn_made : (k : ℕ) (p : ExactPoint) (off : Pair) (n : ℕ) → 0 < n → root off ≡ offset_of k (times (num p.x) (dn p.y)) (times (num p.y) (dn p.x)) → count n ≡ times (dn p.x) (dn p.y)
    → (let r : ExactNumber = record { a = off.a; b = off.b; d = n } in Same r (turn (vector k) p))
unfolding num dn
turn_made k p off n h e f =
    let r : ExactNumber = record { a = off.a; b = off.b; d = n } in
    let top : num r ≡ num (turn (vector k) p) = e ∙ sym (turn_num k p) in
    let whole : den r ≡ n = omega (arith, h) in
    let down : dn r ≡ dn (turn (vector k) p) = ap count whole ∙ f ∙ sym (turn_dn k p) in
    num_same r (turn (vector k) p) (ap (λ t. times t (dn (turn (vector k) p))) top ∙ ap (times (num (turn (vector k) p))) (sym down))

-- the offset of a support line, in lowest terms
pub offset_made : (k : ℕ) (p q s : ExactPoint) (off : Pair) (a b : ℤ) (n : ℕ) (low : ExactNumber) → a ≡ off.a → b ≡ off.b → n ≡ den (sub q.x q.y) → q ≡ p → p ≡ s
    → root off ≡ offset_of k (times (num p.x) (dn p.y)) (times (num p.y) (dn p.x)) → (let r : ExactNumber = record { a = a; b = b; d = n } in Same low r) → Same low (turn (vector k) s)
unfolding dn
offset_made k p q s off a b n low e f g h i o same =
    let r : ExactNumber = record { a = off.a; b = off.b; d = n } in
    let below : n ≡ den (sub p.x p.y) = g ∙ ap (λ (t : ExactPoint). den (sub t.x t.y)) h in
    let here : Same low r = rw (e, f) at same in
    let made : Same r (turn (vector k) p) = turn_made k p off n (omega (arith, below)) o (ap count below ∙ dn_sub p.x p.y) in
    subst (λ (t : ExactPoint). Same low (turn (vector k) t)) i (same_trans r low (turn (vector k) p) (same_turned low r here) made)
