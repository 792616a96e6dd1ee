-- The side of a line, by the turn of the definition.
use Rattle.std.proofs.Common.{◌≡◌, ℕ, refl, sym, ap, subst, ◌∙◌, IsTrue, Bool}
use Rattle.std.specs.Prelude.{ℤ, ◌↔◌}
use Rattle.exact.specs.Number.{ExactNumber, Same}
use Rattle.exact.specs.Plane.{ExactPoint, vector}
use Rattle.qroot2.specs.declared.sign.Sign.{Sign}
use Rattle.qroot2.specs.Wide.{Pair, HasSign}
use Rattle.geometry.specs.Root.{Root, count}
use Rattle.geometry.specs.Gap.{num, cross}
use Rattle.geometry.proofs.Directions.{vector_whole}
use Rattle.geometry.proofs.Plain.{flat_on, upright_on}
use Rattle.geometry.proofs.Found.{turn_cross, turn_on}
use Rattle.plane.specs.Ways.{root}
use Rattle.plane.specs.Sides.{turn_of, IsSide, IsOnLine}

num_parts : (x : ExactNumber) (r : Root) → r ≡ num x → (r.a ≡ x.a) × (r.b ≡ x.b)
unfolding num
num_parts x r e = (ap (λ (s : Root). s.a) e, ap (λ (s : Root). s.b) e)

moved : (a a' b b' : ℤ) (s : Sign) → a ≡ a' → b ≡ b' → HasSign a b s → HasSign a' b' s
moved a a' b b' s e f h = rw (← e, ← f) h

pub side_told : (p : ExactPoint) (k : ℕ) (r : ExactPoint) (off : Pair) (s : Sign) → root off ≡ cross (vector k) p r → HasSign off.a off.b s → IsSide p k r s
side_told p k r off s e h = (let q = num_parts (turn_of p k r) (root off) (e ∙ sym (turn_cross (vector k) p r (vector_whole k))) in moved off.a _ off.b _ s q.0 q.1 h)

-- along the axes
pub level_told : (k : ℕ) (p r : ExactPoint) (b : Bool) → k ≡ 0 → IsTrue b ↔ Same p.y r.y → IsTrue b ↔ IsOnLine p k r
level_told k p r b e f = subst (λ j. IsTrue b ↔ IsOnLine p j r) (sym e) (λ t. (turn_on 0 p r).1 ((flat_on p r).0 (f.0 t)), λ h. f.1 ((flat_on p r).1 ((turn_on 0 p r).0 h)))

pub plumb_told : (k : ℕ) (p r : ExactPoint) (b : Bool) → k ≡ 4 → IsTrue b ↔ Same p.x r.x → IsTrue b ↔ IsOnLine p k r
plumb_told k p r b e f = subst (λ j. IsTrue b ↔ IsOnLine p j r) (sym e) (λ t. (turn_on 4 p r).1 ((upright_on p r).0 (f.0 t)), λ h. f.1 ((upright_on p r).1 ((turn_on 4 p r).0 h)))

-- and back
pub side_cross : (k : ℕ) (p r : ExactPoint) (s : Sign) → IsSide p k r s → HasSign (cross (vector k) p r).a (cross (vector k) p r).b s
side_cross k p r s h = (let q = num_parts (turn_of p k r) (cross (vector k) p r) (sym (turn_cross (vector k) p r (vector_whole k))) in moved _ (cross (vector k) p r).a _ (cross (vector k) p r).b s (sym q.0) (sym q.1) h)

pub cross_side : (k : ℕ) (p r : ExactPoint) (s : Sign) → HasSign (cross (vector k) p r).a (cross (vector k) p r).b s → IsSide p k r s
cross_side k p r s h = (let off : Pair = record { a = (cross (vector k) p r).a; b = (cross (vector k) p r).b } in side_told p k r off s refl h)
