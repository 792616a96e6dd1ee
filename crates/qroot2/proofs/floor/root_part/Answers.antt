use Rattle.std.proofs.Common.{arith, ◌≡◌, ◌*◌, ◌∙◌, sym, subst, ap, inl, inr, true, false}
use Rattle.std.specs.Prelude.{ℤ, pos, ◌*ℤ◌, ◌≤ℤ◌, ◌<ℤ◌, unsigned_abs}
use Rattle.std.specs.Int.{w128}
use Rattle.std.proofs.lemmas.Int.{ints, to_z_pos, to_z-of_z}
use lib.Signed.{le_z}
use Rattle.qroot2.specs.Root.{IsRootPart, IsRootOf}
use Rattle.qroot2.proofs.callers.Held.{both_same, turned}
use Rattle.qroot2.proofs.Roots.{part_up, part_down}
use Rattle.qroot2.proofs.floor.root_part.Goals as goal

from_zero : (z : ℤ) → le_z (pos 0) z ≡ true → pos 0 ≤ℤ z
from_zero z h = grind (arith, ints)

below_zero : (z : ℤ) → le_z (pos 0) z ≡ false → z <ℤ pos 0
below_zero z h = grind (arith, ints)

pub returns-then-n-eq0-clause-value : goal.returns-then-n-eq0-clause-value
returns-then-n-eq0-clause-value c =
    let b = to_z-of_z w128 c.args.b c.ranges.b in
    let size : c.from.result * c.unsigned_abs.result ≡ c.args.n * unsigned_abs c.args.b = both_same ◌*◌ _ _ _ _ c.from.ensures (c.unsigned_abs.ensures.value ∙ ap unsigned_abs b) in
    subst (λ (z : ℤ). IsRootPart (pos c.args.n *ℤ c.args.b) z) (sym (to_z_pos w128 c.root_of-root.result.whole (omega (arith, c.root_of-root.ensures.bound))))
    (part_up c.args.n c.args.b c.root_of-root.result.whole c.root_of-root.result.rest
    (elim c.if-n-eq0.either [ inl h ↦ inl (from_zero c.args.b (ap (λ (z : ℤ). le_z (pos 0) z) (sym b) ∙ h)) | inr h ↦ inr h.1 ])
    (subst (λ k. IsRootOf k c.root_of-root.result.whole c.root_of-root.result.rest) size c.root_of-root.ensures.root))

pub returns-else-n-eq0-clause-value : goal.returns-else-n-eq0-clause-value
returns-else-n-eq0-clause-value c =
    let b = to_z-of_z w128 c.args.b c.ranges.b in
    let size : c.from.result * c.unsigned_abs.result ≡ c.args.n * unsigned_abs c.args.b = both_same ◌*◌ _ _ _ _ c.from.ensures (c.unsigned_abs.ensures.value ∙ ap unsigned_abs b) in
    subst (λ (z : ℤ). IsRootPart (pos c.args.n *ℤ c.args.b) z) (sym (turned c.root_of-root.result.whole (omega (arith, c.root_of-root.ensures.bound))))
    (part_down c.args.n c.args.b c.root_of-root.result.whole c.root_of-root.result.rest
    (below_zero c.args.b (ap (λ (z : ℤ). le_z (pos 0) z) (sym b) ∙ c.if-n-eq0.false.0)) (omega (arith, c.if-n-eq0.false.1))
    (subst (λ k. IsRootOf k c.root_of-root.result.whole c.root_of-root.result.rest) size c.root_of-root.ensures.root))
