use Rattle.std.proofs.Common.{inl, inr}
use Rattle.edits.proofs.ears.Rules.{molecule_told}
use Rattle.edits.proofs.triangle.is_no_molecule.Goals as goal

pub returns-then-is_on_line : goal.returns-then-is_on_line
returns-then-is_on_line c =
    let t = molecule_told c.args.p.now c.args.q.now c.args.r.now c.args.sides.now.first c.args.sides.now.second c.args.sides.now.third c.requires.three c.requires.sides in
    (λ e. t.0 (inl (c.is_on_line.ensures.0 e)), λ h. c.if-is_on_line.true)

pub returns-else-is_on_line : goal.returns-else-is_on_line
returns-else-is_on_line c =
    let t = molecule_told c.args.p.now c.args.q.now c.args.r.now c.args.sides.now.first c.args.sides.now.second c.args.sides.now.third c.requires.three c.requires.sides in (
      λ e. t.0 (inr (c.has_odd_corner.ensures.0 e)),
      λ h. elim (t.1 h) [ inl l ↦ absurd (let e = c.is_on_line.ensures.1 l in cc) | inr o ↦ c.has_odd_corner.ensures.1 o ],
    )
