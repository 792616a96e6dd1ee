use Rattle.std.proofs.Common.{sym, subst, inl, inr}
use Rattle.std.specs.Prelude.{Contains}
use Rattle.sheet.specs.Sheet.{ExactSheet, sides}
use Rattle.plane.proofs.callers.Told.{fails}
use Rattle.edits.proofs.bisect.has_ray.Goals as goal

pub returns-then-has_side : goal.returns-then-has_side
returns-then-has_side c = (
  λ h. (let x = c.has_side.ensures.0 h in (x.0, inl (subst (λ (sheet : ExactSheet). Contains (sides sheet) x.0) c.sheet.ensures.sheet x.1), x.2)),
  λ h. c.if-has_side.true,
)

pub returns-else-has_side : goal.returns-else-has_side
returns-else-has_side c = (
  λ h. (let x = c.has_crease.ensures.0 h in (x.0, inr x.1, x.2)),
  λ h. elim h.1 [
    | inl s ↦ absurd (fails c.has_side.ensures c.if-has_side.false (h.0, subst (λ (sheet : ExactSheet). Contains (sides sheet) h.0) (sym c.sheet.ensures.sheet) s, h.2))
    | inr f ↦ c.has_crease.ensures.1 (h.0, f, h.2)
  ],
)
