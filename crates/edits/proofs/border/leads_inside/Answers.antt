use Rattle.std.proofs.Common.{sym, subst, ◌∙◌}
use Rattle.plane.proofs.callers.Told.{fails}
use Rattle.plane.specs.Walls.{LeadsLeft, LeadsInside}
use Rattle.pattern.proofs.callers.Told.{answers_not}
use Rattle.edits.proofs.border.leads_inside.Goals.{then-leads_left, else-leads_left, then-leads_left-2, else-leads_left-2}
use Rattle.edits.proofs.border.leads_inside.Goals as goal

pub returns-else-leads_left-3 : goal.returns-else-leads_left-3
returns-else-leads_left-3 c = answers_not c.if-leads_left-2.value (LeadsInside c.args.sheet.now c.args.at.now c.args.dir) c.if-leads_left-3.false (λ h. elim c.if-leads_left-2.branch [
  | then-leads_left-2 w ↦ fails w.leads_left-then-leads_left-2.ensures (sym w.value-is ∙ c.if-leads_left-3.false) (subst (LeadsLeft c.args.at.now c.args.dir 8) (sym w.corner-then-leads_left-2.ensures) h.high)
  | else-leads_left-2 w ↦ elim c.if-leads_left.branch [
    | then-leads_left v ↦ fails v.leads_left-then-leads_left.ensures (sym v.value-is ∙ w.if-leads_left-2.false) (subst (LeadsLeft c.args.at.now c.args.dir 4) (sym v.corner-then-leads_left.ensures) h.right)
    | else-leads_left v ↦ fails c.leads_left.ensures v.if-leads_left.false (subst (LeadsLeft c.args.at.now c.args.dir 0) (sym c.corner.ensures) h.low)
  ]
])
