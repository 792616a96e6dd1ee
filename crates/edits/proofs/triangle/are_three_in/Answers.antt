use Rattle.plane.proofs.callers.Told.{fails}
use Rattle.edits.proofs.triangle.are_three_in.Goals as goal

pub returns-then-are_in_sheet : goal.returns-then-are_in_sheet
returns-then-are_in_sheet c = (
  λ t. (let both = c.are_in_sheet.ensures.0 c.if-are_in_sheet.true in (both.0, both.1, c.in_sheet.ensures.0 t)),
  λ h. c.in_sheet.ensures.1 h.2,
)

pub returns-else-are_in_sheet : goal.returns-else-are_in_sheet
returns-else-are_in_sheet c = (λ t. absurd (cc), λ h. absurd (fails c.are_in_sheet.ensures c.if-are_in_sheet.false (h.0, h.1)))
