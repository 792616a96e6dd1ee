-- Sheets that are equal part by part.
use Rattle.std.proofs.Common.{◌≡◌}
use Rattle.sheet.specs.Sheet.{ExactSheet}

pub same_sheet : (s t : ExactSheet) → s.w ≡ t.w → s.h ≡ t.h → s ≡ t
same_sheet s t p q = λ i. record { w = p i; h = q i }
