-- The digits of a sheet on the first line of native text.
use Rattle.std.specs.Prelude.{◌≡◌, ℕ, ◌+◌}
use Rattle.sheet.specs.Sheet.{ExactSheet, IsSheet, square}

-- two bytes spell the width and the height of a sheet that is not the square
pub record AreDigits (w h : ℕ) (sheet : ExactSheet) : Type 0 where
  pub sheet_is : IsSheet sheet
  pub wide : 48 + sheet.w ≡ w
  pub high : 48 + sheet.h ≡ h
  pub other : ¬ (sheet ≡ square)
