-- Which bytes are the text of a segment or of a crease. A segment has its lesser end first, so each
-- has one text.
use Rattle.std.specs.Prelude.{◌≡◌, ℕ, List}
use Rattle.exact.specs.Plane.{ExactSegment}
use Rattle.plane.specs.Segments.{IsHeld}
use Rattle.sheet.specs.Pattern.{ExactCrease}
use Rattle.pattern.specs.NativeText.{seg_text, crease_text}

-- the bytes are the text of this segment, whose ends are in lowest terms and within the limits
pub record IsSegText (bytes : List ℕ) (s : ExactSegment) : Type 0 where
  pub held : IsHeld s
  pub text : bytes ≡ seg_text s

-- the bytes are the text of this crease
pub record IsCreaseText (bytes : List ℕ) (f : ExactCrease) : Type 0 where
  pub held : IsHeld f.seg
  pub text : bytes ≡ crease_text f
