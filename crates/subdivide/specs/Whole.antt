-- All points and cuts of the lines of a pattern.
use Rattle.std.specs.Prelude.{List, None, length}
use Rattle.exact.specs.Plane.{ExactPoint}
use Rattle.sheet.specs.Pattern.{ExactPattern}
use Rattle.subdivide.specs.Lines.{AreLinesOf}
use Rattle.subdivide.specs.Found.{Findings, IsSound, AreSettledBefore}
use Rattle.subdivide.specs.declared.line.MarkedLine.{MarkedLine}
use Rattle.subdivide.specs.declared.found.Cut.{Cut}

-- the points and cuts of findings without a pair out of range
abbrev pub held : List ExactPoint → List Cut → Findings
held points cuts = record { points = points; cuts = cuts; least = None }

-- all points of the lines of a pattern and all their cuts are found, and all can be held
pub record IsAllFound (pattern : ExactPattern) (lines : List MarkedLine) (points : List ExactPoint)
    (cuts : List Cut) : Type 0 where
  pub lines_are : AreLinesOf pattern lines
  pub sound : IsSound lines (held points cuts)
  pub settled : AreSettledBefore lines (length lines) (held points cuts)
