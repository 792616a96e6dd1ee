-- The faults of a pattern: the vertices strictly inside the sheet that do not fold flat. And what is said of
-- a point.
use Rattle.std.specs.Prelude.{◌≡◌, List, All, AllPairs, Contains, Option, Some, None}
use Rattle.exact.specs.Plane.{ExactPoint, SamePoint, Before, IsPointCanonical}
use Rattle.sheet.specs.Sheet.{IsInside}
use Rattle.sheet.specs.Pattern.{ExactPattern}
use Rattle.layers.specs.declared.star.Ray.{Ray}
use Rattle.subdivide.specs.Subdivision.{IsVertex}
use Rattle.subdivide.specs.Star.{StarOf}
use Rattle.judge.specs.Verdict.{VerdictOf}
use Rattle.judge.specs.declared.verdict.Why.{Why}
use Rattle.judge.specs.declared.verdict.Verdict.{Verdict}
use Rattle.judge.specs.declared.verdict.Verdict.TheVariants as verdict
use Rattle.judge.specs.declared.fault.Fault.{Fault}
use Rattle.judge.specs.declared.report.Report.{Report}
use Rattle.judge.specs.declared.report.Report.TheVariants as report

-- a vertex strictly inside the sheet
abbrev pub IsInner : ExactPattern → ExactPoint → Type 0
IsInner pattern v = IsVertex pattern v × IsInside pattern.sheet v

-- the inner vertex has this star, with this verdict
pub record IsJudged (pattern : ExactPattern) (v : ExactPoint) (rays : List Ray) (w : Verdict) : Type 0 where
  pub inner : IsInner pattern v
  pub is_star : StarOf pattern v rays
  pub is_verdict : VerdictOf rays w

-- an inner vertex that does not fold flat, and why
abbrev pub IsFault : ExactPattern → ExactPoint → Why → Type 0
IsFault pattern v why = (star : List Ray) × IsJudged pattern v star (verdict.Fails why)

-- the faults, ascending, each once
pub record AreFaults (pattern : ExactPattern) (faults : List Fault) : Type 0 where
  pub ordered : AllPairs (λ f g. Before f.at g.at) faults
  pub canonical : All (λ f. IsPointCanonical f.at) faults
  pub each : All (λ f. IsFault pattern f.at f.why) faults
  pub all : (v : ExactPoint) (why : Why) → IsFault pattern v why
      → (f : Fault) × Contains faults f × SamePoint v f.at × (f.why ≡ why)

-- what is said of a point: nothing where it is no vertex, that it is on the border, or its star and verdict
abbrev pub ReportOf : ExactPattern → ExactPoint → Option Report → Type 0
ReportOf pattern at None = ¬ IsVertex pattern at
ReportOf pattern at (Some report.Border) = IsVertex pattern at × (¬ IsInside pattern.sheet at)
ReportOf pattern at (Some (report.Judged star verdict)) = IsJudged pattern at star verdict

-- why the point is a fault, the only reason, or that there is none
abbrev pub TellsFault : ExactPattern → ExactPoint → Option Why → Type 0
TellsFault pattern v None = (why : Why) → ¬ IsFault pattern v why
TellsFault pattern v (Some why) =
    IsFault pattern v why × ((other : Why) → IsFault pattern v other → other ≡ why)

-- why a vertex that was judged fails, if it does
abbrev pub failure_of : Option Report → Option Why
failure_of None = None
failure_of (Some report.Border) = None
failure_of (Some (report.Judged star verdict.Plain)) = None
failure_of (Some (report.Judged star (verdict.Passed order))) = None
failure_of (Some (report.Judged star (verdict.Fails why))) = Some why
