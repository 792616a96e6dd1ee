-- The text of a refusal of a native text.
use Rattle.std.specs.Prelude.{ℕ, List, ◌++◌, codes}
use Rattle.qroot2.specs.Text.{numeral}
use Rattle.pattern.specs.declared.native.PatternBad.{PatternBad}
use Rattle.pattern.specs.declared.native.PatternWhy.{PatternWhy}
use Rattle.pattern.specs.declared.native.PatternWhy.TheVariants as why

abbrev pub why_name : PatternWhy → List ℕ
why_name why.Line = codes "Line"
why_name why.Range = codes "Range"
why_name why.Outside = codes "Outside"
why_name why.Order = codes "Order"
why_name why.NotDirection = codes "NotDirection"
why_name why.OnBorder = codes "OnBorder"
why_name why.Overlap = codes "Overlap"
why_name why.TooMany = codes "TooMany"

-- a bad line of a native text
abbrev pub bad_cause : PatternBad → List ℕ
bad_cause bad = why_name bad.why ++ codes " line " ++ numeral bad.line
