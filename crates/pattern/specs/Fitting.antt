-- The tests by which a delta is found to fit a pattern.
use Rattle.std.specs.Prelude.{◌≡◌, ◌⊎◌, ◌↔◌, ◌+◌, ◌≤◌, List, length, All, AllPairs, Contains}
use Rattle.std.specs.List.{AllZip}
use Rattle.exact.specs.Plane.{Overlap}
use Rattle.sheet.specs.Sheet.{ExactSheet}
use Rattle.sheet.specs.Pattern.{ExactCrease, ExactPattern, IsKey, crease_limit}
use Rattle.creases.specs.Creases.{Ascends, IsFree}

-- no two segments of these overlap
abbrev pub AreApart : List ExactCrease → Type 0
AreApart creases = AllPairs (λ f g. ¬ Overlap f.seg g.seg) creases

-- a crease overlaps none of the pattern but those that are removed
abbrev pub IsFreeBut : List ExactCrease → List ExactCrease → ExactCrease → Type 0
IsFreeBut old removed f = All (λ g. (¬ Overlap g.seg f.seg) ⊎ Contains removed g) old

-- creases that can stand on the sheet, beside one another and beside those that are there
pub record CanCome (sheet : ExactSheet) (there come : List ExactCrease) : Type 0 where
  pub keys : All (λ f. IsKey sheet f.seg) come
  pub apart : AreApart come
  pub free : All (λ f. IsFree there f.seg) come

-- the tests of a delta with these lists against a pattern
pub record PassesTests (old : ExactPattern) (removed added : List ExactCrease) : Type 0 where
  pub removed_ascend : Ascends removed
  pub added_ascend : Ascends added
  pub there : All (λ f. Contains old.creases f) removed
  pub keys : All (λ f. IsKey old.sheet f.seg) added
  pub few : length old.creases + length added ≤ crease_limit + length removed
  pub apart : AreApart added
  pub free : All (IsFreeBut old.creases removed) added

-- these are on the segments of those, one by one
abbrev pub AreOnSame : List ExactCrease → List ExactCrease → Type 0
AreOnSame gone come = AllZip (λ f g. f.seg ≡ g.seg) gone come

-- the old creases that are not gone, and those that came
abbrev pub AreExchanged : List ExactCrease → List ExactCrease → List ExactCrease → List ExactCrease → Type 0
AreExchanged old gone come new = (f : ExactCrease)
    → Contains new f ↔ ((Contains old f × (¬ Contains gone f)) ⊎ Contains come f)
