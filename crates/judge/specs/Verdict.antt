-- The verdict on a vertex: the first of five cases that applies. Each case says that those before it do not.
use Rattle.std.specs.Prelude.{◌≡◌, ◌≢◌, ℕ, ◌≤◌, ◌%◌, ◌⊎◌, List, length}
use Rattle.layers.specs.declared.star.Ray.{Ray}
use Rattle.layers.specs.Star.{mountains, valleys}
use Rattle.layers.specs.declared.sector_list.Sector.{Sector}
use Rattle.layers.specs.Sectors.{AreSectorsOf}
use Rattle.layers.specs.LayerOrder.{IsLayerOrder}
use Rattle.crimp.specs.declared.outcome.Run.{Run}
use Rattle.crimp.specs.Foldable.{Foldable}
use Rattle.crimp.specs.BlockedRun.{IsBlockedRun}
use Rattle.crimp.specs.StarLaw.{IsOrderOfStar}
use Rattle.judge.specs.Conditions.{even_sum, odd_sum, MeetsKawasaki, MeetsMaekawa}
use Rattle.judge.specs.declared.verdict.Why.{Why}
use Rattle.judge.specs.declared.verdict.Why.TheVariants as why
use Rattle.judge.specs.declared.verdict.Verdict.{Verdict}
use Rattle.judge.specs.declared.verdict.Verdict.TheVariants as verdict

-- there are rays, and their number is odd or the two sums of angles differ; the sums and the number are given
pub record IsKawasaki (sectors : List Sector) (even odd count : ℕ) : Type 0 where
  pub some : 1 ≤ length sectors
  pub fails : (length sectors % 2 ≡ 1) ⊎ (even_sum sectors ≢ odd_sum sectors)
  pub even_is : even ≡ even_sum sectors
  pub odd_is : odd ≡ odd_sum sectors
  pub count_is : count ≡ length sectors

-- the first two cases do not apply: there are rays, and they meet Kawasaki's condition
pub record HasEqualSums (sectors : List Sector) : Type 0 where
  pub some : 1 ≤ length sectors
  pub kawasaki : MeetsKawasaki sectors

-- some order is a layer order; one is given
pub record IsPassedWith (sectors : List Sector) (order : List ℕ) : Type 0 where
  pub angles : HasEqualSums sectors
  pub order_is : IsLayerOrder sectors order

-- no order is a layer order, and mountains and valleys do not differ by two; their numbers are given
pub record IsMaekawa (rays : List Ray) (sectors : List Sector) (m v : ℕ) : Type 0 where
  pub angles : HasEqualSums sectors
  pub never : Foldable sectors → ⊥
  pub fails : MeetsMaekawa rays → ⊥
  pub mountains_are : m ≡ mountains rays
  pub valleys_are : v ≡ valleys rays

-- no order is a layer order, though mountains and valleys differ by two; the blocked run is given
pub record IsBlocked (rays : List Ray) (sectors : List Sector) (run : Run) : Type 0 where
  pub angles : HasEqualSums sectors
  pub never : Foldable sectors → ⊥
  pub marks : MeetsMaekawa rays
  pub run_is : IsBlockedRun sectors run

abbrev pub IsWhyOf : List Ray → List Sector → Why → Type 0
IsWhyOf rays sectors (why.Kawasaki even odd count) = IsKawasaki sectors even odd count
IsWhyOf rays sectors (why.Maekawa m v) = IsMaekawa rays sectors m v
IsWhyOf rays sectors (why.Blocked run) = IsBlocked rays sectors run

abbrev pub IsVerdictOf : List Ray → List Sector → Verdict → Type 0
IsVerdictOf rays sectors verdict.Plain = length rays ≡ 0
IsVerdictOf rays sectors (verdict.Passed order) = IsPassedWith sectors order
IsVerdictOf rays sectors (verdict.Fails w) = IsWhyOf rays sectors w

-- this is the verdict on the rays, by the sectors between them
pub record VerdictOf (rays : List Ray) (verdict : Verdict) : Type 0 where
  pub sectors : List Sector
  pub of : AreSectorsOf rays sectors
  pub is : IsVerdictOf rays sectors verdict

abbrev pub IsPassed : Verdict → Type 0
IsPassed verdict.Plain = ⊥
IsPassed (verdict.Passed order) = Unit {0}
IsPassed (verdict.Fails w) = ⊥

-- some order of the star's sectors is a layer order
abbrev pub FoldsFlat : List Ray → Type 0
FoldsFlat rays = (order : List ℕ) × IsOrderOfStar rays order

-- the two are one but for the order
abbrev pub AreOne : Verdict → Verdict → Type 0
AreOne verdict.Plain verdict.Plain = Unit {0}
AreOne verdict.Plain (verdict.Passed order) = ⊥
AreOne verdict.Plain (verdict.Fails w) = ⊥
AreOne (verdict.Passed order) verdict.Plain = ⊥
AreOne (verdict.Passed order) (verdict.Passed other) = Unit {0}
AreOne (verdict.Passed order) (verdict.Fails w) = ⊥
AreOne (verdict.Fails w) verdict.Plain = ⊥
AreOne (verdict.Fails w) (verdict.Passed order) = ⊥
AreOne (verdict.Fails w) (verdict.Fails z) = w ≡ z
