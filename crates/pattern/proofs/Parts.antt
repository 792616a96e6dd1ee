-- Equal creases have equal parts, and so have equal patterns.
use Rattle.std.proofs.Common.{◌≡◌, List, subst}
use Rattle.std.specs.Prelude.{All, Contains}
use Rattle.exact.specs.Plane.{SegmentBefore}
use Rattle.sheet.specs.Pattern.{ExactCrease, ExactPattern}

pub seg_of : (f g : ExactCrease) → f ≡ g → f.seg ≡ g.seg
seg_of f g e = λ i. (e i).seg

pub creases_are : (x y : ExactPattern) → x ≡ y → x.creases ≡ y.creases
creases_are x y e = λ i. (e i).creases

-- said of the same two creases
pub before_moved : (f g x y : ExactCrease) → f ≡ g → x ≡ y → SegmentBefore f.seg x.seg → SegmentBefore g.seg y.seg
before_moved f g x y e h b = subst (λ (z : ExactCrease). SegmentBefore g.seg z.seg) h (subst (λ (z : ExactCrease). SegmentBefore z.seg x.seg) e b)

-- said of the same list
pub there_in : (xs ys gone : List ExactCrease) → xs ≡ ys → All (λ f. Contains xs f) gone → All (λ f. Contains ys f) gone
there_in xs ys gone e h = subst (λ (zs : List ExactCrease). All (λ (f : ExactCrease). Contains zs f) gone) e h
