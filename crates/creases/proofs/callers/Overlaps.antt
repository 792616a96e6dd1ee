-- When two segments overlap: those that do lie on one line, and each begins before the other ends.
use Rattle.std.proofs.Common.{◌≡◌, ◌≢◌, ℕ, ◌<◌, ◌%◌, sym, subst, ◌⊎◌, inl, inr, arith}
use Rattle.std.proofs.lemmas.Bool.{cases_order}
use Rattle.exact.specs.Plane.{ExactPoint, ExactSegment, SamePoint, Before, IsSegment, OnBoth, Overlap}
use Rattle.geometry.specs.Meeting.{Along}
use Rattle.geometry.proofs.Directions.{one_direction}
use Rattle.geometry.proofs.Found.{along_half, along_of}
use Rattle.geometry.proofs.PointOrder.{ordered, tied, before_trans, before_not_same, same_before, same_back, same_trans, before_later, later_of, earlier_of}
pub use Rattle.geometry.proofs.PointOrder.{not_after_before}
use Rattle.geometry.proofs.Segments.{overlapped, one_common, end_p, end_q}
use Rattle.plane.specs.Support.{ExactLine, IsSupportOf}
use Rattle.plane.proofs.callers.Supports.{one_support, support_along}

pub overlap_back : (s t : ExactSegment) → Overlap s t → Overlap t s
overlap_back s t v = (v.0, v.1, v.2, (v.3.1, v.3.0), (v.4.1, v.4.0))

-- a segment overlaps itself
pub overlap_itself : (s : ExactSegment) → IsSegment s → Overlap s s
overlap_itself s h = (let a = along_of s h in (s.p, s.q, before_not_same s.p s.q h.0, (end_p s a.0 a.1, end_p s a.0 a.1), (end_q s a.0 a.1, end_q s a.0 a.1)))

-- segments of one line, each of which begins before the other ends
pub overlap_within : (s t : ExactSegment) (l : ExactLine) → IsSegment s → IsSegment t → IsSupportOf s l → IsSupportOf t l → Before s.p t.q → Before t.p s.q → Overlap s t
overlap_within s t l h k a b c d =
    let lo = later_of s.p t.p in
    let hi = earlier_of s.q t.q in
    overlapped s t l.dir lo.0 hi.0 (support_along s l h a) (support_along t l k b) (one_support s t l a b) lo.1 hi.1 (
    elim lo.1.one [
      | inl e ↦ elim hi.1.one [ inl f ↦ between lo.0 hi.0 s.p s.q e f h.0 | inr f ↦ between lo.0 hi.0 s.p t.q e f c ]
      | inr e ↦ elim hi.1.one [ inl f ↦ between lo.0 hi.0 t.p s.q e f d | inr f ↦ between lo.0 hi.0 t.p t.q e f k.0 ]
    ]
    )
  where
    between : (lo hi p q : ExactPoint) → lo ≡ p → hi ≡ q → Before p q → Before lo hi
    between lo hi p q e f g = subst (λ x. Before x hi) (sym e) (subst (λ y. Before p y) (sym f) g)

-- t ends where s begins, or before: they have no two common points
pub ended : (t s : ExactSegment) → ¬ Before s.p t.q → ¬ Overlap t s
ended t s n v = v.2 (same_trans v.0 s.p v.1 (at_start v.0 v.3) (same_back v.1 s.p (at_start v.1 v.4)))
  where
    at_start : (x : ExactPoint) → OnBoth x t s → SamePoint x s.p
    at_start x h = tied x s.p h.1.from (λ b. n (before_later s.p x t.q b h.0.to))

-- two points of which one is before the other are on both
passing : (t s : ExactSegment) (u v : ExactPoint) → Before u v → OnBoth u t s → OnBoth v t s → Before s.p t.q × Before t.p s.q
passing t s u v b h k = (
  not_after_before s.p u t.q h.1.from (before_later u v t.q b k.0.to),
  not_after_before t.p u s.q h.0.from (before_later u v s.q b k.1.to),
)

-- each of two segments that overlap begins before the other ends
pub passes : (t s : ExactSegment) → Overlap t s → Before s.p t.q × Before t.p s.q
passes t s v = elim (ordered v.0 v.1) [
  | inl l ↦ passing t s v.0 v.1 l v.3 v.4
  | inr y ↦ elim y [ inl e ↦ absurd (v.2 e) | inr g ↦ passing t s v.1 v.0 g v.4 v.3 ]
]

-- and they have one direction
pub one_way : (t s : ExactSegment) (i j : ℕ) → Along t i → Along s j → Overlap t s → i ≡ j
one_way t s i j a b v = elim (cases_order (i % 8) (j % 8)) [
  | inl e ↦ one_direction i j a.small b.small (along_half t i a) (along_half s j b) e
  | inr n ↦ absurd (v.2 (one_common t s i j v.0 v.1 a b (apart n) v.3 v.4))
]
  where
    apart : (i % 8 < j % 8) ⊎ (j % 8 < i % 8) → i % 8 ≢ j % 8
    apart (inl g) e = omega (arith, g, e)
    apart (inr g) e = omega (arith, g, e)
