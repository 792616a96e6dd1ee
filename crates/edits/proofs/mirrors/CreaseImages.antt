-- The image of a crease is one: what holds of it holds of all segments and points that are the image.
use Rattle.std.proofs.Common.{ℕ, ◌<◌, ◌⊎◌, inl, inr}
use Rattle.exact.specs.Plane.{ExactPoint, ExactSegment, SamePoint, IsPointRepresentable}
use Rattle.sheet.specs.Sheet.{ExactSheet, IsSheet, InSheet, OnBorder}
use Rattle.geometry.proofs.PointOrder.{before_not_back, same_before, before_same, same_back}
use Rattle.plane.specs.Segments.{HasCanonicalEnds}
use Rattle.plane.proofs.callers.Imaged.{image_only}
use Rattle.plane.proofs.callers.Sides.{on_one_side}
use Rattle.edits.specs.Mirror.{IsEndImage, IsSegmentImage}
use Rattle.edits.proofs.Held.{point_held}
use Rattle.edits.proofs.SheetPoints.{in_moved, in_or_not, side_moved}

-- the image of an end is an end of the image
end_is : (k : ℕ) (a v : ExactPoint) (s u : ExactSegment) → k < 16 → IsSegmentImage a k s u → IsEndImage a k s v → SamePoint u.p v ⊎ SamePoint u.q v
end_is k a v s u h i e = elim i.1 [
  | inl x ↦ elim e [ inl y ↦ inl (image_only k a s.p u.p v h x.0 y) | inr y ↦ inr (image_only k a s.q u.q v h x.1 y) ]
  | inr x ↦ elim e [ inl y ↦ inr (image_only k a s.p u.q v h x.0 y) | inr y ↦ inl (image_only k a s.q u.p v h x.1 y) ]
]

ends_are : (k : ℕ) (a : ExactPoint) (s u w : ExactSegment) → k < 16 → IsSegmentImage a k s u → IsSegmentImage a k s w → SamePoint u.p w.p × SamePoint u.q w.q
ends_are k a s u w h i j = elim i.1 [
  | inl x ↦ elim j.1 [
    | inl y ↦ (image_only k a s.p u.p w.p h x.0 y.0, image_only k a s.q u.q w.q h x.1 y.1)
    | inr y ↦ absurd (crossed (image_only k a s.p u.p w.q h x.0 y.0) (image_only k a s.q u.q w.p h x.1 y.1))
  ]
  | inr x ↦ elim j.1 [
    | inl y ↦ absurd (crossed (image_only k a s.q u.p w.q h x.1 y.1) (image_only k a s.p u.q w.p h x.0 y.0))
    | inr y ↦ (image_only k a s.q u.p w.p h x.1 y.1, image_only k a s.p u.q w.q h x.0 y.0)
  ]
]
  where
    crossed : SamePoint u.p w.q → SamePoint u.q w.p → ⊥
    crossed e g = before_not_back w.p w.q j.0.0 (before_same w.q u.q w.p g (same_before u.p w.q u.q e i.0.0))

-- both ends' images can be held
pub none_out : (k : ℕ) (a : ExactPoint) (s u : ExactSegment) → k < 16 → IsSegmentImage a k s u → HasCanonicalEnds u → ¬ ((v : ExactPoint) × IsEndImage a k s v × (¬ IsPointRepresentable v))
none_out k a s u h i c = λ (v, e, n). elim (end_is k a v s u h i e) [ inl x ↦ n (point_held u.p v x c.0) | inr x ↦ n (point_held u.q v x c.1) ]

-- both ends' images are in the sheet
pub none_outside : (sheet : ExactSheet) (k : ℕ) (a : ExactPoint) (s u : ExactSegment) → k < 16 → IsSegmentImage a k s u → InSheet sheet u.p × InSheet sheet u.q → ¬ ((v : ExactPoint) × IsEndImage a k s v × (¬ InSheet sheet v))
none_outside sheet k a s u h i c = λ (v, e, n). elim (end_is k a v s u h i e) [ inl x ↦ n (in_moved sheet u.p v x c.0) | inr x ↦ n (in_moved sheet u.q v x c.1) ]

-- an end's image is not in the sheet
pub one_outside : (sheet : ExactSheet) (k : ℕ) (a : ExactPoint) (s u : ExactSegment) → IsSegmentImage a k s u → ¬ (InSheet sheet u.p × InSheet sheet u.q) → (v : ExactPoint) × IsEndImage a k s v × (¬ InSheet sheet v)
one_outside sheet k a s u i n = elim (in_or_not sheet u.p) [
  | inl x ↦ (u.q, elim i.1 [ inl y ↦ inr y.1 | inr y ↦ inl y.0 ], λ z. n (x, z))
  | inr m ↦ (u.p, elim i.1 [ inl y ↦ inl y.0 | inr y ↦ inr y.1 ], m)
]

-- the image is not on a side
pub none_on_side : (sheet : ExactSheet) → IsSheet sheet → (k : ℕ) (a : ExactPoint) (s u : ExactSegment) → k < 16 → IsSegmentImage a k s u → ¬ OnBorder sheet u → ¬ ((w : ExactSegment) × IsSegmentImage a k s w × OnBorder sheet w)
none_on_side sheet good k a s u h i n = λ (w, j, b).
    let e = ends_are k a s u w h i j in
    n ((on_one_side sheet u good i.0).0 (side_moved sheet w.p w.q u.p u.q (same_back u.p w.p e.0) (same_back u.q w.q e.1) ((on_one_side sheet w good j.0).1 b)))
