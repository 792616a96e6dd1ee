-- After a drawing no two creases overlap.
use Rattle.std.proofs.Common.{List, get_or, sym, subst, ◌∙◌, inl, inr, arith}
use Rattle.std.specs.Prelude.{All, AllPairs, Contains}
use Rattle.std.proofs.lemmas.List.Elements.{All-contains}
use Rattle.exact.specs.Plane.{ExactSegment, SamePoint, Before, IsSegment, Overlap, SegmentBefore}
use Rattle.sheet.specs.Sheet.{ExactSheet}
use Rattle.sheet.specs.Pattern.{ExactCrease, ExactPattern, IsPattern, IsKey}
use Rattle.geometry.proofs.PointOrder.{before_not_same, before_not_back, same_before, before_same, same_back, same_trans}
use Rattle.creases.proofs.callers.Overlaps.{ended, overlap_back}
use Rattle.creases.proofs.callers.Members.{segment_not_back}
use Rattle.creases.proofs.callers.Standing.{one_or_apart}
use Rattle.edits.specs.Parts.{Covers, IsPart}
use Rattle.edits.specs.Drawn.{IsLeft, StandsAfter, Drawn}
use Rattle.edits.proofs.drawings.Overlapping.{only_parts}

-- what is on segments that do not overlap does not overlap
pub overlap_wider : (u w t s : ExactSegment) → Covers t u → Covers s w → Overlap u w → Overlap t s
overlap_wider u w t s c d v = (v.0, v.1, v.2, (c v.0 v.3.0, d v.0 v.3.1), (c v.1 v.4.0, d v.1 v.4.1))

pub covers_itself : (s : ExactSegment) → Covers s s
covers_itself s = λ r on. on

-- a segment does not come before itself
pub one_segment : (u w : ExactSegment) → SamePoint u.p w.p → SamePoint u.q w.q → ¬ SegmentBefore u w
one_segment u w e f b = elim b [ inl a ↦ before_not_same u.p w.p a e | inr a ↦ before_not_same u.q w.q a.1 f ]

-- two largest parts of one segment do not overlap, where one comes before the other
pub parts_apart : (u w t s : ExactSegment) → IsSegment t → IsSegment s → Overlap t s → IsPart u t s → IsPart w t s → SegmentBefore u w → ¬ Overlap u w
parts_apart u w t s h l v p q b = elim (only_parts u t s h l v p) [
  | inl x ↦ elim (only_parts w t s h l v q) [
    | inl y ↦ absurd (one_segment u w (same_trans u.p t.p w.p x.1 (same_back w.p t.p y.1)) (same_trans u.q s.p w.q x.2 (same_back w.q s.p y.2)) b)
    | inr y ↦ ended u w (passed u w x.2 y.1)
  ]
  | inr x ↦ elim (only_parts w t s h l v q) [
    | inl y ↦ (λ o. ended w u (passed w u y.2 x.1) (overlap_back u w o))
    | inr y ↦ absurd (one_segment u w (same_trans u.p s.q w.p x.1 (same_back w.p s.q y.1)) (same_trans u.q t.q w.q x.2 (same_back w.q t.q y.2)) b)
  ]
]
  where
    -- the one in front ends where s begins, and the one behind begins where s ends
    passed : (u w : ExactSegment) → SamePoint u.q s.p → SamePoint w.p s.q → ¬ Before w.p u.q
    passed u w e f x = before_not_back s.p s.q l.0 (same_before w.p s.q s.p f (before_same w.p u.q s.p e x))

-- the creases that stand after a drawing do not overlap
pub stand_apart : (sheet : ExactSheet) (creases : List ExactCrease) (d f g : ExactCrease) → All (λ (t : ExactCrease). IsKey sheet t.seg) creases → AllPairs (λ (f : ExactCrease) (g : ExactCrease). ¬ Overlap f.seg g.seg) creases → IsSegment d.seg
    → StandsAfter creases d f → StandsAfter creases d g → SegmentBefore f.seg g.seg → ¬ Overlap f.seg g.seg
stand_apart sheet creases d f g keys apart h x y b = elim x [
  | inl e ↦ elim y [
    | inl k ↦ absurd (segment_not_back g.seg g.seg (subst (λ (z : ExactCrease). SegmentBefore z.seg g.seg) (e ∙ sym k) b) (subst (λ (z : ExactCrease). SegmentBefore z.seg g.seg) (e ∙ sym k) b))
    | inr k ↦ (λ o. off g k (overlap_back d.seg g.seg (subst (λ (z : ExactCrease). Overlap z.seg g.seg) e o)))
  ]
  | inr l ↦ elim y [
    | inl k ↦ (λ o. off f l (subst (λ (z : ExactCrease). Overlap f.seg z.seg) k o))
    | inr k ↦ left_apart l k
  ]
]
  where
    -- what is left beside d does not overlap it
    off : (u : ExactCrease) → IsLeft creases d.seg u → ¬ Overlap u.seg d.seg
    off u l = elim l [ inl kept ↦ kept.1 | inr part ↦ part.3.part.outside ]

    segment_of : (t : ExactCrease) → Contains creases t → IsSegment t.seg
    segment_of t c = (All-contains (λ (t : ExactCrease). IsKey sheet t.seg) creases t keys c).segment

    -- a crease that is whole, and a part of another
    whole_and_part : (u t : ExactCrease) (w : ExactSegment) → Contains creases u → ¬ Overlap u.seg d.seg → Contains creases t → Overlap t.seg d.seg → IsPart w t.seg d.seg → ¬ Overlap u.seg w
    whole_and_part u t w c n k v p o = elim (one_or_apart creases apart u t c k) [
      | inl e ↦ n (subst (λ (z : ExactCrease). Overlap z.seg d.seg) (sym e) v)
      | inr m ↦ m (overlap_wider u.seg w u.seg t.seg (covers_itself u.seg) p.part.within o)
    ]

    left_apart : IsLeft creases d.seg f → IsLeft creases d.seg g → ¬ Overlap f.seg g.seg
    left_apart l k = elim l [
      | inl a ↦ elim k [
        | inl c ↦ elim (one_or_apart creases apart f g a.0 c.0) [
          | inl e ↦ absurd (let r : SegmentBefore g.seg g.seg = subst (λ (z : ExactCrease). SegmentBefore z.seg g.seg) e b in segment_not_back g.seg g.seg r r)
          | inr n ↦ n
        ]
        | inr c ↦ whole_and_part f c.0 g.seg a.0 a.1 c.1 c.2 c.3
      ]
      | inr a ↦ elim k [
        | inl c ↦ (λ o. whole_and_part g a.0 f.seg c.0 c.1 a.1 a.2 a.3 (overlap_back f.seg g.seg o))
        | inr c ↦ elim (one_or_apart creases apart a.0 c.0 a.1 c.1) [
          | inl e ↦ parts_apart f.seg g.seg c.0.seg d.seg (segment_of c.0 c.1) h c.2 (subst (λ (z : ExactCrease). IsPart f.seg z.seg d.seg) e a.3) c.3 b
          | inr n ↦ (λ o. n (overlap_wider f.seg g.seg a.0.seg c.0.seg a.3.part.within c.3.part.within o))
        ]
      ]
    ]

-- After a drawing over a pattern no two creases overlap.
pub drawn_apart : (pattern : ExactPattern) (d : ExactCrease) (after : List ExactCrease) → IsPattern pattern → IsSegment d.seg → Drawn pattern.creases d after → AllPairs (λ f g. ¬ Overlap f.seg g.seg) after
drawn_apart pattern d after p h s = λ i j x lt within.
    stand_apart pattern.sheet pattern.creases d (get_or after i x) (get_or after j x) p.keys p.apart h (s.each i x (omega (arith, lt, within))) (s.each j x within) (s.ordered i j x lt within)
