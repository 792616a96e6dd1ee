-- After creases were erased or recoloured along a segment they are a pattern, where they are few.
use Rattle.std.proofs.Common.{◌≡◌, ◌≢◌, ◌≤◌, List, length, get_or, sym, subst, inl, inr, arith}
use Rattle.std.specs.Prelude.{All, AllPairs, Contains}
use Rattle.std.proofs.lemmas.List.Elements.{All-contains}
use Rattle.exact.specs.Plane.{ExactPoint, ExactSegment, SamePoint, IsSegment, Overlap, SegmentBefore}
use Rattle.sheet.specs.Sheet.{ExactSheet, IsSheet, InSheet}
use Rattle.sheet.specs.Pattern.{ExactCrease, ExactPattern, IsPattern, IsKey, crease_limit}
use Rattle.sheet.specs.declared.colour.Colour.{Colour}
use Rattle.sheet.specs.declared.colour.Colour.TheVariants as colour
use Rattle.geometry.specs.Meeting.{IsLater, IsEarlier}
use Rattle.geometry.proofs.PointOrder.{later_of, earlier_of, later_before}
use Rattle.geometry.proofs.Segments.{shared_on, overlap_is}
use Rattle.geometry.proofs.Parts.{part_along}
use Rattle.plane.specs.Segments.{HasCanonicalEnds}
use Rattle.creases.proofs.callers.Members.{segment_not_back}
use Rattle.creases.proofs.callers.Overlaps.{overlap_back}
use Rattle.creases.proofs.callers.Standing.{one_or_apart}
use Rattle.edits.specs.Parts.{Covers, IsCommonPart}
use Rattle.edits.specs.CreaseSet.{AreCreases, crease}
use Rattle.edits.specs.Drafts.{with_creases}
use Rattle.edits.specs.Drawn.{IsLeft}
use Rattle.edits.specs.Recolour.{StaysWhole, ComesFrom, StandsRecoloured}
use Rattle.edits.proofs.drawings.PartEnds.{along, same_ends}
use Rattle.edits.proofs.drawings.StillApart.{stand_apart, parts_apart, overlap_wider, covers_itself, one_segment}
use Rattle.edits.proofs.drawings.StillKeys.{stands_key, part_is_key, part_inner}
use Rattle.edits.proofs.SheetPoints.{in_moved}
use Rattle.edits.proofs.drawings.Overlapping.{overlapping}

-- What is left beside a segment of a pattern is a pattern, where it is few.
pub erased_pattern : (pattern : ExactPattern) (s : ExactSegment) (after : List ExactCrease) → IsPattern pattern → IsKey pattern.sheet s → AreCreases (IsLeft pattern.creases s) after → length after ≤ crease_limit → IsPattern (with_creases pattern after)
erased_pattern pattern s after p h e few = record {
  sheet = p.sheet;
  keys = λ i x lt. stands_key pattern.sheet p.sheet pattern.creases (crease s colour.A) (get_or after i x) p.keys h (inr (e.each i x lt)) (e.canonical i x lt);
  ordered = e.ordered;
  apart = λ i j x lt within. stand_apart pattern.sheet pattern.creases (crease s colour.A) (get_or after i x) (get_or after j x) p.keys p.apart h.segment
      (inr (e.each i x (omega (arith, lt, within)))) (inr (e.each j x within)) (e.ordered i j x lt within);
  few = few;
}

-- two common parts of the same segments have the same ends
pub common_one : (u w t s : ExactSegment) → IsCommonPart u t s → IsCommonPart w t s → SamePoint u.p w.p × SamePoint u.q w.q
common_one u w t s h l = same_ends u w h.segment.1.0 l.segment.1.0 (along u h.segment) (along w l.segment)
    (λ r on. (h.points r).0 ((l.points r).1 on)) (λ r on. (l.points r).0 ((h.points r).1 on))

common_on : (u t s : ExactSegment) → IsCommonPart u t s → Covers t u × Covers s u
common_on u t s h = (λ r on. ((h.points r).1 on).0, λ r on. ((h.points r).1 on).1)

-- f comes from t: it is t, or a part of it, outside s or on s
comes_on : (t f : ExactCrease) (s : ExactSegment) (c : Colour) → ComesFrom t s c f → Covers t.seg f.seg
comes_on t f s c h = elim h [ inl a ↦ a.0.part.within | inr a ↦ (common_on f.seg t.seg s a.0).0 ]

-- what comes from one crease does not overlap
pieces_apart : (t f g : ExactCrease) (s : ExactSegment) (c : Colour) → IsSegment t.seg → IsSegment s → Overlap t.seg s → ComesFrom t s c f → ComesFrom t s c g → SegmentBefore f.seg g.seg → ¬ Overlap f.seg g.seg
pieces_apart t f g s c h l v x y b = elim x [
  | inl a ↦ elim y [
    | inl d ↦ parts_apart f.seg g.seg t.seg s h l v a.0 d.0 b
    | inr d ↦ (λ o. a.0.part.outside (overlap_wider f.seg g.seg f.seg s (covers_itself f.seg) (common_on g.seg t.seg s d.0).1 o))
  ]
  | inr a ↦ elim y [
    | inl d ↦ (λ o. d.0.part.outside (overlap_wider g.seg f.seg g.seg s (covers_itself g.seg) (common_on f.seg t.seg s a.0).1 (overlap_back f.seg g.seg o)))
    | inr d ↦ absurd (let e = common_one f.seg g.seg t.seg s a.0 d.0 in one_segment f.seg g.seg e.0 e.1 b)
  ]
]

recoloured_apart : (sheet : ExactSheet) (creases : List ExactCrease) (s : ExactSegment) (c : Colour) (f g : ExactCrease) → All (λ (t : ExactCrease). IsKey sheet t.seg) creases → AllPairs (λ (f : ExactCrease) (g : ExactCrease). ¬ Overlap f.seg g.seg) creases → IsSegment s
    → StandsRecoloured creases s c f → StandsRecoloured creases s c g → SegmentBefore f.seg g.seg → ¬ Overlap f.seg g.seg
recoloured_apart sheet creases s c f g keys apart h x y b = elim x [
  | inl a ↦ elim y [
    | inl d ↦ elim (one_or_apart creases apart f g a.0 d.0) [
      | inl e ↦ absurd (let r : SegmentBefore g.seg g.seg = subst (λ (z : ExactCrease). SegmentBefore z.seg g.seg) e b in segment_not_back g.seg g.seg r r)
      | inr n ↦ n
    ]
    | inr d ↦ whole_and_piece f d.0 g a.0 a.1 d.1 d.2 d.3 d.4
  ]
  | inr a ↦ elim y [
    | inl d ↦ (λ o. whole_and_piece g a.0 f d.0 d.1 a.1 a.2 a.3 a.4 (overlap_back f.seg g.seg o))
    | inr d ↦ elim (one_or_apart creases apart a.0 d.0 a.1 d.1) [
      | inl e ↦ pieces_apart d.0 f g s c (All-contains (λ (t : ExactCrease). IsKey sheet t.seg) creases d.0 keys d.1).segment h d.2 (subst (λ (z : ExactCrease). ComesFrom z s c f) e a.4) d.4 b
      | inr n ↦ (λ o. n (overlap_wider f.seg g.seg a.0.seg d.0.seg (comes_on a.0 f s c a.4) (comes_on d.0 g s c d.4) o))
    ]
  ]
]
  where
    -- a crease that stays whole, and a piece of another
    whole_and_piece : (u t w : ExactCrease) → Contains creases u → StaysWhole s c u → Contains creases t → Overlap t.seg s → t.colour ≢ c → ComesFrom t s c w → ¬ Overlap u.seg w.seg
    whole_and_piece u t w k stays m v n p o = elim (one_or_apart creases apart u t k m) [
      | inl e ↦ elim stays [ inl off ↦ off (subst (λ (z : ExactCrease). Overlap z.seg s) (sym e) v) | inr same ↦ n (subst (λ (z : ExactCrease). z.colour ≡ c) e same) ]
      | inr z ↦ z (overlap_wider u.seg w.seg u.seg t.seg (covers_itself u.seg) (comes_on t w s c p) o)
    ]

-- the later_of of the lesser ends and the earlier_of of the greater ones are those of the common part
pub common_part : (t s lo_hi : ExactSegment) → IsSegment t → IsSegment s → Overlap t s → IsLater t.p s.p lo_hi.p → IsEarlier t.q s.q lo_hi.q → IsCommonPart lo_hi t s
common_part t s u h l v lo hi =
    let o = overlapping t s h l v in
    let k = o.0 in
    let a = o.1 in
    let before = later_before t.p s.p t.q s.q u.p u.q lo hi a.first.ordered a.ends a.begins a.second.ordered in
    let own = part_along t u k a.first (shared_on t s k u.p u.q a.first a.second a.line lo hi) before in
    record { segment = (own.ordered, (k, own.small, own.dir)); points = λ r. overlap_is t s u k r a.first a.second own a.line lo hi }

-- the common part of two keys that overlap may be a key
pub common_is_key : (sheet : ExactSheet) → IsSheet sheet → (u t s : ExactSegment) → IsKey sheet t → IsKey sheet s → Overlap t s → IsCommonPart u t s → HasCanonicalEnds u → IsKey sheet u
common_is_key sheet good u t s a b v h c = record {
  segment = h.segment;
  from = c.0;
  to = c.1;
  from_in = in_moved sheet lo.0 u.p ends.0 (elim lo.1.one [ inl e ↦ subst (InSheet sheet) (sym e) a.from_in | inr e ↦ subst (InSheet sheet) (sym e) b.from_in ]);
  to_in = in_moved sheet hi.0 u.q ends.1 (elim hi.1.one [ inl e ↦ subst (InSheet sheet) (sym e) a.to_in | inr e ↦ subst (InSheet sheet) (sym e) b.to_in ]);
  inner = part_inner sheet good u t a.segment a.from_in a.to_in a.inner h.segment (common_on u t s h).0;
}
  where
    lo : (m : ExactPoint) × IsLater t.p s.p m
    lo = later_of t.p s.p

    hi : (m : ExactPoint) × IsEarlier t.q s.q m
    hi = earlier_of t.q s.q

    shared : ExactSegment
    shared = record { p = lo.0; q = hi.0 }

    ends : SamePoint lo.0 u.p × SamePoint hi.0 u.q
    ends = common_one shared u t s (common_part t s shared a.segment b.segment v lo.1 hi.1) h

recoloured_key : (sheet : ExactSheet) → IsSheet sheet → (creases : List ExactCrease) (s : ExactSegment) (c : Colour) (f : ExactCrease) → All (λ (t : ExactCrease). IsKey sheet t.seg) creases → IsKey sheet s → StandsRecoloured creases s c f → HasCanonicalEnds f.seg → IsKey sheet f.seg
recoloured_key sheet good creases s c f keys h x held = elim x [
  | inl a ↦ All-contains (λ (t : ExactCrease). IsKey sheet t.seg) creases f keys a.0
  | inr a ↦ (let key = All-contains (λ (t : ExactCrease). IsKey sheet t.seg) creases a.0 keys a.1 in elim a.4 [
    | inl part ↦ part_is_key sheet good f.seg a.0.seg s key h a.2 part.0 held
    | inr common ↦ common_is_key sheet good f.seg a.0.seg s key h a.2 common.0 held
  ])
]

-- A pattern recoloured along a segment is a pattern, where it is few.
pub recoloured_pattern : (pattern : ExactPattern) (s : ExactSegment) (c : Colour) (after : List ExactCrease) → IsPattern pattern → IsKey pattern.sheet s → AreCreases (StandsRecoloured pattern.creases s c) after → length after ≤ crease_limit → IsPattern (with_creases pattern after)
recoloured_pattern pattern s c after p h e few = record {
  sheet = p.sheet;
  keys = λ i x lt. recoloured_key pattern.sheet p.sheet pattern.creases s c (get_or after i x) p.keys h (e.each i x lt) (e.canonical i x lt);
  ordered = e.ordered;
  apart = λ i j x lt within. recoloured_apart pattern.sheet pattern.creases s c (get_or after i x) (get_or after j x) p.keys p.apart h.segment
      (e.each i x (omega (arith, lt, within))) (e.each j x within) (e.ordered i j x lt within);
  few = few;
}
