-- After a drawing over a pattern each crease is what a pattern may have, so they are a pattern where they are few.
use Rattle.std.specs.Prelude.{All}
use Rattle.std.proofs.Common.{ℕ, ◌%◌, ◌<◌, ◌≤◌, List, length, get_or, sym, subst, inl, inr, arith}
use Rattle.std.proofs.lemmas.Bool.{cases_order}
use Rattle.std.proofs.lemmas.List.Elements.{All-contains}
use Rattle.exact.specs.Plane.{ExactSegment, IsSegment, Overlap, vector}
use Rattle.exact.proofs.Order.{same_turned}
use Rattle.sheet.specs.Sheet.{ExactSheet, IsSheet, InSheet, OnBorder}
use Rattle.sheet.specs.Pattern.{ExactCrease, ExactPattern, IsPattern, IsKey, crease_limit}
use Rattle.geometry.specs.Meeting.{Along}
use Rattle.geometry.proofs.Lines.{On, one_point}
use Rattle.geometry.proofs.Directions.{not_parallel, unequal}
use Rattle.geometry.proofs.PointOrder.{before_not_same, same_back}
use Rattle.geometry.proofs.Plain.{upright_on, flat_on}
use Rattle.geometry.proofs.Segments.{on_line, end_on}
use Rattle.geometry.proofs.Parallels.{on_parallel}
use Rattle.plane.specs.Segments.{HasCanonicalEnds}
use Rattle.plane.proofs.callers.Sides.{on_one_side, end_moved}
use Rattle.edits.specs.Parts.{Covers, IsPart}
use Rattle.edits.specs.Drafts.{with_creases}
use Rattle.edits.specs.Drawn.{StandsAfter, Drawn}
use Rattle.edits.proofs.drawings.PartEnds.{IsOn, covered_on, along}
use Rattle.edits.proofs.drawings.Overlapping.{only_parts}
use Rattle.edits.proofs.drawings.StillApart.{drawn_apart}
use Rattle.edits.proofs.SheetPoints.{in_moved}

-- a part of t that lies on a line of direction m leaves t on it
same_line : (u t : ExactSegment) (k m : ℕ) → m < 16 → Along t k → IsOn u t k → On (vector m) u.p u.q → On (vector m) t.p u.p × On (vector m) t.p t.q
same_line u t k m small a on h = elim (cases_order (k % 8) (m % 8)) [
  | inl e ↦ (on_parallel k m t.p u.p a.small small e (on_line t k u.p a on.from), on_parallel k m t.p t.q a.small small e (end_on t k a))
  | inr n ↦ absurd (before_not_same u.p u.q on.along.ordered (one_point (vector k) (vector m) u.p u.q (not_parallel k m a.small small (unequal (k % 8) (m % 8) n)) (end_on u k on.along) h))
]

-- a segment on one in the sheet is on a side only where that one is
pub part_inner : (sheet : ExactSheet) → IsSheet sheet → (u t : ExactSegment) → IsSegment t → InSheet sheet t.p → InSheet sheet t.q → ¬ OnBorder sheet t → IsSegment u → Covers t u → ¬ OnBorder sheet u
part_inner sheet good u t h p_in q_in inner l c border = inner ((on_one_side sheet t good h).0 (
  (p_in, q_in),
  elim ((on_one_side sheet u good l).1 border).1 [
    | inl x ↦ inl (let m = same_line u t h.1.0 4 (omega arith) (along t h) on ((upright_on u.p u.q).0 x.0) in
        ((upright_on t.p t.q).1 m.1, end_moved sheet.w u.p.x t.p.x (same_turned t.p.x u.p.x ((upright_on t.p u.p).1 m.0)) x.1))
    | inr y ↦ inr (let m = same_line u t h.1.0 0 (omega arith) (along t h) on ((flat_on u.p u.q).0 y.0) in
        ((flat_on t.p t.q).1 m.1, end_moved sheet.h u.p.y t.p.y (same_turned t.p.y u.p.y ((flat_on t.p u.p).1 m.0)) y.1))
  ],
))
  where
    on : IsOn u t h.1.0
    on = covered_on u t h.1.0 (along t h) l c

-- a largest part of a key outside another key may be a key
pub part_is_key : (sheet : ExactSheet) → IsSheet sheet → (u t s : ExactSegment) → IsKey sheet t → IsKey sheet s → Overlap t s → IsPart u t s → HasCanonicalEnds u → IsKey sheet u
part_is_key sheet good u t s a b v p c = record {
  segment = p.part.segment;
  from = c.0;
  to = c.1;
  from_in = ends.0;
  to_in = ends.1;
  inner = part_inner sheet good u t a.segment a.from_in a.to_in a.inner p.part.segment p.part.within;
}
  where
    ends : InSheet sheet u.p × InSheet sheet u.q
    ends = elim (only_parts u t s a.segment b.segment v p) [
      | inl x ↦ (in_moved sheet t.p u.p (same_back u.p t.p x.1) a.from_in, in_moved sheet s.p u.q (same_back u.q s.p x.2) b.from_in)
      | inr x ↦ (in_moved sheet s.q u.p (same_back u.p s.q x.1) b.to_in, in_moved sheet t.q u.q (same_back u.q t.q x.2) a.to_in)
    ]

pub stands_key : (sheet : ExactSheet) → IsSheet sheet → (creases : List ExactCrease) (d f : ExactCrease) → All (λ (t : ExactCrease). IsKey sheet t.seg) creases → IsKey sheet d.seg → StandsAfter creases d f → HasCanonicalEnds f.seg → IsKey sheet f.seg
stands_key sheet good creases d f keys h x c = elim x [
  | inl e ↦ subst (λ (z : ExactCrease). IsKey sheet z.seg) (sym e) h
  | inr l ↦ elim l [
    | inl kept ↦ All-contains (λ (t : ExactCrease). IsKey sheet t.seg) creases f keys kept.0
    | inr part ↦ part_is_key sheet good f.seg part.0.seg d.seg (All-contains (λ (t : ExactCrease). IsKey sheet t.seg) creases part.0 keys part.1) h part.2 part.3 c
  ]
]

-- What stands after a drawing over a pattern is a pattern, where it is few.
pub drawn_pattern : (pattern : ExactPattern) (d : ExactCrease) (after : List ExactCrease) → IsPattern pattern → IsKey pattern.sheet d.seg → Drawn pattern.creases d after → length after ≤ crease_limit → IsPattern (with_creases pattern after)
drawn_pattern pattern d after p h s few = record {
  sheet = p.sheet;
  keys = λ i x lt. stands_key pattern.sheet p.sheet pattern.creases d (get_or after i x) p.keys h (s.each i x lt) (s.canonical i x lt);
  ordered = s.ordered;
  apart = drawn_apart pattern d after p h.segment s;
  few = few;
}
