-- Two segments that overlap lie on one line, and each begins before the other ends.
use Rattle.std.proofs.Common.{ℕ, sym, subst, ◌⊎◌}
use Rattle.exact.specs.Plane.{ExactSegment, SamePoint, Before, IsSegment, Overlap, vector}
use Rattle.geometry.specs.Meeting.{Along}
use Rattle.geometry.proofs.Lines.{on_trans, on_back}
use Rattle.geometry.proofs.Segments.{on_line}
use Rattle.creases.proofs.callers.Overlaps.{one_way, passes}
use Rattle.edits.specs.Parts.{IsPart}
use Rattle.edits.proofs.drawings.PartEnds.{along, AreOverlapping, front, back, front_is_part, back_is_part, part_is}

pub overlapping : (t s : ExactSegment) → IsSegment t → IsSegment s → Overlap t s → (k : ℕ) × AreOverlapping t s k
overlapping t s h l v =
    let a = along t h in
    let b = along s l in
    let e = one_way t s h.1.0 l.1.0 a b v in
    let b' = subst (λ k. Along s k) (sym e) b in
    let p = passes t s v in (
      h.1.0,
      record {
        first = a;
        second = b';
        line = on_trans (vector h.1.0) t.p v.0 s.p (on_line t h.1.0 v.0 a v.3.0) (on_back (vector h.1.0) s.p v.0 (on_line s h.1.0 v.0 b' v.3.1));
        begins = p.0;
        ends = p.1;
      },
    )

pub front_part : (t s : ExactSegment) → IsSegment t → IsSegment s → Overlap t s → Before t.p s.p → (let u : ExactSegment = record { p = t.p; q = s.p } in IsPart u t s)
unfolding front
front_part t s h l v b = (let o = overlapping t s h l v in front_is_part t s o.0 o.1 b)

pub back_part : (t s : ExactSegment) → IsSegment t → IsSegment s → Overlap t s → Before s.q t.q → (let u : ExactSegment = record { p = s.q; q = t.q } in IsPart u t s)
unfolding back
back_part t s h l v b = (let o = overlapping t s h l v in back_is_part t s o.0 o.1 b)

pub only_parts : (u t s : ExactSegment) → IsSegment t → IsSegment s → Overlap t s → IsPart u t s
    → (Before t.p s.p × SamePoint u.p t.p × SamePoint u.q s.p) ⊎ (Before s.q t.q × SamePoint u.p s.q × SamePoint u.q t.q)
only_parts u t s h l v p = (let o = overlapping t s h l v in part_is u t s o.0 o.1 p)
