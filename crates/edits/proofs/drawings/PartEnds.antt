-- The largest parts of a segment outside another on its line: the one in front of it, and the one behind it.
use Rattle.std.proofs.Common.{ℕ, ◌⊎◌, inl, inr}
use Rattle.exact.specs.Plane.{ExactPoint, ExactSegment, SamePoint, Before, IsSegment, OnSeg, OnBoth, Overlap, vector}
use Rattle.geometry.specs.Meeting.{Along}
use Rattle.geometry.proofs.Lines.{On, on_from, on_trans}
use Rattle.geometry.proofs.PointOrder.{ordered, tied, before_trans, before_not_itself, before_not_back, same_before, same_back, same_trans, not_past, before_later, later_of, earlier_of, later_before}
use Rattle.geometry.proofs.Segments.{on_line, on_seg, end_on, end_p, end_q, covered, overlapped}
use Rattle.geometry.proofs.Parts.{part_along}
use Rattle.creases.proofs.callers.Overlaps.{ended}
use Rattle.edits.specs.Parts.{Covers, IsOutside, IsPart}

unfoldable pub front : ExactSegment → ExactSegment → ExactSegment
front t s = record { p = t.p; q = s.p }

unfoldable pub back : ExactSegment → ExactSegment → ExactSegment
back t s = record { p = s.q; q = t.q }

is_segment : (s : ExactSegment) (k : ℕ) → Along s k → IsSegment s
is_segment s k a = (a.ordered, (k, a.small, a.dir))

pub along : (s : ExactSegment) (h : IsSegment s) → Along s h.1.0
along s h = record { small = h.1.1; ordered = h.0; dir = h.1.2 }

-- each begins before the other ends
pub both_pass : (u s : ExactSegment) (k : ℕ) → Along u k → Along s k → On (vector k) u.p s.p → Before s.p u.q → Before u.p s.q → Overlap u s
both_pass u s k a b h l m =
    let lo = later_of u.p s.p in
    let hi = earlier_of u.q s.q in
    overlapped u s k lo.0 hi.0 a b h lo.1 hi.1 (later_before u.p s.p u.q s.q lo.0 hi.0 lo.1 hi.1 a.ordered m l b.ordered)

-- without overlap one ends where the other begins, or before
pub clear_of : (u s : ExactSegment) (k : ℕ) → Along u k → Along s k → On (vector k) u.p s.p → ¬ Overlap u s → (¬ Before s.p u.q) ⊎ (¬ Before u.p s.q)
clear_of u s k a b h n = elim (ordered s.p u.q) [
  | inl l ↦ inr (λ m. n (both_pass u s k a b h l m))
  | inr r ↦ inl (not_past s.p u.q r)
]

-- segments of which one begins where the other ends, or behind
pub begun : (u s : ExactSegment) → ¬ Before u.p s.q → ¬ Overlap u s
begun u s n v = v.2 (same_trans v.0 u.p v.1 (at_start v.0 v.3) (same_back v.1 u.p (at_start v.1 v.4)))
  where
    at_start : (x : ExactPoint) → OnBoth x u s → SamePoint x u.p
    at_start x h = tied x u.p h.0.from (λ b. n (before_later u.p x s.q b h.1.to))

-- a part of t is along t, and its ends are on t
pub record IsOn (u t : ExactSegment) (k : ℕ) : Type 0 where
  pub along : Along u k
  pub from : OnSeg u.p t
  pub to : OnSeg u.q t

pub covered_on : (u t : ExactSegment) (k : ℕ) → Along t k → IsSegment u → Covers t u → IsOn u t k
covered_on u t k a h c =
    let own = along u h in
    let p_on = c u.p (end_p u h.1.0 own) in
    let q_on = c u.q (end_q u h.1.0 own) in
    record { along = part_along t u k a (on_from (vector k) t.p u.p u.q (on_line t k u.p a p_on) (on_line t k u.q a q_on)) own.ordered; from = p_on; to = q_on }

pub outside_on : (u t s : ExactSegment) (k : ℕ) → Along t k → IsOutside u t s → IsOn u t k
outside_on u t s k a o = covered_on u t k a o.segment o.within

-- how t and s lie that overlap
pub record AreOverlapping (t s : ExactSegment) (k : ℕ) : Type 0 where
  pub first : Along t k
  pub second : Along s k
  pub line : On (vector k) t.p s.p
  pub begins : Before s.p t.q
  pub ends : Before t.p s.q

s_end_on : (t s : ExactSegment) (k : ℕ) → AreOverlapping t s k → On (vector k) t.p s.q
s_end_on t s k h = on_trans (vector k) t.p s.p s.q h.line (end_on s k h.second)

front_along : (t s : ExactSegment) (k : ℕ) → AreOverlapping t s k → Before t.p s.p → Along (front t s) k
unfolding front
front_along t s k h b = part_along t (front t s) k h.first h.line b

back_along : (t s : ExactSegment) (k : ℕ) → AreOverlapping t s k → Before s.q t.q → Along (back t s) k
unfolding back
back_along t s k h b = part_along t (back t s) k h.first (on_from (vector k) t.p s.q t.q (s_end_on t s k h) (end_on t k h.first)) b

pub front_outside : (t s : ExactSegment) (k : ℕ) → AreOverlapping t s k → Before t.p s.p → IsOutside (front t s) t s
unfolding front
front_outside t s k h b = record {
  segment = is_segment (front t s) k (front_along t s k h b);
  within = covered t (front t s) k h.first (front_along t s k h b) (end_p t k h.first)
      (on_seg t k s.p h.first h.line (λ x. before_not_back t.p s.p b x) (λ x. before_not_back s.p t.q h.begins x));
  outside = ended (front t s) s (before_not_itself s.p);
}

pub back_outside : (t s : ExactSegment) (k : ℕ) → AreOverlapping t s k → Before s.q t.q → IsOutside (back t s) t s
unfolding back
back_outside t s k h b = record {
  segment = is_segment (back t s) k (back_along t s k h b);
  within = covered t (back t s) k h.first (back_along t s k h b)
      (on_seg t k s.q h.first (s_end_on t s k h) (λ x. before_not_back t.p s.q h.ends x) (λ x. before_not_back s.q t.q b x))
      (end_q t k h.first);
  outside = begun (back t s) s (before_not_itself s.q);
}

-- a part of t that ends where s begins, or before, is within the front
pub in_front : (w t s : ExactSegment) (k : ℕ) → AreOverlapping t s k → IsOutside w t s → ¬ Before s.p w.q → Before t.p s.p → Covers (front t s) w
unfolding front
in_front w t s k h o n b = λ r on. (let at = o.within r on in
    on_seg (front t s) k r (front_along t s k h b) (on_line t k r h.first at) at.from (λ x. n (before_later s.p r w.q x on.to)))

pub in_back : (w t s : ExactSegment) (k : ℕ) → AreOverlapping t s k → IsOutside w t s → ¬ Before w.p s.q → Before s.q t.q → Covers (back t s) w
unfolding back
in_back w t s k h o n b = λ r on. (let at = o.within r on in
    on_seg (back t s) k r (back_along t s k h b) (on_from (vector k) t.p s.q r (s_end_on t s k h) (on_line t k r h.first at)) (λ x. n (behind r on x)) at.to)
  where
    behind : (r : ExactPoint) → OnSeg r w → Before r s.q → Before w.p s.q
    behind r on x = elim (ordered w.p r) [
      | inl l ↦ before_trans w.p r s.q l x
      | inr y ↦ elim y [ inl e ↦ same_before r w.p s.q (same_back w.p r e) x | inr g ↦ absurd (on.from g) ]
    ]

-- the part in front is a largest one
pub front_is_part : (t s : ExactSegment) (k : ℕ) → AreOverlapping t s k → Before t.p s.p → IsPart (front t s) t s
unfolding front
front_is_part t s k h b = record { part = front_outside t s k h b; largest = λ w o c. in_front w t s k h o (ends_there w o c) b }
  where
    ends_there : (w : ExactSegment) → IsOutside w t s → Covers w (front t s) → ¬ Before s.p w.q
    ends_there w o c =
        let on = outside_on w t s k h.first o in
        let starts : ¬ Before t.p w.p = (c t.p (end_p (front t s) k (front_along t s k h b))).from in
        elim (clear_of w s k on.along h.second (on_from (vector k) t.p w.p s.p (on_line t k w.p h.first on.from) h.line) o.outside) [
          | inl n ↦ n
          | inr n ↦ absurd (n (before_later_start w.p starts))
        ]
      where
        before_later_start : (x : ExactPoint) → ¬ Before t.p x → Before x s.q
        before_later_start x n = elim (ordered x t.p) [
          | inl l ↦ before_trans x t.p s.q l h.ends
          | inr y ↦ elim y [ inl e ↦ same_before t.p x s.q (same_back x t.p e) h.ends | inr g ↦ absurd (n g) ]
        ]

pub back_is_part : (t s : ExactSegment) (k : ℕ) → AreOverlapping t s k → Before s.q t.q → IsPart (back t s) t s
unfolding back
back_is_part t s k h b = record { part = back_outside t s k h b; largest = λ w o c. in_back w t s k h o (begins_there w o c) b }
  where
    begins_there : (w : ExactSegment) → IsOutside w t s → Covers w (back t s) → ¬ Before w.p s.q
    begins_there w o c =
        let on = outside_on w t s k h.first o in
        let stops : ¬ Before w.q t.q = (c t.q (end_q (back t s) k (back_along t s k h b))).to in
        elim (clear_of w s k on.along h.second (on_from (vector k) t.p w.p s.p (on_line t k w.p h.first on.from) h.line) o.outside) [
          | inl n ↦ absurd (n (before_later s.p t.q w.q h.begins stops))
          | inr n ↦ n
        ]

-- the ends of segments that cover each other
pub same_ends : (u w : ExactSegment) (k j : ℕ) → Along u k → Along w j → Covers u w → Covers w u → SamePoint u.p w.p × SamePoint u.q w.q
same_ends u w k j a b c d = (
  tied u.p w.p (d u.p (end_p u k a)).from (c w.p (end_p w j b)).from,
  tied u.q w.q (c w.q (end_q w j b)).to (d u.q (end_q u k a)).to,
)

-- a largest part is the one in front or the one behind
pub part_is : (u t s : ExactSegment) (k : ℕ) → AreOverlapping t s k → IsPart u t s
    → (Before t.p s.p × SamePoint u.p t.p × SamePoint u.q s.p) ⊎ (Before s.q t.q × SamePoint u.p s.q × SamePoint u.q t.q)
unfolding front back
part_is u t s k h x = elim (clear_of u s k on.along h.second (on_from (vector k) t.p u.p s.p (on_line t k u.p h.first on.from) h.line) x.part.outside) [
  | inl n ↦ inl (let b = before_front n in let e = same_ends u (front t s) k k on.along (front_along t s k h b) (x.largest (front t s) (front_outside t s k h b) (in_front u t s k h x.part n b)) (in_front u t s k h x.part n b) in (b, e.0, e.1))
  | inr n ↦ inr (let b = before_back n in let e = same_ends u (back t s) k k on.along (back_along t s k h b) (x.largest (back t s) (back_outside t s k h b) (in_back u t s k h x.part n b)) (in_back u t s k h x.part n b) in (b, e.0, e.1))
]
  where
    on : IsOn u t k
    on = outside_on u t s k h.first x.part

    before_front : ¬ Before s.p u.q → Before t.p s.p
    before_front n = before_later t.p u.q s.p (elim (ordered t.p u.p) [
      | inl l ↦ before_trans t.p u.p u.q l on.along.ordered
      | inr y ↦ elim y [ inl e ↦ same_before u.p t.p u.q (same_back t.p u.p e) on.along.ordered | inr g ↦ absurd (on.from.from g) ]
    ]) n

    before_back : ¬ Before u.p s.q → Before s.q t.q
    before_back n = elim (ordered s.q u.p) [
      | inl l ↦ before_trans s.q u.p t.q l (before_later u.p u.q t.q on.along.ordered on.to.to)
      | inr y ↦ elim y [ inl e ↦ same_before u.p s.q t.q (same_back s.q u.p e) (before_later u.p u.q t.q on.along.ordered on.to.to) | inr g ↦ absurd (n g) ]
    ]
