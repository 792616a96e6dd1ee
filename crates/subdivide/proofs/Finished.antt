-- Where there are too many points and each common point can be held, what is found answers for the lines to come.
use Rattle.std.proofs.Common.{◌≡◌, ◌≢◌, ℕ, zero, suc, ◌+◌, ◌%◌, ◌<◌, List, [], ◌∷◌, length, get_or, Some, true, sym, subst, ◌⊎◌, inl, inr, arith}
use Rattle.std.specs.Prelude.{slice_get}
use Rattle.std.proofs.lemmas.Bool.{cases_lt}
use Rattle.std.proofs.lemmas.Option.{slice_get_within, slice_get-get_or}
use Rattle.exact.specs.Plane.{ExactPoint, ExactSegment, SamePoint, OnSeg, OnBoth, vector, IsPointRepresentable}
use Rattle.geometry.specs.Meeting.{Along}
use Rattle.geometry.proofs.Lines.{On}
use Rattle.geometry.proofs.PointOrder.{ordered, not_past}
use Rattle.geometry.proofs.Segments.{on_line, on_seg, one_common}
use Rattle.geometry.proofs.Directions.{one_direction}
use Rattle.geometry.proofs.Found.{along_half}
use Rattle.plane.proofs.callers.Crossed.{crossing, crossing_itself, crossing_only}
use Rattle.forms.proofs.callers.Common.{small_crossing}
use Rattle.chains.proofs.callers.Elements.{head_has}
use Rattle.subdivide.specs.declared.line.MarkedLine.{MarkedLine}
use Rattle.subdivide.specs.declared.found.Found.{Found}
use Rattle.subdivide.specs.declared.touch.Touch.TheVariants as touch
use Rattle.subdivide.specs.Lines.{AreMarked, AreSwept}
use Rattle.subdivide.specs.Touch.{IsTouch}
use Rattle.subdivide.specs.Found.{Findings, Settled, Leads, IsKept, Grows, AreSmall, AreHeld, AreSettled, AreSettledBefore, IsSweptUpTo}
use Rattle.subdivide.proofs.Noted.{leads_on, leads_weaker, leads_itself, settled_grows, one_settled, noted_ends, cuts_none}
use Rattle.subdivide.proofs.PatternLines.{parallel_or_not}
use Rattle.subdivide.proofs.Cutting.{on_seg_moved}
use Rattle.subdivide.proofs.Touched.{parallel_ends}

-- a point of the line of a segment is on it or not
on_or_off : (s : ExactSegment) (k : ℕ) (c : ExactPoint) → Along s k → On (vector k) s.p c → OnSeg c s ⊎ (OnSeg c s → ⊥)
on_or_off s k c a h = elim (ordered c s.p) [
  | inl l ↦ inr (λ o. o.from l)
  | inr r ↦ elim (ordered s.q c) [
    | inl l ↦ inr (λ o. o.to l)
    | inr g ↦ inl (on_seg s k c a h (not_past c s.p r) (not_past s.q c g))
  ]
]

-- segments of different directions have a common point or none
common_or_not : (s t : ExactSegment) (k j : ℕ) → Along s k → Along t j → k % 8 ≢ j % 8 → ((v : ExactPoint) × OnBoth v s t) ⊎ ((v : ExactPoint) → OnBoth v s t → ⊥)
common_or_not s t k j a b n = elim (on_or_off s k c a z.0) [
  | inr f ↦ inr (λ v o. f (on_seg_moved s k v c a (only v o) o.0))
  | inl h ↦ elim (on_or_off t j c b z.1) [
    | inr f ↦ inr (λ v o. f (on_seg_moved t j v c b (only v o) o.1))
    | inl g ↦ inl (c, (h, g))
  ]
]
  where
    c : ExactPoint
    c = crossing k j s.p t.p

    z : On (vector k) s.p c × On (vector j) t.p c
    z = crossing_itself k j s.p t.p a.small b.small n

    only : (v : ExactPoint) → OnBoth v s t → SamePoint v c
    only v o = crossing_only k j s.p t.p v a.small b.small n (on_line s k v a o.0) (on_line t j v b o.1)

-- a common point that can be held is one where both are cut
held_crossing : (s t : ExactSegment) (k j : ℕ) (v : ExactPoint) → Along s k → Along t j → k % 8 ≢ j % 8 → OnBoth v s t → IsPointRepresentable v → (c : ExactPoint) × IsTouch s t (touch.CutsBoth c)
held_crossing s t k j v a b n o h = (c, (record { here = here; only = λ u w. one_common s t k j u c a b n w here }, (h.0.2, h.1.2)))
  where
    c : ExactPoint
    c = record { x = h.0.0; y = h.1.0 }

    moved : SamePoint v c
    moved = record { x = h.0.1; y = h.1.1 }

    here : OnBoth c s t
    here = (on_seg_moved s k v c a moved o.0, on_seg_moved t j v c b moved o.1)

-- two lines are settled
pair : (lines : List MarkedLine) (found : Found) (i n : ℕ) (l m : MarkedLine) → AreSwept lines → AreHeld lines → found.full ≡ true → i < n → slice_get lines i ≡ Some l → slice_get lines n ≡ Some m
    → Leads lines found found (λ f. Settled f i n l.seg m.seg)
pair lines found i n l m w a full h e f = elim (parallel_or_not l.dir m.dir) [
  | inl d ↦ (noted_ends i n found).leads lines l m h e f (parallel_ends l.seg m.seg l.dir x (subst (Along m.seg) (sym d) y) (w.apart i n l m h e f))
  | inr d ↦ elim (common_or_not l.seg m.seg l.dir m.dir x y (apart d)) [
    | inr g ↦ (noted_ends i n found).leads lines l m h e f (λ v o. absurd (g v o))
    | inl g ↦ (let c = held_crossing l.seg m.seg l.dir m.dir g.0 x y (apart d) g.1 (a.each i n l m g.0 e f d g.1) in (cuts_none i n c.0 found full).leads lines l m h e f c.1)
  ]
]
  where
    x : Along l.seg l.dir
    x = (w.marked.each i l e).along

    y : Along m.seg m.dir
    y = (w.marked.each n m f).along

    apart : l.dir ≢ m.dir → l.dir % 8 ≢ m.dir % 8
    apart d q = d (one_direction l.dir m.dir x.small y.small (along_half l.seg l.dir x) (along_half m.seg m.dir y) q)

-- line n is settled with the first k lines
abbrev AreBelowSettled : List MarkedLine → ℕ → ℕ → Findings → Type 0
AreBelowSettled lines n k f = (i : ℕ) (l m : MarkedLine) → i < k → slice_get lines i ≡ Some l → slice_get lines n ≡ Some m → Settled f i n l.seg m.seg

below : (lines : List MarkedLine) (found : Found) (n k : ℕ) (d : MarkedLine) → AreSwept lines → AreHeld lines → found.full ≡ true → slice_get lines n ≡ Some d → k < suc n
    → Leads lines found found (AreBelowSettled lines n k)
below lines found n zero d w a full e h = leads_itself lines found (AreBelowSettled lines n 0) (λ f k i l m x. absurd (omega (arith, x)))
below lines found n (suc k) d w a full e h = leads_on lines found found found (AreBelowSettled lines n k) (AreSettled lines n (k ∷ [])) (AreBelowSettled lines n (suc k))
    (below lines found n k d w a full e (omega (arith, h))) one
    (λ f g grows u v i l m x y z. elim (cases_lt i k) [
      | inl r ↦ settled_grows f g i n l.seg m.seg grows (u i l m r y z)
      | inr r ↦ v i l m (head_has k i [] (let q : k ≡ i = omega (arith, x, r) in q)) y z
    ])
  where
    l : MarkedLine
    l = get_or lines k d

    is : slice_get lines k ≡ Some l
    is = slice_get-get_or lines k d (omega (arith, h, slice_get_within lines n d e))

    one : Leads lines found found (AreSettled lines n (k ∷ []))
    one = leads_weaker lines found found (λ f. Settled f k n l.seg d.seg) (AreSettled lines n (k ∷ [])) (λ f s. one_settled lines f k n l d is e s) (pair lines found k n l d w a full (omega (arith, h)) is e)

next : (lines : List MarkedLine) (found : Found) (n : ℕ) (d : MarkedLine) → AreSwept lines → AreHeld lines → found.full ≡ true → slice_get lines n ≡ Some d → IsSweptUpTo lines n found → IsSweptUpTo lines (suc n) found
next lines found n d w a full e s = record { findings = u.0; kept = u.1; settled = settled }
  where
    u : (g : Findings) × IsKept lines g found × Grows s.findings g × AreBelowSettled lines n n g
    u = (below lines found n n d w a full e (omega arith)).each s.findings s.kept

    settled : AreSettledBefore lines (suc n) u.0
    settled i j l m h k x y = elim (cases_lt j n) [
      | inl r ↦ settled_grows s.findings u.0 i j l.seg m.seg u.2 (s.settled i j l m h r x y)
      | inr r ↦ (let z : j ≡ n = omega (arith, k, r) in subst (λ c. Settled u.0 i c l.seg m.seg) (sym z) (u.3 i l m (omega (arith, h, z)) x (subst (λ c. slice_get lines c ≡ Some m) z y)))
    ]

pub finished : (lines : List MarkedLine) (found : Found) (n more : ℕ) → AreSwept lines → AreHeld lines → found.full ≡ true → n + more ≡ length lines → IsSweptUpTo lines n found → IsSweptUpTo lines (length lines) found
finished lines found n zero w a full e s = subst (λ k. IsSweptUpTo lines k found) (let z : n ≡ length lines = omega (arith, e) in z) s
finished lines found n (suc more) w a full e s = finished lines found (suc n) more w a full (omega (arith, e)) (next lines found n (get_or lines n (some_line lines n (omega (arith, e)))) w a full (slice_get-get_or lines n (some_line lines n (omega (arith, e))) (omega (arith, e))) s)
  where
    some_line : (ls : List MarkedLine) (n : ℕ) → n < length ls → MarkedLine
    some_line [] n h = absurd (omega (arith, h))
    some_line (l ∷ ls) n h = l

-- lines that begin at small points
pub held_of : (d : ℕ) (lines : List MarkedLine) → AreMarked lines → AreSmall d lines → AreHeld lines
held_of d lines m s = record {
  each = λ i j l n v e f a o. small_crossing d l.dir n.dir l.seg n.seg v (s.each i l e) (s.each j n f) (m.each i l e).along (m.each j n f).along a o;
}
