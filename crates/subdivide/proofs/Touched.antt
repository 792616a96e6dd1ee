-- What two lines have in common, from the sides of their ends.
use Rattle.std.proofs.Common.{◌≡◌, ◌≢◌, ℕ, ◌%◌, true, false, refl, sym, ap, subst, ◌∙◌, ◌⊎◌, inl, inr}
use Rattle.std.specs.Prelude.{ℤ, ◌<ℤ◌}
use Rattle.std.proofs.lemmas.Bool.{false≢true}
use Rattle.exact.specs.Plane.{ExactPoint, ExactSegment, SamePoint, OnBoth, Cross, Overlap, vector, IsPointCanonical, IsPointRepresentable}
use Rattle.exact.proofs.Told.{same_itself}
use Rattle.geometry.specs.Meeting.{Along, IsLater, IsEarlier}
use Rattle.geometry.proofs.Lines.{On}
use Rattle.geometry.proofs.Plain.{flat_on, upright_on}
use Rattle.geometry.proofs.Found.{turn_on}
use Rattle.geometry.proofs.PointOrder.{ordered, before_not_same, same_trans, later_of, earlier_of}
use Rattle.geometry.proofs.Segments.{on_line, end_p, end_q, none_common, none_shared, touched, overlapped}
use Rattle.qroot2.specs.declared.sign.Sign.{Sign}
use Rattle.qroot2.specs.declared.sign.Sign.TheVariants as sign
use Rattle.plane.specs.Sides.{IsSide, IsBeside, IsOneSide, IsOnLine}
use Rattle.plane.proofs.callers.Meets.{AreCrossing as AreMeeting, apart_beside, beside_told, at_crossing, at_told, out_told}
use Rattle.subdivide.specs.declared.line.End.{End}
use Rattle.subdivide.specs.declared.line.End.TheVariants as end
use Rattle.subdivide.specs.declared.touch.Touch.TheVariants as touch
use Rattle.subdivide.specs.Lines.{end_at, mark_at, IsMarkedBy}
use Rattle.forms.specs.Marks.{IsMark}
use Rattle.plane.specs.Ways.{IsAhead}
use Rattle.subdivide.specs.declared.line.MarkedLine.{MarkedLine}
use Rattle.forms.proofs.callers.Marked.{leads_ahead, marked_left, marked_right}
use Rattle.subdivide.specs.Touch.{IsEndOf, IsTouch, IsSignAt, AreCrossing}
use Rattle.subdivide.proofs.PatternLines.{on_or_not}

-- as the crate below has it
meeting : (s t : ExactSegment) (k j : ℕ) → AreCrossing s t k j → AreMeeting s t s.p t.p k j
meeting s t k j h = record { from = refl; other = refl; first = h.first; second = h.second; different = h.different; not_first = h.not_first; not_second = h.not_second }

turned : (s t : ExactSegment) (k j : ℕ) → AreCrossing s t k j → AreCrossing t s j k
turned s t k j h = record { first = h.second; second = h.first; different = λ e. h.different (sym e); not_first = h.not_second; not_second = h.not_first }

pub cross_turned : (s t : ExactSegment) (v : ExactPoint) → Cross s t v → Cross t s v
cross_turned s t v c = record { here = (c.here.1, c.here.0); only = λ u o. c.only u (o.1, o.0) }

-- one side
one_side : (s : ExactSegment) (p : ExactPoint) (k : ℕ) (a b : Sign) → IsSide p k s.p a → IsSide p k s.q b → IsOneSide a b → IsBeside p k s
one_side s p k a b h l o = (beside_told s p s.p s.q k a b true refl refl h l (λ u. o, λ x. refl)).0 refl

not_one_side : (s : ExactSegment) (p : ExactPoint) (k : ℕ) (a b : Sign) → IsSide p k s.p a → IsSide p k s.q b → ¬ IsOneSide a b → ¬ IsBeside p k s
not_one_side s p k a b h l n x = false≢true ((beside_told s p s.p s.q k a b false refl refl h l (λ u. absurd (false≢true u), λ y. absurd (n y))).1 x)

pub beside_first : (s t : ExactSegment) (k j : ℕ) (a b : Sign) → Along s k → Along t j → k ≢ j → IsSide t.p j s.p a → IsSide t.p j s.q b → IsOneSide a b → IsTouch s t touch.Ends
beside_first s t k j a b x y n h l o = λ v w. absurd (apart_beside s t s.p t.p k j refl refl x y n (inl (one_side s t.p j a b h l o)) v w)

pub beside_second : (s t : ExactSegment) (k j : ℕ) (a b : Sign) → Along s k → Along t j → k ≢ j → IsSide s.p k t.p a → IsSide s.p k t.q b → IsOneSide a b → IsTouch s t touch.Ends
beside_second s t k j a b x y n h l o = λ v w. absurd (apart_beside s t s.p t.p k j refl refl x y n (inr (one_side t s.p k a b h l o)) v w)

pub crossing_of : (s t : ExactSegment) (k j : ℕ) (a b c d : Sign) → Along s k → Along t j → k ≢ j → IsSide t.p j s.p a → IsSide t.p j s.q b → IsSide s.p k t.p c → IsSide s.p k t.q d → ¬ IsOneSide a b → ¬ IsOneSide c d → AreCrossing s t k j
crossing_of s t k j a b c d x y n f g h l u w = record { first = x; second = y; different = n; not_first = not_one_side s t.p j a b f g u; not_second = not_one_side t s.p k c d h l w }

-- an end on the other line is the common point
on_own : (s : ExactSegment) (k : ℕ) (e : End) → Along s k → IsOnLine s.p k (end_at s e)
on_own s k end.Lesser a = (turn_on k s.p s.p).1 (on_line s k s.p a (end_p s k a))
on_own s k end.Greater a = (turn_on k s.p s.q).1 (on_line s k s.q a (end_q s k a))

sign_at : (s : ExactSegment) (p : ExactPoint) (k : ℕ) (a b : Sign) (e : End) → IsSide p k s.p a → IsSide p k s.q b → IsSignAt a b e sign.Zero → IsOnLine p k (end_at s e)
sign_at s p k a b end.Lesser h l q = subst (IsSide p k s.p) q h
sign_at s p k a b end.Greater h l q = subst (IsSide p k s.q) q l

pub end_first : (s t : ExactSegment) (k j : ℕ) (a b : Sign) (e : End) → AreCrossing s t k j → IsSide t.p j s.p a → IsSide t.p j s.q b → IsSignAt a b e sign.Zero → Cross s t (end_at s e)
end_first s t k j a b e h x y q = at_told s t s.p t.p k j (end_at s e) (meeting s t k j h) (on_own s k e h.first, sign_at s t.p j a b e x y q)

pub end_second : (s t : ExactSegment) (k j : ℕ) (a b : Sign) (e : End) → AreCrossing s t k j → IsSide s.p k t.p a → IsSide s.p k t.q b → IsSignAt a b e sign.Zero → Cross s t (end_at t e)
end_second s t k j a b e h x y q = cross_turned t s (end_at t e) (end_first t s j k a b e (turned s t k j h) x y q)

pub end_is : (s : ExactSegment) (e : End) (v : ExactPoint) → SamePoint v (end_at s e) → IsEndOf v s
end_is s end.Lesser v h = inl h
end_is s end.Greater v h = inr h

pub end_both : (s t : ExactSegment) (e f : End) → Cross s t (end_at s e) → Cross s t (end_at t f) → IsTouch s t touch.Ends
end_both s t e f x y = λ v o. (end_is s e v (x.only v o), end_is t f v (y.only v o))

-- a point inside both
pub inside_told : (s t : ExactSegment) (k j : ℕ) (c : ExactPoint) → AreCrossing s t k j → IsOnLine s.p k c × IsOnLine t.p j c → Cross s t c
inside_told s t k j c h o = at_told s t s.p t.p k j c (meeting s t k j h) o

pub outside_told : (s t : ExactSegment) (k j : ℕ) → AreCrossing s t k j → ((c : ExactPoint) → IsOnLine s.p k c → IsOnLine t.p j c → ¬ IsPointRepresentable c) → IsTouch s t touch.OutOfRange
outside_told s t k j h f = out_told s t s.p t.p k j (meeting s t k j h) f

-- where an upright line meets a level one
pub upright_second : (s t : ExactSegment) (k j : ℕ) (c : ExactPoint) → AreCrossing s t k j → k ≡ 0 → j ≡ 4 → IsPointCanonical c → (let d : ExactPoint = record { x = t.p.x; y = s.p.y } in c ≡ d) → IsTouch s t (touch.CutsBoth c)
upright_second s t k j c h e f p g = (
  subst (λ z. Cross s t z) (sym g)
      (at_crossing s t s.p t.p k j d (meeting s t k j h)
      (subst (λ i. On (vector i) s.p d) (sym e) ((flat_on s.p d).0 (same_itself s.p.y)))
      (subst (λ i. On (vector i) t.p d) (sym f) ((upright_on t.p d).0 (same_itself t.p.x)))),
  p,
)
  where
    d : ExactPoint
    d = record { x = t.p.x; y = s.p.y }

pub upright_first : (s t : ExactSegment) (k j : ℕ) (c : ExactPoint) → AreCrossing s t k j → k ≡ 4 → j ≡ 0 → IsPointCanonical c → (let d : ExactPoint = record { x = s.p.x; y = t.p.y } in c ≡ d) → IsTouch s t (touch.CutsBoth c)
upright_first s t k j c h e f p g = (let x = upright_second t s j k c (turned s t k j h) f e p g in (cross_turned t s c x.0, x.1))

-- lines of one direction that do not overlap have at most ends in common
pub parallel_ends : (s t : ExactSegment) (k : ℕ) → Along s k → Along t k → ¬ Overlap s t → IsTouch s t touch.Ends
parallel_ends s t k a b n = λ v o. elim (on_or_not (vector k) s.p t.p) [
  | inr f ↦ absurd (none_common s t k v a b f o)
  | inl h ↦ by h v o (later_of s.p t.p) (earlier_of s.q t.q)
]
  where
    by : On (vector k) s.p t.p → (v : ExactPoint) → OnBoth v s t → (m : ExactPoint) × IsLater s.p t.p m → (m : ExactPoint) × IsEarlier s.q t.q m → IsEndOf v s × IsEndOf v t
    by h v o lo hi = elim (ordered lo.0 hi.0) [
      | inl l ↦ absurd (n (overlapped s t k lo.0 hi.0 a b h lo.1 hi.1 l))
      | inr r ↦ elim r [
        | inr g ↦ absurd (none_shared s t k lo.0 hi.0 v a b h lo.1 hi.1 g o)
        | inl q ↦ ends lo.0 hi.0 lo.1.one hi.1.one q ((touched s t k lo.0 hi.0 a b h lo.1 hi.1 q).only v o)
      ]
    ]
      where
        ends : (l g : ExactPoint) → (l ≡ s.p) ⊎ (l ≡ t.p) → (g ≡ s.q) ⊎ (g ≡ t.q) → SamePoint l g → SamePoint v l → IsEndOf v s × IsEndOf v t
        ends l g x y q w = elim x [
          | inl e ↦ elim y [
            | inl f ↦ absurd (before_not_same s.p s.q a.ordered (subst (λ z. SamePoint s.p z) f (subst (λ z. SamePoint z g) e q)))
            | inr f ↦ (inl (subst (SamePoint v) e w), inr (subst (SamePoint v) f (same_trans v l g w q)))
          ]
          | inr e ↦ elim y [
            | inl f ↦ (inr (subst (SamePoint v) f (same_trans v l g w q)), inl (subst (SamePoint v) e w))
            | inr f ↦ absurd (before_not_same t.p t.q b.ordered (subst (λ z. SamePoint t.p z) f (subst (λ z. SamePoint z g) e q)))
          ]
        ]

-- the side of an end, by marks that differ
marked_end : (n : ℕ) (l : MarkedLine) (e : End) (k : ℕ) → IsMarkedBy n l → IsAhead k → IsMark n k (end_at l.seg e) (mark_at l e (k % 8))
marked_end n l end.Lesser k h a = h.lesser k a
marked_end n l end.Greater k h a = h.greater k a

pub side_less : (n : ℕ) (l m : MarkedLine) (e : End) (row : ℕ) (a b : ℤ) → IsMarkedBy n l → IsMarkedBy n m → row ≡ l.dir % 8 → a ≡ mark_at m e row → b ≡ mark_at l end.Lesser row → a <ℤ b → IsSide l.seg.p l.dir (end_at m.seg e) sign.Minus
side_less n l m e row a b h g r p q o = (let d = leads_ahead l.seg l.dir h.along in
    marked_right n l.dir l.seg.p (end_at m.seg e) b a
    (subst (IsMark n l.dir l.seg.p) (sym (q ∙ ap (mark_at l end.Lesser) r)) (marked_end n l end.Lesser l.dir h d))
    (subst (IsMark n l.dir (end_at m.seg e)) (sym (p ∙ ap (mark_at m e) r)) (marked_end n m e l.dir g d)) o)

pub side_greater : (n : ℕ) (l m : MarkedLine) (e : End) (row : ℕ) (a b : ℤ) → IsMarkedBy n l → IsMarkedBy n m → row ≡ l.dir % 8 → a ≡ mark_at m e row → b ≡ mark_at l end.Lesser row → b <ℤ a → IsSide l.seg.p l.dir (end_at m.seg e) sign.Plus
side_greater n l m e row a b h g r p q o = (let d = leads_ahead l.seg l.dir h.along in
    marked_left n l.dir l.seg.p (end_at m.seg e) b a
    (subst (IsMark n l.dir l.seg.p) (sym (q ∙ ap (mark_at l end.Lesser) r)) (marked_end n l end.Lesser l.dir h d))
    (subst (IsMark n l.dir (end_at m.seg e)) (sym (p ∙ ap (mark_at m e) r)) (marked_end n m e l.dir g d)) o)

-- an end of a segment is on its line
pub end_on_line : (s : ExactSegment) (k : ℕ) (r : ExactPoint) → Along s k → (r ≡ s.p) ⊎ (r ≡ s.q) → IsSide s.p k r sign.Zero
end_on_line s k r a h = elim h [
  | inl x ↦ subst (λ z. IsOnLine s.p k z) (sym x) (on_own s k end.Lesser a)
  | inr x ↦ subst (λ z. IsOnLine s.p k z) (sym x) (on_own s k end.Greater a)
]
