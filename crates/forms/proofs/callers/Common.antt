-- Segments from points that are small over one denominator meet where a point can be held.
use Rattle.std.proofs.Common.{◌≡◌, ◌≢◌, ℕ, suc, ◌+◌, ◌*◌, ◌/◌, ◌%◌, ◌<◌, ◌≤◌, ◌^◌, [], ◌∷◌, refl, sym, ap, ◌∙◌, arith}
use Rattle.std.specs.Prelude.{ℤ, pos, negsuc, neg_ℤ, unsigned_abs}
use Rattle.std.proofs.lemmas.Nat.{mul-le}
use Rattle.std.proofs.Math.Nat.{mul-pos, div-le_self}
use Rattle.exact.specs.Number.{ExactNumber, Same, IsRepresentable, den}
use Rattle.exact.specs.Plane.{ExactPoint, ExactSegment, SamePoint, OnBoth, vector, IsPointRepresentable}
use Rattle.exact.proofs.Lowest.{scales}
use Rattle.exact.proofs.Order.{same_turned}
use Rattle.exact.proofs.Ring.{neg_size}
use Rattle.qroot2.specs.Num.{Reduces, signed}
use Rattle.qroot2.proofs.callers.Made.{made}
use Rattle.qroot2.proofs.callers.Reduced.{reduced}
use Rattle.geometry.specs.Root.{Root, plus, times, minus, count, size}
use Rattle.geometry.specs.Gap.{num, dn, det, norm, partner, signed_as}
use Rattle.geometry.specs.Meeting.{Along}
use Rattle.geometry.proofs.Solve.{at, add, mul, opp, solve}
use Rattle.geometry.proofs.Gap.{num_same, count_product}
use Rattle.geometry.proofs.Lines.{on_from, on_same}
use Rattle.geometry.proofs.Partner.{norm_size}
use Rattle.geometry.proofs.Segments.{on_line}
use Rattle.geometry.proofs.Directions.{one_direction}
use Rattle.geometry.proofs.Found.{along_half}
use Rattle.geometry.proofs.Sizes.{vector_small, det_within, turned_within, times_within, size_plus, size_minus}
use Rattle.plane.specs.Ways.{offset_of}
use Rattle.plane.specs.Crossings.{over, weight_of, lift_of}
use Rattle.plane.proofs.callers.Crossed.{crossing, crossing_only, held, num_over, dn_over, weight_above}
use Rattle.forms.specs.Common.{IsSmall}

times_both : (x y z w : Root) → x ≡ y → z ≡ w → times x z ≡ times y w
times_both x y z w e f = ap (λ t. times t z) e ∙ ap (times y) f

-- a number within bounds can be held
representable : (a b : ℤ) (m : ℕ) → 0 < m → m ≤ 2 ^ 20 → unsigned_abs a ≤ 2 ^ 48 → unsigned_abs b ≤ 2 ^ 48 → IsRepresentable (record { a = a; b = b; d = m })
representable a b m h k u v =
    let f = scales (suc m) (unsigned_abs a) m (omega arith) in
    let g = scales (suc f.g) (unsigned_abs b) f.g (omega arith) in
    let r : Reduces (unsigned_abs a) (unsigned_abs b) m (unsigned_abs a / g.g) (unsigned_abs b / g.g) (m / g.g) = reduced (unsigned_abs a) (unsigned_abs b) m f.g g.g h f.here g.here in
    let w = made a b (signed a (unsigned_abs a / g.g)) (signed b (unsigned_abs b / g.g)) m (unsigned_abs a / g.g) (unsigned_abs b / g.g) (m / g.g) h r
    (omega (arith, div-le_self (unsigned_abs a) g.g)) (omega (arith, div-le_self (unsigned_abs b) g.g)) (omega (arith, div-le_self m g.g)) refl refl in
    (_, same_turned _ _ w.0, w.1)

-- a denominator above zero
dn_told : (x : ExactNumber) (d : ℕ) → 0 < d → x.d ≡ d → dn x ≡ count d
unfolding dn
dn_told x d h e = ap count (omega (arith, e))

-- both coordinates are over d
record AreOver (d : ℕ) (p : ExactPoint) : Type 0 where
  some : 0 < d
  x : p.x.d ≡ d
  y : p.y.d ≡ d

abbrev cube : ℕ → Root
cube d = times (count d) (times (count d) (count d))

square_told : (p : ExactPoint) (d : ℕ) → AreOver d p → count (weight_of p) ≡ times (count d) (count d)
unfolding dn
square_told p d h = count_product (den p.x) (den p.y) ∙ times_both _ _ _ _ (dn_told p.x d h.some h.x) (dn_told p.y d h.some h.y)

lift_told : (j d : ℕ) (l p : ExactPoint) → AreOver d l → AreOver d p → lift_of j l p ≡ times (offset_of j (num l.x) (num l.y)) (cube d)
lift_told j d l p h k = rw (dn_told l.x d h.some h.x, dn_told l.y d h.some h.y, square_told p d k)
    (solve (num (vector j).x ∷ num (vector j).y ∷ num l.x ∷ num l.y ∷ count d ∷ [])
    (mul (add (mul (at 0) (mul (at 3) (at 4))) (opp (mul (at 1) (mul (at 2) (at 4))))) (mul (at 4) (at 4)))
    (mul (add (mul (at 0) (at 3)) (opp (mul (at 1) (at 2)))) (mul (at 4) (mul (at 4) (at 4)))) refl)

-- a numerator of a crossing over d
abbrev crossed : Root → Root → Root → Root → Root → Root
crossed v w a b by = times (plus (times v a) (minus (times w b))) by

-- the common factors of a crossing's numerator and denominator left out
lowered : (v w a b s t by : Root) (d m n : ℕ) → 0 < d → 0 < m → 0 < n → count n ≡ times (times (count d) (count d)) (times (count d) (count d)) → s ≡ times a (cube d) → t ≡ times b (cube d)
    → Same (over (crossed v w s t by) (m * n)) (over (crossed v w a b by) (m * d))
lowered v w a b s t by d m n h k i e f g = num_same (over (crossed v w s t by) (m * n)) (over (crossed v w a b by) (m * d)) (
    times_both _ _ _ _ (num_over (crossed v w s t by) (m * n) ∙ rw (f, g) refl) (dn_over (crossed v w a b by) m d k h)
    ∙ solve (v ∷ w ∷ a ∷ b ∷ by ∷ count d ∷ count m ∷ [])
    (mul (mul (add (mul (at 0) (mul (at 2) (mul (at 5) (mul (at 5) (at 5))))) (opp (mul (at 1) (mul (at 3) (mul (at 5) (mul (at 5) (at 5))))))) (at 4)) (mul (at 6) (at 5)))
    (mul (mul (add (mul (at 0) (at 2)) (opp (mul (at 1) (at 3)))) (at 4)) (mul (at 6) (mul (mul (at 5) (at 5)) (mul (at 5) (at 5))))) refl
    ∙ sym (times_both _ _ _ _ (num_over (crossed v w a b by) (m * d)) (dn_over (crossed v w s t by) m n k i ∙ ap (times (count m)) e)))

signed_size : (z : ℤ) (x : Root) → size (signed_as z x) ≡ size x
signed_size (pos n) x = refl
signed_size (negsuc n) x = size_minus x

partner_size : (x : Root) → size (partner x) ≡ size x
partner_size x = signed_size (norm x) _ ∙ (let e : unsigned_abs x.a + unsigned_abs (neg_ℤ x.b) ≡ size x = omega (arith, neg_size x.b) in e)

crossed_size : (v w a b by : Root) → size v ≤ 2 → size w ≤ 2 → size a ≤ 2 ^ 40 → size b ≤ 2 ^ 40 → size by ≤ 16 → size (crossed v w a b by) ≤ 2 ^ 48
crossed_size v w a b by h i k l m = times_within (plus (times v a) (minus (times w b))) by (2 ^ 43) 16 (omega (arith, size_plus (times v a) (minus (times w b)), size_minus (times w b), times_within v a 2 (2 ^ 40) h k, times_within w b 2 (2 ^ 40) i l)) m

-- a crossing's coordinate can be held
coordinate : (v w a b s t D : Root) (d m n : ℕ) → 0 < d → d ≤ 2 ^ 17 → 0 < m → m < 9 → 0 < n → count n ≡ times (times (count d) (count d)) (times (count d) (count d)) → s ≡ times a (cube d) → t ≡ times b (cube d)
    → size v ≤ 2 → size w ≤ 2 → size a ≤ 2 ^ 40 → size b ≤ 2 ^ 40 → size D ≤ 16 → IsRepresentable (over (crossed v w s t (partner D)) (m * n))
coordinate v w a b s t D d m n h i k l o e f g x y z u q =
    let by : size (partner D) ≤ 16 = omega (arith, partner_size D) in
    let r = crossed_size v w a b (partner D) x y z u by in
    held (over (crossed v w a b (partner D)) (m * d)) (over (crossed v w s t (partner D)) (m * n)) (same_turned _ _ (lowered v w a b s t (partner D) d m n h k o e f g))
    (representable (crossed v w a b (partner D)).a (crossed v w a b (partner D)).b (m * d) (mul-pos k h) (omega (arith, mul-le m d 8 (2 ^ 17) (omega arith) i)) (omega (arith, r)) (omega (arith, r)))

-- a point by its small numerators
abbrev small_point : (d : ℕ) (p : ExactPoint) → IsSmall d p → ExactPoint
small_point d p s = record { x = record { a = s.x.a; b = s.x.b; d = d }; y = record { a = s.y.a; b = s.y.b; d = d } }

over_d : (d : ℕ) (p : ExactPoint) (s : IsSmall d p) → AreOver d (small_point d p s)
over_d d p s = record { some = s.some; x = refl; y = refl }

small_same : (d : ℕ) (p : ExactPoint) (s : IsSmall d p) → SamePoint p (small_point d p s)
small_same d p s = record { x = s.x.same; y = s.y.same }

offset_small : (k d : ℕ) (p : ExactPoint) (s : IsSmall d p) → size (offset_of k (num (small_point d p s).x) (num (small_point d p s).y)) ≤ 2 ^ 40
unfolding num
offset_small k d p s = omega (arith, turned_within k (num (small_point d p s).x) (num (small_point d p s).y) (2 ^ 37) (omega (arith, s.x.a_within, s.x.b_within)) (omega (arith, s.y.a_within, s.y.b_within)))

-- where lines through small points cross
held_crossing : (d k j : ℕ) (p l : ExactPoint) (s : IsSmall d p) (t : IsSmall d l) → k < 16 → j < 16 → k % 8 ≢ j % 8 → IsPointRepresentable (crossing k j (small_point d p s) (small_point d l t))
held_crossing d k j p l s t h i n = (
  coordinate (num (vector k).x) (num (vector j).x) _ _ _ _ (det (vector j) (vector k)) d (unsigned_abs (norm (det (vector j) (vector k)))) _ s.some s.limit small.0 small.1 weight weighs first second (vector_small k).0 (vector_small j).0 (offset_small j d l t) (offset_small k d p s) (det_within k j),
  coordinate (num (vector k).y) (num (vector j).y) _ _ _ _ (det (vector j) (vector k)) d (unsigned_abs (norm (det (vector j) (vector k)))) _ s.some s.limit small.0 small.1 weight weighs first second (vector_small k).1 (vector_small j).1 (offset_small j d l t) (offset_small k d p s) (det_within k j),
)
  where
    small : (0 < unsigned_abs (norm (det (vector j) (vector k)))) × (unsigned_abs (norm (det (vector j) (vector k))) < 9)
    small = norm_size k j h i n

    here : ExactPoint
    here = small_point d p s

    there : ExactPoint
    there = small_point d l t

    first : lift_of j there here ≡ times (offset_of j (num there.x) (num there.y)) (cube d)
    first = lift_told j d there here (over_d d l t) (over_d d p s)

    second : lift_of k here there ≡ times (offset_of k (num here.x) (num here.y)) (cube d)
    second = lift_told k d here there (over_d d p s) (over_d d l t)

    weight : 0 < weight_of here * weight_of there
    weight = mul-pos (weight_above here) (weight_above there)

    weighs : count (weight_of here * weight_of there) ≡ times (times (count d) (count d)) (times (count d) (count d))
    weighs = count_product (weight_of here) (weight_of there) ∙ times_both _ _ _ _ (square_told here d (over_d d p s)) (square_told there d (over_d d l t))

pub small_crossing : (d k j : ℕ) (s t : ExactSegment) (v : ExactPoint) → IsSmall d s.p → IsSmall d t.p → Along s k → Along t j → k ≢ j → OnBoth v s t → IsPointRepresentable v
small_crossing d k j s t v h i a b n o = (held (crossing k j here there).x v.x (same_turned v.x (crossing k j here there).x only.x) it.0, held (crossing k j here there).y v.y (same_turned v.y (crossing k j here there).y only.y) it.1)
  where
    apart : k % 8 ≢ j % 8
    apart q = n (one_direction k j a.small b.small (along_half s k a) (along_half t j b) q)

    here : ExactPoint
    here = small_point d s.p h

    there : ExactPoint
    there = small_point d t.p i

    it : IsPointRepresentable (crossing k j here there)
    it = held_crossing d k j s.p t.p h i a.small b.small apart

    only : SamePoint v (crossing k j here there)
    only = crossing_only k j here there v a.small b.small apart
        (on_from (vector k) s.p here v (on_same (vector k) s.p here (small_same d s.p h)) (on_line s k v a o.0))
        (on_from (vector j) t.p there v (on_same (vector j) t.p there (small_same d t.p i)) (on_line t j v b o.1))
