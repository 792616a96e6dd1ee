-- The images of the ends of a segment are joined by one of the sixteen directions.
use Rattle.std.specs.Prelude.{Result, Ok, Err}
use Rattle.std.specs.Result.{IsOk}
use Rattle.std.proofs.Common.{◌≡◌, ◌≢◌, ℕ, ◌+◌, ◌%◌, ◌<◌, ◌≤◌, [], ◌∷◌, refl, sym, ap, subst, ◌∙◌, ◌⊎◌, inl, inr, arith}
use Rattle.std.proofs.lemmas.Bool.{cases_order}
use Rattle.exact.specs.Number.{Same, neg}
use Rattle.exact.specs.Plane.{ExactPoint, ExactSegment, SamePoint, Before, IsSegment, vector}
use Rattle.geometry.specs.Root.{Root, plus, times, minus, count, Above}
use Rattle.geometry.specs.Gap.{num, gx, gy, cross}
use Rattle.geometry.proofs.Solve.{at, add, mul, opp, solve}
use Rattle.geometry.proofs.Domain.{above_times}
use Rattle.geometry.proofs.Gap.{same_num, difference_none, none_difference, out_right}
use Rattle.geometry.proofs.Lines.{On, on_back, on_from, on_same, one_point, weight, weight_above, apart_zero}
use Rattle.geometry.proofs.Directions.{not_parallel, vector_whole, vector_ahead}
use Rattle.geometry.proofs.Found.{turn_cross, turn_on, on_along, along_of}
use Rattle.geometry.proofs.Segments.{end_on}
use Rattle.geometry.proofs.PointOrder.{ordered, before_not_same, same_itself}
use Rattle.geometry.proofs.Parallels.{on_parallel}
use Rattle.geometry.proofs.RaySides.{opposite_half}
use Rattle.geometry.proofs.Parts.{num_neg, dn_neg}
use Rattle.plane.specs.Sides.{turn_of}
use Rattle.plane.specs.Segments.{HasEnds}
use Rattle.plane.specs.Images.{IsImage}
use Rattle.plane.specs.declared.segment.SegBad.{SegBad}
use Rattle.plane.specs.declared.segment.SegBad.TheVariants as bad
use Rattle.plane.proofs.callers.Imaged.{aside, aside_vector, regroup_out, on_gap, gap_same, dn_turn}
use Rattle.plane.proofs.callers.MirroredVectors.{IsMirrored, is_mirrored, mirrored, mirrored_x, mirrored_y}

-- v is as far on the other side as p, straight across
record IsAcross (k : ℕ) (a p v : ExactPoint) : Type 0 where
  far : times (cross (vector k) a v) (weight p) ≡ minus (times (cross (vector k) a p) (weight v))
  straight : On (vector (aside k)) p v

-- equal products with a number above zero
far_told : (k : ℕ) (a p v : ExactPoint) → Same (turn_of a k v) (neg (turn_of a k p)) → times (cross (vector k) a v) (weight p) ≡ minus (times (cross (vector k) a p) (weight v))
far_told k a p v s = regroup_out (cross (vector k) a v) (cross (vector k) a p) (weight a) (weight p) (weight v) (weight_above a) (
    rw (dn_neg (turn_of a k p), num_neg (turn_of a k p), dn_turn k a p, dn_turn k a v, turn_cross (vector k) a v (vector_whole k), turn_cross (vector k) a p (vector_whole k))
    at (same_num (turn_of a k v) (neg (turn_of a k p)) s))

image_across : (k : ℕ) (a p v : ExactPoint) → IsImage a k p v → IsAcross k a p v
image_across k a p v h = record {
  far = far_told k a p v h.opposite;
  straight = on_from (vector (aside k)) h.foot.0 p v ((turn_on (aside k) h.foot.0 p).0 h.foot.1.upright) ((turn_on (aside k) h.foot.0 v).0 h.foot.2.upright);
}

across_back : (k : ℕ) (a p v : ExactPoint) → IsAcross k a p v → IsAcross k a v p
across_back k a p v h = record {
  far = solve (times (cross (vector k) a p) (weight v) ∷ []) (at 0) (opp (opp (at 0))) refl ∙ ap minus (sym h.far);
  straight = on_back (vector (aside k)) p v h.straight;
}

-- points of one line, seen from a third one
-- By numerators: x and y of the axis, m of a direction, the way to p by X and Y, to v by Z and W.
way_core : (x y mx my X Y Z W p v : Root) → times (plus (times x W) (minus (times y Z))) p ≡ minus (times (plus (times x Y) (minus (times y X))) v)
    → times (plus (times (minus y) W) (minus (times x Z))) p ≡ times (plus (times (minus y) Y) (minus (times x X))) v
    → times (plus (times (mirrored_x x y mx my) W) (minus (times (mirrored_y x y mx my) Z))) p ≡ minus (times (times (plus (times x x) (times y y)) (plus (times mx Y) (minus (times my X)))) v)
way_core x y mx my X Y Z W p v e f =
    solve (x ∷ y ∷ mx ∷ my ∷ Z ∷ W ∷ p ∷ [])
    (mul (add (mul (add (mul (add (mul (at 2) (at 0)) (mul (at 3) (at 1))) (at 0)) (mul (add (mul (at 0) (at 3)) (opp (mul (at 1) (at 2)))) (at 1))) (at 5)) (opp (mul (add (mul (add (mul (at 2) (at 0)) (mul (at 3) (at 1))) (at 1)) (opp (mul (add (mul (at 0) (at 3)) (opp (mul (at 1) (at 2)))) (at 0)))) (at 4)))) (at 6))
    (add (mul (add (mul (at 2) (at 0)) (mul (at 3) (at 1))) (mul (add (mul (at 0) (at 5)) (opp (mul (at 1) (at 4)))) (at 6))) (opp (mul (add (mul (at 0) (at 3)) (opp (mul (at 1) (at 2)))) (mul (add (mul (opp (at 1)) (at 5)) (opp (mul (at 0) (at 4)))) (at 6))))) refl
    ∙ rw (e, f)
    (solve (x ∷ y ∷ mx ∷ my ∷ X ∷ Y ∷ v ∷ [])
    (add (mul (add (mul (at 2) (at 0)) (mul (at 3) (at 1))) (opp (mul (add (mul (at 0) (at 5)) (opp (mul (at 1) (at 4)))) (at 6)))) (opp (mul (add (mul (at 0) (at 3)) (opp (mul (at 1) (at 2)))) (mul (add (mul (opp (at 1)) (at 5)) (opp (mul (at 0) (at 4)))) (at 6)))))
    (opp (mul (mul (add (mul (at 0) (at 0)) (mul (at 1) (at 1))) (add (mul (at 2) (at 5)) (opp (mul (at 3) (at 4))))) (at 6))) refl)

-- the mirrored direction is scaled
scaled_core : (n i u w s g W Z : Root) → times s n ≡ times g u → times s i ≡ times g w → times s (plus (times n W) (minus (times i Z))) ≡ times g (plus (times u W) (minus (times w Z)))
scaled_core n i u w s g W Z e f =
    solve (n ∷ i ∷ s ∷ W ∷ Z ∷ []) (mul (at 2) (add (mul (at 0) (at 3)) (opp (mul (at 1) (at 4))))) (add (mul (mul (at 2) (at 0)) (at 3)) (opp (mul (mul (at 2) (at 1)) (at 4)))) refl
    ∙ rw (e, f)
    (solve (u ∷ w ∷ g ∷ W ∷ Z ∷ []) (add (mul (mul (at 2) (at 0)) (at 3)) (opp (mul (mul (at 2) (at 1)) (at 4)))) (mul (at 2) (add (mul (at 0) (at 3)) (opp (mul (at 1) (at 4))))) refl)

-- the square of the length of a direction's vector
square : ℕ → Root
square k = plus (times (num (vector k).x) (num (vector k).x)) (times (num (vector k).y) (num (vector k).y))

straight_core : (k : ℕ) (a p v : ExactPoint) → k < 16 → On (vector (aside k)) p v
    → times (plus (times (minus (num (vector k).y)) (gy a v)) (minus (times (num (vector k).x) (gx a v)))) (weight p) ≡ times (plus (times (minus (num (vector k).y)) (gy a p)) (minus (times (num (vector k).x) (gx a p)))) (weight v)
unfolding cross
straight_core k a p v h o = (let u = aside_vector k h in let e = on_gap (vector (aside k)) a p v o in rw (u.0, u.1) at e)

-- how far aside from direction m a point is, and its image from the mirrored direction
mirrored_way : (k m n : ℕ) (a p v : ExactPoint) (i : IsMirrored k m n) → k < 16 → IsAcross k a p v
    → times (times i.stretch (cross (vector n) a v)) (weight p) ≡ times i.square (minus (times (times (square k) (cross (vector m) a p)) (weight v)))
unfolding cross square
mirrored_way k m n a p v i h c =
    let x = num (vector k).x in
    let y = num (vector k).y in
    let mx = num (vector m).x in
    let my = num (vector m).y in
    ap (λ z. times z (weight p)) (scaled_core (num (vector n).x) (num (vector n).y) (mirrored_x x y mx my) (mirrored_y x y mx my) i.stretch i.square (gy a v) (gx a v) i.x i.y)
    ∙ solve (i.square ∷ plus (times (mirrored_x x y mx my) (gy a v)) (minus (times (mirrored_y x y mx my) (gx a v))) ∷ weight p ∷ []) (mul (mul (at 0) (at 1)) (at 2)) (mul (at 0) (mul (at 1) (at 2))) refl
    ∙ ap (times i.square) (way_core x y mx my (gx a p) (gy a p) (gx a v) (gy a v) (weight p) (weight v) c.far (straight_core k a p v h c.straight))

-- a factor that is not zero
cancelled_by : (x y s w : Root) → s ≢ count 0 → Above w → times x (times s w) ≡ times y (times s w) → x ≡ y
cancelled_by x y s w n h e = difference_none x y (out_right (plus x (minus y)) w h (apart_zero s (times (plus x (minus y)) w) n (
    solve (x ∷ y ∷ s ∷ w ∷ []) (mul (at 2) (mul (add (at 0) (opp (at 1))) (at 3))) (add (mul (at 0) (mul (at 2) (at 3))) (opp (mul (at 1) (mul (at 2) (at 3))))) refl
    ∙ none_difference _ _ e)))

ends_core : (s g n fp fq ev ew p q v w : Root) → times (times s ev) p ≡ times g (minus (times (times n fp) v)) → times (times s ew) q ≡ times g (minus (times (times n fq) w)) → times fq p ≡ times fp q
    → times (times ev w) (times s (times p q)) ≡ times (times ew v) (times s (times p q))
ends_core s g n fp fq ev ew p q v w e f h =
    solve (s ∷ ev ∷ p ∷ q ∷ w ∷ []) (mul (mul (at 1) (at 4)) (mul (at 0) (mul (at 2) (at 3)))) (mul (mul (mul (at 0) (at 1)) (at 2)) (mul (at 3) (at 4))) refl
    ∙ ap (λ z. times z (times q w)) e
    ∙ solve (g ∷ n ∷ fp ∷ v ∷ q ∷ w ∷ []) (mul (mul (at 0) (opp (mul (mul (at 1) (at 2)) (at 3)))) (mul (at 4) (at 5))) (mul (opp (mul (mul (at 0) (at 1)) (mul (at 3) (at 5)))) (mul (at 2) (at 4))) refl
    ∙ ap (times (minus (times (times g n) (times v w)))) (sym h)
    ∙ solve (g ∷ n ∷ fq ∷ v ∷ p ∷ w ∷ []) (mul (opp (mul (mul (at 0) (at 1)) (mul (at 3) (at 5)))) (mul (at 2) (at 4))) (mul (mul (at 0) (opp (mul (mul (at 1) (at 2)) (at 5)))) (mul (at 3) (at 4))) refl
    ∙ ap (λ z. times z (times v p)) (sym f)
    ∙ solve (s ∷ ew ∷ p ∷ q ∷ v ∷ []) (mul (mul (mul (at 0) (at 1)) (at 3)) (mul (at 4) (at 2))) (mul (mul (at 1) (at 4)) (mul (at 0) (mul (at 2) (at 3)))) refl

-- the images of two points of a line of direction m are on a line of the mirrored direction
mirrored_on : (k m : ℕ) (a p q v w : ExactPoint) → k < 16 → m < 16 → IsAcross k a p v → IsAcross k a q w → On (vector m) p q → On (vector (mirrored k m)) v w
mirrored_on k m a p q v w h l c d o =
    let i = is_mirrored k m h l in
    let n = mirrored k m in
    gap_same (vector n) a v w (cancelled_by _ _ i.stretch (times (weight p) (weight q)) i.some (above_times _ _ (weight_above p) (weight_above q)) (
    ends_core i.stretch i.square (square k) (cross (vector m) a p) (cross (vector m) a q) (cross (vector n) a v) (cross (vector n) a w) (weight p) (weight q) (weight v) (weight w)
    (mirrored_way k m n a p v i h c) (mirrored_way k m n a q w i h d) (on_gap (vector m) a p q o)))

-- two points that have one image are one
one_before : (k : ℕ) (a p q v w : ExactPoint) → k < 16 → IsAcross k a p v → IsAcross k a q w → SamePoint v w → SamePoint p q
one_before k a p q v w h c d s = one_point (vector (mirrored k 0)) (vector (mirrored k 1)) p q (not_parallel (mirrored k 0) (mirrored k 1) (omega arith) (omega arith) (λ e. omega arith)) (on 0 (omega arith)) (on 1 (omega arith))
  where
    on : (m : ℕ) → m < 16 → On (vector (mirrored k m)) p q
    on m l = mirrored_on k m a v w p q h l (across_back k a p v c) (across_back k a q w d) (on_same (vector m) v w s)

-- a line of any direction is one of a direction that leads to later points
ahead_on : (n : ℕ) (v w : ExactPoint) → n < 16 → On (vector n) v w → (m : ℕ) × (m < 16) × ((m < 5) ⊎ (12 < m)) × On (vector m) v w
ahead_on n v w h o = elim (cases_order n 5) [
  | inl e ↦ back (omega (arith, e)) (omega (arith, e))
  | inr x ↦ elim x [
    | inl l ↦ (n, h, inl l, o)
    | inr g ↦ elim (cases_order n 12) [
      | inl e ↦ back (omega (arith, g)) (omega (arith, e))
      | inr y ↦ elim y [ inl l ↦ back (omega (arith, g)) (omega (arith, l)) | inr l ↦ (n, h, inr l, o) ]
    ]
  ]
]
  where
    back : 5 ≤ n → n ≤ 12 → (m : ℕ) × (m < 16) × ((m < 5) ⊎ (12 < m)) × On (vector m) v w
    back l g = ((n + 8) % 16, omega arith, opposite_half n l g, on_parallel n ((n + 8) % 16) v w h (omega arith) (omega arith) o)

segment_of : (v w : ExactPoint) (m : ℕ) → m < 16 → (m < 5) ⊎ (12 < m) → Before v w → On (vector m) v w → (let u : ExactSegment = record { p = v; q = w } in IsSegment u)
segment_of v w m h l b o = (let u : ExactSegment = record { p = v; q = w } in let a = on_along u m h (vector_ahead m h l) b o in (b, (m, h, a.dir)))

-- the image of a segment has the images of its ends
pub images_joined : (k : ℕ) (a v w : ExactPoint) (s : ExactSegment) → k < 16 → IsSegment s → IsImage a k s.p v → IsImage a k s.q w → (¬ SamePoint v w) × ((u : ExactSegment) × HasEnds u v w × IsSegment u)
images_joined k a v w s h l i j = (
  λ e. before_not_same s.p s.q l.0 (one_before k a s.p s.q v w h c d e),
  elim (ordered v w) [
    | inl b ↦ (record { p = v; q = w }, inl (refl, refl), segment_of v w line.0 line.1 line.2 b line.3)
    | inr x ↦ elim x [
      | inl e ↦ absurd (before_not_same s.p s.q l.0 (one_before k a s.p s.q v w h c d e))
      | inr b ↦ (record { p = w; q = v }, inr (refl, refl), segment_of w v line.0 line.1 line.2 b (on_back (vector line.0) v w line.3))
    ]
  ],
)
  where
    c : IsAcross k a s.p v
    c = image_across k a s.p v i

    d : IsAcross k a s.q w
    d = image_across k a s.q w j

    line : (m : ℕ) × (m < 16) × ((m < 5) ⊎ (12 < m)) × On (vector m) v w
    line = (let m = along_of s l in ahead_on (mirrored k m.0) v w (omega arith) (mirrored_on k m.0 a s.p s.q v w h m.1.small c d (end_on s m.0 m.1)))

-- so they are the ends of a segment
pub joined_ok : (k : ℕ) (a v w p q : ExactPoint) (s : ExactSegment) (r : Result ExactSegment SegBad) → k < 16 → IsSegment s → p ≡ s.p → q ≡ s.q → IsImage a k p v → IsImage a k q w
    → (r ≡ Err bad.SamePoint → v ≡ w) → (r ≡ Err bad.NotDirection → (u : ExactSegment) → HasEnds u v w → ¬ IsSegment u) → IsOk r
joined_ok k a v w p q s r h l e f i j same none = by r same none (images_joined k a v w s h l (subst (λ (z : ExactPoint). IsImage a k z v) e i) (subst (λ (z : ExactPoint). IsImage a k z w) f j))
  where
    by : (r : Result ExactSegment SegBad) → (r ≡ Err bad.SamePoint → v ≡ w) → (r ≡ Err bad.NotDirection → (u : ExactSegment) → HasEnds u v w → ¬ IsSegment u)
        → (¬ SamePoint v w) × ((u : ExactSegment) × HasEnds u v w × IsSegment u) → IsOk r
    by (Ok u) same none h = refl
    by (Err bad.SamePoint) same none h = absurd (h.0 (subst (λ (z : ExactPoint). SamePoint v z) (same refl) (same_itself v)))
    by (Err bad.NotDirection) same none h = absurd (none refl h.1.0 h.1.1 h.1.2)
