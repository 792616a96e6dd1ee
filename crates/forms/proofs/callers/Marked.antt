-- Marks tell the order of forms: across a line, along it, and from left to right.
use Rattle.std.proofs.Common.{◌≡◌, ◌≢◌, ℕ, zero, suc, ◌%◌, arith, refl, sym, subst, ◌∙◌, ◌⊎◌, inl, inr}
use Rattle.std.specs.Prelude.{ℤ, pos, negsuc, ◌-ℤ◌, ◌<ℤ◌, ◌≤ℤ◌}
use Rattle.std.proofs.lemmas.Int.{ints}
use Rattle.std.proofs.lemmas.Bool.{cases_order}
use Rattle.exact.specs.Number.{ExactNumber, Same, Less, mul, whole, sub}
use Rattle.exact.specs.Plane.{ExactPoint, ExactSegment, OnSeg, OnBoth, vector, turn}
use Rattle.exact.proofs.Order.{linear, none_gap, same_turned, above_moved}
use Rattle.exact.proofs.Positive.{less_trans}
use Rattle.exact.proofs.Told.{less_not_same, same_on}
use Rattle.geometry.specs.Root.{Root, minus, Above}
use Rattle.geometry.specs.Gap.{cross, gx}
use Rattle.geometry.specs.Meeting.{Along}
use Rattle.geometry.proofs.Gap.{num_sub, less_num, above_right, dn_above}
use Rattle.geometry.proofs.Lines.{cross_back, minus_minus}
use Rattle.geometry.proofs.Segments.{on_line, end_q, beside}
use Rattle.geometry.proofs.Plain.{upright_cross}
use Rattle.geometry.proofs.Directions.{one_direction, unequal}
use Rattle.geometry.proofs.Found.{along_half}
use Rattle.qroot2.specs.declared.sign.Sign.TheVariants.{Minus, Plus}
use Rattle.plane.specs.Ways.{IsAhead}
use Rattle.plane.specs.Sides.{IsSide}
use Rattle.plane.proofs.callers.Supports.{turn_same, turns_apart}
use Rattle.plane.proofs.callers.Turns.{cross_side}
use Rattle.forms.specs.Forms.{form_of}
use Rattle.forms.specs.Marks.{IsMark, IsBetween, nearest}
use Rattle.forms.proofs.Floors.{floors_tell, nearest_tells, less_scaled}

pub leads_ahead : (s : ExactSegment) (k : ℕ) → Along s k → IsAhead k
leads_ahead s k a = (a.small, along_half s k a)

at_nearest : (m l f g : ℤ) → m ≡ nearest f → l ≡ nearest g → m <ℤ l → nearest f <ℤ nearest g
at_nearest m l f g e d h = rw (← e, ← d) h

-- marks that differ tell the order of the forms
pub marks_order : (n k : ℕ) (p r : ExactPoint) (m l : ℤ) → IsMark n k p m → IsMark n k r l → m <ℤ l → Less (form_of k p) (form_of k r)
marks_order n k p r m l x y h = less_scaled n (form_of k p) (form_of k r)
    (floors_tell (mul (whole n) (form_of k p)) (mul (whole n) (form_of k r)) x.0 y.0 x.1 y.1 (nearest_tells x.0 y.0 (at_nearest m l x.0 y.0 x.2 y.2 h)))

-- points of one form have one mark
pub one_mark : (n k : ℕ) (p r : ExactPoint) (m l : ℤ) → Same (form_of k p) (form_of k r) → IsMark n k p m → IsMark n k r l → m ≡ l
one_mark n k p r m l s x y = by (l -ℤ m) refl
  where
    by : (z : ℤ) → l -ℤ m ≡ z → m ≡ l
    by (pos zero) e = sym (none_gap l m e)
    by (pos (suc i)) e = absurd (less_not_same (form_of k p) (form_of k r) (marks_order n k p r m l x y (omega (arith, ints, e))) s)
    by (negsuc i) e = absurd (less_not_same (form_of k r) (form_of k p) (marks_order n k r p l m y x (omega (arith, ints, e))) (same_turned (form_of k p) (form_of k r) s))

-- all points of a segment have one form in its direction
pub one_form : (k : ℕ) (t : ExactSegment) (r : ExactPoint) → Along t k → OnSeg r t → Same (form_of k t.p) (form_of k r)
one_form k t r a h = (turn_same k t.p r).1 (on_line t k r a h).on

pub mark_along : (n k : ℕ) (t : ExactSegment) (r : ExactPoint) (m l : ℤ) → Along t k → OnSeg r t → IsMark n k t.p m → IsMark n k r l → m ≡ l
mark_along n k t r m l a h x y = one_mark n k t.p r m l (one_form k t r a h) x y

-- the greater form is on the left
pub left_of : (k : ℕ) (p r : ExactPoint) → Less (form_of k p) (form_of k r) → Above (cross (vector k) p r)
left_of k p r h = subst (λ (z : Root). Above z) (num_sub (turn (vector k) r) (turn (vector k) p) ∙ turns_apart k p r) ((less_num (turn (vector k) p) (turn (vector k) r)).0 h)

pub right_of : (k : ℕ) (p r : ExactPoint) → Less (form_of k r) (form_of k p) → Above (minus (cross (vector k) p r))
right_of k p r h = subst (λ (z : Root). Above z) (cross_back (vector k) p r) (left_of k r p h)

pub marked_left : (n k : ℕ) (p r : ExactPoint) (m l : ℤ) → IsMark n k p m → IsMark n k r l → m <ℤ l → IsSide p k r Plus
marked_left n k p r m l x y h = cross_side k p r Plus (left_of k p r (marks_order n k p r m l x y h))

pub marked_right : (n k : ℕ) (p r : ExactPoint) (m l : ℤ) → IsMark n k p m → IsMark n k r l → l <ℤ m → IsSide p k r Minus
unfolding minus
marked_right n k p r m l x y h = cross_side k p r Minus (right_of k p r (marks_order n k r p l m y x h))

order_of : (x y : ℤ) → (x <ℤ y) ⊎ (y ≤ℤ x)
order_of x y = by (y -ℤ x) refl
  where
    by : (z : ℤ) → y -ℤ x ≡ z → (x <ℤ y) ⊎ (y ≤ℤ x)
    by (pos zero) e = inr (omega (arith, ints, e))
    by (pos (suc n)) e = inl (omega (arith, ints, e))
    by (negsuc n) e = inr (omega (arith, ints, e))

between_of : (a b m : ℤ) → (m <ℤ a → m <ℤ b → ⊥) → (a <ℤ m → b <ℤ m → ⊥) → IsBetween a b m
between_of a b m f g = elim (order_of m a) [
  | inl h ↦ elim (order_of m b) [ inl k ↦ absurd (f h k) | inr k ↦ inr (k, omega (arith, ints, h)) ]
  | inr h ↦ elim (order_of b m) [ inl k ↦ elim (order_of a m) [ inl q ↦ absurd (g q k) | inr q ↦ inr (omega (arith, ints, k), q) ] | inr k ↦ inl (h, k) ]
]

-- the mark of a segment in its own direction, and those of the ends of one that it meets
pub ends_enclose : (n k j : ℕ) (s t : ExactSegment) (r : ExactPoint) (a b m : ℤ) → Along s j → Along t k → OnBoth r s t → IsMark n k s.p a → IsMark n k s.q b → IsMark n k t.p m → IsBetween a b m
ends_enclose n k j s t r a b m f g h x y z = elim (cases_order (j % 8) (k % 8)) [ inl e ↦ along (one_direction j k f.small g.small (along_half s j f) (along_half t k g) e) | inr q ↦ across (unequal (j % 8) (k % 8) q) ]
  where
    along : j ≡ k → IsBetween a b m
    along e =
        let f' : Along s k = subst (λ (i : ℕ). Along s i) e f in
        let here : Same (form_of k s.p) (form_of k t.p) = same_on (form_of k s.p) (form_of k r) (form_of k t.p) (one_form k s r f' h.0) (same_turned (form_of k t.p) (form_of k r) (one_form k t r g h.1)) in
        let am : a ≡ m = one_mark n k s.p t.p a m here x z in
        let ab : a ≡ b = mark_along n k s s.q a b f' (end_q s k f') x y in
        inl (omega (arith, ints, am), omega (arith, ints, am, ab))

    across : j % 8 ≢ k % 8 → IsBetween a b m
    across q = between_of a b m
        (λ u v. beside s t j k r f g q (inl (inl (left_of k t.p s.p (marks_order n k t.p s.p m a z x u), left_of k t.p s.q (marks_order n k t.p s.q m b z y v)))) h)
        (λ u v. beside s t j k r f g q (inl (inr (right_of k t.p s.p (marks_order n k s.p t.p a m x z u), right_of k t.p s.q (marks_order n k s.q t.p b m y z v)))) h)

wider : (p r : ExactPoint) → Above (gx p r) → Less p.x r.x
unfolding gx
wider p r h = (less_num p.x r.x).1 (above_right _ _ (dn_above (sub r.y p.y)) h)

-- the greater mark in direction 4 is further left
pub further_left : (n : ℕ) (p r : ExactPoint) (m l : ℤ) → IsMark n 4 p m → IsMark n 4 r l → l <ℤ m → Less p.x r.x
further_left n p r m l x y h = wider p r
    (subst (λ (z : Root). Above z) (minus_minus (gx p r)) (subst (λ (z : Root). Above (minus z)) (upright_cross p r) (right_of 4 p r (marks_order n 4 r p l m y x h))))

-- what is below x is below what is not below x
pub less_at_most : (w x y : ExactNumber) → Less w x → ¬ Less y x → Less w y
less_at_most w x y h n = elim (linear x y) [ inl l ↦ less_trans w x y h l | inr m ↦ elim m [ inl s ↦ above_moved x y w s h | inr l ↦ absurd (n l) ] ]

pub apart_from_left : (s t u : ExactSegment) (r : ExactPoint) → Less s.q.x t.p.x → ¬ Less u.p.x t.p.x → ¬ OnBoth r s u
apart_from_left s t u r h n o =
    let begins : Less s.q.x u.p.x = less_at_most s.q.x t.p.x u.p.x h n in
    o.0.to (inl (less_at_most s.q.x u.p.x r.x begins (λ l. o.1.from (inl l))))
