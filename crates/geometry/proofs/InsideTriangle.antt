-- No line through a point inside a triangle leaves all corners on one side.
use Rattle.std.proofs.Common.{◌≡◌, ℕ, ◌%◌, ◌<◌, [], ◌∷◌, refl, sym, ap, subst, ◌∙◌, inl, inr}
use Rattle.std.proofs.lemmas.Bool.{cases_order}
use Rattle.exact.specs.Plane.{ExactPoint, DirOf, vector}
use Rattle.geometry.specs.Root.{Root, plus, times, minus, count, Above}
use Rattle.geometry.specs.Gap.{num, gx, gy, cross, det}
use Rattle.geometry.proofs.RootRing.{both, plus_zero}
use Rattle.geometry.proofs.Solve.{at, none, add, mul, opp, solve, times_zero, zero_plus}
use Rattle.geometry.proofs.Domain.{above_plus, above_times, above_not_zero}
use Rattle.geometry.proofs.Gap.{above_right, in_right}
use Rattle.geometry.proofs.Directions.{not_parallel, unequal}
use Rattle.geometry.proofs.Lines.{On, on_from, on_back, one_point, chain, cross_back, weight, weight_above}
use Rattle.geometry.proofs.Parallels.{dir_on, on_parallel}
use Rattle.geometry.proofs.RaySides.{dir_apart}
use Rattle.geometry.proofs.WayTurns.{way_left}
use Rattle.geometry.proofs.RoundTriangle.{IsLeftOfAll}
use Rattle.geometry.proofs.AtLeast.{AtLeast, least_plus}

above_and_least : (x y : Root) → Above x → AtLeast y → Above (plus x y)
above_and_least x y h l = elim l [ inl a ↦ above_plus x y h a | inr e ↦ subst Above (sym (ap (plus x) e ∙ plus_zero x)) h ]

scaled_least : (s x : Root) → Above s → AtLeast x → AtLeast (times s x)
scaled_least s x h l = elim l [ inl a ↦ inl (above_times s x h a) | inr e ↦ inr (ap (times s) e ∙ times_zero s) ]

-- a sum of positive multiples is zero only where all are
first_none : (a x rest : Root) → Above a → AtLeast x → AtLeast rest → plus (times a x) rest ≡ count 0 → x ≡ count 0
first_none a x rest h l r e = elim l [
  | inl g ↦ absurd (above_not_zero (subst Above e (above_and_least (times a x) rest (above_times a x h g) r)))
  | inr z ↦ z
]

-- the turn from a to b, seen from c
abbrev spans : ExactPoint → ExactPoint → ExactPoint → Root
spans c a b = plus (times (gx c a) (gy c b)) (minus (times (gy c a) (gx c b)))

-- the way from c to a as a vector
abbrev toward : ExactPoint → ExactPoint → ExactPoint
toward c a = record { x = record { a = (gx c a).a; b = (gx c a).b; d = 1 }; y = record { a = (gy c a).a; b = (gy c a).b; d = 1 } }

toward_x : (c a : ExactPoint) → num (toward c a).x ≡ gx c a
unfolding num
toward_x c a = both _ _ refl refl

toward_y : (c a : ExactPoint) → num (toward c a).y ≡ gy c a
unfolding num
toward_y c a = both _ _ refl refl

toward_cross : (c a b : ExactPoint) → cross (toward c a) c b ≡ spans c a b
unfolding cross
toward_cross c a b = ap (λ z. plus (times z (gy c b)) (minus (times (num (toward c a).y) (gx c b)))) (toward_x c a) ∙ ap (λ z. plus (times (gx c a) (gy c b)) (minus (times z (gx c b)))) (toward_y c a)

toward_det : (c a v : ExactPoint) → det (toward c a) v ≡ cross v a c
unfolding det cross
toward_det c a v = ap (λ z. plus (times z (num v.y)) (minus (times (num (toward c a).y) (num v.x)))) (toward_x c a) ∙ ap (λ z. plus (times (gx c a) (num v.y)) (minus (times z (num v.x)))) (toward_y c a)
    ∙ solve (gx c a ∷ gy c a ∷ num v.x ∷ num v.y ∷ []) (add (mul (at 0) (at 3)) (opp (mul (at 1) (at 2)))) (opp (add (mul (at 2) (at 1)) (opp (mul (at 3) (at 0))))) refl
    ∙ sym (cross_back v c a)

-- on the left of a side, the ends turn from the first to the second
spans_above : (p q c : ExactPoint) (i : ℕ) → DirOf p q i → Above (cross (vector i) p c) → Above (spans c p q)
spans_above p q c i h a =
    let u = toward c p in
    let none : cross u c p ≡ count 0 = toward_cross c p p ∙ solve (gx c p ∷ gy c p ∷ []) (add (mul (at 0) (at 1)) (opp (mul (at 1) (at 0)))) none refl in
    let seen : times (cross u c q) (weight p) ≡ times (cross u p q) (weight c) = chain u c p q ∙ ap (λ z. plus z (times (cross u p q) (weight c))) (in_right _ (weight q) none) ∙ zero_plus _ in
    subst Above (toward_cross c p q) (above_right _ (weight p) (weight_above p) (subst Above (sym seen) (above_times _ _ ((way_left u p q i h).0 (subst Above (sym (toward_det c p (vector i))) a)) (weight_above c))))

-- three vectors, each as often as the turn between the others
balanced : (v c p q r : ExactPoint) → plus (times (spans c q r) (cross v c p)) (plus (times (spans c r p) (cross v c q)) (times (spans c p q) (cross v c r))) ≡ count 0
unfolding cross
balanced v c p q r = solve (num v.x ∷ num v.y ∷ gx c p ∷ gy c p ∷ gx c q ∷ gy c q ∷ gx c r ∷ gy c r ∷ [])
    (add (mul (add (mul (at 4) (at 7)) (opp (mul (at 5) (at 6)))) (add (mul (at 0) (at 3)) (opp (mul (at 1) (at 2)))))
    (add (mul (add (mul (at 6) (at 3)) (opp (mul (at 7) (at 2)))) (add (mul (at 0) (at 5)) (opp (mul (at 1) (at 4)))))
    (mul (add (mul (at 2) (at 5)) (opp (mul (at 3) (at 4)))) (add (mul (at 0) (at 7)) (opp (mul (at 1) (at 6)))))))
    none refl

-- no line through a point inside leaves all corners on one side
pub not_beyond : (p q r c : ExactPoint) (i j m k : ℕ) → i < 16 → k < 16 → DirOf p q i → DirOf q r j → DirOf r p m → IsLeftOfAll p q r c i j m → AtLeast (cross (vector k) c p) → AtLeast (cross (vector k) c q) → AtLeast (cross (vector k) c r) → ⊥
not_beyond p q r c i j m k si sk pq qr rp h at_p at_q at_r =
    elim (cases_order (k % 8) (i % 8)) [
      | inl e ↦ above_not_zero (subst Above (on_back (vector i) c p (on_parallel k i c p sk si e on_p)).on h.pq)
      | inr n ↦ dir_apart p q i si pq (one_point (vector k) (vector i) p q (not_parallel k i sk si (unequal (k % 8) (i % 8) n)) (on_from (vector k) c p q on_p on_q) (dir_on p q i pq))
    ]
  where
    A : Above (spans c q r)
    A = spans_above q r c j qr h.qr

    B : Above (spans c r p)
    B = spans_above r p c m rp h.rp

    C : Above (spans c p q)
    C = spans_above p q c i pq h.pq

    on_p : On (vector k) c p
    on_p = record { on = first_none (spans c q r) _ _ A at_p (least_plus _ _ (scaled_least _ _ B at_q) (scaled_least _ _ C at_r)) (balanced (vector k) c p q r) }

    on_q : On (vector k) c q
    on_q = record {
      on = first_none (spans c r p) _ _ B at_q (least_plus _ _ (scaled_least _ _ A at_p) (scaled_least _ _ C at_r)) (
          solve (times (spans c q r) (cross (vector k) c p) ∷ times (spans c r p) (cross (vector k) c q) ∷ times (spans c p q) (cross (vector k) c r) ∷ []) (add (at 1) (add (at 0) (at 2))) (add (at 0) (add (at 1) (at 2))) refl
          ∙ balanced (vector k) c p q r);
    }
