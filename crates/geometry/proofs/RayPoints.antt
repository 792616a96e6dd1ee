-- Of two points of a ray one comes after the other, or they are one.
use Rattle.std.proofs.Common.{◌≡◌, ℕ, [], ◌∷◌, refl, ap, ◌∙◌, ◌⊎◌, inl, inr}
use Rattle.exact.specs.Number.{ExactNumber, Same, Less, sub, mul as mul_exact}
use Rattle.exact.specs.Plane.{ExactPoint, SamePoint, vector}
use Rattle.exact.proofs.Order.{linear}
use Rattle.geometry.specs.Root.{Root, plus, times, minus, count}
use Rattle.geometry.specs.Gap.{num, dn}
use Rattle.geometry.specs.Rays.{OnRay}
use Rattle.geometry.proofs.Solve.{at, add, mul, opp, solve}
use Rattle.geometry.proofs.Gap.{dn_above, num_mul, dn_mul, dn_sub, num_sub, same_num, num_same, less_num, same_sub, out_right, in_right, cancel_times}
use Rattle.geometry.proofs.Parts.{num_positive}

-- A/a and B/b are T/t and U/u times V/v away from P/p: then they are the difference apart
apart_core : (A a B b P p T t U u V v : Root) → times (plus (times A p) (minus (times P a))) (times t v) ≡ times (times T V) (times a p) → times (plus (times B p) (minus (times P b))) (times u v) ≡ times (times U V) (times b p)
    → times (times (plus (times B a) (minus (times A b))) (times (times u t) v)) p ≡ times (times (times (plus (times U t) (minus (times T u))) V) (times b a)) p
apart_core A a B b P p T t U u V v h k =
    solve (A ∷ a ∷ B ∷ b ∷ P ∷ p ∷ t ∷ u ∷ v ∷ [])
    (mul (mul (add (mul (at 2) (at 1)) (opp (mul (at 0) (at 3)))) (mul (mul (at 7) (at 6)) (at 8))) (at 5))
    (add (mul (mul (at 1) (at 6)) (mul (add (mul (at 2) (at 5)) (opp (mul (at 4) (at 3)))) (mul (at 7) (at 8)))) (opp (mul (mul (at 3) (at 7)) (mul (add (mul (at 0) (at 5)) (opp (mul (at 4) (at 1)))) (mul (at 6) (at 8))))))
    refl
    ∙ ap (λ z. plus (times (times a t) z) (minus (times (times b u) (times (plus (times A p) (minus (times P a))) (times t v))))) k
    ∙ ap (λ z. plus (times (times a t) (times (times U V) (times b p))) (minus (times (times b u) z))) h
    ∙ solve (a ∷ b ∷ p ∷ T ∷ t ∷ U ∷ u ∷ V ∷ [])
    (add (mul (mul (at 0) (at 4)) (mul (mul (at 5) (at 7)) (mul (at 1) (at 2)))) (opp (mul (mul (at 1) (at 6)) (mul (mul (at 3) (at 7)) (mul (at 0) (at 2))))))
    (mul (mul (mul (add (mul (at 5) (at 4)) (opp (mul (at 3) (at 6)))) (at 7)) (mul (at 1) (at 0))) (at 2))
    refl

apart : (a b p t u v : ExactNumber) → Same (sub a p) (mul_exact t v) → Same (sub b p) (mul_exact u v) → Same (sub b a) (mul_exact (sub u t) v)
apart a b p t u v h k = num_same (sub b a) (mul_exact (sub u t) v) (
    rw (num_sub b a, dn_sub b a, num_mul (sub u t) v, dn_mul (sub u t) v, num_sub u t, dn_sub u t)
    (cancel_times _ _ (dn p) (dn_above p)
    (apart_core (num a) (dn a) (num b) (dn b) (num p) (dn p) (num t) (dn t) (num u) (dn u) (num v) (dn v)
    (rw (num_sub a p, dn_sub a p, num_mul t v, dn_mul t v) at (same_num (sub a p) (mul_exact t v) h))
    (rw (num_sub b p, dn_sub b p, num_mul u v, dn_mul u v) at (same_num (sub b p) (mul_exact u v) k)))))

-- the way from the one with the lesser factor to the other is along the ray
pub comes_after : (start a b : ExactPoint) (k : ℕ) (h : OnRay start k a) (l : OnRay start k b) → Less h.0 l.0 → OnRay a k b
comes_after start a b k h l less = (
  sub l.0 h.0,
  num_positive (sub l.0 h.0) ((less_num h.0 l.0).0 less),
  record { x = apart a.x b.x start.x h.0 l.0 (vector k).x h.2.x l.2.x; y = apart a.y b.y start.y h.0 l.0 (vector k).y h.2.y l.2.y },
)

-- a difference that is none times something
gone : (b a d : ExactNumber) (v : ExactNumber) → num d ≡ count 0 → Same (sub b a) (mul_exact d v) → Same a b
gone b a d v z h = (same_sub a b).1 (out_right (num (sub b a)) (dn (mul_exact d v)) (dn_above (mul_exact d v))
    (same_num (sub b a) (mul_exact d v) h ∙ in_right _ _ (num_mul d v ∙ in_right _ _ z)))

level : (start a b : ExactPoint) (k : ℕ) (h : OnRay start k a) (l : OnRay start k b) → Same h.0 l.0 → SamePoint a b
level start a b k h l same =
    let none : num (sub l.0 h.0) ≡ count 0 = (same_sub h.0 l.0).0 same in
    record {
      x = gone b.x a.x (sub l.0 h.0) (vector k).x none (apart a.x b.x start.x h.0 l.0 (vector k).x h.2.x l.2.x);
      y = gone b.y a.y (sub l.0 h.0) (vector k).y none (apart a.y b.y start.y h.0 l.0 (vector k).y h.2.y l.2.y);
    }

pub ray_ordered : (start a b : ExactPoint) (k : ℕ) → OnRay start k a → OnRay start k b → OnRay a k b ⊎ (SamePoint a b ⊎ OnRay b k a)
ray_ordered start a b k h l = elim (linear h.0 l.0) [
  | inl less ↦ inl (comes_after start a b k h l less)
  | inr other ↦ elim other [
    | inl same ↦ inr (inl (level start a b k h l same))
    | inr less ↦ inr (inr (comes_after start b a k l h less))
  ]
]
