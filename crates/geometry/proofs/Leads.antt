-- The direction from one point to another, and the opposite one back.
use Rattle.std.proofs.Common.{◌≡◌, ℕ, suc, ◌+◌, ◌-◌, ◌/◌, ◌%◌, ◌<◌, [], ◌∷◌, refl, sym, ap, subst, ◌∙◌, ◌⊎◌, inl, inr, arith}
use Rattle.std.proofs.lemmas.Bool.{cases_lt}
use Rattle.exact.specs.Number.{ExactNumber, Same, sub, mul as mul_exact}
use Rattle.exact.specs.Plane.{ExactPoint, SamePoint, DirOf, ExactSegment, away, vector, first_vector, quarters}
use Rattle.geometry.specs.Root.{Root, plus, times, minus}
use Rattle.geometry.specs.Gap.{num, dn}
use Rattle.geometry.specs.Meeting.{Along}
use Rattle.geometry.proofs.Solve.{at, add, mul, opp, solve}
use Rattle.geometry.proofs.Gap.{num_mul, dn_mul, num_sub, dn_sub, same_num, num_same, dn_one}
use Rattle.geometry.proofs.Directions.{vector_whole}
use Rattle.geometry.proofs.Found.{along_half}
use Rattle.geometry.proofs.Lines.{minus_minus}
use Rattle.geometry.proofs.Parts.{num_neg}
use Rattle.geometry.proofs.PointOrder.{same_back, same_trans}

-- the vector of direction m is that of direction k turned round
abbrev AreOpposite : ExactPoint → ExactPoint → Type 0
AreOpposite w v = (num w.x ≡ minus (num v.x)) × (num w.y ≡ minus (num v.y))

half_turn : (n : ℕ) (p : ExactPoint) → AreOpposite (quarters (suc (suc n)) p) (quarters n p)
half_turn n p = (num_neg (quarters n p).x, num_neg (quarters n p).y)

turned : (k : ℕ) → AreOpposite (vector (k + 8)) (vector k)
turned k =
    let e : (k + 8) / 4 ≡ suc (suc (k / 4)) = omega arith in
    let f : (k + 8) % 4 ≡ k % 4 = omega arith in
    subst (λ n. AreOpposite (quarters n (first_vector ((k + 8) % 4))) (vector k)) (sym e)
    (subst (λ r. AreOpposite (quarters (suc (suc (k / 4))) (first_vector r)) (vector k)) (sym f) (half_turn (k / 4) (first_vector (k % 4))))

turned_back : (w v : ExactPoint) → AreOpposite w v → AreOpposite v w
turned_back w v o = (sym (minus_minus (num v.x)) ∙ ap minus (sym o.0), sym (minus_minus (num v.y)) ∙ ap minus (sym o.1))

pub opposite_vector : (k : ℕ) → k < 16 → AreOpposite (vector ((k + 8) % 16)) (vector k)
opposite_vector k h = elim (cases_lt k 8) [
  | inl l ↦ (let e : (k + 8) % 16 ≡ k + 8 = omega (arith, l) in subst (λ m. AreOpposite (vector m) (vector k)) (sym e) (turned k))
  | inr g ↦ (let e : (k + 8) % 16 ≡ k - 8 = omega (arith, g, h) in
      let f : k - 8 + 8 ≡ k = omega (arith, g) in
      subst (λ m. AreOpposite (vector m) (vector k)) (sym e) (turned_back (vector k) (vector (k - 8)) (subst (λ m. AreOpposite (vector m) (vector (k - 8))) f (turned (k - 8)))))
]

-- from Q/q to P/p, where Q/q is T/t times V away from P/p
pub back_core : (P p Q q T t V v : Root) → times (plus (times Q p) (minus (times P q))) (times t v) ≡ times (times T V) (times q p) → times (plus (times P q) (minus (times Q p))) (times t v) ≡ times (times T (minus V)) (times p q)
back_core P p Q q T t V v h =
    solve (P ∷ p ∷ Q ∷ q ∷ t ∷ v ∷ []) (mul (add (mul (at 0) (at 3)) (opp (mul (at 2) (at 1)))) (mul (at 4) (at 5))) (opp (mul (add (mul (at 2) (at 1)) (opp (mul (at 0) (at 3)))) (mul (at 4) (at 5)))) refl
    ∙ ap minus h
    ∙ solve (p ∷ q ∷ T ∷ V ∷ []) (opp (mul (mul (at 2) (at 3)) (mul (at 1) (at 0)))) (mul (mul (at 2) (opp (at 3))) (mul (at 0) (at 1))) refl

pub back_number : (p q t v w : ExactNumber) → num w ≡ minus (num v) → dn w ≡ dn v → Same (sub q p) (mul_exact t v) → Same (sub p q) (mul_exact t w)
back_number p q t v w e f h = num_same (sub p q) (mul_exact t w) (
    rw (num_sub p q, dn_sub p q, num_mul t w, dn_mul t w, e, f)
    (back_core (num p) (dn p) (num q) (dn q) (num t) (dn t) (num v) (dn v) (rw (num_sub q p, dn_sub q p, num_mul t v, dn_mul t v) at (same_num (sub q p) (mul_exact t v) h))))

-- back from q to p the direction is the opposite one
pub opposite_dir : (p q : ExactPoint) (k : ℕ) → k < 16 → DirOf p q k → DirOf q p ((k + 8) % 16)
opposite_dir p q k small h =
    let o = opposite_vector k small in
    let w = vector_whole k in
    let z = vector_whole ((k + 8) % 16) in (
      h.0,
      h.1,
      record {
        x = back_number p.x q.x h.0 (vector k).x (vector ((k + 8) % 16)).x o.0 (dn_one _ z.x ∙ sym (dn_one _ w.x)) h.2.x;
        y = back_number p.y q.y h.0 (vector k).y (vector ((k + 8) % 16)).y o.1 (dn_one _ z.y ∙ sym (dn_one _ w.y)) h.2.y;
      },
    )

-- a segment leads along k, and another back along k: one of the two would lead against the order of points
pub not_both_ways : (s t : ExactSegment) (k : ℕ) → Along s k → Along t ((k + 8) % 16) → ⊥
not_both_ways s t k a b = clash (along_half s k a) (along_half t ((k + 8) % 16) b)
  where
    clash : (k < 5) ⊎ (12 < k) → ((k + 8) % 16 < 5) ⊎ (12 < (k + 8) % 16) → ⊥
    clash (inl x) (inl y) = omega (arith, x, y)
    clash (inl x) (inr y) = omega (arith, x, y)
    clash (inr x) (inl y) = omega (arith, x, y, a.small)
    clash (inr x) (inr y) = omega (arith, x, y, a.small)

-- Differences of numbers that are the same are the same: Q/q - P/p and Y/y - X/x.
sub_core : (P p Q q X x Y y : Root) → times P x ≡ times X p → times Q y ≡ times Y q → times (plus (times Q p) (minus (times P q))) (times y x) ≡ times (plus (times Y x) (minus (times X y))) (times q p)
sub_core P p Q q X x Y y e f =
    solve (P ∷ p ∷ Q ∷ q ∷ x ∷ y ∷ []) (mul (add (mul (at 2) (at 1)) (opp (mul (at 0) (at 3)))) (mul (at 5) (at 4))) (add (mul (mul (at 2) (at 5)) (mul (at 1) (at 4))) (opp (mul (mul (at 0) (at 4)) (mul (at 3) (at 5))))) refl
    ∙ ap (λ z. plus (times z (times p x)) (minus (times (times P x) (times q y)))) f
    ∙ ap (λ z. plus (times (times Y q) (times p x)) (minus (times z (times q y)))) e
    ∙ solve (p ∷ q ∷ X ∷ x ∷ Y ∷ y ∷ []) (add (mul (mul (at 4) (at 1)) (mul (at 0) (at 3))) (opp (mul (mul (at 2) (at 0)) (mul (at 1) (at 5))))) (mul (add (mul (at 4) (at 3)) (opp (mul (at 2) (at 5)))) (mul (at 1) (at 0))) refl

sub_moved : (p q x y : ExactNumber) → Same p x → Same q y → Same (sub q p) (sub y x)
sub_moved p q x y e f = num_same (sub q p) (sub y x) (
    rw (num_sub q p, dn_sub q p, num_sub y x, dn_sub y x) (sub_core (num p) (dn p) (num q) (dn q) (num x) (dn x) (num y) (dn y) (same_num p x e) (same_num q y f)))

-- the direction between two points is that between the same points by other numbers
pub dir_moved : (p q u v : ExactPoint) (k : ℕ) → SamePoint p u → SamePoint q v → DirOf p q k → DirOf u v k
dir_moved p q u v k e f h = (
  h.0,
  h.1,
  same_trans (away u v) (away p q) (record { x = mul_exact h.0 (vector k).x; y = mul_exact h.0 (vector k).y })
      (same_back (away p q) (away u v) (record { x = sub_moved p.x q.x u.x v.x e.x f.x; y = sub_moved p.y q.y u.y v.y e.y f.y })) h.2,
)
