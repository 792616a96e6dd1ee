-- Two points that are not one have one direction, and parallel directions have one line through a point.
use Rattle.std.proofs.Common.{◌≡◌, ℕ, ◌+◌, ◌%◌, ◌<◌, [], ◌∷◌, refl, ap, subst, ◌∙◌, inl, inr, arith}
use Rattle.std.proofs.lemmas.Bool.{cases_order}
use Rattle.exact.specs.Plane.{ExactPoint, SamePoint, DirOf, away, vector}
use Rattle.geometry.specs.Root.{minus}
use Rattle.geometry.specs.Gap.{num, gx, gy, cross}
use Rattle.geometry.proofs.Solve.{at, add, mul, opp, solve}
use Rattle.geometry.proofs.Gap.{straight, above_num, turn_itself}
use Rattle.geometry.proofs.Lines.{On, minus_zero}
use Rattle.geometry.proofs.Directions.{vector_whole}
use Rattle.geometry.proofs.Found.{one_along}
use Rattle.geometry.proofs.PointOrder.{ordered}
use Rattle.geometry.proofs.Leads.{opposite_dir, opposite_vector}

-- from Q/q to P/p, where Q/q is T/t times V away from P/p
-- two points that are not one have one direction
pub one_dir : (p q : ExactPoint) (i j : ℕ) → ¬ SamePoint p q → i < 16 → j < 16 → DirOf p q i → DirOf p q j → i ≡ j
one_dir p q i j apart si sj h l = elim (ordered p q) [
  | inl before ↦ one_along (record { p = p; q = q }) i j (record { small = si; ordered = before; dir = h }) (record { small = sj; ordered = before; dir = l })
  | inr other ↦ elim other [
    | inl same ↦ absurd (apart same)
    | inr before ↦ (
        let e = one_along (record { p = q; q = p }) ((i + 8) % 16) ((j + 8) % 16)
        (record { small = omega arith; ordered = before; dir = opposite_dir p q i si h })
        (record { small = omega arith; ordered = before; dir = opposite_dir p q j sj l }) in
        omega (arith, si, sj, e))
  ]
]

pub dir_on : (p q : ExactPoint) (k : ℕ) → DirOf p q k → On (vector k) p q
dir_on p q k h = record { on = (straight (vector k) p q q h.0 (vector_whole k) (above_num h.0 h.1) h.2).0 (turn_itself (away p q)) }

-- a line is that of each parallel direction
cross_turned : (v w p r : ExactPoint) → num w.x ≡ minus (num v.x) → num w.y ≡ minus (num v.y) → cross w p r ≡ minus (cross v p r)
unfolding cross
cross_turned v w p r e f = rw (e, f) (solve (num v.x ∷ num v.y ∷ gx p r ∷ gy p r ∷ [])
    (add (mul (opp (at 0)) (at 3)) (opp (mul (opp (at 1)) (at 2)))) (opp (add (mul (at 0) (at 3)) (opp (mul (at 1) (at 2))))) refl)

pub on_parallel : (k m : ℕ) (p r : ExactPoint) → k < 16 → m < 16 → k % 8 ≡ m % 8 → On (vector k) p r → On (vector m) p r
on_parallel k m p r sk sm e h = elim (cases_order k m) [
  | inl same ↦ subst (λ z. On (vector z) p r) same h
  | inr apart ↦ (
      let far : (k + 8) % 16 ≡ m = elim apart [ inl a ↦ omega (arith, a, sk, sm, e) | inr a ↦ omega (arith, a, sk, sm, e) ] in
      let o = opposite_vector k sk in
      subst (λ z. On (vector z) p r) far (record { on = cross_turned (vector k) (vector ((k + 8) % 16)) p r o.0 o.1 ∙ ap minus h.on ∙ minus_zero }))
]
