-- A ray is the part of its line that comes after its start, or the part before it.
use Rattle.std.specs.Prelude.{◌↔◌, pos, neg_ℤ}
use Rattle.std.proofs.Common.{◌≡◌, ℕ, ◌+◌, ◌%◌, ◌<◌, ◌≤◌, sym, ap, subst, ◌∙◌, ◌⊎◌, inl, inr, arith}
use Rattle.std.proofs.lemmas.Bool.{cases_order}
use Rattle.exact.specs.Number.{ExactNumber, Same, sub, whole, neg, mul as mul_exact}
use Rattle.exact.specs.Plane.{ExactPoint, SamePoint, Before, DirOf, vector}
use Rattle.geometry.specs.Root.{Root, count, Above}
use Rattle.geometry.specs.Gap.{num, dn}
use Rattle.geometry.specs.Rays.{OnRay}
use Rattle.geometry.proofs.Domain.{zero_out}
use Rattle.geometry.proofs.Gap.{dn_above, num_mul, same_num, same_sub, out_right, in_right, above_num, ahead_of}
use Rattle.geometry.proofs.Lines.{On, on_back}
use Rattle.geometry.proofs.Directions.{Unit_at, vector_whole, unit_at, right_half, vector_ahead}
use Rattle.geometry.proofs.Parts.{way}
use Rattle.geometry.proofs.PointOrder.{ordered}
use Rattle.geometry.proofs.Parallels.{dir_on, on_parallel}
use Rattle.geometry.proofs.Leads.{opposite_dir}

none_left : (d t v : ExactNumber) → Above (num t) → Same d (mul_exact t v) → num d ≡ count 0 → num v ≡ count 0
none_left d t v h s g = zero_out (num t) (num v) h (sym (num_mul t v) ∙ out_right (num (mul_exact t v)) (dn d) (dn_above d) (sym (same_num d (mul_exact t v) s) ∙ in_right (num d) (dn (mul_exact t v)) g))

one_not : num (whole 1) ≡ count 0 → ⊥
unfolding num count
one_not e = let f : pos 1 ≡ pos 0 = ap (λ (r : Root). r.a) e in absurd (cc)

down_not : num (neg (whole 1)) ≡ count 0 → ⊥
unfolding num count
down_not e = let f : neg_ℤ (pos 1) ≡ pos 0 = ap (λ (r : Root). r.a) e in absurd (cc)

-- a point is not a positive multiple of a direction away from itself
pub dir_apart : (p q : ExactPoint) (k : ℕ) → k < 16 → DirOf p q k → ¬ SamePoint p q
dir_apart p q k small h s = elim (unit_at k small) [
  | Unit_at.x_up e ↦ one_not (ap num (sym e) ∙ x)
  | Unit_at.y_up e ↦ one_not (ap num (sym e) ∙ y)
  | Unit_at.x_down e ↦ down_not (ap num (sym e) ∙ x)
  | Unit_at.y_down e ↦ down_not (ap num (sym e) ∙ y)
]
  where
    x : num (vector k).x ≡ count 0
    x = none_left (sub q.x p.x) h.0 (vector k).x (above_num h.0 h.1) h.2.x ((same_sub p.x q.x).0 s.x)

    y : num (vector k).y ≡ count 0
    y = none_left (sub q.y p.y) h.0 (vector k).y (above_num h.0 h.1) h.2.y ((same_sub p.y q.y).0 s.y)

-- eight directions lead to later points
pub leads_on : (p q : ExactPoint) (k : ℕ) → k < 16 → (k < 5) ⊎ (12 < k) → DirOf p q k → Before p q
leads_on p q k small half h = elim (ordered p q) [
  | inl b ↦ b
  | inr other ↦ elim other [
    | inl s ↦ absurd (dir_apart p q k small h s)
    | inr b ↦ absurd (let o = opposite_dir p q k small h in
        turned half (right_half ((k + 8) % 16) (omega arith) (ahead_of (vector ((k + 8) % 16)) q p o.0 (vector_whole ((k + 8) % 16)) (above_num o.0 o.1) o.2 b)))
  ]
]
  where
    turned : (k < 5) ⊎ (12 < k) → ((k + 8) % 16 < 5) ⊎ (12 < (k + 8) % 16) → ⊥
    turned (inl a) (inl b) = omega (arith, a, b)
    turned (inl a) (inr b) = omega (arith, a, b)
    turned (inr a) (inl b) = omega (arith, a, b, small)
    turned (inr a) (inr b) = omega (arith, a, b, small)

-- the opposite of a direction that leads back leads on
pub opposite_half : (k : ℕ) → 5 ≤ k → k ≤ 12 → ((k + 8) % 16 < 5) ⊎ (12 < (k + 8) % 16)
opposite_half k low high = elim (cases_order k 8) [
  | inl e ↦ inl (omega (arith, e))
  | inr n ↦ elim n [ inl l ↦ inr (omega (arith, l, low)) | inr g ↦ inl (omega (arith, g, high)) ]
]

-- the other eight directions lead to earlier points
pub leads_back : (p q : ExactPoint) (k : ℕ) → 5 ≤ k → k ≤ 12 → DirOf p q k → Before q p
leads_back p q k low high h = leads_on q p ((k + 8) % 16) (omega arith) (opposite_half k low high) (opposite_dir p q k (omega (arith, high)) h)

-- the points of a ray that leads on
pub ray_on : (start r : ExactPoint) (k : ℕ) → k < 16 → (k < 5) ⊎ (12 < k) → OnRay start k r ↔ (On (vector k) start r × Before start r)
ray_on start r k small half = (
  λ h. (dir_on start r k h, leads_on start r k small half h),
  λ l. way (vector k) start r (vector_whole k) (unit_at k small) (vector_ahead k small half) l.0 l.1,
)

-- the points of a ray that leads back
pub ray_back : (start r : ExactPoint) (k : ℕ) → 5 ≤ k → k ≤ 12 → OnRay start k r ↔ (On (vector k) start r × Before r start)
ray_back start r k low high = (
  λ h. (dir_on start r k h, leads_back start r k low high h),
  λ l. (
      let small : (k + 8) % 16 < 16 = omega arith in
      let line : On (vector ((k + 8) % 16)) r start = on_parallel k ((k + 8) % 16) r start (omega (arith, high)) small (omega arith) (on_back (vector k) start r l.0) in
      let there : OnRay r ((k + 8) % 16) start = (ray_on r start ((k + 8) % 16) small (opposite_half k low high)).1 (line, l.1) in
      let round : ((k + 8) % 16 + 8) % 16 ≡ k = omega (arith, high) in
      subst (λ z. DirOf start r z) round (opposite_dir r start ((k + 8) % 16) small there)),
)
