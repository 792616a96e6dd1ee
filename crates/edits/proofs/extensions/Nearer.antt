-- Which of two points of a ray is the nearer, by the order of points.
use Rattle.std.specs.Prelude.{◌↔◌}
use Rattle.std.proofs.Common.{◌≡◌, ℕ, ◌<◌, ◌≤◌, Bool, true, false, IsTrue, refl, sym, ◌∙◌, ◌⊎◌, inl, inr, arith}
use Rattle.exact.specs.Plane.{ExactPoint, Before}
use Rattle.geometry.proofs.PointOrder.{before_not_back}
use Rattle.geometry.proofs.RaySides.{ray_on, ray_back}
use Rattle.geometry.proofs.RayOrder.{Half, half_of, ray_not_itself}
use Rattle.edits.specs.Sights.{IsNearer}

not_half : (k : ℕ) → 5 ≤ k → k ≤ 12 → (k < 5) ⊎ (12 < k) → ⊥
not_half k low high (inl h) = omega (arith, low, h)
not_half k low high (inr h) = omega (arith, high, h)

-- which of two points comes first, by the order of points
pub nearer_told : (k : ℕ) (a b : ExactPoint) (l m : Bool) → k < 16 → IsTrue l ↔ ((k < 5) ⊎ (12 < k)) → IsTrue m ↔ Before a b → l ≡ m → IsNearer k a b a
nearer_told k a b l m small f g e = record {
  one = inl refl;
  first = ray_not_itself k a small;
  second = λ r. elim (half_of k) [
    | Half.leads_on half ↦ before_not_back b a ((ray_on b a k small half).0 r).1 (g.0 (sym e ∙ f.1 half))
    | Half.leads_back low high ↦ not_half k low high (f.0 (e ∙ g.1 ((ray_back b a k low high).0 r).1))
  ];
}

pub other_told : (k : ℕ) (a b : ExactPoint) (l m : Bool) → k < 16 → IsTrue l ↔ ((k < 5) ⊎ (12 < k)) → IsTrue m ↔ Before a b → ¬ (l ≡ m) → IsNearer k a b b
other_told k a b l m small f g n = record {
  one = inr refl;
  second = ray_not_itself k b small;
  first = λ r. elim (half_of k) [
    | Half.leads_on half ↦ n (f.1 half ∙ sym (g.1 ((ray_on a b k small half).0 r).1))
    | Half.leads_back low high ↦ back l m (λ h. not_half k low high (f.0 h)) (λ h. before_not_back b a ((ray_back a b k low high).0 r).1 (g.0 h)) n
  ];
}
  where
    back : (l m : Bool) → ¬ IsTrue l → ¬ IsTrue m → ¬ (l ≡ m) → ⊥
    back true m f g n = f refl
    back false true f g n = g refl
    back false false f g n = n refl
