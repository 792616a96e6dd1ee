-- What tests of a segment tell of whether it runs along a ray.
use Rattle.std.specs.Prelude.{◌↔◌}
use Rattle.std.proofs.Common.{◌≡◌, ℕ, ◌+◌, ◌%◌, ◌<◌, ◌≤◌, Bool, true, false, IsTrue, sym, subst, ◌∙◌, ◌⊎◌}
use Rattle.exact.specs.Plane.{ExactPoint, ExactSegment, Before, OnSeg}
use Rattle.geometry.specs.Meeting.{Along}
use Rattle.geometry.specs.Rays.{RunsAlong}
use Rattle.geometry.proofs.Found.{one_along}
use Rattle.geometry.proofs.Running.{starts_runs, runs_starts}
use Rattle.geometry.proofs.RunningBack.{starts_runs_back, runs_starts_back}

pub runs_told : (start : ExactPoint) (k j : ℕ) (s : ExactSegment) (q : ExactPoint) (b : Bool) → (k < 5) ⊎ (12 < k) → Along s j → j ≡ k → OnSeg start s → q ≡ s.q → IsTrue b ↔ Before start q → IsTrue b ↔ RunsAlong start k s
runs_told start k j s q b half a e on f t = (
  λ h. starts_runs start k s half (record { along = subst (λ z. Along s z) e a; on = on; ahead = subst (λ z. Before start z) f (t.0 h) }),
  λ h. t.1 (subst (λ z. Before start z) (sym f) (runs_starts start k j s (subst (λ z. z < 16) e a.small) half a h).ahead),
)

pub runs_not : (start : ExactPoint) (k j : ℕ) (s : ExactSegment) (b : Bool) → k < 16 → (k < 5) ⊎ (12 < k) → Along s j → b ≡ false → (j ≡ k → OnSeg start s → ⊥) → IsTrue b ↔ RunsAlong start k s
runs_not start k j s b small half a f n = (
  λ h. absurd (let g : true ≡ false = sym h ∙ f in cc),
  λ h. (let x = runs_starts start k j s small half a h in absurd (n (one_along s j k a x.along) x.on)),
)

pub back_told : (start : ExactPoint) (k j : ℕ) (s : ExactSegment) (p : ExactPoint) (b : Bool) → 5 ≤ k → k ≤ 12 → Along s j → j ≡ (k + 8) % 16 → OnSeg start s → p ≡ s.p → IsTrue b ↔ Before p start → IsTrue b ↔ RunsAlong start k s
back_told start k j s p b low high a e on f t = (
  λ h. starts_runs_back start k s low high (record { along = subst (λ z. Along s z) e a; on = on; ahead = subst (λ z. Before z start) f (t.0 h) }),
  λ h. t.1 (subst (λ z. Before z start) (sym f) (runs_starts_back start k j s low high a h).ahead),
)

pub back_not : (start : ExactPoint) (k j : ℕ) (s : ExactSegment) (b : Bool) → 5 ≤ k → k ≤ 12 → Along s j → b ≡ false → (j ≡ (k + 8) % 16 → OnSeg start s → ⊥) → IsTrue b ↔ RunsAlong start k s
back_not start k j s b low high a f n = (
  λ h. absurd (let g : true ≡ false = sym h ∙ f in cc),
  λ h. (let x = runs_starts_back start k j s low high a h in absurd (n (one_along s j ((k + 8) % 16) a x.along) x.on)),
)
