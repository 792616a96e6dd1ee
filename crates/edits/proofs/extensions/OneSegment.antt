-- What a ray meets of one segment.
use Rattle.std.proofs.Common.{◌≡◌, ◌≢◌, ℕ, ◌%◌, ◌<◌, ◌≤◌, refl, sym, subst, ◌⊎◌}
use Rattle.exact.specs.Plane.{ExactPoint, ExactSegment, Before, OnSeg, IsPointCanonical, IsPointRepresentable}
use Rattle.geometry.specs.Meeting.{Along}
use Rattle.geometry.specs.Rays.{OnRay, RunsAlong, MeetsRay}
use Rattle.geometry.proofs.Found.{turn_on}
use Rattle.geometry.proofs.Segments.{end_p, end_q}
use Rattle.geometry.proofs.RaySides.{dir_apart, leads_on, leads_back}
use Rattle.geometry.proofs.RayOrder.{Half, half_of}
use Rattle.geometry.proofs.RayMeets.{Faces, IsBeside, across_meets, met_not_along, on_none, back_none}
use Rattle.plane.specs.Sides.{IsOnLine}
use Rattle.plane.proofs.callers.Crossed.{crossing, crossing_itself}
use Rattle.edits.specs.Sights.{Sees}
use Rattle.edits.specs.declared.sight.Sight.TheVariants as sight
use Rattle.edits.proofs.Held.{point_held}

abbrev pub IsIt : ExactSegment → ExactSegment → Type 0
IsIt s t = t ≡ s

-- a point of the ray before which it does not meet the segment
pub first_of_it : (start : ExactPoint) (k : ℕ) (s : ExactSegment) (v : ExactPoint) → IsPointCanonical v → OnRay start k v → OnSeg v s → ((r : ExactPoint) → OnRay start k r → OnRay r k v → ¬ OnSeg r s) → Sees start k (IsIt s) (sight.First v)
first_of_it start k s v c ray on first = (
  c,
  record { ray = ray; met = (s, refl, on); first = λ r h l m. first r h l (subst (OnSeg r) m.1 m.2) },
  λ t e l. l.2 (point_held v l.0 (l.1.only v ray (subst (OnSeg v) (sym e) on)) c),
)

pub meets_first : (start : ExactPoint) (k : ℕ) (s : ExactSegment) (v : ExactPoint) → k < 16 → IsPointCanonical v → MeetsRay start k s v → Sees start k (IsIt s) (sight.First v)
meets_first start k s v small c m = first_of_it start k s v c m.ray m.here (λ r h l on. dir_apart r v k small l (m.only r h on))

pub meets_lost : (start : ExactPoint) (k : ℕ) (s : ExactSegment) (v : ExactPoint) → k < 16 → ¬ IsPointRepresentable v → MeetsRay start k s v → Sees start k (IsIt s) sight.OutOfRange
meets_lost start k s v small n m = ((s, refl, (v, m, n)), λ t e h. met_not_along start k s v small m (subst (RunsAlong start k) e h))

pub none_of_it : (start : ExactPoint) (k : ℕ) (s : ExactSegment) → ((r : ExactPoint) → OnRay start k r → ¬ OnSeg r s) → Sees start k (IsIt s) sight.Nothing
none_of_it start k s n r ray m = n r ray (subst (OnSeg r) m.1 m.2)

-- by the answer of the crossing of lines
pub across_at : (start : ExactPoint) (k j : ℕ) (s : ExactSegment) (p c : ExactPoint) → k < 16 → Along s j → k % 8 ≢ j % 8 → p ≡ s.p → Faces start k p j → ¬ IsBeside s start k → IsPointCanonical c → IsOnLine start k c × IsOnLine p j c → Sees start k (IsIt s) (sight.First c)
across_at start k j s p c small a n e f b held on = meets_first start k s c small held (across_meets start k j s c small a n (subst (λ z. Faces start k z j) e f) b ((turn_on k start c).0 on.0) ((turn_on j s.p c).0 (subst (λ z. IsOnLine z j c) e on.1)))

pub across_lost : (start : ExactPoint) (k j : ℕ) (s : ExactSegment) (p : ExactPoint) → k < 16 → Along s j → k % 8 ≢ j % 8 → p ≡ s.p → Faces start k p j → ¬ IsBeside s start k → ((c : ExactPoint) → IsOnLine start k c → IsOnLine p j c → ¬ IsPointRepresentable c) → Sees start k (IsIt s) sight.OutOfRange
across_lost start k j s p small a n e f b none =
    let c = crossing k j start s.p in
    let on = crossing_itself k j start s.p small a.small n in
    meets_lost start k s c small (none c ((turn_on k start c).1 on.0) (subst (λ z. IsOnLine z j c) (sym e) ((turn_on j s.p c).1 on.1))) (across_meets start k j s c small a n (subst (λ z. Faces start k z j) e f) b on.0 on.1)

-- Of a segment that is parallel to the ray, the nearer end.
pub on_first : (start : ExactPoint) (k : ℕ) (s : ExactSegment) (v : ExactPoint) (j : ℕ) → k < 16 → (k < 5) ⊎ (12 < k) → Along s j → v ≡ s.p → IsPointCanonical v → OnRay start k v → Sees start k (IsIt s) (sight.First v)
on_first start k s v j small half a e c ray = first_of_it start k s v c ray (subst (λ z. OnSeg z s) (sym e) (end_p s j a)) (λ r h l on. on.from (subst (Before r) e (leads_on r v k small half l)))

pub back_first : (start : ExactPoint) (k : ℕ) (s : ExactSegment) (v : ExactPoint) (j : ℕ) → 5 ≤ k → k ≤ 12 → Along s j → v ≡ s.q → IsPointCanonical v → OnRay start k v → Sees start k (IsIt s) (sight.First v)
back_first start k s v j low high a e c ray = first_of_it start k s v c ray (subst (λ z. OnSeg z s) (sym e) (end_q s j a)) (λ r h l on. on.to (subst (λ z. Before z r) e (leads_back r v k low high l)))

-- by the nearer end, whichever it is
pub parallel_first : (start : ExactPoint) (k j : ℕ) (s : ExactSegment) (v : ExactPoint) → k < 16 → Along s j → ((k < 5) ⊎ (12 < k) → v ≡ s.p) → (5 ≤ k → k ≤ 12 → v ≡ s.q) → IsPointCanonical v → OnRay start k v → Sees start k (IsIt s) (sight.First v)
parallel_first start k j s v small a f g c ray = elim (half_of k) [
  | Half.leads_on half ↦ on_first start k s v j small half a (f half) c ray
  | Half.leads_back low high ↦ back_first start k s v j low high a (g low high) c ray
]

pub parallel_none : (start : ExactPoint) (k j : ℕ) (s : ExactSegment) (v : ExactPoint) → k < 16 → Along s j → j % 8 ≡ k % 8 → ¬ RunsAlong start k s → ((k < 5) ⊎ (12 < k) → v ≡ s.p) → (5 ≤ k → k ≤ 12 → v ≡ s.q) → ¬ OnRay start k v → Sees start k (IsIt s) sight.Nothing
parallel_none start k j s v small a e runs f g n = none_of_it start k s (elim (half_of k) [
  | Half.leads_on half ↦ on_none start k j s small half a e runs (λ h. n (subst (OnRay start k) (sym (f half)) h))
  | Half.leads_back low high ↦ back_none start k j s low high a e runs (λ h. n (subst (OnRay start k) (sym (g low high)) h))
])
