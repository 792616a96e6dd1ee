-- Where a ray meets a segment, and where they have no common point.
use Rattle.std.proofs.Common.{◌≡◌, ◌≢◌, ℕ, ◌+◌, ◌%◌, ◌<◌, ◌≤◌, sym, subst, ◌⊎◌, inl, inr, arith}
use Rattle.exact.specs.Plane.{ExactPoint, ExactSegment, Before, OnSeg, vector}
use Rattle.geometry.specs.Root.{minus, count, Above}
use Rattle.geometry.specs.Gap.{cross, det}
use Rattle.geometry.specs.Meeting.{Along, SameSide}
use Rattle.geometry.specs.Rays.{OnRay, RunsAlong, MeetsRay}
use Rattle.geometry.proofs.Domain.{above_not_minus, sign_of}
use Rattle.geometry.proofs.Lines.{On, on_same, on_back, on_trans, on_from, one_point}
use Rattle.geometry.proofs.Directions.{not_parallel, one_direction}
use Rattle.geometry.proofs.Found.{along_half}
use Rattle.geometry.proofs.PointOrder.{before_not_back, before_later, not_after_before}
use Rattle.geometry.proofs.Segments.{on_line, on_seg, end_on, ahead, within}
use Rattle.geometry.proofs.Parts.{det_turned}
use Rattle.geometry.proofs.Parallels.{dir_on, on_parallel}
use Rattle.geometry.proofs.RaySides.{dir_apart, ray_on, ray_back, opposite_half}
use Rattle.geometry.proofs.Running.{starts_runs}
use Rattle.geometry.proofs.RunningBack.{starts_runs_back}
use Rattle.geometry.proofs.AtLeast.{not_below_zero, not_above_zero, Weighed, up_first, up_second, turned}
use Rattle.geometry.proofs.RayOrder.{on_ray_or, runs_early}
use Rattle.geometry.proofs.HalfPlanes.{along_ray}

det_fore : (w v : ExactPoint) → minus (det v w) ≡ det w v
det_fore w v = sym (det_turned w v)

-- the ray leads to the line through p in direction j
abbrev pub Faces : ExactPoint → ℕ → ExactPoint → ℕ → Type 0
Faces start k p j = SameSide (cross (vector j) p start) (det (vector k) (vector j))

-- both ends of s are on one side of the line of the ray
abbrev pub IsBeside : ExactSegment → ExactPoint → ℕ → Type 0
IsBeside s start k = SameSide (cross (vector k) start s.p) (cross (vector k) start s.q)

-- a point of the ray on a line to which it is not parallel
faces : (start r p : ExactPoint) (k j : ℕ) → det (vector j) (vector k) ≢ count 0 → OnRay start k r → On (vector j) p r → Faces start k p j
faces start r p k j n ray on = elim (sign_of (det (vector j) (vector k))) [
  | inl d ↦ elim (sign_of (cross (vector j) p start)) [
    | inl x ↦ absurd (none (up_first _ _ _ (along_ray j k p start r ray) x (inl d)))
    | inr e ↦ elim e [
      | inl z ↦ absurd (none (up_second _ _ _ (along_ray j k p start r ray) (inr z) d))
      | inr m ↦ inr (m, subst Above (sym (det_fore (vector j) (vector k))) d)
    ]
  ]
  | inr e ↦ elim e [
    | inl z ↦ absurd (n z)
    | inr d ↦ inl (up_second _ _ _ (turned _ _ _ (along_ray j k p start r ray)) (inr on.on) d, subst Above (sym (det_turned (vector k) (vector j))) d)
  ]
]
  where
    none : ¬ Above (cross (vector j) p r)
    none = not_above_zero (cross (vector j) p r) on.on

-- the common point of both lines is on the ray where it leads there
faces_ahead : (start c p : ExactPoint) (k j : ℕ) → k < 16 → Faces start k p j → On (vector k) start c → On (vector j) p c → OnRay start k c
faces_ahead start c p k j small h line on = elim (on_ray_or k start c small line) [
  | inl r ↦ r
  | inr e ↦ elim e [
    | inl s ↦ absurd (here (on_trans (vector j) p c start on (on_back (vector j) start c (on_same (vector j) start c s))).on h)
    | inr r ↦ absurd (behind (along_ray j k p c start r) h)
  ]
]
  where
    here : cross (vector j) p start ≡ count 0 → ¬ Faces start k p j
    here z (inl x) = not_above_zero (cross (vector j) p start) z x.0
    here z (inr x) = not_below_zero (cross (vector j) p start) z x.0

    behind : Weighed (cross (vector j) p start) (cross (vector j) p c) (det (vector j) (vector k)) → ¬ Faces start k p j
    behind w (inl x) = not_above_zero (cross (vector j) p c) on.on (up_first _ _ _ (turned _ _ _ w) x.0 (inl (subst Above (det_turned (vector k) (vector j)) x.1)))
    behind w (inr x) = above_not_minus (cross (vector j) p start) (up_second _ _ _ w (inr on.on) (subst Above (det_fore (vector j) (vector k)) x.1)) x.0

-- a point that the ray and the segment have in common
pub across_none : (start : ExactPoint) (k j : ℕ) (s : ExactSegment) → k < 16 → Along s j → k % 8 ≢ j % 8 → (¬ Faces start k s.p j) ⊎ IsBeside s start k → (r : ExactPoint) → OnRay start k r → ¬ OnSeg r s
across_none start k j s small a n h r ray on = elim h [
  | inl f ↦ f (faces start r s.p k j (not_parallel k j small a.small n) ray (on_line s j r a on))
  | inr b ↦ (within (vector j) (vector k) s.p s.q start r (ahead s j a) (not_parallel j k a.small small (λ e. n (sym e))) a.ordered (end_on s j a) (on_line s j r a on) (dir_on start r k ray)).1 (on.from, on.to) b
]

-- the ray crosses the segment
pub across_meets : (start : ExactPoint) (k j : ℕ) (s : ExactSegment) (c : ExactPoint) → k < 16 → Along s j → k % 8 ≢ j % 8 → Faces start k s.p j → ¬ IsBeside s start k → On (vector k) start c → On (vector j) s.p c → MeetsRay start k s c
across_meets start k j s c small a n f b line on = record {
  ray = faces_ahead start c s.p k j small f line on;
  here = (let x = (within (vector j) (vector k) s.p s.q start c (ahead s j a) (not_parallel j k a.small small (λ e. n (sym e))) a.ordered (end_on s j a) on line).0 b in on_seg s j c a on x.0 x.1);
  only = λ u ray here. one_point (vector k) (vector j) u c (not_parallel k j small a.small n) (on_from (vector k) start u c (dir_on start u k ray) line) (on_from (vector j) s.p u c (on_line s j u a here) on);
}

-- what is met in one point does not run along the ray
pub met_not_along : (start : ExactPoint) (k : ℕ) (s : ExactSegment) (v : ExactPoint) → k < 16 → MeetsRay start k s v → ¬ RunsAlong start k s
met_not_along start k s v small m h = (let e = runs_early start v k s small h m.ray in dir_apart e.0 v k small e.2 (m.only e.0 e.1 e.3))

pub on_none : (start : ExactPoint) (k j : ℕ) (s : ExactSegment) → k < 16 → (k < 5) ⊎ (12 < k) → Along s j → j % 8 ≡ k % 8 → ¬ RunsAlong start k s → ¬ OnRay start k s.p → (r : ExactPoint) → OnRay start k r → ¬ OnSeg r s
on_none start k j s small half b e runs n r ray on = runs (starts_runs start k s half (record { along = a; on = on_seg s k start a (on_back (vector k) start s.p line) not_front (λ x. before_not_back start s.q ahead x); ahead = ahead }))
  where
    a : Along s k
    a = subst (λ z. Along s z) (one_direction j k b.small small (along_half s j b) half e) b

    there : On (vector k) start r × Before start r
    there = (ray_on start r k small half).0 ray

    line : On (vector k) start s.p
    line = on_trans (vector k) start r s.p there.0 (on_back (vector k) s.p r (on_line s k r a on))

    ahead : Before start s.q
    ahead = before_later start r s.q there.1 on.to

    not_front : ¬ Before start s.p
    not_front x = n ((ray_on start s.p k small half).1 (line, x))

pub back_none : (start : ExactPoint) (k j : ℕ) (s : ExactSegment) → 5 ≤ k → k ≤ 12 → Along s j → j % 8 ≡ k % 8 → ¬ RunsAlong start k s → ¬ OnRay start k s.q → (r : ExactPoint) → OnRay start k r → ¬ OnSeg r s
back_none start k j s low high b e runs n r ray on = runs (starts_runs_back start k s low high (record { along = a; on = on_seg s ((k + 8) % 16) start a (on_back (vector ((k + 8) % 16)) start s.p (turned_line s.p line)) (λ x. before_not_back s.p start ahead x) not_behind; ahead = ahead }))
  where
    a : Along s ((k + 8) % 16)
    a = subst (λ z. Along s z) (one_direction j ((k + 8) % 16) b.small (omega arith) (along_half s j b) (opposite_half k low high) (omega (arith, e))) b

    there : On (vector k) start r × Before r start
    there = (ray_back start r k low high).0 ray

    turned_line : (z : ExactPoint) → On (vector k) start z → On (vector ((k + 8) % 16)) start z
    turned_line z h = on_parallel k ((k + 8) % 16) start z (omega (arith, high)) (omega arith) (omega arith) h

    to_p : On (vector k) r s.p
    to_p = on_parallel ((k + 8) % 16) k r s.p (omega arith) (omega (arith, high)) (omega arith) (on_back (vector ((k + 8) % 16)) s.p r (on_line s ((k + 8) % 16) r a on))

    line : On (vector k) start s.p
    line = on_trans (vector k) start r s.p there.0 to_p

    to_q : On (vector k) start s.q
    to_q = on_trans (vector k) start s.p s.q line (on_parallel ((k + 8) % 16) k s.p s.q (omega arith) (omega (arith, high)) (omega arith) (end_on s ((k + 8) % 16) a))

    ahead : Before s.p start
    ahead = not_after_before s.p r start on.from there.1

    not_behind : ¬ Before s.q start
    not_behind x = n ((ray_back start s.q k low high).1 (to_q, x))
