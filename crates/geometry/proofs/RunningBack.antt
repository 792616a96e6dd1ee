-- A segment runs along a ray that leads back just where the start is on it, behind the end to which the ray leads.
use Rattle.std.proofs.Common.{◌≡◌, ℕ, ◌+◌, ◌%◌, ◌<◌, ◌≤◌, subst, inl, inr, arith}
use Rattle.std.proofs.lemmas.Bool.{cases_order}
use Rattle.exact.specs.Plane.{ExactPoint, ExactSegment, Before, OnSeg, vector}
use Rattle.geometry.specs.Meeting.{Along}
use Rattle.geometry.specs.Rays.{OnRay, RunsAlong}
use Rattle.geometry.proofs.Lines.{On, on_from, on_trans, on_back, one_point}
use Rattle.geometry.proofs.Directions.{not_parallel, one_direction, unequal}
use Rattle.geometry.proofs.Found.{along_half}
use Rattle.geometry.proofs.PointOrder.{before_trans, before_not_back, same_itself, not_after_before}
use Rattle.geometry.proofs.Segments.{on_line, on_seg, end_on}
use Rattle.geometry.proofs.Parallels.{on_parallel}
use Rattle.geometry.proofs.Halfway.{between}
use Rattle.geometry.proofs.RaySides.{dir_apart, leads_back, ray_back, opposite_half}

-- the start is on s and after its lesser end
pub record StartsBack (start : ExactPoint) (k : ℕ) (s : ExactSegment) : Type 0 where
  pub along : Along s ((k + 8) % 16)
  pub on : OnSeg start s
  pub ahead : Before s.p start

line_of : (p r : ExactPoint) (k : ℕ) → 5 ≤ k → k ≤ 12 → OnRay p k r → On (vector ((k + 8) % 16)) p r
line_of p r k low high ray = on_parallel k ((k + 8) % 16) p r (omega (arith, high)) (omega arith) (omega arith) ((ray_back p r k low high).0 ray).0

ray_of : (p r : ExactPoint) (k : ℕ) → 5 ≤ k → k ≤ 12 → On (vector ((k + 8) % 16)) p r → Before r p → OnRay p k r
ray_of p r k low high line before = (ray_back p r k low high).1 (on_parallel ((k + 8) % 16) k p r (omega arith) (omega (arith, high)) (omega arith) line, before)

pub starts_runs_back : (start : ExactPoint) (k : ℕ) (s : ExactSegment) → 5 ≤ k → k ≤ 12 → StartsBack start k s → RunsAlong start k s
starts_runs_back start k s low high h = (
  s.p,
  ray_of start s.p k low high (on_back (vector ((k + 8) % 16)) s.p start to_start) h.ahead,
  λ r ray short.
      on_seg s ((k + 8) % 16) r h.along (to_point r ray)
      (λ x. short (ray_of s.p r k low high (to_point r ray) x))
      (λ x. h.on.to (before_trans s.q r start x (leads_back start r k low high ray))),
)
  where
    to_start : On (vector ((k + 8) % 16)) s.p start
    to_start = on_line s ((k + 8) % 16) start h.along h.on

    to_point : (r : ExactPoint) → OnRay start k r → On (vector ((k + 8) % 16)) s.p r
    to_point r ray = on_trans (vector ((k + 8) % 16)) s.p start r to_start (line_of start r k low high ray)

pub runs_starts_back : (start : ExactPoint) (k j : ℕ) (s : ExactSegment) → 5 ≤ k → k ≤ 12 → Along s j → RunsAlong start k s → StartsBack start k s
runs_starts_back start k j s low high a h = record {
  along = own;
  on = on_seg s ((k + 8) % 16) start own (on_back (vector ((k + 8) % 16)) start s.p to_p) (λ x. before_not_back s.p start ends_ahead x) not_behind;
  ahead = ends_ahead;
}
  where
    small : k < 16
    small = omega (arith, high)

    e : ExactPoint
    e = h.0

    m : ExactPoint
    m = (between start e k h.1).0

    m_ray : OnRay start k m
    m_ray = (between start e k h.1).1

    m_short : OnRay m k e
    m_short = (between start e k h.1).2

    e_on : OnSeg e s
    e_on = h.2 e h.1 (λ x. dir_apart e e k small x (same_itself e))

    m_on : OnSeg m s
    m_on = h.2 m m_ray (λ x. before_not_back e m (leads_back m e k low high m_short) (leads_back e m k low high x))

    one_way : j ≡ (k + 8) % 16
    one_way = elim (cases_order (j % 8) ((k + 8) % 16 % 8)) [
      | inl same ↦ one_direction j ((k + 8) % 16) a.small (omega arith) (along_half s j a) (opposite_half k low high) same
      | inr n ↦ absurd (dir_apart m e k small m_short (one_point (vector j) (vector ((k + 8) % 16)) m e (not_parallel j ((k + 8) % 16) a.small (omega arith) (unequal (j % 8) ((k + 8) % 16 % 8) n))
          (on_from (vector j) s.p m e (on_line s j m a m_on) (on_line s j e a e_on)) (line_of m e k low high m_short)))
    ]

    own : Along s ((k + 8) % 16)
    own = subst (λ z. Along s z) one_way a

    to_p : On (vector ((k + 8) % 16)) start s.p
    to_p = on_trans (vector ((k + 8) % 16)) start m s.p (line_of start m k low high m_ray) (on_back (vector ((k + 8) % 16)) s.p m (on_line s ((k + 8) % 16) m own m_on))

    ends_ahead : Before s.p start
    ends_ahead = not_after_before s.p m start m_on.from (leads_back start m k low high m_ray)

    -- a point of the ray behind s would be on s
    not_behind : ¬ Before s.q start
    not_behind x =
        let q_ray : OnRay start k s.q = ray_of start s.q k low high (on_trans (vector ((k + 8) % 16)) start s.p s.q to_p (end_on s ((k + 8) % 16) own)) x in
        let n = between start s.q k q_ray in
        let after : Before s.q n.0 = leads_back n.0 s.q k low high n.2 in
        (h.2 n.0 n.1 (λ y. e_on.to (before_trans s.q n.0 e after (leads_back e n.0 k low high y)))).to after
