-- A segment runs along a ray from its start on just where the start is on it, in front of the end to which the ray leads.
use Rattle.std.proofs.Common.{◌≡◌, ℕ, ◌%◌, ◌<◌, subst, ◌⊎◌, inl, inr}
use Rattle.std.proofs.lemmas.Bool.{cases_order}
use Rattle.exact.specs.Plane.{ExactPoint, ExactSegment, Before, OnSeg, vector}
use Rattle.geometry.specs.Meeting.{Along}
use Rattle.geometry.specs.Rays.{OnRay, RunsAlong}
use Rattle.geometry.proofs.Lines.{On, on_from, on_trans, on_back, one_point}
use Rattle.geometry.proofs.Directions.{not_parallel, one_direction, unequal}
use Rattle.geometry.proofs.Found.{along_half}
use Rattle.geometry.proofs.PointOrder.{before_trans, before_not_back, same_itself, before_later}
use Rattle.geometry.proofs.Segments.{on_line, on_seg, end_on}
use Rattle.geometry.proofs.Halfway.{between}
use Rattle.geometry.proofs.RaySides.{dir_apart, leads_on, ray_on}

-- the start is on s and before its greater end
pub record StartsOn (start : ExactPoint) (k : ℕ) (s : ExactSegment) : Type 0 where
  pub along : Along s k
  pub on : OnSeg start s
  pub ahead : Before start s.q

pub starts_runs : (start : ExactPoint) (k : ℕ) (s : ExactSegment) → (k < 5) ⊎ (12 < k) → StartsOn start k s → RunsAlong start k s
starts_runs start k s half h = (
  s.q,
  end_ray,
  λ r ray short. on_seg s k r h.along (on_trans (vector k) s.p start r (on_line s k start h.along h.on) (there r ray).0)
      (λ x. h.on.from (before_trans start r s.p (there r ray).1 x))
      (λ x. short ((ray_on s.q r k h.along.small half).1 (on_from (vector k) s.p s.q r (end_on s k h.along) (on_trans (vector k) s.p start r (on_line s k start h.along h.on) (there r ray).0), x))),
)
  where
    there : (r : ExactPoint) → OnRay start k r → On (vector k) start r × Before start r
    there r ray = (ray_on start r k h.along.small half).0 ray

    end_ray : OnRay start k s.q
    end_ray = (ray_on start s.q k h.along.small half).1 (on_from (vector k) s.p start s.q (on_line s k start h.along h.on) (end_on s k h.along), h.ahead)

pub runs_starts : (start : ExactPoint) (k j : ℕ) (s : ExactSegment) → k < 16 → (k < 5) ⊎ (12 < k) → Along s j → RunsAlong start k s → StartsOn start k s
runs_starts start k j s small half a h = record {
  along = own;
  on = on_seg s k start own (on_back (vector k) start s.p (on_trans (vector k) start m s.p (dir_line m m_ray) (on_back (vector k) s.p m (on_line s k m own m_on)))) not_in_front (λ x. before_not_back start s.q ends_ahead x);
  ahead = ends_ahead;
}
  where
    e : ExactPoint
    e = h.0

    m : ExactPoint
    m = (between start e k h.1).0

    m_ray : OnRay start k m
    m_ray = (between start e k h.1).1

    m_short : OnRay m k e
    m_short = (between start e k h.1).2

    dir_line : (r : ExactPoint) → OnRay start k r → On (vector k) start r
    dir_line r ray = ((ray_on start r k small half).0 ray).0

    e_on : OnSeg e s
    e_on = h.2 e h.1 (λ x. dir_apart e e k small x (same_itself e))

    m_on : OnSeg m s
    m_on = h.2 m m_ray (λ x. before_not_back m e (leads_on m e k small half m_short) (leads_on e m k small half x))

    one_way : j ≡ k
    one_way = elim (cases_order (j % 8) (k % 8)) [
      | inl same ↦ one_direction j k a.small small (along_half s j a) half same
      | inr n ↦ absurd (dir_apart m e k small m_short (one_point (vector j) (vector k) m e (not_parallel j k a.small small (unequal (j % 8) (k % 8) n))
          (on_from (vector j) s.p m e (on_line s j m a m_on) (on_line s j e a e_on)) (on_from (vector k) start m e (dir_line m m_ray) (dir_line e h.1))))
    ]

    own : Along s k
    own = subst (λ z. Along s z) one_way a

    ends_ahead : Before start s.q
    ends_ahead = before_later start m s.q (leads_on start m k small half m_ray) m_on.to

    -- a point of the ray in front of s would be on s
    not_in_front : ¬ Before start s.p
    not_in_front x =
        let line : On (vector k) start s.p = on_trans (vector k) start m s.p (dir_line m m_ray) (on_back (vector k) s.p m (on_line s k m own m_on)) in
        let p_ray : OnRay start k s.p = (ray_on start s.p k small half).1 (line, x) in
        let n = between start s.p k p_ray in
        let before : Before n.0 s.p = leads_on n.0 s.p k small half n.2 in
        (h.2 n.0 n.1 (λ y. e_on.from (before_trans e n.0 s.p (leads_on e n.0 k small half y) before))).from before
