-- Rays from a point, and the segments that they meet.
use Rattle.std.specs.Prelude.{ℕ}
use Rattle.exact.specs.Plane.{ExactPoint, ExactSegment, DirOf, SamePoint, OnSeg}

-- r is on the ray from the point in direction k: it is the point and a positive multiple of the
-- direction's vector. The point itself is not on the ray.
abbrev pub OnRay : ExactPoint → ℕ → ExactPoint → Type 0
OnRay at k r = DirOf at r k

-- all points of the ray that are close to its start are such: all that do not come after some point of it
abbrev pub NearStart : ExactPoint → ℕ → (ExactPoint → Type 0) → Type 0
NearStart at k IsSuch = (e : ExactPoint) × OnRay at k e
    × ((r : ExactPoint) → OnRay at k r → (¬ OnRay e k r) → IsSuch r)

-- s runs along the ray from its start on
abbrev pub RunsAlong : ExactPoint → ℕ → ExactSegment → Type 0
RunsAlong at k s = NearStart at k (λ r. OnSeg r s)

-- v is on the ray and on s, and no other point is
pub record MeetsRay (at : ExactPoint) (k : ℕ) (s : ExactSegment) (v : ExactPoint) : Type 0 where
  pub ray : OnRay at k v
  pub here : OnSeg v s
  pub only : (u : ExactPoint) → OnRay at k u → OnSeg u s → SamePoint u v
