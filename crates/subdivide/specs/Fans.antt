-- The rays of all vertices, as they are read off the edges.
use Rattle.std.specs.Prelude.{◌≡◌, ◌≢◌, ℕ, ◌<◌, ◌⊎◌, ◌↔◌, List, length, Contains}
use Rattle.std.specs.Prelude.{Some, slice_get, slice_index_or}
use Rattle.exact.specs.Plane.{ExactPoint, ExactSegment, IsSegment, DirOf}
use Rattle.sheet.specs.Pattern.{ExactPattern}
use Rattle.layers.specs.Star.{IsStar}
use Rattle.layers.specs.declared.star.Ray.{Ray}
use Rattle.subdivide.specs.Subdivision.{EdgePlaces, ExactSubdivision}
use Rattle.subdivide.specs.Star.{marked_kind, GoesOut}
use Rattle.subdivide.specs.Live.{IsCutAs}
use Rattle.subdivide.specs.declared.stars.Fan.{Fan}

-- the fan has this mark at this direction
abbrev pub HasRay : Fan → Ray → Type 0
HasRay fan r = slice_get fan.marks r.dir ≡ Some (Some r.mark)

-- the rays are those of the fan
pub record AreRaysOf (fan : Fan) (rays : List Ray) : Type 0 where
  pub star : IsStar rays
  pub are : (r : Ray) → Contains rays r ↔ HasRay fan r

-- what putting in a ray does to a fan
pub record IsWithRay (old : Fan) (ray : Ray) (new : Fan) : Type 0 where
  pub here : HasRay new ray
  pub others : (r : Ray) → r.dir ≢ ray.dir → HasRay new r ↔ HasRay old r

-- i and j are the ends of the edge, in either order
abbrev pub EndAt : EdgePlaces → ℕ → ℕ → Type 0
EndAt e i j = ((e.from ≡ i) × (e.to ≡ j)) ⊎ ((e.to ≡ i) × (e.from ≡ j))

-- the edge joins two vertices, the lesser and the greater, by one of the sixteen directions
pub record IsJoined (vs : List ExactPoint) (e : EdgePlaces) : Type 0 where
  pub rising : e.from < e.to
  pub within : e.to < length vs
  pub segment : (s : ExactSegment) → slice_get vs e.from ≡ Some s.p → slice_get vs e.to ≡ Some s.q
      → IsSegment s

-- the edge goes out of vertex i along the ray
pub record Gives (vs : List ExactPoint) (e : EdgePlaces) (i : ℕ) (r : Ray) : Type 0 where
  pub small : r.dir < 16
  pub kind : e.kind ≡ marked_kind r.mark
  pub other : ℕ
  pub ends : EndAt e i other
  pub leads : (v w : ExactPoint) → slice_get vs i ≡ Some v → slice_get vs other ≡ Some w → DirOf v w r.dir

-- what one edge adds to the fans of all vertices
pub record IsNoted (vs : List ExactPoint) (e : EdgePlaces) (old new : List Fan) : Type 0 where
  pub long : length new ≡ length old
  pub gives : (i : ℕ) (d : Fan) (r : Ray) → Gives vs e i r → HasRay (slice_index_or new i d) r
  pub keeps : (i : ℕ) (d : Fan) (r : Ray) → i < length vs → HasRay (slice_index_or old i d) r
      → HasRay (slice_index_or new i d) r ⊎ ((q : Ray) × (q.dir ≡ r.dir) × Gives vs e i q)
  pub each : (i : ℕ) (d : Fan) (r : Ray) → i < length vs → HasRay (slice_index_or new i d) r
      → Gives vs e i r ⊎ HasRay (slice_index_or old i d) r

-- one of the first n edges goes out of vertex i along the ray
pub record IsGiven (cut : ExactSubdivision) (n : ℕ) (i : ℕ) (r : Ray) : Type 0 where
  pub place : ℕ
  pub edge : EdgePlaces
  pub first : place < n
  pub stands : slice_get cut.edges place ≡ Some edge
  pub gives : Gives cut.vertices edge i r

-- the fans have the rays of the first n edges
pub record HoldRays (cut : ExactSubdivision) (n : ℕ) (fans : List Fan) : Type 0 where
  pub long : length fans ≡ length cut.vertices
  pub rays : (i : ℕ) (d : Fan) (r : Ray) → i < length cut.vertices
      → HasRay (slice_index_or fans i d) r ↔ IsGiven cut n i r

-- the fan at the place of each vertex has the rays that go out of it
pub record AreFans (pattern : ExactPattern) (vs : List ExactPoint) (fans : List Fan) : Type 0 where
  pub long : length fans ≡ length vs
  pub rays : (i : ℕ) (d : Fan) (v : ExactPoint) (r : Ray) → slice_get vs i ≡ Some v
      → HasRay (slice_index_or fans i d) r ↔ GoesOut pattern v r

-- a pattern, its subdivision and the fans of its vertices
pub record IsLive (pattern : ExactPattern) (cut : ExactSubdivision) (fans : List Fan) : Type 0 where
  pub cut_as : IsCutAs pattern cut
  pub rays : AreFans pattern cut.vertices fans
