-- The star of a vertex: its mountain and valley edges, each by its direction away from the vertex.
use Rattle.std.specs.Prelude.{◌<◌, ◌⊎◌, List, All, Contains}
use Rattle.exact.specs.Plane.{ExactPoint, DirOf}
use Rattle.sheet.specs.Pattern.{ExactPattern}
use Rattle.sheet.specs.declared.mark.Mark.{Mark}
use Rattle.sheet.specs.declared.mark.Mark.TheVariants as mark
use Rattle.layers.specs.Star.{IsStar}
use Rattle.layers.specs.declared.star.Ray.{Ray}
use Rattle.subdivide.specs.Subdivision.{IsEdge}
use Rattle.subdivide.specs.declared.edge.EdgeKind.{EdgeKind}
use Rattle.subdivide.specs.declared.edge.EdgeKind.TheVariants as kind

-- the kind of the edges that have this mark
abbrev pub marked_kind : Mark → EdgeKind
marked_kind mark.M = kind.M
marked_kind mark.V = kind.V

-- an edge with the ray's mark leads from v in the ray's direction
abbrev pub GoesOut : ExactPattern → ExactPoint → Ray → Type 0
GoesOut pattern v r =
    (r.dir < 16) × ((w : ExactPoint) × DirOf v w r.dir
    × (IsEdge pattern v w (marked_kind r.mark) ⊎ IsEdge pattern w v (marked_kind r.mark)))

-- the rays that go out of v, ascending by direction
pub record StarOf (pattern : ExactPattern) (v : ExactPoint) (rays : List Ray) : Type 0 where
  pub star : IsStar rays
  pub each : All (GoesOut pattern v) rays
  pub all : (r : Ray) → GoesOut pattern v r → Contains rays r
