-- A pattern cut at its crossings into vertices and edges.
use Rattle.std.specs.Prelude.{◌≡◌, ℕ, ◌<◌, ◌≤◌, ◌⊎◌, List, length, map, All, AllPairs, Contains, slice_get}
use Rattle.std.specs.Prelude.{Some, ◌++◌}
use Rattle.exact.specs.Plane.{ExactPoint, SamePoint, Before, ExactSegment, OnSeg, Cross, IsPointCanonical}
use Rattle.exact.specs.Plane.{IsPointRepresentable, SegmentBefore}
use Rattle.sheet.specs.Sheet.{IsCorner, sides}
use Rattle.sheet.specs.Pattern.{ExactCrease, ExactPattern}
use Rattle.sheet.specs.declared.colour.Colour.{Colour}
use Rattle.sheet.specs.declared.colour.Colour.TheVariants as colour
use Rattle.subdivide.specs.declared.edge.Edge.{Edge}
use Rattle.subdivide.specs.declared.edge.EdgeKind.{EdgeKind}
use Rattle.subdivide.specs.declared.edge.EdgeKind.TheVariants as kind

-- the kind of the edges on a crease of a colour
abbrev pub kind_of : Colour → EdgeKind
kind_of colour.M = kind.M
kind_of colour.V = kind.V
kind_of colour.A = kind.A

-- a segment with its kind: a side or a crease
pub record Line : Type 0 where
  pub seg : ExactSegment
  pub kind : EdgeKind

abbrev pub lines : ExactPattern → List Line
lines pattern =
    map (λ s. record { seg = s; kind = kind.B }) (sides pattern.sheet)
    ++ map (λ f. record { seg = f.seg; kind = kind_of f.colour }) pattern.creases

abbrev pub IsLine : ExactPattern → ExactSegment → Type 0
IsLine pattern s = (k : EdgeKind) × Contains (lines pattern) (record { seg = s; kind = k })

-- a corner, an end of a crease, or the one common point of two lines
abbrev pub IsVertex : ExactPattern → ExactPoint → Type 0
IsVertex pattern v =
    ((c : ExactPoint) × IsCorner pattern.sheet c × SamePoint v c)
    ⊎ (((f : ExactCrease) × Contains pattern.creases f × (SamePoint v f.seg.p ⊎ SamePoint v f.seg.q))
    ⊎ ((s t : ExactSegment) × IsLine pattern s × IsLine pattern t × Cross s t v))

-- two creases, the first before the second, whose one common point cannot be held
abbrev pub OutOfRange : ExactPattern → ExactSegment → ExactSegment → Type 0
OutOfRange pattern s t =
    SegmentBefore s t × Contains (map (λ f. f.seg) pattern.creases) s
    × Contains (map (λ f. f.seg) pattern.creases) t
    × ((v : ExactPoint) × Cross s t v × (¬ IsPointRepresentable v))

-- two vertices of one line, u before v, with no vertex strictly between them
pub record IsEdge (pattern : ExactPattern) (u v : ExactPoint) (kind : EdgeKind) : Type 0 where
  pub from : IsVertex pattern u
  pub to : IsVertex pattern v
  pub ordered : Before u v
  pub line : (s : ExactSegment) × Contains (lines pattern) (record { seg = s; kind = kind }) × OnSeg u s
      × OnSeg v s
      × ((w : ExactPoint) → IsVertex pattern w → OnSeg w s → Before u w → ¬ Before w v)

-- an edge by the places of its vertices, with its kind
abbrev pub EdgePlaces : Type 0
EdgePlaces = Edge

-- the vertices, each once, ascending
pub record AreVertices (pattern : ExactPattern) (vs : List ExactPoint) : Type 0 where
  pub ordered : AllPairs Before vs
  pub canonical : All IsPointCanonical vs
  pub each : All (IsVertex pattern) vs
  pub all : (v : ExactPoint) → IsVertex pattern v → (w : ExactPoint) × Contains vs w × SamePoint v w

abbrev pub PlacesBefore : EdgePlaces → EdgePlaces → Type 0
PlacesBefore e f = (e.from < f.from) ⊎ ((e.from ≡ f.from) × (e.to < f.to))

pub record AreEdges (pattern : ExactPattern) (vs : List ExactPoint) (es : List EdgePlaces) : Type 0 where
  pub ordered : AllPairs PlacesBefore es
  pub each : All (λ e. (u v : ExactPoint) × (slice_get vs e.from ≡ Some u) × (slice_get vs e.to ≡ Some v)
      × IsEdge pattern u v e.kind) es
  pub all : (i j : ℕ) (u v : ExactPoint) (k : EdgeKind) → slice_get vs i ≡ Some u → slice_get vs j ≡ Some v
      → IsEdge pattern u v k → Contains es (record { from = i; to = j; kind = k })

-- a cut pattern: its vertices and its edges
pub record ExactSubdivision : Type 0 where
  pub vertices : List ExactPoint
  pub edges : List EdgePlaces

-- what is known of every cut pattern: the vertices ascend, each in lowest terms, and the edges
-- ascend, each from a vertex to a later one
pub record IsSubdivision (s : ExactSubdivision) : Type 0 where
  pub vertices : AllPairs Before s.vertices
  pub canonical : All IsPointCanonical s.vertices
  pub edges : AllPairs PlacesBefore s.edges
  pub rising : All (λ e. e.from < e.to) s.edges
  pub within : All (λ e. e.to < length s.vertices) s.edges

-- what cutting answers
pub data Answer : Type 0 where
  CrossRange : ExactSegment → ExactSegment → Answer
  TooManyVertices : Answer
  Cut : List ExactPoint → List EdgePlaces → Answer

abbrev pub InRange : ExactPattern → Type 0
InRange pattern = (s t : ExactSegment) → ¬ OutOfRange pattern s t

-- as many vertices may a subdivision have
abbrev pub vertex_limit : ℕ
vertex_limit = 100000

-- the answer of cutting a pattern
abbrev pub CutOf : ExactPattern → Answer → Type 0
CutOf pattern (CrossRange s t) =
    OutOfRange pattern s t
    × ((u v : ExactSegment) → OutOfRange pattern u v
    → ¬ (SegmentBefore u s ⊎ ((u ≡ s) × SegmentBefore v t)))
CutOf pattern TooManyVertices = InRange pattern
    × ((vs : List ExactPoint) × AreVertices pattern vs × (vertex_limit < length vs))
CutOf pattern (Cut vs es) = InRange pattern × AreVertices pattern vs × (length vs ≤ vertex_limit)
    × AreEdges pattern vs es
