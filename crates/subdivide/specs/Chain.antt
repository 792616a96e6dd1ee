-- The vertices on one line, and what the edges are made of.
use Rattle.std.specs.Prelude.{◌≡◌, ℕ, ◌⊎◌, List, All, AllPairs, Contains, slice_get, Some}
use Rattle.exact.specs.Plane.{ExactPoint, SamePoint, Before, ExactSegment, OnSeg, Cross, Overlap}
use Rattle.sheet.specs.Sheet.{IsCorner}
use Rattle.sheet.specs.Pattern.{ExactCrease, ExactPattern}
use Rattle.subdivide.specs.Subdivision.{lines, IsLine, IsVertex, EdgePlaces, PlacesBefore}
use Rattle.subdivide.specs.declared.edge.EdgeKind.{EdgeKind}
use Rattle.chains.specs.Chains.{AreNeighbours}
use Rattle.geometry.specs.Meeting.{Along}

-- what cutting needs of the lines of a pattern
pub record AreLines (pattern : ExactPattern) : Type 0 where
  pub along : (s : ExactSegment) → IsLine pattern s → (k : ℕ) × Along s k
  pub corner : (c : ExactPoint) → IsCorner pattern.sheet c → (s : ExactSegment) × IsLine pattern s
      × ((c ≡ s.p) ⊎ (c ≡ s.q))
  pub crease : (f : ExactCrease) → Contains pattern.creases f → IsLine pattern f.seg
  pub end : (s : ExactSegment) → IsLine pattern s → IsVertex pattern s.p × IsVertex pattern s.q
  pub apart : (s t : ExactSegment) → IsLine pattern s → IsLine pattern t → Overlap s t → s ≡ t
  pub kinds : (s : ExactSegment) (k j : EdgeKind) → Contains (lines pattern) (record { seg = s; kind = k })
      → Contains (lines pattern) (record { seg = s; kind = j }) → k ≡ j

-- an end of s, or the one common point with another line
abbrev pub IsFound : ExactPattern → ExactSegment → ExactPoint → Type 0
IsFound pattern s v = SamePoint v s.p
    ⊎ (SamePoint v s.q ⊎ ((t : ExactSegment) × IsLine pattern t × Cross s t v))

-- the vertices on s, ascending
pub record IsChain (pattern : ExactPattern) (s : ExactSegment) (chain : List ExactPoint) : Type 0 where
  pub ordered : AllPairs Before chain
  pub each : All (λ v. IsVertex pattern v × OnSeg v s) chain
  pub all : (v : ExactPoint) → IsVertex pattern v → OnSeg v s → (w : ExactPoint) × Contains chain w
      × SamePoint v w

-- it stands in the chain of some line
abbrev pub InChain : ExactPattern → ExactPoint → Type 0
InChain pattern v = (s : ExactSegment) × (chain : List ExactPoint) × IsChain pattern s chain
    × Contains chain v

-- u and v come one after the other in the chain of a line of this kind
pub record IsStep (pattern : ExactPattern) (kind : EdgeKind) (u v : ExactPoint) : Type 0 where
  pub line : ExactSegment
  pub chain : List ExactPoint
  pub is : Contains (lines pattern) (record { seg = line; kind = kind })
  pub chained : IsChain pattern line chain
  pub next : AreNeighbours chain u v

abbrev pub KindedBefore : EdgePlaces → EdgePlaces → Type 0
KindedBefore e f = PlacesBefore e f ⊎ ((e.from ≡ f.from) × (e.to ≡ f.to) × (¬ (e.kind ≡ f.kind)))

-- What the loops over the lines leave. A list that ascends strictly by from, to and kind ascends by
-- `KindedBefore`.
pub record AreSteps (pattern : ExactPattern) (vs : List ExactPoint) (es : List EdgePlaces) : Type 0 where
  pub ordered : AllPairs KindedBefore es
  pub each : All (λ e. (u v : ExactPoint) × (slice_get vs e.from ≡ Some u) × (slice_get vs e.to ≡ Some v)
      × IsStep pattern e.kind u v) es
  pub all : (s : ExactSegment) (k : EdgeKind) → Contains (lines pattern) (record { seg = s; kind = k }) →
      (chain : List ExactPoint) × IsChain pattern s chain × All (Contains vs) chain
      × ((u v : ExactPoint) (i j : ℕ) → AreNeighbours chain u v → slice_get vs i ≡ Some u
      → slice_get vs j ≡ Some v → Contains es (record { from = i; to = j; kind = k }))
