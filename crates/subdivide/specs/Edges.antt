-- The edges between neighbours on a line, by the cuts of the lines at the vertices.
use Rattle.std.specs.Prelude.{◌≡◌, ◌≢◌, ℕ, ◌+◌, List, [], ◌∷◌, ◌++◌, AllPairs, Contains, slice_get, Some}
use Rattle.std.specs.declared.cmp.Ordering.{Ordering}
use Rattle.std.specs.Ordering.{nat_cmp, ordering_then}
use Rattle.subdivide.specs.Subdivision.{EdgePlaces}
use Rattle.subdivide.specs.Chain.{KindedBefore}
use Rattle.subdivide.specs.declared.line.MarkedLine.{MarkedLine}
use Rattle.subdivide.specs.declared.found.Cut.{Cut}

-- by line, then by point
abbrev pub cut_cmp : Cut → Cut → Ordering
cut_cmp c d = ordering_then (nat_cmp c.line d.line) (nat_cmp c.point d.point)

-- the edge between two cuts of one line that come one after the other
pub record IsStepOf (lines : List MarkedLine) (cuts : List Cut) (e : EdgePlaces) : Type 0 where
  pub place : ℕ
  pub line : ℕ
  pub on : MarkedLine
  pub first : slice_get cuts place ≡ Some (record { line = line; point = e.from })
  pub second : slice_get cuts (place + 1) ≡ Some (record { line = line; point = e.to })
  pub is : slice_get lines line ≡ Some on
  pub kind : on.kind ≡ e.kind

-- two cuts of one line give an edge, and others none
pub record IsEdgeAdded (lines : List MarkedLine) (from to : Cut) (old new : List EdgePlaces) : Type 0 where
  pub one : from.line ≡ to.line → (l : MarkedLine) × (slice_get lines from.line ≡ Some l)
      × (new ≡ old ++ record { from = from.point; to = to.point; kind = l.kind } ∷ [])
  pub none : from.line ≢ to.line → new ≡ old

-- the edges between neighbours, ascending
pub record AreStepsOf (lines : List MarkedLine) (cuts : List Cut) (edges : List EdgePlaces) : Type 0 where
  pub ordered : AllPairs KindedBefore edges
  pub each : (e : EdgePlaces) → Contains edges e → IsStepOf lines cuts e
  pub all : (e : EdgePlaces) → IsStepOf lines cuts e → Contains edges e
