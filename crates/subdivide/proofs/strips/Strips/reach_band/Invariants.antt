use Rattle.std.proofs.Common.{◌<◌, ◌≤◌}
use Rattle.std.specs.Prelude.{min}
use Rattle.subdivide.specs.Strips.{AreLookedAt}
use Rattle.subdivide.proofs.strips.Strips.reach_band.Given as goal

abbrev pub invariant-loop-place : goal.invariant-loop-place
invariant-loop-place l =
    AreLookedAt l.lines l.line (λ p. (min l.from l.to ≤ p) × (p < l.place)) l.initial.self l.self l.initial.near.items l.near.items
