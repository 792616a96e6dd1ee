use Rattle.std.proofs.Common.{◌≡◌, ◌<◌, ℕ, subst}
use Rattle.exact.specs.Plane.{ExactSegment, DirOf}
use Rattle.plane.proofs.Found.{some_found, only_found}
use Rattle.plane.proofs.segment.Seg.dir.Goals as goal

pub unwrap-requires : goal.unwrap-requires
unwrap-requires c = some_found c.self.inside.p c.self.inside.q c.direction.result c.self.invariant.segment c.direction.ensures.none

pub returns-clause-only : goal.returns-clause-only
returns-clause-only c =
    let found = rw c.unwrap.ensures at c.direction.ensures.some in
    subst (λ (s : ExactSegment). (k : ℕ) → k < 16 → DirOf s.p s.q k → k ≡ c.unwrap.result) c.self.view_is (only_found (record { p = c.self.inside.p; q = c.self.inside.q }) c.unwrap.result c.self.invariant.segment.0 found.0 found.1)
