use Rattle.std.specs.Prelude.{Contains}
use Rattle.exact.specs.Plane.{Overlap}
use Rattle.edits.proofs.drafts.Gathered.{AreGathered}
use Rattle.edits.proofs.draft.Draft.overlapped.Given as goal

abbrev pub invariant-loop-crease : goal.invariant-loop-crease
invariant-loop-crease l = AreGathered (λ f. Contains l.self.creases f × Overlap f.seg l.seg) (λ f. Unit {0}) l.list.items l.crease-iterator
