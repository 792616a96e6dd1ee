use Rattle.std.specs.Prelude.{Contains}
use Rattle.edits.proofs.drafts.Gathered.{AreGathered}
use Rattle.edits.proofs.draft.left.Given as goal

abbrev pub invariant-loop-crease : goal.invariant-loop-crease
invariant-loop-crease l = AreGathered (λ f. Contains l.fn.creases f × (¬ Contains l.gone f)) (λ f. ¬ Contains l.gone f) l.list.items l.crease-iterator
