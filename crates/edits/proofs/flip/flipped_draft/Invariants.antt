use Rattle.std.proofs.Common.{◌≡◌, ◌++◌, List}
use Rattle.sheet.specs.Pattern.{ExactCrease}
use Rattle.creases.specs.Standing.{AreStanding}
use Rattle.edits.proofs.flips.Flipping.{AreHalf}
use Rattle.edits.proofs.flip.flipped_draft.Given as goal

abbrev pub invariant-loop-crease : goal.invariant-loop-crease
invariant-loop-crease l =
    (done : List ExactCrease) × (done ++ l.crease-iterator ≡ l.pattern.creases) × AreHalf done l.crease-iterator l.draft.creases × AreStanding l.draft.creases × (l.draft.pattern ≡ l.pattern)
