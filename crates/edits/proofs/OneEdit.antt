-- An edit of a pattern has at most one answer.
use Rattle.std.proofs.Common.{◌≡◌}
use Rattle.sheet.specs.Pattern.{ExactPattern}
use Rattle.edits.specs.CreaseSet.{crease}
use Rattle.edits.specs.Drafts.{with_creases}
use Rattle.edits.specs.Drawn.{DrawnOne, DrawnInTurn}
use Rattle.edits.specs.Ends.{EndsOf}
use Rattle.edits.specs.Erase.{Erased}
use Rattle.edits.specs.Recolour.{Recoloured}
use Rattle.edits.specs.Flip.{flipped}
use Rattle.edits.specs.Extend.{Extension}
use Rattle.edits.specs.Bisect.{Bisector}
use Rattle.edits.specs.Mirror.{MirrorImages}
use Rattle.edits.specs.RabbitEar.{EarOf}
use Rattle.edits.specs.Lines.{LinesOf}
use Rattle.edits.specs.EditOf.{Edited, Changed, EditOf, HasSmallAxis}
use Rattle.edits.specs.declared.edit.Edit.{Edit}
use Rattle.edits.specs.declared.edit.Edit.TheVariants as edit
use Rattle.edits.specs.declared.refusal.EditBad.TheVariants as bad
use Rattle.edits.proofs.OneAnswer.{HasOneAnswer, unless_one, then_one}
use Rattle.edits.proofs.OneDrawing.{equal_one, drawn_one, in_turn_one, ends_one, erased_one, recoloured_one, extension_one, bisector_one, images_one, lines_one}
use Rattle.edits.proofs.ears.OneEar.{ear_one}

edited_one : (old : ExactPattern) (e : Edit) → HasSmallAxis e → HasOneAnswer (Edited old e)
edited_one old (edit.Draw c from to) h = then_one (EndsOf old.sheet from to) (λ s. DrawnOne (crease s c) old.creases) (ends_one old.sheet from to) (λ s _. drawn_one (crease s c) old.creases)
edited_one old (edit.Erase from to) h = then_one (EndsOf old.sheet from to) (λ s. Erased old.creases s) (ends_one old.sheet from to) (λ s _. erased_one old.creases s)
edited_one old (edit.Recolour c from to) h = then_one (EndsOf old.sheet from to) (λ s. Recoloured old.creases s c) (ends_one old.sheet from to) (λ s _. recoloured_one old.creases s c)
edited_one old edit.Flip h = equal_one (flipped old.creases)
edited_one old (edit.Extend c at k) h = then_one (Extension old at k) (λ s. DrawnOne (crease s c) old.creases) (extension_one old at k) (λ s _. drawn_one (crease s c) old.creases)
edited_one old (edit.Bisect c at first second) h = then_one (Bisector old at first second) (λ s. DrawnOne (crease s c) old.creases) (bisector_one old at first second) (λ s _. drawn_one (crease s c) old.creases)
edited_one old (edit.Mirror at k) h = then_one (MirrorImages old at k) (λ images. DrawnInTurn images old.creases) (images_one old at k h) (λ images _. in_turn_one images old.creases)
edited_one old (edit.RabbitEar m p q r) h = then_one (EarOf old.sheet m p q r) (λ ear. DrawnInTurn ear old.creases) (ear_one old.sheet m p q r) (λ ear _. in_turn_one ear old.creases)
edited_one old (edit.Lines given) h = then_one (LinesOf old.sheet given) (λ lines. DrawnInTurn lines old.creases) (lines_one old.sheet given) (λ lines _. in_turn_one lines old.creases)

pub edit_one : (old : ExactPattern) (e : Edit) → HasSmallAxis e → HasOneAnswer (EditOf old e)
edit_one old e h = then_one (Edited old e) (Changed old) (edited_one old e h) (λ after _. unless_one (after ≡ old.creases) bad.NoChange _ (equal_one (with_creases old after)))
