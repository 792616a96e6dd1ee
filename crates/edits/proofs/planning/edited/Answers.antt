use Rattle.std.proofs.Common.{List, subst, sym}
use Rattle.std.proofs.lemmas.Result.{err_from_is_err_and}
use Rattle.sheet.specs.Pattern.{ExactCrease}
use Rattle.edits.specs.Answers.{Answers}
use Rattle.edits.specs.CreaseSet.{crease}
use Rattle.edits.specs.Drawn.{DrawnOne, DrawnInTurn}
use Rattle.edits.specs.Ends.{EndsOf}
use Rattle.edits.specs.Erase.{Erased}
use Rattle.edits.specs.Recolour.{Recoloured}
use Rattle.edits.specs.Extend.{Extension}
use Rattle.edits.specs.Bisect.{Bisector}
use Rattle.edits.specs.Mirror.{MirrorImages}
use Rattle.edits.specs.RabbitEar.{EarOf}
use Rattle.edits.specs.EditOf.{Edited}
use Rattle.edits.specs.declared.edit.Edit.{Edit}
use Rattle.edits.proofs.Answering.{refused, stopped, followed}
use Rattle.edits.proofs.OnSheet.{ends_on, ear_on}
use Rattle.edits.proofs.planning.edited.Goals as goal

pub returns-in_err-segment_between-in-Draw-clause-is : goal.returns-in_err-segment_between-in-Draw-clause-is
returns-in_err-segment_between-in-Draw-clause-is c = let p = err_from_is_err_and c.from_residual.result c.from_residual.ensures.1 in
    subst (λ (e : Edit). Answers (Edited c.args.pattern.now e) c.from_residual.result) (sym c.in-Draw.is)
    (refused (EndsOf c.args.pattern.now.sheet c.in-Draw.from c.in-Draw.to) (λ s. DrawnOne (crease s c.in-Draw.colour) c.args.pattern.now.creases) c.from_residual.result p.0 _ p.1 p.2 (ends_on c.in-Draw.from c.in-Draw.to _ c.sheet-sheet.ensures.sheet c.in_err-segment_between-in-Draw.ensures.is))

pub returns-in_ok-segment_between-in-Draw-clause-is : goal.returns-in_ok-segment_between-in-Draw-clause-is
returns-in_ok-segment_between-in-Draw-clause-is c =
    subst (λ (e : Edit). Answers (Edited c.args.pattern.now e) c.drawn.result) (sym c.in-Draw.is)
    (followed (EndsOf c.args.pattern.now.sheet c.in-Draw.from c.in-Draw.to) (λ s. DrawnOne (crease s c.in-Draw.colour) c.args.pattern.now.creases) c.drawn.result c.in_ok-segment_between-in-Draw.field-0 (ends_on c.in-Draw.from c.in-Draw.to _ c.sheet-sheet.ensures.sheet c.in_ok-segment_between-in-Draw.ensures.is) c.drawn.ensures.is)

pub returns-in_err-segment_between-in-Erase-clause-is : goal.returns-in_err-segment_between-in-Erase-clause-is
returns-in_err-segment_between-in-Erase-clause-is c = let p = err_from_is_err_and c.from_residual-in_err-segment_between-in-Erase.result c.from_residual-in_err-segment_between-in-Erase.ensures.1 in
    subst (λ (e : Edit). Answers (Edited c.args.pattern.now e) c.from_residual-in_err-segment_between-in-Erase.result) (sym c.in-Erase.is)
    (refused (EndsOf c.args.pattern.now.sheet c.in-Erase.from c.in-Erase.to) (λ s. Erased c.args.pattern.now.creases s) c.from_residual-in_err-segment_between-in-Erase.result p.0 _ p.1 p.2 (ends_on c.in-Erase.from c.in-Erase.to _ c.sheet-sheet.ensures.sheet c.in_err-segment_between-in-Erase.ensures.is))

pub returns-in_ok-segment_between-in-Erase-clause-is : goal.returns-in_ok-segment_between-in-Erase-clause-is
returns-in_ok-segment_between-in-Erase-clause-is c =
    subst (λ (e : Edit). Answers (Edited c.args.pattern.now e) c.erased.result) (sym c.in-Erase.is)
    (followed (EndsOf c.args.pattern.now.sheet c.in-Erase.from c.in-Erase.to) (λ s. Erased c.args.pattern.now.creases s) c.erased.result c.in_ok-segment_between-in-Erase.field-0 (ends_on c.in-Erase.from c.in-Erase.to _ c.sheet-sheet.ensures.sheet c.in_ok-segment_between-in-Erase.ensures.is) c.erased.ensures.is)

pub returns-in_err-segment_between-in-Recolour-clause-is : goal.returns-in_err-segment_between-in-Recolour-clause-is
returns-in_err-segment_between-in-Recolour-clause-is c = let p = err_from_is_err_and c.from_residual-in_err-segment_between-in-Recolour.result c.from_residual-in_err-segment_between-in-Recolour.ensures.1 in
    subst (λ (e : Edit). Answers (Edited c.args.pattern.now e) c.from_residual-in_err-segment_between-in-Recolour.result) (sym c.in-Recolour.is)
    (refused (EndsOf c.args.pattern.now.sheet c.in-Recolour.from c.in-Recolour.to) (λ s. Recoloured c.args.pattern.now.creases s c.in-Recolour.colour) c.from_residual-in_err-segment_between-in-Recolour.result p.0 _ p.1 p.2 (ends_on c.in-Recolour.from c.in-Recolour.to _ c.sheet-sheet.ensures.sheet c.in_err-segment_between-in-Recolour.ensures.is))

pub returns-in_ok-segment_between-in-Recolour-clause-is : goal.returns-in_ok-segment_between-in-Recolour-clause-is
returns-in_ok-segment_between-in-Recolour-clause-is c =
    subst (λ (e : Edit). Answers (Edited c.args.pattern.now e) c.recoloured.result) (sym c.in-Recolour.is)
    (followed (EndsOf c.args.pattern.now.sheet c.in-Recolour.from c.in-Recolour.to) (λ s. Recoloured c.args.pattern.now.creases s c.in-Recolour.colour) c.recoloured.result c.in_ok-segment_between-in-Recolour.field-0 (ends_on c.in-Recolour.from c.in-Recolour.to _ c.sheet-sheet.ensures.sheet c.in_ok-segment_between-in-Recolour.ensures.is) c.recoloured.ensures.is)

pub returns-in_err-extension-in-Extend-clause-is : goal.returns-in_err-extension-in-Extend-clause-is
returns-in_err-extension-in-Extend-clause-is c = let p = err_from_is_err_and c.from_residual-in_err-extension-in-Extend.result c.from_residual-in_err-extension-in-Extend.ensures.1 in
    subst (λ (e : Edit). Answers (Edited c.args.pattern.now e) c.from_residual-in_err-extension-in-Extend.result) (sym c.in-Extend.is)
    (refused (Extension c.args.pattern.now c.in-Extend.at c.in-Extend.dir) (λ s. DrawnOne (crease s c.in-Extend.colour) c.args.pattern.now.creases) c.from_residual-in_err-extension-in-Extend.result p.0 _ p.1 p.2 c.in_err-extension-in-Extend.ensures.is)

pub returns-in_ok-extension-in-Extend-clause-is : goal.returns-in_ok-extension-in-Extend-clause-is
returns-in_ok-extension-in-Extend-clause-is c =
    subst (λ (e : Edit). Answers (Edited c.args.pattern.now e) c.drawn-in-Extend.result) (sym c.in-Extend.is)
    (followed (Extension c.args.pattern.now c.in-Extend.at c.in-Extend.dir) (λ s. DrawnOne (crease s c.in-Extend.colour) c.args.pattern.now.creases) c.drawn-in-Extend.result c.in_ok-extension-in-Extend.field-0 c.in_ok-extension-in-Extend.ensures.is c.drawn-in-Extend.ensures.is)

pub returns-in_err-bisector-in-Bisect-clause-is : goal.returns-in_err-bisector-in-Bisect-clause-is
returns-in_err-bisector-in-Bisect-clause-is c = let p = err_from_is_err_and c.from_residual-in_err-bisector-in-Bisect.result c.from_residual-in_err-bisector-in-Bisect.ensures.1 in
    subst (λ (e : Edit). Answers (Edited c.args.pattern.now e) c.from_residual-in_err-bisector-in-Bisect.result) (sym c.in-Bisect.is)
    (refused (Bisector c.args.pattern.now c.in-Bisect.at c.in-Bisect.first c.in-Bisect.second) (λ s. DrawnOne (crease s c.in-Bisect.colour) c.args.pattern.now.creases) c.from_residual-in_err-bisector-in-Bisect.result p.0 _ p.1 p.2 c.in_err-bisector-in-Bisect.ensures.is)

pub returns-in_ok-bisector-in-Bisect-clause-is : goal.returns-in_ok-bisector-in-Bisect-clause-is
returns-in_ok-bisector-in-Bisect-clause-is c =
    subst (λ (e : Edit). Answers (Edited c.args.pattern.now e) c.drawn-in-Bisect.result) (sym c.in-Bisect.is)
    (followed (Bisector c.args.pattern.now c.in-Bisect.at c.in-Bisect.first c.in-Bisect.second) (λ s. DrawnOne (crease s c.in-Bisect.colour) c.args.pattern.now.creases) c.drawn-in-Bisect.result c.in_ok-bisector-in-Bisect.field-0 c.in_ok-bisector-in-Bisect.ensures.is c.drawn-in-Bisect.ensures.is)

pub returns-in_err-mirror_images-in-Mirror-clause-is : goal.returns-in_err-mirror_images-in-Mirror-clause-is
returns-in_err-mirror_images-in-Mirror-clause-is c = let p = err_from_is_err_and c.from_residual-in_err-mirror_images-in-Mirror.result c.from_residual-in_err-mirror_images-in-Mirror.ensures.1 in
    subst (λ (e : Edit). Answers (Edited c.args.pattern.now e) c.from_residual-in_err-mirror_images-in-Mirror.result) (sym c.in-Mirror.is)
    (stopped (MirrorImages c.args.pattern.now c.in-Mirror.at c.in-Mirror.dir) (λ images. DrawnInTurn images c.args.pattern.now.creases) c.from_residual-in_err-mirror_images-in-Mirror.result p.0 p.1 (rw p.2 c.in_err-mirror_images-in-Mirror.ensures.err))

pub returns-in_ok-mirror_images-in-Mirror-clause-is : goal.returns-in_ok-mirror_images-in-Mirror-clause-is
returns-in_ok-mirror_images-in-Mirror-clause-is c =
    subst (λ (e : Edit). Answers (Edited c.args.pattern.now e) c.drawn_in_turn.result) (sym c.in-Mirror.is)
    (followed (MirrorImages c.args.pattern.now c.in-Mirror.at c.in-Mirror.dir) (λ images. DrawnInTurn images c.args.pattern.now.creases) c.drawn_in_turn.result c.in_ok-mirror_images-in-Mirror.field-0.items c.in_ok-mirror_images-in-Mirror.ensures.ok (subst (λ (xs : List ExactCrease). Answers (DrawnInTurn xs c.args.pattern.now.creases) c.drawn_in_turn.result) c.deref.ensures.value c.drawn_in_turn.ensures.is))

pub returns-in_err-rabbit_ear-in-RabbitEar-clause-is : goal.returns-in_err-rabbit_ear-in-RabbitEar-clause-is
returns-in_err-rabbit_ear-in-RabbitEar-clause-is c = let p = err_from_is_err_and c.from_residual-in_err-rabbit_ear-in-RabbitEar.result c.from_residual-in_err-rabbit_ear-in-RabbitEar.ensures.1 in
    subst (λ (e : Edit). Answers (Edited c.args.pattern.now e) c.from_residual-in_err-rabbit_ear-in-RabbitEar.result) (sym c.in-RabbitEar.is)
    (refused (EarOf c.args.pattern.now.sheet c.in-RabbitEar.mark c.in-RabbitEar.p c.in-RabbitEar.q c.in-RabbitEar.r) (λ ear. DrawnInTurn ear c.args.pattern.now.creases) c.from_residual-in_err-rabbit_ear-in-RabbitEar.result p.0 _ p.1 p.2 (ear_on c.in-RabbitEar.mark c.in-RabbitEar.p c.in-RabbitEar.q c.in-RabbitEar.r _ c.sheet-sheet.ensures.sheet c.in_err-rabbit_ear-in-RabbitEar.ensures.err))

pub returns-in_ok-rabbit_ear-in-RabbitEar-clause-is : goal.returns-in_ok-rabbit_ear-in-RabbitEar-clause-is
returns-in_ok-rabbit_ear-in-RabbitEar-clause-is c =
    subst (λ (e : Edit). Answers (Edited c.args.pattern.now e) c.drawn_in_turn-in-RabbitEar.result) (sym c.in-RabbitEar.is)
    (followed (EarOf c.args.pattern.now.sheet c.in-RabbitEar.mark c.in-RabbitEar.p c.in-RabbitEar.q c.in-RabbitEar.r) (λ ear. DrawnInTurn ear c.args.pattern.now.creases) c.drawn_in_turn-in-RabbitEar.result c.in_ok-rabbit_ear-in-RabbitEar.field-0 (ear_on c.in-RabbitEar.mark c.in-RabbitEar.p c.in-RabbitEar.q c.in-RabbitEar.r _ c.sheet-sheet.ensures.sheet c.in_ok-rabbit_ear-in-RabbitEar.ensures.ok) c.drawn_in_turn-in-RabbitEar.ensures.is)
