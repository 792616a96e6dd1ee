-- What an edit of a pattern answers: the new pattern, or the first broken rule.
use Rattle.std.specs.Prelude.{◌≡◌, ◌<◌, List, Result}
use Rattle.sheet.specs.Pattern.{ExactCrease, ExactPattern}
use Rattle.edits.specs.Rules.{Gives, Unless, Then}
use Rattle.edits.specs.CreaseSet.{crease}
use Rattle.edits.specs.Drawn.{DrawnOne, DrawnInTurn}
use Rattle.edits.specs.Ends.{EndsOf}
use Rattle.edits.specs.Erase.{Erased}
use Rattle.edits.specs.Recolour.{Recoloured}
use Rattle.edits.specs.Flip.{flipped}
use Rattle.edits.specs.Extend.{Extension}
use Rattle.edits.specs.Bisect.{Bisector}
use Rattle.edits.specs.Mirror.{MirrorImages}
use Rattle.edits.specs.RabbitEar.{EarOf}
use Rattle.edits.specs.Lines.{LinesOf}
use Rattle.edits.specs.declared.edit.Edit.{Edit}
use Rattle.edits.specs.declared.edit.Edit.TheVariants as edit
use Rattle.edits.specs.declared.refusal.EditBad.{EditBad}
use Rattle.edits.specs.declared.refusal.EditBad.TheVariants as bad

-- What the edit makes of the creases of a pattern, or its first broken rule, but for that of no
-- change. Where several creases are drawn, all are found and tested before the first is drawn.
abbrev pub Edited : ExactPattern → Edit → Result (List ExactCrease) EditBad → Type 0
Edited old (edit.Draw c from to) = Then (EndsOf old.sheet from to) (λ s. DrawnOne (crease s c) old.creases)
Edited old (edit.Erase from to) = Then (EndsOf old.sheet from to) (λ s. Erased old.creases s)
Edited old (edit.Recolour c from to) = Then (EndsOf old.sheet from to) (λ s. Recoloured old.creases s c)
Edited old edit.Flip = Gives (λ after. after ≡ flipped old.creases)
Edited old (edit.Extend c at k) = Then (Extension old at k) (λ s. DrawnOne (crease s c) old.creases)
Edited old (edit.Bisect c at first second) = Then (Bisector old at first second)
    (λ s. DrawnOne (crease s c) old.creases)
Edited old (edit.Mirror at k) = Then (MirrorImages old at k) (λ images. DrawnInTurn images old.creases)
Edited old (edit.RabbitEar m p q r) = Then (EarOf old.sheet m p q r) (λ ear. DrawnInTurn ear old.creases)
Edited old (edit.Lines given) = Then (LinesOf old.sheet given) (λ lines. DrawnInTurn lines old.creases)

-- what comes after the old creases has to be something else; it is on the old sheet
abbrev pub Changed : ExactPattern → List ExactCrease → Result ExactPattern EditBad → Type 0
Changed old after =
    Unless (after ≡ old.creases) bad.NoChange
    (Gives (λ new. new ≡ record { sheet = old.sheet; creases = after }))

-- the answer of an edit of a pattern
abbrev pub EditOf : ExactPattern → Edit → Result ExactPattern EditBad → Type 0
EditOf old e = Then (Edited old e) (Changed old)

-- the direction of a mirror's line is one of the sixteen, as that of each edit of the program is
abbrev pub HasSmallAxis : Edit → Type 0
HasSmallAxis (edit.Mirror at k) = k < 16
HasSmallAxis e = Unit {0}
