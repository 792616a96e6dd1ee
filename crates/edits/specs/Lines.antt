-- Many creases that are given to be drawn.
use Rattle.std.specs.Prelude.{◌≡◌, List, Result}
use Rattle.sheet.specs.Sheet.{ExactSheet, OnBorder}
use Rattle.sheet.specs.Pattern.{ExactCrease}
use Rattle.edits.specs.Rules.{Gives, Unless, ForEach}
use Rattle.edits.specs.Ends.{AreInSheet}
use Rattle.edits.specs.declared.refusal.EditBad.{EditBad}
use Rattle.edits.specs.declared.refusal.EditBad.TheVariants as bad

-- the crease itself, in the sheet and not on a side of it
abbrev pub LineOf : ExactSheet → ExactCrease → Result ExactCrease EditBad → Type 0
LineOf sheet f =
    Unless (¬ AreInSheet sheet f.seg.p f.seg.q) bad.Outside
    (Unless (OnBorder sheet f.seg) bad.OnBorder
    (Gives (λ same. same ≡ f)))

-- the creases that are given, where each can be drawn
abbrev pub LinesOf : ExactSheet → List ExactCrease → Result (List ExactCrease) EditBad → Type 0
LinesOf sheet given = ForEach (LineOf sheet) given
