-- What is drawn over creases ascends by its segments.
use Rattle.std.proofs.Common.{◌≡◌, List, [], ◌∷◌, sym, subst, inl, inr, arith}
use Rattle.std.specs.Prelude.{Ok}
use Rattle.sheet.specs.Sheet.{ExactSheet}
use Rattle.sheet.specs.Pattern.{ExactCrease, ExactPattern}
use Rattle.creases.specs.Creases.{Ascends}
use Rattle.edits.specs.Drawn.{Counted, DrawnOne, DrawnInTurn}
use Rattle.edits.specs.EditOf.{Changed, EditOf}
use Rattle.edits.specs.declared.edit.Edit.TheVariants as edit
use Rattle.oriedit.specs.CheckText.{empty_on}

pub none_ascend : Ascends []
none_ascend i j d lt within = absurd (omega arith)

counted_is : (creases after : List ExactCrease) → Counted creases (Ok after) → after ≡ creases
counted_is creases after (inl many) = absurd (let e = many.1 in cc)
counted_is creases after (inr few) = few.1

drawn_one : (d : ExactCrease) (creases after : List ExactCrease) → DrawnOne d creases (Ok after)
    → Ascends after
drawn_one d creases after t = subst Ascends (sym (counted_is t.0 after t.2)) t.1.ordered

in_turn : (lines creases after : List ExactCrease) → Ascends creases → DrawnInTurn lines creases (Ok after)
    → Ascends after
in_turn [] creases after h e = let n : after ≡ creases = cc in subst Ascends (sym n) h
in_turn (d ∷ rest) creases after h t = in_turn rest t.0 after (drawn_one d creases t.0 t.1) t.2

changed_is : (old new : ExactPattern) (after : List ExactCrease) → Changed old after (Ok new)
    → new ≡ record { sheet = old.sheet; creases = after }
changed_is old new after (inl same) = absurd (let e = same.1 in cc)
changed_is old new after (inr c) = c.1

-- as does what is drawn on an empty sheet
pub drawn_ascend : (sheet : ExactSheet) (lines : List ExactCrease) (new : ExactPattern)
    → EditOf (empty_on sheet) (edit.Lines lines) (Ok new) → Ascends new.creases
drawn_ascend sheet lines new t =
    let up = in_turn t.1.0 [] t.0 none_ascend t.1.2 in
    subst (λ (p : ExactPattern). Ascends p.creases) (sym (changed_is (empty_on sheet) new t.0 t.2)) up
