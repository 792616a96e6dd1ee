use Rattle.std.proofs.Common.{◌≡◌, ◌++◌, take}
use Rattle.foldfile.specs.FoldText.{rest_text}
use Rattle.foldfile.proofs.list.put_rest.Given as goal

abbrev pub invariant-loop-item : goal.invariant-loop-item
invariant-loop-item g l =
    l.text.items ≡ l.fn.text.items ++ rest_text g.S.Spell.spelt (take l.item-index l.items)
