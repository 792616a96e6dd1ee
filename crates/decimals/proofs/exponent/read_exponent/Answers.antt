use Rattle.std.proofs.Common.{length, take, drop, ◌-◌, inl, inr}
use Rattle.std.proofs.lemmas.List.{take_rest}
use Rattle.qroot2.proofs.callers.Reading.{some_long}
use Rattle.decimals.proofs.callers.Spelling.{exponent_marked}
use Rattle.decimals.proofs.exponent.read_exponent.Goals as goal
use Rattle.decimals.proofs.exponent.read_exponent.Goals.{else-tail-ne101-via-then-tail-ne101+else-tail-ne69, else-tail-ne101-via-else-tail-ne101}

pub returns : goal.returns
returns c =
    let tail = c.args.tail.now in
    exponent_marked tail (take (length tail - 1) (drop 1 tail)) c.small.result (some_long _ _ c.is_empty.ensures c.if-is_empty.false) (take_rest tail 1)
    (elim c.else-tail-ne101.branch [
      | else-tail-ne101-via-then-tail-ne101+else-tail-ne69 w ↦ inr w.if-tail-ne69.false
      | else-tail-ne101-via-else-tail-ne101 w ↦ inl w.if-tail-ne101.false
    ]) c.small.ensures
