use Rattle.std.proofs.Common.{◌++◌, ◌∷◌, [], refl, ap, ◌∙◌, arith}
use Rattle.commands.proofs.Gathering.{gathers_more}
use Rattle.commands.proofs.gather.gather.Goals as goal
use Rattle.chains.proofs.callers.Elements.{some_elements}

pub loop-lines-preserved : goal.loop-lines-preserved
loop-lines-preserved c = record {
  gathers = gathers_more _ _ _ c.first_line.result.0.now _ _ _ _ _ _ c.loop-lines.invariant.gathers
      (some_elements c.loop-lines.rest.now c.is_empty.result c.is_empty.ensures c.if-not-is_empty.true) c.first_line.ensures
      (c.in_ok-push.ensures.items ∙ ap (λ xs. xs ++ 10 ∷ []) c.in_ok-extend_from_slice.ensures.items) refl c.stays_short-is_short.ensures;
  most = omega arith;
}
