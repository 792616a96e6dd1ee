use Rattle.std.proofs.Common.{arith, ◌/◌}
use Rattle.std.proofs.lemmas.Nat.{div-add-mod'}
use Rattle.qroot2.proofs.Roots.{root_step}
use Rattle.qroot2.proofs.floor.+root_of.Goals as goal
use Rattle.qroot2.proofs.floor.+root_of.Goals.{then-b-eq1, else-b-eq1}

pub returns-clause-root : goal.returns-clause-root
returns-clause-root t c =
    elim c.if-b-eq1.branch [
      | then-b-eq1 w ↦ root_step c.args.b (c.args.b / 2) 1 c.root_of-half.result.whole c.root_of-half.result.rest c.if-b-eq1.more c.raised.result.whole c.raised.result.rest c.raised-2.result.whole c.raised-2.result.rest c.raised-3.result.whole c.raised-3.result.rest c.root_of-half.ensures.root
          (omega (arith, div-add-mod' c.args.b 2, w.if-b-eq1.true)) (omega (arith, w.more-is)) (omega (arith, w.more-is)) c.raised.ensures.square c.raised-2.ensures.square c.raised-3.ensures.square c.raised.ensures.eight c.raised-2.ensures.six c.raised-3.ensures.four
      | else-b-eq1 w ↦ root_step c.args.b (c.args.b / 2) 0 c.root_of-half.result.whole c.root_of-half.result.rest c.if-b-eq1.more c.raised.result.whole c.raised.result.rest c.raised-2.result.whole c.raised-2.result.rest c.raised-3.result.whole c.raised-3.result.rest c.root_of-half.ensures.root
          (omega (arith, div-add-mod' c.args.b 2, w.if-b-eq1.false)) (omega (arith, w.more-is)) (omega (arith, w.more-is)) c.raised.ensures.square c.raised-2.ensures.square c.raised-3.ensures.square c.raised.ensures.eight c.raised-2.ensures.six c.raised-3.ensures.four
    ]
