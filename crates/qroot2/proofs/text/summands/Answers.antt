use Rattle.std.proofs.Common.{inl, inr}
use Rattle.qroot2.proofs.callers.Reading.{summands_none}
use Rattle.qroot2.proofs.text.summands.Goals as goal

pub returns-then-a-eq0 : goal.returns-then-a-eq0
returns-then-a-eq0 c = summands_none c.args.whole.now c.args.root.now c.in_ok-a.a c.in_ok-size.size c.in_ok-a.ensures c.in_ok-size.ensures
    (elim c.then-a-eq0.either [ inl h ↦ inl h | inr h ↦ inr h.1 ])
