use Rattle.std.proofs.Common.{ℕ, List}
use Rattle.std.specs.Prelude.{ℤ}
use Rattle.sheet.specs.declared.mark.Mark.{Mark}
use Rattle.crimp.specs.Cycle.{IsCycle, Layered, numbers_of}
use Rattle.crimp.proofs.Ending.{if_same}
use Rattle.crimp.proofs.outcome.layer_order.Goals as goal

pub returns-clause-some : goal.returns-clause-some
returns-clause-some c = if_same c.new.result (λ (order : List ℕ). (x : ℕ → ℤ) (mark : ℕ → Mark) → IsCycle x mark c.args.entries.now.items → Layered x mark (numbers_of c.args.entries.now.items) order)
    c.as_slice.result.now c.in_ok-order.order.items c.new.ensures.same c.as_slice.ensures.value c.in_ok-order.ensures.some
