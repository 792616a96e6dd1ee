use Rattle.std.proofs.Common.{sym, ◌∙◌}
use Rattle.pattern.proofs.callers.Told.{shown}
use Rattle.pattern.proofs.Placing.{no_segment, is_none}
use Rattle.pattern.proofs.callers.SingleText.{between_some}
use Rattle.pattern.proofs.native.single.seg_between.Goals as goal

pub returns-then-is_before-clause-some : goal.returns-then-is_before-clause-some
returns-then-is_before-clause-some c = between_some c.ok.result c.new.result c.args.p c.args.q c.ok.ensures.value (shown c.is_before.result c.if-is_before.true c.is_before.ensures) c.new.ensures.ok c.new.ensures.held

pub returns-then-is_before-clause-none : goal.returns-then-is_before-clause-none
returns-then-is_before-clause-none c = λ n h. no_segment c.new.result c.args.p c.args.q (shown c.is_before.result c.if-is_before.true c.is_before.ensures) c.new.ensures.same_point.0 (λ e. (c.new.ensures.not_direction.0 e).1) (sym c.ok.ensures.value ∙ is_none c.ok.result n) h.segment
