use Rattle.std.proofs.Common.{sym, ◌∙◌}
use Rattle.pattern.proofs.Placing.{segment_told, no_segment, is_none}
use Rattle.pattern.proofs.native.place.segment_of.Goals as goal

pub returns-clause-some : goal.returns-clause-some
returns-clause-some c = (segment_told c.ok.result c.with_line.result c.args.line.now.p c.args.line.now.q c.ok.ensures.value c.with_line.ensures.ok c.with_line.ensures.line).0

pub returns-clause-segment : goal.returns-clause-segment
returns-clause-segment c = (segment_told c.ok.result c.with_line.result c.args.line.now.p c.args.line.now.q c.ok.ensures.value c.with_line.ensures.ok c.with_line.ensures.line).1

pub returns-clause-none : goal.returns-clause-none
returns-clause-none c = λ n b. no_segment c.with_line.result c.args.line.now.p c.args.line.now.q b c.with_line.ensures.same_point.0 (λ e. (c.with_line.ensures.not_direction.0 e).1) (sym c.ok.ensures.value ∙ is_none c.ok.result n)
