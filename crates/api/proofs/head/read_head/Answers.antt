use Rattle.std.proofs.Common.{◌∙◌, ap, sym, subst, arith, rules}
use Rattle.httparse.specs.Grammar.{NeverHasRequest}
use Rattle.api.specs.Stages.{Ends, cut_off}
use Rattle.api.proofs.HeadEnds.{head_fails, cut_ends, never_ends, full_ends}
use Rattle.api.proofs.head.read_head.Goals as goal

pub returns-in_err-count-clause-reads : goal.returns-in_err-count-clause-reads
returns-in_err-count-clause-reads g c =
    head_fails (g.S.Source.left c.args.source.now) (g.S.Source.left c.loop-bytes.source) (g.S.Source.left c.take_more.new.source)
    c.loop-bytes.bytes.items c.take_more.new.bytes.items c.loop-bytes.spans c.in_err-count.field-0.0 c.from_residual.result
    c.loop-bytes.invariant.gave c.in_err-count.ensures.takes c.from_residual.ensures.1

pub returns-then-count-eq0-clause-reads : goal.returns-then-count-eq0-clause-reads
returns-then-count-eq0-clause-reads g c =
    subst (Ends (g.S.Source.left c.args.source.now) (g.S.Source.left c.take_more.new.source))
    (ap cut_off (sym c.as_slice.ensures.value) ∙ sym c.cut_off.ensures)
    (cut_ends (g.S.Source.left c.args.source.now) (g.S.Source.left c.loop-bytes.source) (g.S.Source.left c.take_more.new.source)
    c.loop-bytes.bytes.items c.take_more.new.bytes.items _ c.in_ok-count.count
    c.loop-bytes.invariant.gave c.in_ok-count.ensures.takes (omega arith) (omega arith) c.loop-bytes.invariant.open_yet)

pub returns-in-Never-clause-reads : goal.returns-in-Never-clause-reads
returns-in-Never-clause-reads g c =
    subst (Ends (g.S.Source.left c.args.source.now) (g.S.Source.left c.take_more.new.source)) (sym c.refused.ensures)
    (never_ends (g.S.Source.left c.args.source.now) (g.S.Source.left c.loop-bytes.source) (g.S.Source.left c.take_more.new.source)
    c.loop-bytes.bytes.items c.take_more.new.bytes.items _ c.in_ok-count.count
    c.loop-bytes.invariant.gave c.in_ok-count.ensures.takes (λ e. search rules) (omega arith) (subst NeverHasRequest c.as_slice-in-loop-bytes.ensures.value c.in-Never.ensures.look))

pub returns-clause-reads : goal.returns-clause-reads
returns-clause-reads g c =
    subst (Ends (g.S.Source.left c.args.source.now) (g.S.Source.left c.loop-bytes.source)) (sym c.refused-2.ensures)
    (full_ends (g.S.Source.left c.args.source.now) (g.S.Source.left c.loop-bytes.source) c.loop-bytes.bytes.items
    c.loop-bytes.invariant.gave (omega arith) c.loop-bytes.invariant.open_yet)
