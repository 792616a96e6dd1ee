use Rattle.std.proofs.Common.{length, refl, ap, ◌∙◌, arith}
use Rattle.std.proofs.lemmas.Option.{slice_get_read}
use Rattle.subdivide.specs.Subdivision.{Line}
use Rattle.subdivide.proofs.Listed.{as_line_is, marked_more, marked_same, marked_all}
use Rattle.subdivide.proofs.lines.marked.Goals as goal

pub loop-line-preserved : goal.loop-line-preserved
loop-line-preserved c = marked_more c.args.scale c.args.lines.now c.loop-line.line-index c.line-item.result c.new.result c.loop-line.marked.items c.push.new.self.items c.loop-line.invariant
    (slice_get_read c.args.lines.now (length c.args.lines.now) c.loop-line.line-index c.line-item.result refl c.loop-line-test.true c.line-item.is)
    (as_line_is c.new.result c.line-item.result (c.new.ensures.seg ∙ ap (λ (z : Line). z.seg) c.line.view_is) (c.new.ensures.kind ∙ ap (λ (z : Line). z.kind) c.line.view_is))
    c.new.ensures.marked c.in_ok-push.ensures.items

pub returns-clause-same : goal.returns-clause-same
returns-clause-same c = marked_same c.args.scale c.args.lines.now c.loop-line.line-index c.loop-line.marked.items c.loop-line.invariant (omega (arith, c.loop-line-test.false, c.loop-line.auto.line-index-end))

pub returns-clause-marked : goal.returns-clause-marked
returns-clause-marked c = marked_all c.args.scale c.args.lines.now c.loop-line.line-index c.loop-line.marked.items c.loop-line.invariant
