use Rattle.std.proofs.Common.{refl, length, arith}
use Rattle.std.proofs.lemmas.Option.{slice_get_read}
use Rattle.subdivide.proofs.Noted.{hold_none, kept_ends}
use Rattle.subdivide.proofs.found.Found.new.Goals as goal

pub loop-line-init : goal.loop-line-init
loop-line-init c = hold_none c.args.lines.now _ c.in_ok-with_capacity.ensures.items c.in_ok-with_capacity-2.ensures.items refl refl

pub loop-line-preserved : goal.loop-line-preserved
loop-line-preserved c = (let e = slice_get_read c.args.lines.now (length c.args.lines.now) c.loop-line.line-index c.line-item.result refl (omega arith) c.line-item.is in
    c.in_ok-begin.ensures c.args.lines.now c.loop-line.line-index c.requires.scale e (c.requires.each c.loop-line.line-index c.line-item.result e) c.loop-line.invariant)

pub returns : goal.returns
returns c = kept_ends c.args.lines.now c.loop-line.line-index c.loop-line.found (omega arith) c.loop-line.invariant
