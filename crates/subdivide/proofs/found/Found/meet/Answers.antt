use Rattle.std.proofs.Common.{get_or, arith}
use Rattle.std.proofs.lemmas.Option.{slice_get-get_or}
use Rattle.std.proofs.lemmas.List.Elements.{All-get_or}
use Rattle.std.specs.Prelude.{◌<◌}
use Rattle.subdivide.proofs.Noted.{settled_more, settled_none, settled_all}
use Rattle.subdivide.proofs.found.Found.meet.Goals as goal

pub loop-first-init : goal.loop-first-init
loop-first-init c = settled_none c.args.lines.now c.args.line c.args.near.now c.args.self.now

pub meet_one-requires-clause-ordered : goal.meet_one-requires-clause-ordered
meet_one-requires-clause-ordered c = All-get_or (λ i. i < c.args.line) c.args.near.now c.loop-first.first-index 0 (omega arith) c.requires.near

pub loop-first-preserved : goal.loop-first-preserved
loop-first-preserved c = settled_more c.args.lines.now c.args.line c.args.near.now c.loop-first.first-index (get_or c.args.near.now c.loop-first.first-index 0) c.args.self.now c.loop-first.self c.meet_one.new.self
    (slice_get-get_or c.args.near.now c.loop-first.first-index 0 (omega arith)) c.loop-first.invariant c.in_ok-meet_one.ensures

pub returns : goal.returns
returns c = settled_all c.args.lines.now c.args.line c.args.near.now c.loop-first.first-index c.args.self.now c.loop-first.self (omega arith) c.loop-first.invariant
