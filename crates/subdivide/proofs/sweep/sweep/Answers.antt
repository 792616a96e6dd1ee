use Rattle.std.proofs.Common.{◌+◌, ◌-◌, length, refl, subst, arith}
use Rattle.subdivide.specs.Found.{IsSweptUpTo}
use Rattle.subdivide.proofs.Taken.{swept_none, swept_looked}
use Rattle.subdivide.proofs.Finished.{finished}
use Rattle.subdivide.proofs.Standing.{same_number}
use Rattle.subdivide.proofs.sweep.sweep.Goals as goal

pub loop-line-init : goal.loop-line-init
loop-line-init c = (c.in_ok-strips.ensures, swept_none c.args.lines.now c.in_ok-found.found c.in_ok-found.ensures)

pub loop-line-preserved : goal.loop-line-preserved
loop-line-preserved c = (c.in_ok-take.ensures.standing, swept_looked c.args.lines.now (c.loop-line.line + 1) c.take.new.found c.look.new.self (c.in_ok-look.ensures.leads c.args.lines.now) c.in_ok-take.ensures.found)

pub returns : goal.returns
returns c = subst (λ n. IsSweptUpTo c.args.lines.now n c.loop-line.found) (same_number c.loop-line.line (length c.args.lines.now) (omega arith) (omega arith)) c.loop-line.invariant.1

pub returns-then-are_held : goal.returns-then-are_held
returns-then-are_held c =
    let x = swept_looked c.args.lines.now (c.loop-line.line + 1) c.take.new.found c.look.new.self (c.in_ok-look.ensures.leads c.args.lines.now) c.in_ok-take.ensures.found in
    finished c.args.lines.now c.look.new.self (c.loop-line.line + 1) (length c.args.lines.now - (c.loop-line.line + 1)) c.requires (c.if-are_held.ensures refl) (c.in_ok-look.ensures.full c.if-branch.true) (omega arith) x
