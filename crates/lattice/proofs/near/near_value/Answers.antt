use Rattle.std.proofs.Common.{◌∙◌, arith}
use Rattle.qroot2.proofs.callers.Held.{through, held_128}
use Rattle.lattice.proofs.Translated.{finish_none, finish_some}
use Rattle.lattice.proofs.near.near_value.Goals as goal

pub returns-in-None : goal.returns-in-None
returns-in-None c = finish_none c.args.lattice.now c.args.m c.args.units (through c.args.units) c.from-tolerance.result c.d.ensures.lattice c.requires.m (held_128 c.args.units (omega (arith, c.requires.units))) (c.from-tolerance.ensures ∙ c.tol.ensures.value) c.in-None.ensures.none

pub returns-in-Some : goal.returns-in-Some
returns-in-Some c = finish_some c.args.lattice.now c.args.m c.args.units (through c.args.units) c.from-d.result c.from-k.result c.from-tolerance.result c.in-Some.reach c.named.result c.d.ensures.lattice (held_128 c.args.units (omega (arith, c.requires.units))) (c.from-tolerance.ensures ∙ c.tol.ensures.value) (c.from-d.ensures ∙ c.d.ensures.value) (c.from-k.ensures ∙ c.k.ensures.value) c.in-Some.ensures.some.0 c.named.ensures
