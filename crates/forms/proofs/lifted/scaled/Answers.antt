use Rattle.plane.specs.Ways.{root}
use Rattle.forms.proofs.Passed.{multiple_made, scaled_made, multiple_size}
use Rattle.forms.proofs.lifted.scaled.Goals as goal

pub returns-clause-value : goal.returns-clause-value
returns-clause-value c = scaled_made c.args.x.now c.new.result _ _ c.args.n c.new.ensures
    (multiple_made c.from.result c.a.result c.args.x.now.a c.from-n.result c.args.n c.from.ensures c.a.ensures.value c.from-n.ensures c.a.ensures.canonical.a c.requires)
    (multiple_made c.from-2.result c.b.result c.args.x.now.b c.from-n.result c.args.n c.from-2.ensures c.b.ensures.value c.from-n.ensures c.a.ensures.canonical.b c.requires)

pub returns-clause-within : goal.returns-clause-within
returns-clause-within c = multiple_size c.args.x.now (root c.new.result) c.args.n (returns-clause-value c) c.a.ensures.canonical.a c.a.ensures.canonical.b c.requires
