use Rattle.forms.proofs.Passed.{aslant_made, aslant_within}
use Rattle.forms.proofs.lifted.aslant.Goals as goal

pub returns-clause-value : goal.returns-clause-value
returns-clause-value c = aslant_made c.args.x c.new.result c.a.result c.b.result c.a-2.result c.b-2.result c.new.ensures c.a.ensures.value c.b.ensures.value c.a-2.ensures.value c.b-2.ensures.value c.requires

pub returns-clause-within : goal.returns-clause-within
returns-clause-within c = aslant_within c.args.x c.new.result
    (aslant_made c.args.x c.new.result c.a.result c.b.result c.a-2.result c.b-2.result c.new.ensures c.a.ensures.value c.b.ensures.value c.a-2.ensures.value c.b-2.ensures.value c.requires) c.requires
