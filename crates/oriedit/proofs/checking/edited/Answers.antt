use Rattle.std.proofs.Common.{subst}
use Rattle.std.specs.Prelude.{Ok}
use Rattle.pattern.proofs.callers.Leading.{leads_to_one}
use Rattle.edits.specs.EditOf.{EditOf}
use Rattle.oriedit.proofs.checking.edited.Goals as goal

pub returns : goal.returns
returns c =
    let l = c.in_ok-delta.ensures.leads in
    let same = leads_to_one c.args.pattern.now l.0 c.in_ok-applied.field-0 c.in_ok-delta.delta l.2 c.in_ok-applied.ensures in
    subst (λ new. EditOf c.args.pattern.now c.args.edit.now (Ok new)) same l.1
