use Rattle.std.proofs.Common.{subst}
use Rattle.serde_json.specs.View.{view}
use Rattle.routes.specs.Edits.{IsEditIn, IsEditOf}
use Rattle.routes.proofs.Answered.{mapped, one_says}
use Rattle.routes.proofs.edit.edit_in.Goals as goal

pub returns-in-Some : goal.returns-in-Some
returns-in-Some c =
    let value = view c.args.value.now in
    let name = c.args.name.now in
    let command = c.in-Some.command.now in
    let rev = c.in-Some.rev in
    mapped (λ v. v.items) (IsEditOf name command rev) (IsEditIn name value)
    (λ t e. record { command = command; rev = rev; says = c.in-Some.ensures; edit = e })
    (λ t e.
    let one = one_says value e.command command e.rev rev e.says c.in-Some.ensures in
    subst (λ r. IsEditOf name command r t) one.1 (subst (λ x. IsEditOf name x e.rev t) one.0 e.edit))
    c.edit_of.result c.edit_of.ensures
