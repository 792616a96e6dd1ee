use Rattle.std.proofs.Common.{◌∙◌, sym, subst}
use Rattle.serde_json.specs.View.{view}
use Rattle.routes.specs.Edits.{IsEdit, IsEditIn}
use Rattle.routes.proofs.Answered.{mapped, same_value}
use Rattle.routes.proofs.edit.read_edit.Goals as goal

pub returns-in-Ok : goal.returns-in-Ok
returns-in-Ok c =
    let value = view c.in-Ok.value in
    let name = c.args.name.now in
    let body = c.args.body.now in
    mapped (λ v. v.items) (IsEditIn name value) (IsEdit name body)
    (λ t e. record { value = value; utf8 = c.in-Ok.ensures.ok.0; json = c.in-Ok.ensures.ok.1; edit = e })
    (λ t e. subst (λ d. IsEditIn name d t) (same_value e.value value (sym e.json ∙ c.in-Ok.ensures.ok.1)) e.edit)
    c.edit_in.result c.edit_in.ensures
