use Rattle.std.proofs.Common.{w32, ap, ◌∙◌}
use Rattle.std.specs.Int.{w128}
use Rattle.std.proofs.lemmas.Int.{to_z-of_z}
use Rattle.forms.specs.Marks.{nearest}
use Rattle.forms.proofs.Rows.{mark_made}
use Rattle.forms.proofs.floor.mark_of.Goals as goal

pub returns : goal.returns
returns c = λ p h. mark_made c.args.scale c.args.dir p c.args.lifted.now.x c.args.lifted.now.y c.form.result c.args.lifted.now.weight c.floor_over.result _ h c.form.ensures.value c.floor_over.ensures
    (to_z-of_z w32 c.narrowed.result (record { sfits = c.narrowed.type_inv }) ∙ c.narrowed.ensures ∙ ap nearest (to_z-of_z w128 c.floor_over.result (record { sfits = c.floor_over.type_inv })))
