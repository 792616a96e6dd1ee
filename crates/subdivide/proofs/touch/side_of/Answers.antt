use Rattle.std.proofs.Common.{int_cmp, w32, to_z, of_z, sym, ap, subst, ◌∙◌}
use Rattle.std.specs.declared.cmp.Ordering.TheVariants as o
use Rattle.std.proofs.lemmas.Cmp.{int_ranked}
use Rattle.std.proofs.lemmas.Int.{to_z-of_z}
use Rattle.plane.specs.Sides.{IsSide}
use Rattle.subdivide.proofs.Touched.{side_less, side_greater}
use Rattle.subdivide.proofs.touch.side_of.Goals as goal

pub returns-in-Less : goal.returns-in-Less
returns-in-Less c =
    let a = to_z-of_z w32 c.mark.result (record { sfits = c.mark.type_inv }) in
    let b = to_z-of_z w32 c.mark-2.result (record { sfits = c.mark-2.type_inv }) in
    side_less c.requires.0 c.args.line.now c.args.other.now c.args.end c.row_of-row.result c.mark.result c.mark-2.result c.requires.1 c.requires.2 c.row_of-row.ensures.value c.mark.ensures c.mark-2.ensures
    (int_ranked c.mark.result c.mark-2.result o.Less (sym c.in-Less.is ∙ c.cmp.ensures ∙ ap (λ z. int_cmp z (to_z w32 (of_z w32 c.mark-2.result))) a ∙ ap (int_cmp c.mark.result) b))

pub returns-in-Greater : goal.returns-in-Greater
returns-in-Greater c =
    let a = to_z-of_z w32 c.mark.result (record { sfits = c.mark.type_inv }) in
    let b = to_z-of_z w32 c.mark-2.result (record { sfits = c.mark-2.type_inv }) in
    side_greater c.requires.0 c.args.line.now c.args.other.now c.args.end c.row_of-row.result c.mark.result c.mark-2.result c.requires.1 c.requires.2 c.row_of-row.ensures.value c.mark.ensures c.mark-2.ensures
    (int_ranked c.mark.result c.mark-2.result o.Greater (sym c.in-Greater.is ∙ c.cmp.ensures ∙ ap (λ z. int_cmp z (to_z w32 (of_z w32 c.mark-2.result))) a ∙ ap (int_cmp c.mark.result) b))

pub returns-in-Equal : goal.returns-in-Equal
returns-in-Equal c = subst (λ z. IsSide c.args.line.now.seg.p c.args.line.now.dir z c.exact_side.result) c.end_at.ensures c.exact_side.ensures
