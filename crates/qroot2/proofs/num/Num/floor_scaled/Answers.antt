use Rattle.std.specs.Int.{w128}
use Rattle.std.proofs.lemmas.Int.{to_z-of_z}
use Rattle.qroot2.proofs.callers.Held.{carried, carried_size}
use Rattle.qroot2.proofs.Roots.{floor_moved}
use Rattle.qroot2.proofs.num.Num.floor_scaled.Goals as goal

pub returns : goal.returns
returns c =
    let x = c.a.ensures.canonical in
    floor_moved c.args.n c.args.self.now _ _ _ c.floor_of.result _
    (carried c.from-a.result c.a.result c.args.self.now.a x.a c.a.ensures.value c.from-a.ensures)
    (carried c.from-b.result c.b.result c.args.self.now.b x.b c.b.ensures.value c.from-b.ensures)
    (carried_size c.unsigned_abs.result c.d.result c.args.self.now.d x.d c.d.ensures.value c.unsigned_abs.ensures.value)
    (to_z-of_z w128 c.floor_of.result (record { sfits = c.floor_of.type_inv })) c.floor_of.ensures
