use Rattle.std.proofs.Common.{arith, ◌∙◌, refl}
use Rattle.std.specs.Int.{w128}
use Rattle.std.proofs.lemmas.Int.{to_z-of_z}
use Rattle.qroot2.proofs.callers.Held.{held_128}
use Rattle.qroot2.proofs.Roots.{floor_moved}
use Rattle.qroot2.proofs.wide.Wide.floor_over.Goals as goal

pub returns : goal.returns
returns c =
    floor_moved c.args.n (record { a = c.args.self.a; b = c.args.self.b; d = c.args.d }) _ _ _ c.floor_of.result _
    (held_128 c.a.result (omega (arith, c.a.ensures.bound)) ∙ c.a.ensures.value) (held_128 c.b.result (omega (arith, c.b.ensures.bound)) ∙ c.b.ensures.value) refl
    (to_z-of_z w128 c.floor_of.result (record { sfits = c.floor_of.type_inv })) c.floor_of.ensures
