use Rattle.std.proofs.Common.{sym, subst, to_z, of_z}
use Rattle.std.specs.Prelude.{All, ℤ}
use Rattle.std.specs.Int.{w128}
use Rattle.lattice.specs.Near.{IsAnswer}
use Rattle.cpfile.specs.CpAxes.{ExactAxis}
use Rattle.cpfile.proofs.Known.{Holds, put}
use Rattle.cpfile.proofs.Capping.{held_units, answer_on}
use Rattle.cpfile.proofs.axis.Axis.near.Goals as goal

pub returns-in-Some-clause-near : goal.returns-in-Some-clause-near
returns-in-Some-clause-near c = answer_on c.self.inside.lattice c.self.inside.length c.args.self.now _ c.args.units c.in-Some.near c.self.invariant.1 c.self.invariant.0 c.self.view_is (held_units c.args.units c.requires) c.in-Some.ensures

pub invariant_of-self-2 : goal.invariant_of-self-2
invariant_of-self-2 c =
    let l = c.self.inside.lattice in
    let m = c.self.inside.length in
    let key : ℤ = to_z w128 (of_z w128 c.args.units) in
    let answer : IsAnswer l m key c.near_value-near.result = subst (λ n. IsAnswer l n key c.near_value-near.result) c.from.ensures c.near_value-near.ensures in
    (c.self.invariant.0, c.self.invariant.1, subst (All (Holds (IsAnswer l m))) (sym c.in_ok-insert.ensures.entries) (put (IsAnswer l m) c.self.inside.known.entries key c.near_value-near.result c.self.invariant.2 answer))

pub returns-clause-near : goal.returns-clause-near
returns-clause-near c =
    let l = c.self.inside.lattice in
    let m = c.self.inside.length in
    let key : ℤ = to_z w128 (of_z w128 c.args.units) in
    let answer : IsAnswer l m key c.near_value-near.result = subst (λ n. IsAnswer l n key c.near_value-near.result) c.from.ensures c.near_value-near.ensures in
    answer_on l m c.args.self.now key c.args.units c.near_value-near.result c.self.invariant.1 c.self.invariant.0 c.self.view_is (held_units c.args.units c.requires)
    (subst (λ (s : ExactAxis). IsAnswer s.lattice s.length key c.near_value-near.result) c.self.view_is answer)
