use Rattle.std.proofs.Common.{◌∙◌}
use Rattle.lattice.specs.Near.{IsAnswer}
use Rattle.cpfile.proofs.Known.{found}
use Rattle.cpfile.proofs.Capping.{held_units, met_on}
use Rattle.cpfile.proofs.axis.Axis.met.Goals as goal

pub returns : goal.returns
returns c =
    let l = c.self.inside.lattice in
    let m = c.self.inside.length in
    met_on l m c.args.self.now _ c.args.units _ c.copied.result c.self.view_is (held_units c.args.units c.requires) (c.copied.ensures ∙ c.get.ensures.value)
    (found (IsAnswer l m) c.self.inside.known.entries _ c.self.invariant.2)
