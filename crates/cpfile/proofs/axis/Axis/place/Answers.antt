use Rattle.std.proofs.Common.{refl, subst, ◌∙◌}
use Rattle.lattice.specs.Near.{IsAnswer}
use Rattle.cpfile.proofs.Capping.{held_units}
use Rattle.cpfile.proofs.axis.Axis.place.Goals as goal

pub returns-in-One-clause-place : goal.returns-in-One-clause-place
returns-in-One-clause-place c = λ x e. record { near = subst (IsAnswer c.args.self.now.lattice c.args.self.now.length x) c.in-One.is (c.in_ok-u.ensures.near x (held_units c.args.units c.requires ∙ e)); held = c.d-d.ensures.canonical }

pub returns-in-Two-clause-place : goal.returns-in-Two-clause-place
returns-in-Two-clause-place c = λ x e. (refl, subst (IsAnswer c.args.self.now.lattice c.args.self.now.length x) c.in-Two.is (c.in_ok-u.ensures.near x (held_units c.args.units c.requires ∙ e)), c.d.ensures.canonical, c.d-in-Two.ensures.canonical)
