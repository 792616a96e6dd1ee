use Rattle.std.proofs.Common.{ap, sym, subst, List}
use Rattle.std.specs.Prelude.{◌↔◌, ◌≢◌, Contains}
use Rattle.std.specs.BTreeMap.{values}
use Rattle.exact.specs.Plane.{ExactSegment}
use Rattle.sheet.specs.Pattern.{ExactCrease}
use Rattle.creases.specs.Places.{IsPlaceOf}
use Rattle.creases.proofs.IndexChanges.{taken_members, taken_index}
use Rattle.creases.proofs.index.LineIndex.take.Goals as goal

pub invariant_of-self : goal.invariant_of-self
invariant_of-self c =
    taken_index c.self.inside.by_place c.remove.new.self c.args.crease.now c.of.result c.self.invariant c.remove.ensures.ordered
    (subst (λ (s : ExactSegment). IsPlaceOf s c.of.result) (ap (λ (f : ExactCrease). f.seg) c.crease.view_is) c.of.ensures.place)
    (subst (λ (xs : List ExactCrease). Contains xs c.args.crease.now) (sym c.self.view_is) c.requires) c.remove.ensures.updates.0

pub returns : goal.returns
returns c =
    subst (λ (xs : List ExactCrease). (f : ExactCrease) → Contains (values c.remove.new.self) f ↔ (Contains xs f × (f ≢ c.args.crease.now))) c.self.view_is
    (taken_members c.self.inside.by_place c.remove.new.self c.args.crease.now c.of.result c.self.invariant c.remove.ensures.ordered
    (subst (λ (s : ExactSegment). IsPlaceOf s c.of.result) (ap (λ (f : ExactCrease). f.seg) c.crease.view_is) c.of.ensures.place)
    (subst (λ (xs : List ExactCrease). Contains xs c.args.crease.now) (sym c.self.view_is) c.requires) c.remove.ensures.updates.0)
