use Rattle.std.proofs.Common.{◌≡◌, ◌⊎◌, List, sym, subst}
use Rattle.std.specs.Prelude.{◌↔◌, Contains}
use Rattle.std.specs.BTreeMap.{values}
use Rattle.sheet.specs.Pattern.{ExactCrease}
use Rattle.creases.specs.Creases.{IsFree}
use Rattle.creases.proofs.IndexChanges.{index_unchanged, put_members, put_index}
use Rattle.creases.proofs.index.LineIndex.put.Goals as goal

pub invariant_of-self : goal.invariant_of-self
invariant_of-self c = index_unchanged c.self.inside.by_place c.insert.new.self c.in_err-insert.ensures.err c.self.invariant

pub invariant_of-self-2 : goal.invariant_of-self-2
invariant_of-self-2 c = put_index c.self.inside.by_place c.insert.new.self c.args.crease c.args.place c.self.invariant c.in_ok-insert.ensures.ordered c.requires.place c.requires.held
    (subst (λ (xs : List ExactCrease). IsFree xs c.args.crease.seg) (sym c.self.view_is) c.requires.free) c.in_ok-insert.ensures.updates.0

pub returns-clause-ok : goal.returns-clause-ok
returns-clause-ok c =
    subst (λ (xs : List ExactCrease). (f : ExactCrease) → Contains (values c.insert.new.self) f ↔ ((f ≡ c.args.crease) ⊎ Contains xs f)) c.self.view_is
    (put_members c.self.inside.by_place c.insert.new.self c.args.crease c.args.place c.self.invariant c.in_ok-insert.ensures.ordered c.requires.place c.requires.held
    (subst (λ (xs : List ExactCrease). IsFree xs c.args.crease.seg) (sym c.self.view_is) c.requires.free) c.in_ok-insert.ensures.updates.0)
