use Rattle.std.proofs.Common.{List, sym, subst}
use Rattle.std.specs.Prelude.{Contains}
use Rattle.std.specs.BTreeMap.{values}
use Rattle.sheet.specs.Pattern.{ExactCrease}
use Rattle.creases.specs.Creases.{AreRecoloured, coloured_as}
use Rattle.creases.proofs.IndexChanges.{found_at, is_found, recoloured_members, recoloured_index}
use Rattle.creases.proofs.callers.SegmentChanges.{none_or_some}
use Rattle.creases.proofs.index.LineIndex.recolour.Goals as goal

pub returns-in_default : goal.returns-in_default
returns-in_default c =
    let m = c.self.inside.by_place in
    let x : ExactCrease = record { seg = c.crease.inside.seg; colour = c.crease.inside.colour } in
    let h = subst (Contains (values m)) (sym c.crease.view_is) (subst (λ (xs : List ExactCrease). Contains xs c.args.crease.now) (sym c.self.view_is) c.requires) in
    absurd (none_or_some _ x (sym c.in_default.ensures.value) (found_at m c.of.result x c.self.invariant c.of.ensures.place h))

pub invariant_of-self-2 : goal.invariant_of-self-2
invariant_of-self-2 c =
    let m = c.self.inside.by_place in
    let x : ExactCrease = record { seg = c.crease.inside.seg; colour = c.crease.inside.colour } in
    let h = subst (Contains (values m)) (sym c.crease.view_is) (subst (λ (xs : List ExactCrease). Contains xs c.args.crease.now) (sym c.self.view_is) c.requires) in
    let w = c.get_mut.follows.holds (coloured_as x c.args.colour) in
    recoloured_index m (c.get_mut.follows.lender (coloured_as x c.args.colour)) x c.args.colour c.of.result c.self.invariant w.4 c.of.ensures.place h
    (w.3 (is_found m c.of.result x (found_at m c.of.result x c.self.invariant c.of.ensures.place h))).0

pub returns : goal.returns
returns c =
    let m = c.self.inside.by_place in
    let x : ExactCrease = record { seg = c.crease.inside.seg; colour = c.crease.inside.colour } in
    let h = subst (Contains (values m)) (sym c.crease.view_is) (subst (λ (xs : List ExactCrease). Contains xs c.args.crease.now) (sym c.self.view_is) c.requires) in
    let n = c.get_mut.follows.lender (coloured_as x c.args.colour) in
    let w = c.get_mut.follows.holds (coloured_as x c.args.colour) in
    subst (λ (y : ExactCrease). AreRecoloured c.args.self.now y c.args.colour (values n)) c.crease.view_is
    (subst (λ (xs : List ExactCrease). AreRecoloured xs x c.args.colour (values n)) c.self.view_is
    (recoloured_members m n x c.args.colour c.of.result c.self.invariant w.4 c.of.ensures.place h (w.3 (is_found m c.of.result x (found_at m c.of.result x c.self.invariant c.of.ensures.place h))).0))
