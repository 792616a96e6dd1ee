use Rattle.std.proofs.Common.{List, subst, sym}
use Rattle.std.specs.Prelude.{◌↔◌, AllPairs, Contains}
use Rattle.std.specs.Map.{values_of}
use Rattle.exact.specs.Plane.{Before, Overlap}
use Rattle.sheet.specs.Pattern.{ExactCrease}
use Rattle.creases.proofs.Ranges.{range_members, range_along}
use Rattle.creases.proofs.index.LineIndex.overlapping.Goals as goal

pub returns-clause-members : goal.returns-clause-members
returns-clause-members c =
    subst (λ (ys : List ExactCrease). (f : ExactCrease) → Contains ys f ↔ (Contains c.args.self.now f × Overlap f.seg c.args.seg.now)) (sym c.new.ensures)
    (subst (λ (xs : List ExactCrease). (f : ExactCrease) → Contains (values_of c.range.result) f ↔ (Contains xs f × Overlap f.seg c.args.seg.now)) c.self.view_is
    (range_members c.self.inside.by_place c.args.seg.now c.self.invariant c.of-place.ensures.held c.end_of-end.result c.end_of-end.ensures c.first_place-first.result c.range.result c.first_place-first.ensures.overlap
    (c.range.ensures.between tt) (c.range.ensures.in_range tt).0))

pub returns-clause-along : goal.returns-clause-along
returns-clause-along c =
    subst (λ (ys : List ExactCrease). AllPairs (λ f g. Before f.seg.p g.seg.p) ys) (sym c.new.ensures)
    (range_along c.self.inside.by_place c.args.seg.now c.self.invariant c.of-place.ensures.held c.end_of-end.result c.end_of-end.ensures c.first_place-first.result c.range.result c.first_place-first.ensures.overlap
    (c.range.ensures.between tt) (c.range.ensures.in_range tt).0)
