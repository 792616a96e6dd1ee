use Rattle.std.proofs.Common.{List, subst}
use Rattle.std.specs.Prelude.{◌↔◌, Contains}
use Rattle.exact.specs.Plane.{Overlap}
use Rattle.sheet.specs.Pattern.{ExactCrease}
use Rattle.creases.proofs.map.CreaseMap.overlapping.Goals as goal

pub returns-clause-members : goal.returns-clause-members
returns-clause-members c = subst (λ (xs : List ExactCrease). (f : ExactCrease) → Contains c.overlapping.result f ↔ (Contains xs f × Overlap f.seg c.args.seg.now)) c.self.view_is (λ f. (
  λ k. (let m = (c.overlapping.ensures.members f).0 k in ((c.self.invariant.same f).0 m.0, m.1)),
  λ k. (c.overlapping.ensures.members f).1 ((c.self.invariant.same f).1 k.0, k.1),
))
