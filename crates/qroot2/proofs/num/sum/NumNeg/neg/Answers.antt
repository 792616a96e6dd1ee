use Rattle.std.proofs.Common.{◌∙◌, sym, ap, subst}
use Rattle.exact.specs.Number.{ExactNumber, IsCanonical, neg}
use Rattle.qroot2.proofs.callers.Made.{neg_canonical, neg_held}
use Rattle.qroot2.proofs.num.sum.NumNeg.neg.Goals as goal

pub invariant_of-result : goal.invariant_of-result
invariant_of-result c =
    let x : ExactNumber = record { a = c.self.inside.a; b = c.self.inside.b; d = c.self.inside.d } in
    subst IsCanonical (sym (neg_held x c.self.invariant)) (neg_canonical x c.self.invariant)

pub returns : goal.returns
returns c =
    let x : ExactNumber = record { a = c.self.inside.a; b = c.self.inside.b; d = c.self.inside.d } in
    neg_held x c.self.invariant ∙ ap neg c.self.view_is
