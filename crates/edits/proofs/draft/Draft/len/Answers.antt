use Rattle.std.proofs.Common.{◌≡◌, length, ap, subst, arith}
use Rattle.creases.specs.Standing.{AreStanding}
use Rattle.edits.specs.Beside.{standing}
use Rattle.edits.specs.Drafts.{ExactDraft}
use Rattle.edits.proofs.drafts.Beside.{left_count, stand_count, stand_standing}
use Rattle.edits.proofs.draft.Draft.len.Goals as goal

pub overflow_sub-result : goal.overflow_sub-result
overflow_sub-result c =
    let e = left_count c.self.inside.pattern.now c.self.inside.gone c.self.inside.come c.self.invariant in
    omega (arith, e)

pub returns-clause-count : goal.returns-clause-count
returns-clause-count c =
    let old = c.self.inside.pattern.now in
    let gone = c.self.inside.gone in
    let come = c.self.inside.come in
    let at : standing old gone come ≡ c.args.self.now.creases = ap (λ (d : ExactDraft). d.creases) c.self.view_is in
    let left = left_count old gone come c.self.invariant in
    let all = stand_count old gone come c.self.invariant in
    let same : length (standing old gone come) ≡ length c.args.self.now.creases = ap length at in
    omega (arith, left, all, same)

pub returns-clause-standing : goal.returns-clause-standing
returns-clause-standing c = subst AreStanding (ap (λ (d : ExactDraft). d.creases) c.self.view_is) (stand_standing c.self.inside.pattern.now c.self.inside.gone c.self.inside.come c.self.invariant)
