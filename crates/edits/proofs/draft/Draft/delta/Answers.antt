use Rattle.std.proofs.Common.{ap, subst, ◌∙◌}
use Rattle.creases.specs.Standing.{AreStanding}
use Rattle.pattern.specs.Deltas.{IsBetween}
use Rattle.edits.specs.Drafts.{ExactDraft}
use Rattle.edits.proofs.drafts.Beside.{stand_standing}
use Rattle.edits.proofs.drafts.BesideSteps.{is_between}
use Rattle.edits.proofs.draft.Draft.delta.Goals as goal

pub returns-in_err-listed-clause-standing : goal.returns-in_err-listed-clause-standing
returns-in_err-listed-clause-standing c = subst AreStanding (ap (λ (d : ExactDraft). d.creases) c.self.view_is) (stand_standing c.self.inside.pattern.now c.self.inside.gone c.self.inside.come c.self.invariant)

pub returns-in_err-listed-2-clause-standing : goal.returns-in_err-listed-2-clause-standing
returns-in_err-listed-2-clause-standing c = subst AreStanding (ap (λ (d : ExactDraft). d.creases) c.self.view_is) (stand_standing c.self.inside.pattern.now c.self.inside.gone c.self.inside.come c.self.invariant)

pub returns-clause-lists : goal.returns-clause-lists
returns-clause-lists c =
    subst (λ (d : ExactDraft). IsBetween d.pattern.creases d.creases (record { removed = c.new.result; added = c.new-2.result })) c.self.view_is
    (is_between c.self.inside.pattern.now c.self.inside.gone c.self.inside.come c.new.result c.new-2.result c.self.invariant (c.new.ensures ∙ c.in_ok-listed.ensures) (c.new-2.ensures ∙ c.in_ok-listed-2.ensures))

pub returns-clause-standing : goal.returns-clause-standing
returns-clause-standing c = subst AreStanding (ap (λ (d : ExactDraft). d.creases) c.self.view_is) (stand_standing c.self.inside.pattern.now c.self.inside.gone c.self.inside.come c.self.invariant)
