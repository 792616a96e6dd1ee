use Rattle.std.proofs.Common.{◌≡◌, List, sym, ap, subst}
use Rattle.std.specs.Prelude.{Contains}
use Rattle.sheet.specs.Pattern.{ExactCrease}
use Rattle.plane.proofs.callers.Told.{fails}
use Rattle.creases.specs.Creases.{AreBut}
use Rattle.edits.specs.Beside.{standing, AreBeside}
use Rattle.edits.specs.Drafts.{ExactDraft}
use Rattle.edits.proofs.drafts.Beside.{stand_standing}
use Rattle.edits.proofs.drafts.BesideSteps.{left_beside, left_members, gone_free, gone_beside, gone_members}
use Rattle.edits.proofs.draft.Draft.take_out.Goals as goal

pub invariant_of-self : goal.invariant_of-self
invariant_of-self c = left_beside c.self.inside.pattern.now c.self.inside.gone c.self.inside.come c.self.invariant c.args.crease.now c.take.new.self c.take.ensures.standing (c.take.ensures.there.0 c.if-take.true) c.take.ensures.taken

pub returns-then-take-clause-taken : goal.returns-then-take-clause-taken
returns-then-take-clause-taken c =
    let old = c.self.inside.pattern.now in
    let gone = c.self.inside.gone in
    let come = c.self.inside.come in
    let at : standing old gone come ≡ c.args.self.now.creases = ap (λ (d : ExactDraft). d.creases) c.self.view_is in
    let x = c.args.crease.now in
    subst (λ (xs : List ExactCrease). AreBut xs x (standing old gone c.take.new.self)) at (left_members old gone come c.self.invariant x c.take.new.self c.take.ensures.standing (c.take.ensures.there.0 c.if-take.true) c.take.ensures.taken)

pub returns-then-take-clause-standing : goal.returns-then-take-clause-standing
returns-then-take-clause-standing c = stand_standing c.self.inside.pattern.now c.self.inside.gone c.take.new.self (invariant_of-self c)

pub put-requires : goal.put-requires
put-requires c =
    let old = c.self.inside.pattern.now in
    let gone = c.self.inside.gone in
    let come = c.self.inside.come in
    let at : standing old gone come ≡ c.args.self.now.creases = ap (λ (d : ExactDraft). d.creases) c.self.view_is in
    let x = c.args.crease.now in
    let there : Contains (standing old gone come) x = subst (λ (xs : List ExactCrease). Contains xs x) (sym at) c.requires in
    let not_come : ¬ Contains come x = fails c.take.ensures.there c.if-take.false in
    gone_free old gone come c.self.invariant x there not_come

pub returns-in_err-put-clause-standing : goal.returns-in_err-put-clause-standing
returns-in_err-put-clause-standing c =
    let old = c.self.inside.pattern.now in
    let come = c.take.ensures.not_taken c.if-take.false in
    stand_standing old c.put.new.self c.take.new.self (subst (λ (g : List ExactCrease). AreBeside old g c.take.new.self) (sym c.in_err-put.ensures.err) (subst (AreBeside old c.self.inside.gone) (sym come) c.self.invariant))

pub invariant_of-self-2 : goal.invariant_of-self-2
invariant_of-self-2 c =
    let old = c.self.inside.pattern.now in
    let gone = c.self.inside.gone in
    let come = c.self.inside.come in
    let at : standing old gone come ≡ c.args.self.now.creases = ap (λ (d : ExactDraft). d.creases) c.self.view_is in
    let x = c.args.crease.now in
    let there : Contains (standing old gone come) x = subst (λ (xs : List ExactCrease). Contains xs x) (sym at) c.requires in
    let not_come : ¬ Contains come x = fails c.take.ensures.there c.if-take.false in
    let same : c.take.new.self ≡ come = c.take.ensures.not_taken c.if-take.false in
    subst (AreBeside old c.put.new.self) (sym same) (gone_beside old gone come c.self.invariant x there not_come c.put.new.self c.put.ensures.standing c.in_ok-put.ensures.ok)

pub returns-clause-taken : goal.returns-clause-taken
returns-clause-taken c =
    let old = c.self.inside.pattern.now in
    let gone = c.self.inside.gone in
    let come = c.self.inside.come in
    let at : standing old gone come ≡ c.args.self.now.creases = ap (λ (d : ExactDraft). d.creases) c.self.view_is in
    let x = c.args.crease.now in
    let there : Contains (standing old gone come) x = subst (λ (xs : List ExactCrease). Contains xs x) (sym at) c.requires in
    let not_come : ¬ Contains come x = fails c.take.ensures.there c.if-take.false in
    let same : c.take.new.self ≡ come = c.take.ensures.not_taken c.if-take.false in
    subst (λ (xs : List ExactCrease). AreBut xs x (standing old c.put.new.self c.take.new.self)) at
    (subst (λ (more : List ExactCrease). AreBut (standing old gone come) x (standing old c.put.new.self more)) (sym same) (gone_members old gone come c.self.invariant x there not_come c.put.new.self c.put.ensures.standing c.in_ok-put.ensures.ok))

pub returns-clause-standing : goal.returns-clause-standing
returns-clause-standing c = stand_standing c.self.inside.pattern.now c.put.new.self c.take.new.self (invariant_of-self-2 c)
