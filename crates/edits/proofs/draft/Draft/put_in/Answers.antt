use Rattle.std.proofs.Common.{◌≡◌, List, sym, ap, subst}
use Rattle.std.specs.Prelude.{Contains}
use Rattle.sheet.specs.Pattern.{ExactCrease}
use Rattle.plane.proofs.callers.Told.{fails}
use Rattle.creases.specs.Creases.{AreWith, IsFree}
use Rattle.edits.specs.Beside.{standing, AreBeside}
use Rattle.edits.specs.Drafts.{ExactDraft}
use Rattle.edits.proofs.drafts.Beside.{stand_standing}
use Rattle.edits.proofs.drafts.BesideSteps.{back_beside, back_members, come_free, come_beside, come_members}
use Rattle.edits.proofs.draft.Draft.put_in.Goals as goal

pub invariant_of-self : goal.invariant_of-self
invariant_of-self c =
    let old = c.self.inside.pattern.now in
    let gone = c.self.inside.gone in
    let come = c.self.inside.come in
    let at : standing old gone come ≡ c.args.self.now.creases = ap (λ (d : ExactDraft). d.creases) c.self.view_is in
    let x = c.args.crease in
    let clear : IsFree (standing old gone come) x.seg = subst (λ (xs : List ExactCrease). IsFree xs x.seg) (sym at) c.requires.apart in
    back_beside old gone come c.self.invariant x c.requires.held clear c.take.new.self c.take.ensures.standing (c.take.ensures.there.0 c.if-take.true) c.take.ensures.taken

pub returns-then-take-clause-put : goal.returns-then-take-clause-put
returns-then-take-clause-put c =
    let old = c.self.inside.pattern.now in
    let gone = c.self.inside.gone in
    let come = c.self.inside.come in
    let at : standing old gone come ≡ c.args.self.now.creases = ap (λ (d : ExactDraft). d.creases) c.self.view_is in
    let x = c.args.crease in
    let clear : IsFree (standing old gone come) x.seg = subst (λ (xs : List ExactCrease). IsFree xs x.seg) (sym at) c.requires.apart in
    subst (λ (xs : List ExactCrease). AreWith xs x (standing old c.take.new.self come)) at (back_members old gone come c.self.invariant x c.requires.held clear c.take.new.self c.take.ensures.standing (c.take.ensures.there.0 c.if-take.true) c.take.ensures.taken)

pub returns-then-take-clause-standing : goal.returns-then-take-clause-standing
returns-then-take-clause-standing c = stand_standing c.self.inside.pattern.now c.take.new.self c.self.inside.come (invariant_of-self c)

pub put-requires : goal.put-requires
put-requires c =
    let old = c.self.inside.pattern.now in
    let gone = c.self.inside.gone in
    let come = c.self.inside.come in
    let at : standing old gone come ≡ c.args.self.now.creases = ap (λ (d : ExactDraft). d.creases) c.self.view_is in
    let x = c.args.crease in
    let clear : IsFree (standing old gone come) x.seg = subst (λ (xs : List ExactCrease). IsFree xs x.seg) (sym at) c.requires.apart in
    come_free old gone come c.self.invariant x c.requires.held clear

pub returns-in_err-put-clause-standing : goal.returns-in_err-put-clause-standing
returns-in_err-put-clause-standing c =
    let old = c.self.inside.pattern.now in
    let gone = c.take.ensures.not_taken c.if-take.false in
    stand_standing old c.take.new.self c.put.new.self (subst (AreBeside old c.take.new.self) (sym c.in_err-put.ensures.err) (subst (λ (g : List ExactCrease). AreBeside old g c.self.inside.come) (sym gone) c.self.invariant))

pub invariant_of-self-2 : goal.invariant_of-self-2
invariant_of-self-2 c =
    let old = c.self.inside.pattern.now in
    let gone = c.self.inside.gone in
    let come = c.self.inside.come in
    let at : standing old gone come ≡ c.args.self.now.creases = ap (λ (d : ExactDraft). d.creases) c.self.view_is in
    let x = c.args.crease in
    let clear : IsFree (standing old gone come) x.seg = subst (λ (xs : List ExactCrease). IsFree xs x.seg) (sym at) c.requires.apart in
    let not_gone : ¬ Contains gone x = fails c.take.ensures.there c.if-take.false in
    let same : c.take.new.self ≡ gone = c.take.ensures.not_taken c.if-take.false in
    subst (λ (g : List ExactCrease). AreBeside old g c.put.new.self) (sym same) (come_beside old gone come c.self.invariant x c.requires.held clear not_gone c.put.new.self c.put.ensures.standing c.in_ok-put.ensures.ok)

pub returns-clause-put : goal.returns-clause-put
returns-clause-put c =
    let old = c.self.inside.pattern.now in
    let gone = c.self.inside.gone in
    let come = c.self.inside.come in
    let at : standing old gone come ≡ c.args.self.now.creases = ap (λ (d : ExactDraft). d.creases) c.self.view_is in
    let x = c.args.crease in
    let clear : IsFree (standing old gone come) x.seg = subst (λ (xs : List ExactCrease). IsFree xs x.seg) (sym at) c.requires.apart in
    let not_gone : ¬ Contains gone x = fails c.take.ensures.there c.if-take.false in
    let same : c.take.new.self ≡ gone = c.take.ensures.not_taken c.if-take.false in
    subst (λ (xs : List ExactCrease). AreWith xs x (standing old c.take.new.self c.put.new.self)) at
    (subst (λ (g : List ExactCrease). AreWith (standing old gone come) x (standing old g c.put.new.self)) (sym same) (come_members old gone come c.self.invariant x c.requires.held clear not_gone c.put.new.self c.put.ensures.standing c.in_ok-put.ensures.ok))

pub returns-clause-standing : goal.returns-clause-standing
returns-clause-standing c = stand_standing c.self.inside.pattern.now c.take.new.self c.put.new.self (invariant_of-self-2 c)
