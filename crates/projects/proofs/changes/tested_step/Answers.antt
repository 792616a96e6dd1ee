use Rattle.std.proofs.Common.{◌≡◌, ℕ, subst, ap}
use Rattle.std.specs.Prelude.{Ok, Err}
use Rattle.std.proofs.lemmas.Result.{err_from_is_err_and}
use Rattle.projects.specs.Projects.{ExactProject}
use Rattle.projects.specs.Changes.{StepsOn, Refuses, MakesStep, RefusesChange}
use Rattle.projects.proofs.Changing.{ok_map, err_map, handed_on, IsTested, IsRevTested, tested, makes_step, refuses_rev, refuses_change}
use Rattle.projects.proofs.changes.tested_step.Goals as goal

pub returns-in_err-test_rev-clause-err : goal.returns-in_err-test_rev-clause-err
returns-in_err-test_rev-clause-err c =
    let h = err_from_is_err_and c.from_residual.result c.from_residual.ensures.1 in
    let p : ExactProject = c.args.opened.now in
    let rev : c.opened.inside.rev ≡ p.rev = ap (λ (x : ExactProject). x.rev) c.opened.view_is in
    let e = c.in_err-test_rev.field-0.0 in
    handed_on c.from_residual.result (RefusesChange p c.args.given c.args.change.now) h.1 h.2
    (refuses_rev p c.args.given c.args.change.now c.requires.cut e (subst (λ (n : ℕ). IsRevTested n c.args.given (Err e)) rev c.in_err-test_rev.ensures))

pub returns-clause-ok : goal.returns-clause-ok
returns-clause-ok c =
    let p : ExactProject = c.args.opened.now in
    let rev : c.opened.inside.rev ≡ p.rev = ap (λ (x : ExactProject). x.rev) c.opened.view_is in
    let t : IsTested p c.args.given = tested p c.args.given (subst (λ (n : ℕ). IsRevTested n c.args.given (Ok tt)) rev c.in_ok-test_rev.ensures) in
    ok_map (StepsOn p c.args.change.now) (MakesStep p c.args.given c.args.change.now)
    (makes_step p c.args.given c.args.change.now c.requires.is c.requires.cut t) c.change_step.result c.change_step.ensures.ok

pub returns-clause-err : goal.returns-clause-err
returns-clause-err c =
    let p : ExactProject = c.args.opened.now in
    let rev : c.opened.inside.rev ≡ p.rev = ap (λ (x : ExactProject). x.rev) c.opened.view_is in
    let t : IsTested p c.args.given = tested p c.args.given (subst (λ (n : ℕ). IsRevTested n c.args.given (Ok tt)) rev c.in_ok-test_rev.ensures) in
    err_map (Refuses p c.args.change.now) (RefusesChange p c.args.given c.args.change.now)
    (refuses_change p c.args.given c.args.change.now c.requires.is c.requires.cut t) c.change_step.result c.change_step.ensures.err
