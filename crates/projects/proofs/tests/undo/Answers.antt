use Rattle.std.proofs.Common.{◌<◌, subst}
use Rattle.projects.specs.Projects.{last_rev}
use Rattle.projects.specs.declared.step.Step.TheVariants.{Undo}
use Rattle.projects.proofs.Committing.{can_commit}
use Rattle.projects.proofs.tests.undo.Goals as goal

pub commit-requires : goal.commit-requires
commit-requires g c = can_commit (g.K.Keeper.tables c.args.keeper.now) (g.K.Keeper.tables c.fetch.new.self) (g.K.Keeper.is_clean c.fetch.new.self) c.args.name.now Undo c.in_ok-project.field-0 c.in-Some.project
    c.in_ok-project.ensures.told c.in_ok-project.ensures.untold c.in-Some.is (subst (λ n. n < last_rev) c.rev.ensures.rev c.if-rev-ge1000000000000.false) (c.fits.ensures.fits.0 c.if-not-fits.false)
