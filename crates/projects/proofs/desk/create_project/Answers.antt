use Rattle.std.proofs.Common.{Bool, subst}
use Rattle.std.specs.Prelude.{Ok, Err}
use Rattle.dialogue.specs.declared.cause.Cause.TheVariants as cause
use Rattle.dialogue.specs.declared.command.Command.TheVariants as command
use Rattle.dialogue.specs.declared.reply.Reply.TheVariants as reply
use Rattle.projects.specs.Tables.{Created}
use Rattle.projects.specs.Desk.{Does}
use Rattle.projects.specs.declared.keeper.KeeperEnd.{KeeperEnd}
use Rattle.projects.specs.declared.early.Early.TheVariants as early
use Rattle.projects.proofs.Answering.{tells_more, does_create, does_exist}
use Rattle.projects.proofs.desk.create_project.Goals as goal

pub returns-then-branch-clause-told : goal.returns-then-branch-clause-told
returns-then-branch-clause-told g c = tells_more (g.K.Keeper.tables c.args.keeper.now) (g.K.Keeper.tables c.create.new.self) (g.K.Keeper.is_clean c.create.new.self)
    (λ before after. Created {E = KeeperEnd} before c.args.name.now c.args.sheet (Ok c.in_ok-create.field-0) after)
    (λ before after. Does before (command.New c.args.name.now c.args.sheet) (Ok (reply.Done 0)) after)
    (λ before after h. does_create KeeperEnd before after c.args.name.now c.args.sheet (subst (λ (b : Bool). Created {E = KeeperEnd} before c.args.name.now c.args.sheet (Ok b) after) c.if-branch.true h))
    c.in_ok-create.ensures.told

pub returns-else-branch-clause-told : goal.returns-else-branch-clause-told
returns-else-branch-clause-told g c = tells_more (g.K.Keeper.tables c.args.keeper.now) (g.K.Keeper.tables c.create.new.self) (g.K.Keeper.is_clean c.create.new.self)
    (λ before after. Created {E = KeeperEnd} before c.args.name.now c.args.sheet (Ok c.in_ok-create.field-0) after)
    (λ before after. Does before (command.New c.args.name.now c.args.sheet) (Err (early.Refused cause.Exists)) after)
    (λ before after h. does_exist KeeperEnd before after c.args.name.now c.args.sheet (subst (λ (b : Bool). Created {E = KeeperEnd} before c.args.name.now c.args.sheet (Ok b) after) c.if-branch.false h))
    c.in_ok-create.ensures.told
