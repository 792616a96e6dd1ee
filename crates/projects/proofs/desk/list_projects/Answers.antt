use Rattle.std.proofs.Common.{◌≡◌, ◌∙◌}
use Rattle.std.specs.Prelude.{Ok}
use Rattle.dialogue.specs.declared.command.Command.TheVariants as command
use Rattle.dialogue.specs.declared.reply.Reply.TheVariants as reply
use Rattle.projects.specs.Tables.{names_of}
use Rattle.projects.specs.Desk.{Does}
use Rattle.projects.proofs.Answering.{tells_more, does_list}
use Rattle.projects.proofs.desk.list_projects.Goals as goal

pub returns-clause-told : goal.returns-clause-told
returns-clause-told g c = tells_more (g.K.Keeper.tables c.args.keeper.now) (g.K.Keeper.tables c.names.new.self) (g.K.Keeper.is_clean c.names.new.self)
    (λ before after. (after ≡ before) × (c.in_ok-names.field-0.items ≡ names_of before))
    (λ before after. Does before command.List (Ok (reply.Names c.new.result)) after)
    (λ before after h. does_list before after c.new.result h.0 (c.new.ensures ∙ h.1))
    c.in_ok-names.ensures.told
