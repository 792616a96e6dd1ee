use Rattle.std.proofs.Common.{refl}
use Rattle.std.specs.Prelude.{Ok, Err}
use Rattle.commands.specs.declared.ask.Asked.TheVariants as asked
use Rattle.commands.proofs.Commands.{complete, completed}
use Rattle.commands.proofs.read.read_command.Goals as goal

pub returns-in-Ok-Command : goal.returns-in-Ok-Command
returns-in-Ok-Command c = completed c.args.text.now c.first_line.result.0.now c.first_line.result.1.now c.of.result.words (Ok (asked.Command c.in-Ok-Command.command)) c.alone.result
    c.first_line.ensures c.of.ensures.all (λ h. (let k = c.is_silent.ensures.1 h in cc)) (rw (c.in-Ok-Command.is, c.in-Ok-Command.field-0-is) at c.read_line.ensures) c.alone.ensures

pub returns-in-Ok-Import : goal.returns-in-Ok-Import
returns-in-Ok-Import c = completed c.args.text.now c.first_line.result.0.now c.first_line.result.1.now c.of.result.words (Ok (asked.Import c.in-Ok-Import.import)) c.whole_import.result
    c.first_line.ensures c.of.ensures.all (λ h. (let k = c.is_silent.ensures.1 h in cc)) (rw (c.in-Ok-Import.is, c.in-Ok-Import.field-0-is) at c.read_line.ensures) c.whole_import.ensures

pub returns-in-Err : goal.returns-in-Err
returns-in-Err c = complete c.args.text.now c.first_line.result.0.now c.first_line.result.1.now c.of.result.words (Err c.in-Err.bad) (Err c.in-Err.bad)
    c.first_line.ensures c.of.ensures.all (λ h. (let k = c.is_silent.ensures.1 h in cc)) (rw (c.in-Err.is) at c.read_line.ensures) refl
