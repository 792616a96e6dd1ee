use Rattle.std.proofs.lemmas.Result.{err_from_is_err_and}
use Rattle.dialogue.specs.declared.command.Command.TheVariants as command
use Rattle.projects.specs.Machine.{Shows, ListsFaults, Reports, Writes, WritesCp, WritesFold}
use Rattle.projects.proofs.Answering.{missing, answering}
use Rattle.projects.proofs.desk.answer.Goals as goal

pub returns-in_err-fetch_project-in-Show-clause-told : goal.returns-in_err-fetch_project-in-Show-clause-told
returns-in_err-fetch_project-in-Show-clause-told g c = let h = err_from_is_err_and c.from_residual.result c.from_residual.ensures.1 in
    missing (g.K.Keeper.tables c.args.keeper.now) (g.K.Keeper.tables c.fetch_project.new.keeper) (g.K.Keeper.is_clean c.fetch_project.new.keeper) c.in-Show.name
    c.args.command.now (command.Show c.in-Show.name) Shows c.in-Show.is (λ entries answer u. u)
    c.from_residual.result h.0 c.in_err-fetch_project-in-Show.field-0.0 h.1 h.2 c.in_err-fetch_project-in-Show.ensures.told

pub returns-in_ok-fetch_project-in-Show-clause-told : goal.returns-in_ok-fetch_project-in-Show-clause-told
returns-in_ok-fetch_project-in-Show-clause-told g c =
    answering (g.K.Keeper.tables c.args.keeper.now) (g.K.Keeper.tables c.fetch_project.new.keeper) (g.K.Keeper.is_clean c.fetch_project.new.keeper) c.in-Show.name
    c.args.command.now (command.Show c.in-Show.name) Shows c.in-Show.is (λ entries answer u. u)
    c.in_ok-fetch_project-in-Show.field-0 c.shown.result c.shown.ensures.answers c.in_ok-fetch_project-in-Show.ensures.told

pub returns-in_err-fetch_project-in-Faults-clause-told : goal.returns-in_err-fetch_project-in-Faults-clause-told
returns-in_err-fetch_project-in-Faults-clause-told g c = let h = err_from_is_err_and c.from_residual-in_err-fetch_project-in-Faults.result c.from_residual-in_err-fetch_project-in-Faults.ensures.1 in
    missing (g.K.Keeper.tables c.args.keeper.now) (g.K.Keeper.tables c.fetch_project-in-Faults.new.keeper) (g.K.Keeper.is_clean c.fetch_project-in-Faults.new.keeper) c.in-Faults.name
    c.args.command.now (command.Faults c.in-Faults.name) ListsFaults c.in-Faults.is (λ entries answer u. u)
    c.from_residual-in_err-fetch_project-in-Faults.result h.0 c.in_err-fetch_project-in-Faults.field-0.0 h.1 h.2 c.in_err-fetch_project-in-Faults.ensures.told

pub returns-in_ok-fetch_project-in-Faults-clause-told : goal.returns-in_ok-fetch_project-in-Faults-clause-told
returns-in_ok-fetch_project-in-Faults-clause-told g c =
    answering (g.K.Keeper.tables c.args.keeper.now) (g.K.Keeper.tables c.fetch_project-in-Faults.new.keeper) (g.K.Keeper.is_clean c.fetch_project-in-Faults.new.keeper) c.in-Faults.name
    c.args.command.now (command.Faults c.in-Faults.name) ListsFaults c.in-Faults.is (λ entries answer u. u)
    c.in_ok-fetch_project-in-Faults.field-0 c.faults.result c.faults.ensures.answers c.in_ok-fetch_project-in-Faults.ensures.told

pub returns-in_err-fetch_project-in-Vertex-clause-told : goal.returns-in_err-fetch_project-in-Vertex-clause-told
returns-in_err-fetch_project-in-Vertex-clause-told g c = let h = err_from_is_err_and c.from_residual-in_err-fetch_project-in-Vertex.result c.from_residual-in_err-fetch_project-in-Vertex.ensures.1 in
    missing (g.K.Keeper.tables c.args.keeper.now) (g.K.Keeper.tables c.fetch_project-in-Vertex.new.keeper) (g.K.Keeper.is_clean c.fetch_project-in-Vertex.new.keeper) c.in-Vertex.name
    c.args.command.now (command.Vertex c.in-Vertex.name c.in-Vertex.at) (Reports c.in-Vertex.at) c.in-Vertex.is (λ entries answer u. u)
    c.from_residual-in_err-fetch_project-in-Vertex.result h.0 c.in_err-fetch_project-in-Vertex.field-0.0 h.1 h.2 c.in_err-fetch_project-in-Vertex.ensures.told

pub returns-in_ok-fetch_project-in-Vertex-clause-told : goal.returns-in_ok-fetch_project-in-Vertex-clause-told
returns-in_ok-fetch_project-in-Vertex-clause-told g c =
    answering (g.K.Keeper.tables c.args.keeper.now) (g.K.Keeper.tables c.fetch_project-in-Vertex.new.keeper) (g.K.Keeper.is_clean c.fetch_project-in-Vertex.new.keeper) c.in-Vertex.name
    c.args.command.now (command.Vertex c.in-Vertex.name c.in-Vertex.at) (Reports c.in-Vertex.at) c.in-Vertex.is (λ entries answer u. u)
    c.in_ok-fetch_project-in-Vertex.field-0 c.reported.result c.reported.ensures.answers c.in_ok-fetch_project-in-Vertex.ensures.told

pub returns-in_err-fetch_project-in-PatternText-clause-told : goal.returns-in_err-fetch_project-in-PatternText-clause-told
returns-in_err-fetch_project-in-PatternText-clause-told g c = let h = err_from_is_err_and c.from_residual-in_err-fetch_project-in-PatternText.result c.from_residual-in_err-fetch_project-in-PatternText.ensures.1 in
    missing (g.K.Keeper.tables c.args.keeper.now) (g.K.Keeper.tables c.fetch_project-in-PatternText.new.keeper) (g.K.Keeper.is_clean c.fetch_project-in-PatternText.new.keeper) c.in-PatternText.name
    c.args.command.now (command.PatternText c.in-PatternText.name) Writes c.in-PatternText.is (λ entries answer u. u)
    c.from_residual-in_err-fetch_project-in-PatternText.result h.0 c.in_err-fetch_project-in-PatternText.field-0.0 h.1 h.2 c.in_err-fetch_project-in-PatternText.ensures.told

pub returns-in_ok-fetch_project-in-PatternText-clause-told : goal.returns-in_ok-fetch_project-in-PatternText-clause-told
returns-in_ok-fetch_project-in-PatternText-clause-told g c =
    answering (g.K.Keeper.tables c.args.keeper.now) (g.K.Keeper.tables c.fetch_project-in-PatternText.new.keeper) (g.K.Keeper.is_clean c.fetch_project-in-PatternText.new.keeper) c.in-PatternText.name
    c.args.command.now (command.PatternText c.in-PatternText.name) Writes c.in-PatternText.is (λ entries answer u. u)
    c.in_ok-fetch_project-in-PatternText.field-0 c.written-in-PatternText.result c.written-in-PatternText.ensures.answers c.in_ok-fetch_project-in-PatternText.ensures.told

pub returns-in_err-fetch_project-in-CpText-clause-told : goal.returns-in_err-fetch_project-in-CpText-clause-told
returns-in_err-fetch_project-in-CpText-clause-told g c = let h = err_from_is_err_and c.from_residual-in_err-fetch_project-in-CpText.result c.from_residual-in_err-fetch_project-in-CpText.ensures.1 in
    missing (g.K.Keeper.tables c.args.keeper.now) (g.K.Keeper.tables c.fetch_project-in-CpText.new.keeper) (g.K.Keeper.is_clean c.fetch_project-in-CpText.new.keeper) c.in-CpText.name
    c.args.command.now (command.CpText c.in-CpText.name) WritesCp c.in-CpText.is (λ entries answer u. u)
    c.from_residual-in_err-fetch_project-in-CpText.result h.0 c.in_err-fetch_project-in-CpText.field-0.0 h.1 h.2 c.in_err-fetch_project-in-CpText.ensures.told

pub returns-in_ok-fetch_project-in-CpText-clause-told : goal.returns-in_ok-fetch_project-in-CpText-clause-told
returns-in_ok-fetch_project-in-CpText-clause-told g c =
    answering (g.K.Keeper.tables c.args.keeper.now) (g.K.Keeper.tables c.fetch_project-in-CpText.new.keeper) (g.K.Keeper.is_clean c.fetch_project-in-CpText.new.keeper) c.in-CpText.name
    c.args.command.now (command.CpText c.in-CpText.name) WritesCp c.in-CpText.is (λ entries answer u. u)
    c.in_ok-fetch_project-in-CpText.field-0 c.cp_written.result c.cp_written.ensures.answers c.in_ok-fetch_project-in-CpText.ensures.told

pub returns-in_err-fetch_project-in-FoldText-clause-told : goal.returns-in_err-fetch_project-in-FoldText-clause-told
returns-in_err-fetch_project-in-FoldText-clause-told g c = let h = err_from_is_err_and c.from_residual-in_err-fetch_project-in-FoldText.result c.from_residual-in_err-fetch_project-in-FoldText.ensures.1 in
    missing (g.K.Keeper.tables c.args.keeper.now) (g.K.Keeper.tables c.fetch_project-in-FoldText.new.keeper) (g.K.Keeper.is_clean c.fetch_project-in-FoldText.new.keeper) c.in-FoldText.name
    c.args.command.now (command.FoldText c.in-FoldText.name) WritesFold c.in-FoldText.is (λ entries answer u. u)
    c.from_residual-in_err-fetch_project-in-FoldText.result h.0 c.in_err-fetch_project-in-FoldText.field-0.0 h.1 h.2 c.in_err-fetch_project-in-FoldText.ensures.told

pub returns-in_ok-fetch_project-in-FoldText-clause-told : goal.returns-in_ok-fetch_project-in-FoldText-clause-told
returns-in_ok-fetch_project-in-FoldText-clause-told g c =
    answering (g.K.Keeper.tables c.args.keeper.now) (g.K.Keeper.tables c.fetch_project-in-FoldText.new.keeper) (g.K.Keeper.is_clean c.fetch_project-in-FoldText.new.keeper) c.in-FoldText.name
    c.args.command.now (command.FoldText c.in-FoldText.name) WritesFold c.in-FoldText.is (λ entries answer u. u)
    c.in_ok-fetch_project-in-FoldText.field-0 c.fold_written.result c.fold_written.ensures.answers c.in_ok-fetch_project-in-FoldText.ensures.told
