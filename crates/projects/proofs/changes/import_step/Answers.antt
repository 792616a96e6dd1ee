use Rattle.std.proofs.Common.{◌≡◌, ℕ, List, ap, subst, ◌∙◌}
use Rattle.std.specs.Prelude.{Ok}
use Rattle.std.proofs.lemmas.Result.{err_from_is_err_and}
use Rattle.sheet.specs.Sheet.{ExactSheet}
use Rattle.sheet.specs.Pattern.{ExactPattern}
use Rattle.edits.specs.declared.edit.Edit.TheVariants as edit
use Rattle.cpfile.specs.CpReading.{ReadsCp}
use Rattle.cpfile.specs.declared.drawn.CpLines.{CpLines}
use Rattle.dialogue.specs.declared.command.Change.TheVariants as change
use Rattle.projects.specs.Projects.{ExactProject}
use Rattle.projects.specs.Changes.{Refuses, RefusesEdit}
use Rattle.projects.proofs.Changing.{ends_map, handed_on, import_refuses}
use Rattle.projects.proofs.changes.import_step.Goals as goal

pub returns-in_err-step-clause-err : goal.returns-in_err-step-clause-err
returns-in_err-step-clause-err c =
    let h = err_from_is_err_and c.from_residual-in_err-step.result c.from_residual-in_err-step.ensures.1 in
    let p : ExactProject = c.args.opened.now in
    let lattice = c.args.lattice.now in
    let text : List ℕ = c.args.text.now in
    let read : CpLines = c.in_ok-read.read in
    let sheet : c.sheet-sheet.result ≡ p.pattern.sheet
    = c.sheet-sheet.ensures.sheet ∙ ap (λ (x : ExactPattern). x.sheet) c.pattern.ensures.value ∙ ap (λ (x : ExactProject). x.pattern.sheet) c.opened.view_is in
    let is : ReadsCp lattice p.pattern.sheet text (Ok read)
    = subst (λ (x : ExactSheet). ReadsCp lattice x text (Ok read)) sheet
    (subst (λ (x : List ℕ). ReadsCp lattice c.sheet-sheet.result x (Ok read)) c.as_slice.ensures c.in_ok-read.ensures) in
    handed_on c.from_residual-in_err-step.result (Refuses p (change.Import lattice text)) h.1 h.2
    (ends_map (RefusesEdit p (edit.Lines read.lines)) (Refuses p (change.Import lattice text)) (import_refuses p lattice text read is)
    c.in_err-step.field-0.0 c.in_err-step.ensures.err)
