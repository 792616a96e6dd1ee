use Rattle.std.proofs.Common.{codes, subst}
use Rattle.routes.specs.Forms.{HasForm}
use Rattle.routes.proofs.CutPaths.{cut_so, alone, on_page, on_sheet}
use Rattle.routes.proofs.parts.route_at.Goals as goal

pub returns-in-Project : goal.returns-in-Project
returns-in-Project c =
    let r = alone c.args.path.now c.split.result.0.now c.split.result.1.now (subst (λ p. HasForm p c.args.path.now) c.in-Project.is c.requires) (cut_so c.args.path.now c.behind_projects.result.now c.split.result.0.now c.split.result.1.now c.behind_projects.ensures c.split.ensures) in
    record { spelled = r.0; parts = r.1 }

pub returns-in-Faults : goal.returns-in-Faults
returns-in-Faults c =
    let r = on_page (codes "faults") c.args.path.now c.split.result.0.now c.split.result.1.now (subst (λ p. HasForm p c.args.path.now) c.in-Faults.is c.requires) (cut_so c.args.path.now c.behind_projects.result.now c.split.result.0.now c.split.result.1.now c.behind_projects.ensures c.split.ensures) in
    record { spelled = r.0; parts = r.1 }

pub returns-in-Pattern : goal.returns-in-Pattern
returns-in-Pattern c =
    let r = on_page (codes "pattern") c.args.path.now c.split.result.0.now c.split.result.1.now (subst (λ p. HasForm p c.args.path.now) c.in-Pattern.is c.requires) (cut_so c.args.path.now c.behind_projects.result.now c.split.result.0.now c.split.result.1.now c.behind_projects.ensures c.split.ensures) in
    record { spelled = r.0; parts = r.1 }

pub returns-in-Cp : goal.returns-in-Cp
returns-in-Cp c =
    let r = on_page (codes "cp") c.args.path.now c.split.result.0.now c.split.result.1.now (subst (λ p. HasForm p c.args.path.now) c.in-Cp.is c.requires) (cut_so c.args.path.now c.behind_projects.result.now c.split.result.0.now c.split.result.1.now c.behind_projects.ensures c.split.ensures) in
    record { spelled = r.0; parts = r.1 }

pub returns-in-Fold : goal.returns-in-Fold
returns-in-Fold c =
    let r = on_page (codes "fold") c.args.path.now c.split.result.0.now c.split.result.1.now (subst (λ p. HasForm p c.args.path.now) c.in-Fold.is c.requires) (cut_so c.args.path.now c.behind_projects.result.now c.split.result.0.now c.split.result.1.now c.behind_projects.ensures c.split.ensures) in
    record { spelled = r.0; parts = r.1 }

pub returns-in-Vertex : goal.returns-in-Vertex
returns-in-Vertex c =
    let r = on_page (codes "vertex") c.args.path.now c.split.result.0.now c.split.result.1.now (subst (λ p. HasForm p c.args.path.now) c.in-Vertex.is c.requires) (cut_so c.args.path.now c.behind_projects.result.now c.split.result.0.now c.split.result.1.now c.behind_projects.ensures c.split.ensures) in
    record { spelled = r.0; parts = r.1 }

pub returns-in-Edits : goal.returns-in-Edits
returns-in-Edits c =
    let r = on_page (codes "edits") c.args.path.now c.split.result.0.now c.split.result.1.now (subst (λ p. HasForm p c.args.path.now) c.in-Edits.is c.requires) (cut_so c.args.path.now c.behind_projects.result.now c.split.result.0.now c.split.result.1.now c.behind_projects.ensures c.split.ensures) in
    record { spelled = r.0; parts = r.1 }

pub returns-in-Sheet : goal.returns-in-Sheet
returns-in-Sheet c =
    let r = on_sheet c.args.path.now c.split.result.0.now c.split.result.1.now c.behind_sheet.result.now c.split-in-Sheet.result.0.now c.split-in-Sheet.result.1.now
    (subst (λ p. HasForm p c.args.path.now) c.in-Sheet.is c.requires) (cut_so c.args.path.now c.behind_projects.result.now c.split.result.0.now c.split.result.1.now c.behind_projects.ensures c.split.ensures) c.behind_sheet.ensures c.split-in-Sheet.ensures in
    record { spelled = r.0; parts = r.1 }
