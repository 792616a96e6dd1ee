use Rattle.std.proofs.Common.{◌≡◌, Some, sym, subst, ap, ◌∙◌}
use Rattle.std.specs.BTreeMap.{is_at}
use Rattle.std.proofs.lemmas.Map.Steps.{set_value_same}
use Rattle.vocabulary.specs.Names.{name_cmp}
use Rattle.projects.specs.Projects.{ExactProject}
use Rattle.projects.specs.Steps.{Stepped}
use Rattle.projects.specs.Tables.{Tables, IsTables, project_at}
use Rattle.projects.proofs.Entries.{some_same, set_is_put, set_keeps, on_err}
use Rattle.projects.proofs.tables.take_step.Goals as goal

pub returns-in_err-take-clause-err : goal.returns-in_err-take-clause-err
returns-in_err-take-clause-err c =
    let w = c.take.new.self in
    let found : project_at c.args.tables.now.entries c.args.name.now ≡ Some w = sym c.in-Some.ensures.value ∙ ap Some (sym c.in_err-take.ensures.err) in
    on_err c.from_residual.result ((c.get_mut.follows.lender w).entries ≡ c.args.tables.now.entries)
    ((c.get_mut.follows.holds w).0 ∙ set_value_same (is_at (name_cmp c.args.name.now)) c.args.tables.now.entries w found)

pub returns-in_err-take-clause-tables : goal.returns-in_err-take-clause-tables
returns-in_err-take-clause-tables c t =
    let w = c.take.new.self in
    let found : project_at c.args.tables.now.entries c.args.name.now ≡ Some w = sym c.in-Some.ensures.value ∙ ap Some (sym c.in_err-take.ensures.err) in
    subst (λ (es : Tables). IsTables es) (sym ((c.get_mut.follows.holds w).0 ∙ set_value_same (is_at (name_cmp c.args.name.now)) c.args.tables.now.entries w found)) t

pub returns-clause-ok : goal.returns-clause-ok
returns-clause-ok c =
    let w = c.take.new.self in
    let same : c.in-Some.project.now ≡ c.requires.project = some_same c.in-Some.project.now c.requires.project (c.in-Some.ensures.value ∙ c.requires.there) in
    record {
      project = c.requires.project;
      next = w;
      there = c.requires.there;
      stepped = subst (λ (p : ExactProject). Stepped p c.args.step.now w) same c.in_ok-take.ensures.ok;
      tables = (c.get_mut.follows.holds w).0 ∙ set_is_put c.args.tables.now.entries c.args.name.now c.requires.project w c.get_mut.ensures.ordered c.requires.there;
    }

pub returns-clause-tables : goal.returns-clause-tables
returns-clause-tables c t = subst IsTables (sym (c.get_mut.follows.holds c.take.new.self).0) (set_keeps c.args.tables.now.entries c.args.name.now c.take.new.self t c.rev-rev.ensures.project)
