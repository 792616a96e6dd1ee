use Rattle.std.proofs.Common.{sym, subst}
use Rattle.std.specs.Map.{keys_of}
use Rattle.std.specs.List.Sorted.{IsStrictlySortedBy}
use Rattle.vocabulary.specs.Names.{name_cmp}
use Rattle.projects.specs.Tables.{Tables, IsTables}
use Rattle.projects.proofs.Entries.{put_keeps}
use Rattle.projects.proofs.tables.put_project.Goals as goal

pub returns-clause-tables : goal.returns-clause-tables
returns-clause-tables c t = subst IsTables (sym c.in_ok-insert.ensures.entries)
    (put_keeps c.args.tables.now.entries c.args.name c.args.project t c.text-name.ensures.name c.rev-rev.ensures.project (subst (λ (es : Tables). IsStrictlySortedBy name_cmp (keys_of es)) c.in_ok-insert.ensures.entries c.in_ok-insert.ensures.ordered))
