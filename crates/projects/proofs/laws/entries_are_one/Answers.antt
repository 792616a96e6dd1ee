use Rattle.projects.proofs.TablesStanding.{tables_stand, entries_are_one}
use Rattle.projects.proofs.laws.entries_are_one.Goals as goal

pub returns : goal.returns
returns c = record { some = λ tables t. tables_stand tables t.projects; one = entries_are_one }
