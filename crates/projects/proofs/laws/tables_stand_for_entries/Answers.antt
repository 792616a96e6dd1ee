use Rattle.projects.proofs.TablesStanding.{names_stand, put_stands, there_stands}
use Rattle.projects.proofs.laws.tables_stand_for_entries.Goals as goal

pub returns : goal.returns
returns c = record { names = names_stand; put = put_stands; there = there_stands }
