use Rattle.projects.proofs.Lookups.{put_here, put_elsewhere}
use Rattle.projects.proofs.laws.tables_hold_what_was_put.Goals as goal

pub returns : goal.returns
returns c = record { here = put_here; elsewhere = put_elsewhere }
