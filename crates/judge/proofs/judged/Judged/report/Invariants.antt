use Rattle.judge.proofs.judged.Judged.report.Given as goal

abbrev pub ghosts-reported : goal.ghosts-reported
ghosts-reported a = record { name = a.blank.name; parts = a.blank.parts }
