use Rattle.std.proofs.Common.{sym, subst}
use Rattle.edits.specs.Sights.{AreBoth}
use Rattle.edits.specs.declared.sight.Sight.{Sight}
use Rattle.edits.proofs.sight.both.Goals as goal

pub returns-in-OutOfRange : goal.returns-in-OutOfRange
returns-in-OutOfRange c = subst (λ (x : Sight). AreBoth c.args.dir x c.args.second c.with_lost.result) (sym c.in-OutOfRange.is) (c.with_lost.ensures c.args.dir)
