use Rattle.std.proofs.Common.{refl}
use Rattle.rows.proofs.CreaseRows.{not_formed, rows_next}
use Rattle.rows.proofs.crease_rows.creases_of.Goals as goal

pub returns-in_default-clause-none : goal.returns-in_default-clause-none
returns-in_default-clause-none c = λ _ h. not_formed c.args.rows.now c.loop-row.row-index c.row-item.result c.loop-row-test.true c.row-item.is (c.in_default.ensures.none refl) h

pub loop-row-preserved : goal.loop-row-preserved
loop-row-preserved c = rows_next c.args.rows.now c.loop-row.creases.items c.push.new.self.items c.loop-row.row-index c.row-item.result _ c.loop-row-test.true c.row-item.is c.loop-row.invariant c.in-Some.ensures.some c.in_ok-push.ensures.items
