use Rattle.forms.proofs.Rows.{passed_mark, rows_made}
use Rattle.forms.proofs.marks.Marks.of.Goals as goal

pub returns : goal.returns
returns c = rows_made c.args.scale c.args.point.now _ _ _ _ _ _ _ _
    (passed_mark c.args.scale 0 c.args.point.now c.mark_of.result (record { sfits = c.mark_of.type_inv }) (c.mark_of.ensures c.args.point.now c.of-lifted.ensures.lifted))
    (passed_mark c.args.scale 1 c.args.point.now c.mark_of-2.result (record { sfits = c.mark_of-2.type_inv }) (c.mark_of-2.ensures c.args.point.now c.of-lifted.ensures.lifted))
    (passed_mark c.args.scale 2 c.args.point.now c.mark_of-3.result (record { sfits = c.mark_of-3.type_inv }) (c.mark_of-3.ensures c.args.point.now c.of-lifted.ensures.lifted))
    (passed_mark c.args.scale 3 c.args.point.now c.mark_of-4.result (record { sfits = c.mark_of-4.type_inv }) (c.mark_of-4.ensures c.args.point.now c.of-lifted.ensures.lifted))
    (passed_mark c.args.scale 4 c.args.point.now c.mark_of-5.result (record { sfits = c.mark_of-5.type_inv }) (c.mark_of-5.ensures c.args.point.now c.of-lifted.ensures.lifted))
    (passed_mark c.args.scale 13 c.args.point.now c.mark_of-6.result (record { sfits = c.mark_of-6.type_inv }) (c.mark_of-6.ensures c.args.point.now c.of-lifted.ensures.lifted))
    (passed_mark c.args.scale 14 c.args.point.now c.mark_of-7.result (record { sfits = c.mark_of-7.type_inv }) (c.mark_of-7.ensures c.args.point.now c.of-lifted.ensures.lifted))
    (passed_mark c.args.scale 15 c.args.point.now c.mark_of-8.result (record { sfits = c.mark_of-8.type_inv }) (c.mark_of-8.ensures c.args.point.now c.of-lifted.ensures.lifted))
