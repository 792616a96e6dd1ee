use Rattle.qroot2.proofs.callers.OneText.{read_lowest, tested}
use Rattle.qroot2.proofs.text.read_num.Goals as goal

pub returns : goal.returns
returns c =
    let top = c.in-Some.field-0.top in
    let s = c.in-Some.ensures in
    let a = tested top.a s.0.a c.unsigned_abs.result s.3 c.unsigned_abs.ensures.value c.if-unsigned_abs-ge-CAP.false in
    let b = tested top.b s.0.b c.unsigned_abs-else-unsigned_abs-ge-CAP.result s.4 c.unsigned_abs-else-unsigned_abs-ge-CAP.ensures.value c.if-unsigned_abs-ge-CAP-2.false in
    read_lowest c.in_lowest_terms.result c.args.bytes.now top.a top.b c.in-Some.field-0.d s.0 s.1 s.2 s.3 s.4 s.5 a b c.if-d.false c.in_lowest_terms.ensures
