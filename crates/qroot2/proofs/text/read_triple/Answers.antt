use Rattle.std.proofs.Common.{arith}
use Rattle.exact.specs.Number.{ExactNumber}
use Rattle.qroot2.proofs.ReadingParts.{over_one_none, over_one_found, over_found, over_top_none, over_under_none, over_small_none, kept_large}
use Rattle.qroot2.proofs.text.read_triple.Goals as goal

pub returns-in_err-top-in-None : goal.returns-in_err-top-in-None
returns-in_err-top-in-None c = rw c.from_residual.ensures (over_one_none c.args.bytes.now c.in-None.ensures c.in_err-top-in-None.ensures)

pub returns-in_err-top-in-Some : goal.returns-in_err-top-in-Some
returns-in_err-top-in-Some c = rw c.from_residual-in_err-top-in-Some.ensures (over_top_none c.in-Some.over.now c.in-Some.under.now c.args.bytes.now c.in-Some.ensures.0 c.in-Some.ensures.1 c.in_err-top-in-Some.ensures)

pub returns-in_err-d-in-Some : goal.returns-in_err-d-in-Some
returns-in_err-d-in-Some c = rw c.from_residual-in_err-d-in-Some.ensures (over_under_none c.in-Some.over.now c.in-Some.under.now c.args.bytes.now c.in-Some.ensures.0 c.in-Some.ensures.1 c.in_err-d-in-Some.ensures)

pub returns-then-d-lt2 : goal.returns-then-d-lt2
returns-then-d-lt2 c = over_small_none c.in-Some.over.now c.in-Some.under.now c.args.bytes.now c.in_ok-d-in-Some.d c.in-Some.ensures.0 c.in-Some.ensures.1 c.in_ok-d-in-Some.ensures c.if-d-lt2.true

pub returns-in_ok-top-in-None : goal.returns-in_ok-top-in-None
returns-in_ok-top-in-None c =
    let s = c.in_ok-top-in-None.ensures in
    let x : ExactNumber = record { a = s.0; b = s.1; d = 1 } in
    (x, omega arith, over_one_found c.args.bytes.now s.0 s.1 s.2, s.3, s.4, omega arith)

pub returns-else-d-lt2 : goal.returns-else-d-lt2
returns-else-d-lt2 c =
    let s = c.in_ok-top-in-Some.ensures in
    let d = c.in_ok-d-in-Some.ensures in
    let x : ExactNumber = record { a = s.0; b = s.1; d = d.0 } in
    let large = kept_large c.in_ok-d-in-Some.d d.0 d.2 c.if-d-lt2.false in
    (x, omega (arith, large), over_found c.in-Some.over.now c.in-Some.under.now c.args.bytes.now s.0 s.1 d.0 c.in-Some.ensures.1 s.2 d.1 large, s.3, s.4, d.2)
