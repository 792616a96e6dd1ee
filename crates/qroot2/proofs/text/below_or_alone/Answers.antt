use Rattle.std.proofs.Common.{refl}
use Rattle.std.specs.Prelude.{pos, neg_ℤ}
use Rattle.qroot2.proofs.callers.Reading.{none_long, some_long, empty_none, minus_read_none, minus_read_some, alone_read_none, alone_found, zero_only, tested_some}
use Rattle.qroot2.proofs.ReadingParts.{held_kept, turned_kept}
use Rattle.qroot2.proofs.text.below_or_alone.Goals as goal

pub returns-then-is_empty : goal.returns-then-is_empty
returns-then-is_empty c = empty_none c.args.bytes.now (none_long _ _ c.is_empty.ensures c.if-is_empty.true)

pub returns-in_err-sum : goal.returns-in_err-sum
returns-in_err-sum c = let s = c.in-Some.ensures.some in rw c.from_residual.ensures (minus_read_none c.args.bytes.now c.in-Some.i (some_long _ _ c.is_empty.ensures c.if-is_empty.false) c.requires s.0 s.1 s.2 c.in_err-sum.ensures)

pub returns-in-Some : goal.returns-in-Some
returns-in-Some c =
    let s = c.in-Some.ensures.some in
    let t = c.in_ok-sum.ensures in
    (t.0, neg_ℤ (pos t.1), minus_read_some c.args.bytes.now c.in-Some.i t.0 t.1 (some_long _ _ c.is_empty.ensures c.if-is_empty.false) s.0 s.1 t.2, held_kept c.in_ok-sum.sum.a t.0 t.3, turned_kept c.in_ok-sum.sum.b t.1 t.4)

pub returns-in_err-b : goal.returns-in_err-b
returns-in_err-b c = rw c.from_residual-in_err-b.ensures (alone_read_none c.args.bytes.now (some_long _ _ c.is_empty.ensures c.if-is_empty.false) c.requires c.in_default.ensures.none (λ z o. c.in_err-b.ensures z))

pub returns-then-b-eq0 : goal.returns-then-b-eq0
returns-then-b-eq0 c = alone_read_none c.args.bytes.now (some_long _ _ c.is_empty.ensures c.if-is_empty.false) c.requires c.in_default.ensures.none (zero_only c.args.bytes.now c.in_ok-b.b c.in_ok-b.ensures c.if-b-eq0.true)

pub returns : goal.returns
returns c = (pos 0, c.in_ok-b.ensures.0, alone_found c.args.bytes.now c.in_ok-b.ensures.0 (tested_some c.in_ok-b.b c.in_ok-b.ensures.0 c.in_ok-b.ensures.2 c.if-b-eq0.false) c.in_ok-b.ensures.1, refl, held_kept c.in_ok-b.b c.in_ok-b.ensures.0 c.in_ok-b.ensures.2)
