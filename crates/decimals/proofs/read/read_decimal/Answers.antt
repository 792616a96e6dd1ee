use Rattle.std.proofs.Common.{◌≤◌, ◌+◌, length, inr, refl, ap, ◌∙◌}
use Rattle.std.specs.Int.{w128}
use Rattle.std.proofs.lemmas.Int.{to_z-of_z, fits_signed_from_abs}
use Rattle.qroot2.proofs.callers.Reading.{none_long}
use Rattle.decimals.specs.Decimal.{Decimal, signed, units_of}
use Rattle.decimals.proofs.callers.Spelling.{no_digits, no_exponent, pieces_spell, some_digit, some_digits, capped_signed, signed_small}
use Rattle.decimals.proofs.read.read_decimal.Goals as goal
use Rattle.decimals.proofs.read.read_decimal.Goals.{else-is_empty-via-then-is_empty+else-is_empty-2, else-is_empty-via-else-is_empty}

pub returns-then-is_empty-2-clause-none : goal.returns-then-is_empty-2-clause-none
returns-then-is_empty-2-clause-none c = λ _. no_digits c.args.bytes.now _ c.pieces_of-pieces.ensures (none_long _ _ c.is_empty.ensures c.if-is_empty.true) (none_long _ _ c.is_empty-then-is_empty.ensures c.if-is_empty-2.true)

pub returns-in_err-exponent-clause-none : goal.returns-in_err-exponent-clause-none
returns-in_err-exponent-clause-none c = λ _. no_exponent c.args.bytes.now _ c.pieces_of-pieces.ensures c.in_err-exponent.ensures

pub returns-clause-some : goal.returns-clause-some
returns-clause-some c =
    let p = c.pieces_of-pieces.result in
    let e = c.in_ok-exponent.exponent in
    let d : Decimal = record { minus = p.minus; before = p.before.now; behind = p.behind.now; exponent = signed e.minus e.size } in
    let some : 1 ≤ length p.before.now + length p.behind.now = elim c.else-is_empty.branch [
      | else-is_empty-via-then-is_empty+else-is_empty-2 w ↦ some_digits p.before.now p.behind.now c.is_empty.result w.is_empty-then-is_empty.result c.is_empty.ensures w.is_empty-then-is_empty.ensures (inr w.if-is_empty-2.false)
      | else-is_empty-via-else-is_empty w ↦ some_digit p.before.now p.behind.now c.is_empty.result c.is_empty.ensures w.if-is_empty.false
    ] in (
      units_of d,
      (d, pieces_spell c.args.bytes.now _ c.pieces_of-pieces.ensures (signed e.minus e.size) some c.in_ok-exponent.ensures.0, refl),
      to_z-of_z w128 c.with_sign.result (fits_signed_from_abs w128 c.with_sign.result (signed_small p.minus c.size-size.result _ c.with_sign.result c.with_sign.ensures c.size-size.ensures)) ∙ c.with_sign.ensures ∙ ap (signed p.minus) c.size-size.ensures ∙ capped_signed p.minus _,
    )
