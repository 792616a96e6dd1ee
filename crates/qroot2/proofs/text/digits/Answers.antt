use Rattle.std.proofs.Common.{◌≡◌, ◌+◌, ◌-◌, ◌*◌, ℕ, get_or, take, arith, ◌∙◌, ap, sym}
use Rattle.std.proofs.lemmas.List.{take_more}
use Rattle.qroot2.specs.Digits.{value_on, capped_size}
use Rattle.qroot2.proofs.callers.Numerals.{value_push}
use Rattle.qroot2.proofs.callers.Splits.{digits_more, digits_at}
use Rattle.qroot2.proofs.text.digits.Goals as goal
use Rattle.qroot2.proofs.text.digits.Goals.{then-byte-lt48-via-then-byte-lt48, then-byte-lt48-via-else-byte-lt48+then-byte-gt57}

pub returns-then-byte-lt48 : goal.returns-then-byte-lt48
returns-then-byte-lt48 c = λ a.
    let d = digits_at c.args.bytes.now c.loop-byte.byte-index a c.loop-byte-test.true in
    elim c.then-byte-lt48.branch [
      | then-byte-lt48-via-then-byte-lt48 w ↦ omega (arith, d.0, w.if-byte-lt48.true)
      | then-byte-lt48-via-else-byte-lt48+then-byte-gt57 w ↦ omega (arith, d.1, w.if-byte-gt57.true)
    ]

capped_more : (v w d : ℕ) → v ≡ capped_size w → capped_size (10 * v + d) ≡ capped_size (10 * w + d)
capped_more v w d e = rw e (omega arith)

pub loop-byte-preserved : goal.loop-byte-preserved
loop-byte-preserved c =
    let xs = c.args.bytes.now in
    let i = c.loop-byte.byte-index in
    record {
      digits = digits_more xs i c.loop-byte-test.true c.loop-byte.invariant.digits c.if-byte-lt48.false c.if-byte-gt57.false;
      value = c.min-value.ensures ∙ ap (λ t. capped_size (10 * c.loop-byte.value + t)) c.from.ensures
          ∙ capped_more c.loop-byte.value (value_on 0 (take i xs)) (get_or xs i 0 - 48) c.loop-byte.invariant.value
          ∙ ap capped_size (sym (ap (value_on 0) (take_more xs i 0 c.loop-byte-test.true) ∙ value_push 0 (take i xs) (get_or xs i 0)));
    }
