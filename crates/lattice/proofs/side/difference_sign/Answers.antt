use Rattle.std.proofs.Common.{◌≡◌, ◌<◌, ◌^◌, ℕ, arith, ap, ◌∙◌}
use Rattle.std.specs.Prelude.{ℤ, pos, ◌-ℤ◌}
use Rattle.std.proofs.lemmas.Int.{ints}
use Rattle.qroot2.specs.Wide.{HasSign}
use Rattle.qroot2.specs.declared.sign.Sign.{Sign}
use Rattle.qroot2.proofs.callers.Held.{through, held_128}
use Rattle.lattice.proofs.side.difference_sign.Goals as goal

passed : (r s : ℤ) (a c : ℕ) → r ≡ pos a → s ≡ pos c → a < 2 ^ 64 → c < 2 ^ 64 → through (through r -ℤ through s) ≡ pos a -ℤ pos c
passed r s a c e f h k = rw (e, f, held_128 (pos a) (omega arith), held_128 (pos c) (omega arith)) (held_128 (pos a -ℤ pos c) (omega (arith, ints)))

carried : (x y a b : ℤ) (s : Sign) → x ≡ a → y ≡ b → HasSign x y s → HasSign a b s
carried x y a b s e f h = rw (← e, ← f) h

pub returns : goal.returns
returns c = carried c.new.result.a c.new.result.b _ _ c.sign.result
    (ap (λ p. p.a) c.new.ensures ∙ passed c.from.result c.from-2.result c.args.a c.args.c c.from.ensures c.from-2.ensures (omega (arith, c.ranges.a.fits)) (omega (arith, c.ranges.c.fits)))
    (ap (λ p. p.b) c.new.ensures ∙ passed c.from-3.result c.from-4.result c.args.b c.args.d c.from-3.ensures c.from-4.ensures (omega (arith, c.ranges.b.fits)) (omega (arith, c.ranges.d.fits)))
    c.sign.ensures
