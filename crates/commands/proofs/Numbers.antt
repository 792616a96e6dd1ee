-- Numbers within limits.
use Rattle.std.proofs.Common.{◌≡◌, ◌≢◌, ℕ, ◌<◌, ◌≤◌, ◌^◌, List, Option, Some, None, sym, ◌∙◌, arith}
use Rattle.std.specs.Prelude.{decimal}
use Rattle.std.proofs.lemmas.Fmt.{decimal_injective}
use Rattle.vocabulary.specs.Numbers.{ReadsNumber}
use Rattle.commands.specs.Fields.{Spells}
use Rattle.commands.specs.Taking.{ReadsOption}

pub spelled : (bytes : List ℕ) (most : ℕ) (r : Option ℕ) → ReadsNumber most bytes r
    → ReadsOption (Spells (λ n. n ≤ most) decimal) bytes r
spelled bytes most None h = h
spelled bytes most (Some n) h = h

-- a number below the limits is none within them
pub not_within : (bytes : List ℕ) (v low most : ℕ) → most < 2 ^ 64 → v ≤ most → decimal v ≡ bytes → v < low
    → (n : ℕ) → (low ≤ n) × (n ≤ most) → decimal n ≢ bytes
not_within bytes v low most m h d b n l e =
    let from = l.0 in
    let to = l.1 in
    let p : n < 2 ^ 64 = omega arith in
    let q : v < 2 ^ 64 = omega arith in
    let f = decimal_injective n v p q (e ∙ sym d) in
    omega arith
