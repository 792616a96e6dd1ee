-- Pairs that are equal part by part.
use Rattle.std.proofs.Common.{◌≡◌}
use Rattle.std.specs.Prelude.{ℤ}
use Rattle.qroot2.specs.Wide.{Pair}

pub by_parts : (x y : Pair) → x.a ≡ y.a → x.b ≡ y.b → x ≡ y
by_parts x y e f = made x.a y.a x.b y.b e f
  where
    made : (a a' b b' : ℤ) → a ≡ a' → b ≡ b' → (let x : Pair = record { a = a; b = b } in x) ≡ record { a = a'; b = b' }
    made a a' b b' e f = cc
