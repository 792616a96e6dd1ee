-- The numbers a + b √2 with whole a and b, as a ring.
use Rattle.std.specs.Prelude.{ℕ, ◌+◌, ℤ, pos, neg_ℤ, ◌+ℤ◌, ◌*ℤ◌, unsigned_abs}
use Rattle.exact.specs.Number.{Positive}

pub record Root : Type 0 where
  pub a : ℤ
  pub b : ℤ

unfoldable pub plus : Root → Root → Root
plus x y = record { a = x.a +ℤ y.a; b = x.b +ℤ y.b }

unfoldable pub times : Root → Root → Root
times x y = record { a = x.a *ℤ y.a +ℤ pos 2 *ℤ (x.b *ℤ y.b); b = x.a *ℤ y.b +ℤ x.b *ℤ y.a }

unfoldable pub minus : Root → Root
minus x = record { a = neg_ℤ x.a; b = neg_ℤ x.b }

unfoldable pub count : ℕ → Root
count n = record { a = pos n; b = pos 0 }

-- above zero
abbrev pub Above : Root → Type 0
Above x = Positive x.a x.b

-- the sum of the sizes of both parts
abbrev pub size : Root → ℕ
size x = unsigned_abs x.a + unsigned_abs x.b
