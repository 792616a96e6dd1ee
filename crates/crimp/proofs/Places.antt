-- The places of the four creases round a crimp: p, r, q, t in this order, upwards or downwards.
use Rattle.std.proofs.Common.{◌≡◌, ℕ, ◌+◌, arith, ◌⊎◌, inl, inr}
use Rattle.std.specs.Prelude.{ℤ, ◌≤ℤ◌}
use Rattle.std.proofs.lemmas.Int.{ints}
use Rattle.crimp.specs.Rules.{Between, Inside}

abbrev pub Folded : ℤ → ℤ → ℤ → ℤ → Type 0
Folded p q r t = ((p ≤ℤ r) × (r ≤ℤ q) × (q ≤ℤ t)) ⊎ ((r ≤ℤ p) × (q ≤ℤ r) × (t ≤ℤ q))

pub inside_moved : {y x z y' x' z' : ℤ} → y ≡ y' → x ≡ x' → z ≡ z' → Inside y x z → Inside y' x' z'
inside_moved e f g h = rw (e, f, g) at h

pub between_moved : {y x z y' x' z' : ℕ} → y ≡ y' → x ≡ x' → z ≡ z' → Between y x z → Between y' x' z'
between_moved e f g h = rw (e, f, g) at h

-- upside down
pub between_over : {n y x z y' x' z' : ℕ} → y + y' ≡ n → x + x' ≡ n → z + z' ≡ n → Between y x z → Between y' x' z'
between_over e f g (inl h) = inr (omega arith, omega arith)
between_over e f g (inr h) = inl (omega arith, omega arith)

-- a span of one of the three lies in the whole span
pub whole_first : {p q r t y : ℤ} → Folded p q r t → Inside y p q → Inside y p t
whole_first (inl f) (inl h) = inl (omega (arith, ints), omega (arith, ints))
whole_first (inl f) (inr h) = absurd (omega (arith, ints))
whole_first (inr f) (inl h) = absurd (omega (arith, ints))
whole_first (inr f) (inr h) = inr (omega (arith, ints), omega (arith, ints))

pub whole_second : {p q r t y : ℤ} → Folded p q r t → Inside y q r → Inside y p t
whole_second (inl f) (inl h) = absurd (omega (arith, ints))
whole_second (inl f) (inr h) = inl (omega (arith, ints), omega (arith, ints))
whole_second (inr f) (inl h) = inr (omega (arith, ints), omega (arith, ints))
whole_second (inr f) (inr h) = absurd (omega (arith, ints))

pub whole_third : {p q r t y : ℤ} → Folded p q r t → Inside y r t → Inside y p t
whole_third (inl f) (inl h) = inl (omega (arith, ints), omega (arith, ints))
whole_third (inl f) (inr h) = absurd (omega (arith, ints))
whole_third (inr f) (inl h) = absurd (omega (arith, ints))
whole_third (inr f) (inr h) = inr (omega (arith, ints), omega (arith, ints))

-- and neither end of the whole span is inside one of them
pub end_first : {p q r t : ℤ} → Folded p q r t → Inside t p q → ⊥
end_first (inl f) (inl h) = omega (arith, ints)
end_first (inl f) (inr h) = omega (arith, ints)
end_first (inr f) (inl h) = omega (arith, ints)
end_first (inr f) (inr h) = omega (arith, ints)

pub end_second : {p q r t : ℤ} → Folded p q r t → Inside t q r → ⊥
end_second (inl f) (inl h) = omega (arith, ints)
end_second (inl f) (inr h) = omega (arith, ints)
end_second (inr f) (inl h) = omega (arith, ints)
end_second (inr f) (inr h) = omega (arith, ints)

pub start_second : {p q r t : ℤ} → Folded p q r t → Inside p q r → ⊥
start_second (inl f) (inl h) = omega (arith, ints)
start_second (inl f) (inr h) = omega (arith, ints)
start_second (inr f) (inl h) = omega (arith, ints)
start_second (inr f) (inr h) = omega (arith, ints)

pub start_third : {p q r t : ℤ} → Folded p q r t → Inside p r t → ⊥
start_third (inl f) (inl h) = omega (arith, ints)
start_third (inl f) (inr h) = omega (arith, ints)
start_third (inr f) (inl h) = omega (arith, ints)
start_third (inr f) (inr h) = omega (arith, ints)
