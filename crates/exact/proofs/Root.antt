-- √2 is irrational, and so each a + b √2 has a side.
use Rattle.std.proofs.Common.{◌≡◌, ◌≢◌, ◌≤◌, ◌<◌, ◌+◌, ◌-◌, ◌*◌, ℕ, zero, suc, arith, refl, inl, inr}
use Rattle.std.specs.Prelude.{pos, negsuc}
use Rattle.std.proofs.lemmas.Int.{ints}
use Rattle.std.proofs.lemmas.Nat.{mul-le}
use Rattle.std.proofs.lemmas.Bool.{cases_order, cases_lt}
use Rattle.exact.specs.Order.{HasSide}

-- a step of the descent keeps the norm up to its sign
pub norm_turns : (x y u v : ℕ) → x ≡ u + 2 * v → y ≡ u + v → x * x + u * u ≡ 2 * (y * y) + 2 * (v * v)
norm_turns x y u v e f = rw (e, f) (omega arith)

pub below_root : (x y : ℕ) → x ≤ y → 0 < y → x * x < 2 * (y * y)
below_root x y h p = omega (arith, mul-le x x y y h h, mul-le 1 1 y y p p)

pub above_root : (x y : ℕ) → 2 * y ≤ x → 0 < y → 2 * (y * y) < x * x
above_root x y h p = omega (arith, mul-le (2 * y) (2 * y) x x h h, mul-le 1 1 y y p p)

irrational_by : (fuel x y : ℕ) → y < fuel → 0 < y → x * x ≢ 2 * (y * y)
irrational_by zero x y h p e = omega arith
irrational_by (suc fuel) x y h p e =
    elim (cases_lt y x) [
      | inl low ↦ elim (cases_lt x (2 * y)) [
        | inl high ↦ irrational_by fuel (y - (x - y)) (x - y) (omega arith) (omega arith) (omega (arith, norm_turns x y (y - (x - y)) (x - y) (omega arith) (omega arith)))
        | inr high ↦ omega (arith, above_root x y high p)
      ]
      | inr low ↦ omega (arith, below_root x y low p)
    ]

pub irrational : (x y : ℕ) → 0 < y → x * x ≢ 2 * (y * y)
irrational x y = irrational_by (suc y) x y (omega arith)

pub side : HasSide
side (pos zero) (pos zero) = inr (inl (refl, refl))
side (pos (suc a)) (pos b) = inl (inl (omega (arith, ints), omega (arith, ints), omega (arith, ints)))
side (pos zero) (pos (suc b)) = inl (inl (omega (arith, ints), omega (arith, ints), omega (arith, ints)))
side (negsuc a) (negsuc b) = inr (inr (inl (omega (arith, ints), omega (arith, ints), omega (arith, ints))))
side (negsuc a) (pos zero) = inr (inr (inl (omega (arith, ints), omega (arith, ints), omega (arith, ints))))
side (pos zero) (negsuc b) = inr (inr (inl (omega (arith, ints), omega (arith, ints), omega (arith, ints))))
side (pos (suc a)) (negsuc b) = elim (cases_order (suc a * suc a) (2 * (suc b * suc b))) [
  | inl e ↦ absurd (irrational (suc a) (suc b) (omega arith) e)
  | inr h ↦ elim h [
    | inl low ↦ inr (inr (inr (inr (omega (arith, ints), omega (arith, ints), omega (arith, ints)))))
    | inr high ↦ inl (inr (inl (omega (arith, ints), omega (arith, ints), omega (arith, ints))))
  ]
]
side (negsuc a) (pos (suc b)) = elim (cases_order (suc a * suc a) (2 * (suc b * suc b))) [
  | inl e ↦ absurd (irrational (suc a) (suc b) (omega arith) e)
  | inr h ↦ elim h [
    | inl low ↦ inl (inr (inr (omega (arith, ints), omega (arith, ints), omega (arith, ints))))
    | inr high ↦ inr (inr (inr (inl (omega (arith, ints), omega (arith, ints), omega (arith, ints)))))
  ]
]
