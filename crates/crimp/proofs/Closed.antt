-- A list is closed where it is closed after a crimp.
use Rattle.std.proofs.Common.{◌≡◌, ◌≤◌, ◌+◌, ◌%◌, ℕ, zero, suc, arith, refl, ap, sym, ◌∙◌, ◌⊎◌, inl, inr, List, [], ◌∷◌, ◌++◌, length}
use Rattle.std.specs.Prelude.{ℤ, pos, ◌+ℤ◌, ◌-ℤ◌}
use Rattle.std.proofs.lemmas.Int.{ints}
use Rattle.std.proofs.lemmas.Bool.{cases_eq}
use Rattle.std.proofs.lemmas.List.{length-append}
use Rattle.layers.specs.declared.sector_list.Sector.{Sector}
use Rattle.layers.specs.LayerOrder.{place}
use Rattle.crimp.proofs.Turned.{Turned}
use Rattle.crimp.specs.Crimps.{joined}
use Rattle.layers.proofs.callers.Places.{place_down, place_up, place_zero}
use Rattle.crimp.proofs.Cycle.{length_turn, turn_back}

-- the place at the end, from the front on
alternating : List Sector → ℤ
alternating [] = pos 0
alternating (s ∷ ss) = pos s.angle -ℤ alternating ss

place_cons : (s : Sector) (ss : List Sector) (i : ℕ) → place (s ∷ ss) (suc i) ≡ pos s.angle -ℤ place ss i
place_cons s ss zero = let e = place_up (s ∷ ss) 0 refl in let f = place_zero (s ∷ ss) in let g = place_zero ss in omega (arith, ints)
place_cons s ss (suc i) = elim (cases_eq (i % 2) 0) [
  | inl e ↦ let k = place_cons s ss i in let d = place_down (s ∷ ss) (suc i) (omega arith) in let u = place_up ss i e in omega (arith, ints)
  | inr n ↦ let k = place_cons s ss i in let d = place_up (s ∷ ss) (suc i) (omega arith) in let u = place_down ss i (omega arith) in omega (arith, ints)
]

place_end : (ss : List Sector) → place ss (length ss) ≡ alternating ss
unfolding alternating
place_end [] = place_zero []
place_end (s ∷ ss) = let k = place_end ss in place_cons s ss (length ss) ∙ ap (λ z. pos s.angle -ℤ z) k

sum_of : (xs ys : List Sector) → ((length xs % 2 ≡ 0) × (alternating (xs ++ ys) ≡ alternating xs +ℤ alternating ys)) ⊎ ((length xs % 2 ≡ 1) × (alternating (xs ++ ys) ≡ alternating xs -ℤ alternating ys))
unfolding alternating
sum_of [] ys = inl (refl, omega (arith, ints))
sum_of (s ∷ ss) ys = elim (sum_of ss ys) [
  | inl k ↦ let e = k.0 in let f = k.1 in inr (omega arith, omega (arith, ints))
  | inr k ↦ let e = k.0 in let f = k.1 in inl (omega arith, omega (arith, ints))
]

turned_zero : (xs ys : List Sector) → Turned xs ys → length xs % 2 ≡ 0 → alternating xs ≡ pos 0 → alternating ys ≡ pos 0
turned_zero xs ys t even nought =
    let n : length xs ≡ length t.front + length t.back = ap length t.from ∙ length-append t.front t.back in
    let e : alternating xs ≡ alternating (t.front ++ t.back) = ap alternating t.from in
    let f : alternating ys ≡ alternating (t.back ++ t.front) = ap alternating t.to in
    elim (sum_of t.front t.back) [
      | inl k ↦ elim (sum_of t.back t.front) [ inl m ↦ let a = k.1 in let b = m.1 in omega (arith, ints) | inr m ↦ let a = k.0 in let b = m.0 in absurd (omega arith) ]
      | inr k ↦ elim (sum_of t.back t.front) [ inl m ↦ let a = k.0 in let b = m.0 in absurd (omega arith) | inr m ↦ let a = k.1 in let b = m.1 in omega (arith, ints) ]
    ]

joined_sum : (p q r : Sector) (zs : List Sector) → q.angle ≤ p.angle → alternating (joined p q r ∷ zs) ≡ alternating (p ∷ q ∷ r ∷ zs)
unfolding alternating
joined_sum p q r zs h = omega (arith, ints)

pub closed_before : (xs ys : List Sector) (p q r : Sector) (zs : List Sector) → Turned xs (p ∷ q ∷ r ∷ zs) → Turned ys (joined p q r ∷ zs) → q.angle ≤ p.angle → length ys % 2 ≡ 0 → place ys (length ys) ≡ pos 0
    → (length xs % 2 ≡ 0) × (place xs (length xs) ≡ pos 0)
closed_before xs ys p q r zs t u h even nought =
    let n : length xs ≡ length (p ∷ q ∷ r ∷ zs) = length_turn xs (p ∷ q ∷ r ∷ zs) t in
    let m : length ys ≡ length (joined p q r ∷ zs) = length_turn ys (joined p q r ∷ zs) u in
    let a : alternating ys ≡ pos 0 = sym (place_end ys) ∙ nought in
    let b : alternating (joined p q r ∷ zs) ≡ pos 0 = turned_zero ys (joined p q r ∷ zs) u even a in
    let c : alternating xs ≡ pos 0 = turned_zero (p ∷ q ∷ r ∷ zs) xs (turn_back t) (omega arith) (sym (joined_sum p q r zs h) ∙ b) in
    (omega arith, place_end xs ∙ c)

pub closed_after : (xs ys : List Sector) (p q r : Sector) (zs : List Sector) → Turned xs (p ∷ q ∷ r ∷ zs) → Turned ys (joined p q r ∷ zs) → q.angle ≤ p.angle → length xs % 2 ≡ 0 → place xs (length xs) ≡ pos 0
    → (length ys % 2 ≡ 0) × (place ys (length ys) ≡ pos 0)
closed_after xs ys p q r zs t u h even nought =
    let n : length xs ≡ length (p ∷ q ∷ r ∷ zs) = length_turn xs (p ∷ q ∷ r ∷ zs) t in
    let m : length ys ≡ length (joined p q r ∷ zs) = length_turn ys (joined p q r ∷ zs) u in
    let a : alternating xs ≡ pos 0 = sym (place_end xs) ∙ nought in
    let b : alternating (p ∷ q ∷ r ∷ zs) ≡ pos 0 = turned_zero xs (p ∷ q ∷ r ∷ zs) t even a in
    let c : alternating ys ≡ pos 0 = turned_zero (joined p q r ∷ zs) ys (turn_back u) (omega arith) (joined_sum p q r zs h ∙ b) in
    (omega arith, place_end ys ∙ c)
