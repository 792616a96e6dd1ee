-- Where a sector stands in an order after another was put in.
use Rattle.std.proofs.Common.{◌≡◌, ◌≢◌, ◌≤◌, ◌<◌, ◌+◌, ℕ, zero, suc, arith, refl, ap, sym, ◌∙◌, inl, inr, List, [], ◌∷◌, length, true, false, eq-eqb, eqb}
use Rattle.std.specs.List.{insert}
use Rattle.std.proofs.lemmas.Bool.{cases_eq, ne_eqb}
use Rattle.layers.specs.LayerOrder.{height}

pub height_here : (b : ℕ) (xs : List ℕ) (a : ℕ) → b ≡ a → height (b ∷ xs) a ≡ 0
height_here b xs a e = let t : eqb b a ≡ true = eq-eqb b a e in rw t refl

pub height_past : (b : ℕ) (xs : List ℕ) (a : ℕ) → b ≢ a → height (b ∷ xs) a ≡ 1 + height xs a
height_past b xs a n = let t : eqb b a ≡ false = ne_eqb b a n in rw t refl

pub height-insert_below : (xs : List ℕ) (i y a : ℕ) → y ≢ a → i ≤ length xs → height xs a < i → height (insert xs i y) a ≡ height xs a
height-insert_below [] zero y a n l h = absurd (omega arith)
height-insert_below [] (suc i) y a n l h = absurd (omega arith)
height-insert_below (x ∷ xs) zero y a n l h = absurd (omega arith)
height-insert_below (x ∷ xs) (suc i) y a n l h = elim (cases_eq x a) [
  | inl e ↦ height_here x (insert xs i y) a e ∙ sym (height_here x xs a e)
  | inr f ↦ let g : height (x ∷ xs) a ≡ 1 + height xs a = height_past x xs a f in
      height_past x (insert xs i y) a f ∙ ap (λ m. 1 + m) (height-insert_below xs i y a n (omega arith) (omega arith)) ∙ sym g
]

pub height-insert_above : (xs : List ℕ) (i y a : ℕ) → y ≢ a → i ≤ height xs a → height (insert xs i y) a ≡ height xs a + 1
height-insert_above [] zero y a n h = height_past y [] a n
height-insert_above [] (suc i) y a n h = absurd (omega arith)
height-insert_above (x ∷ xs) zero y a n h = height_past y (x ∷ xs) a n ∙ omega arith
height-insert_above (x ∷ xs) (suc i) y a n h = elim (cases_eq x a) [
  | inl e ↦ let g : height (x ∷ xs) a ≡ 0 = height_here x xs a e in absurd (omega arith)
  | inr f ↦ let g : height (x ∷ xs) a ≡ 1 + height xs a = height_past x xs a f in
      height_past x (insert xs i y) a f ∙ ap (λ m. 1 + m) (height-insert_above xs i y a n (omega arith)) ∙ omega arith
]

pub height-insert_at : (xs : List ℕ) (i y : ℕ) → i ≤ length xs → height xs y ≡ length xs → height (insert xs i y) y ≡ i
height-insert_at [] zero y h e = height_here y [] y refl
height-insert_at [] (suc i) y h e = absurd (omega arith)
height-insert_at (x ∷ xs) zero y h e = height_here y (x ∷ xs) y refl
height-insert_at (x ∷ xs) (suc i) y h e = elim (cases_eq x y) [
  | inl f ↦ let g : height (x ∷ xs) y ≡ 0 = height_here x xs y f in absurd (omega arith)
  | inr f ↦ let g : height (x ∷ xs) y ≡ 1 + height xs y = height_past x xs y f in
      let k : height (insert xs i y) y ≡ i = height-insert_at xs i y (omega arith) (omega arith) in height_past x (insert xs i y) y f ∙ omega arith
]
