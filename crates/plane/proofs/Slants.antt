-- The way along a direction: one part is the other, the other times √2 - 1, or none, up to the sign.
use Rattle.std.proofs.Common.{◌≡◌, ℕ, zero, suc, ◌-◌, ◌<◌, ◌≤◌, ◌^◌, Bool, true, false, IsTrue, arith, refl, ap, inl, inr, ◌⊎◌, subst, sym, ◌∙◌, int_eq}
use Rattle.std.specs.Prelude.{ℤ, pos, ◌-ℤ◌, ◌*ℤ◌, ◌↔◌, ◌&&◌, Option, Some, None, IfSome}
use Rattle.std.specs.Int.{cast_signed, cast_unsigned, w128}
use Rattle.std.proofs.lemmas.Bool.{true≢false}
use Rattle.std.proofs.lemmas.Int.{ints}
use Rattle.geometry.specs.Root.{Root, plus, times, minus, count, size}
use Rattle.geometry.specs.Gap.{num}
use Rattle.geometry.proofs.RootRing.{both}
use Rattle.qroot2.specs.Wide.{Pair, pair_neg}
use Rattle.qroot2.proofs.callers.Pairs.{by_parts}
use Rattle.plane.specs.Ways.{root, tilted, IsAlong, IsAhead}
use Rattle.plane.proofs.Passed.{passed}

parts : (x y : Root) → x ≡ y → (x.a ≡ y.a) × (x.b ≡ y.b)
parts x y e = (ap (λ (r : Root). r.a) e, ap (λ (r : Root). r.b) e)

halves : (x y : Pair) → x ≡ y → (x.a ≡ y.a) × (x.b ≡ y.b)
halves x y e = (ap (λ (p : Pair). p.a) e, ap (λ (p : Pair). p.b) e)

abbrev pub nothing : Pair
nothing = record { a = pos 0; b = pos 0 }

pub along_0 : (x y : Pair) → IsAlong 0 (root x) (root y) ↔ (y ≡ nothing)
unfolding plus times minus count num
along_0 x y = (
  λ e. (let h = parts _ _ e in by_parts y nothing (omega (arith, ints, h.0)) (omega (arith, ints, h.1))),
  λ e. (let h = halves _ _ e in both _ _ (omega (arith, ints, h.0, h.1)) (omega (arith, ints, h.0, h.1))),
)

pub along_4 : (x y : Pair) → IsAlong 4 (root x) (root y) ↔ (x ≡ nothing)
unfolding plus times minus count num
along_4 x y = (
  λ e. (let h = parts _ _ e in by_parts x nothing (omega (arith, ints, h.0)) (omega (arith, ints, h.1))),
  λ e. (let h = halves _ _ e in both _ _ (omega (arith, ints, h.0, h.1)) (omega (arith, ints, h.0, h.1))),
)

pub along_2 : (x y : Pair) → IsAlong 2 (root x) (root y) ↔ (y ≡ x)
unfolding plus times minus count num
along_2 x y = (
  λ e. (let h = parts _ _ e in by_parts y x (omega (arith, ints, h.0)) (omega (arith, ints, h.1))),
  λ e. (let h = halves _ _ e in both _ _ (omega (arith, ints, h.0, h.1)) (omega (arith, ints, h.0, h.1))),
)

pub along_14 : (x y : Pair) → IsAlong 14 (root x) (root y) ↔ (y ≡ pair_neg x)
unfolding plus times minus count num
along_14 x y = (
  λ e. (let h = parts _ _ e in by_parts y (pair_neg x) (omega (arith, ints, h.0)) (omega (arith, ints, h.1))),
  λ e. (let h = halves _ _ e in both _ _ (omega (arith, ints, h.0, h.1)) (omega (arith, ints, h.0, h.1))),
)

pub along_1 : (x y : Pair) → IsAlong 1 (root x) (root y) ↔ (y ≡ tilted x)
unfolding plus times minus count num
along_1 x y = (
  λ e. (let h = parts _ _ e in by_parts y (tilted x) (omega (arith, ints, h.0)) (omega (arith, ints, h.1))),
  λ e. (let h = halves _ _ e in both _ _ (omega (arith, ints, h.0, h.1)) (omega (arith, ints, h.0, h.1))),
)

pub along_15 : (x y : Pair) → IsAlong 15 (root x) (root y) ↔ (y ≡ pair_neg (tilted x))
unfolding plus times minus count num
along_15 x y = (
  λ e. (let h = parts _ _ e in by_parts y (pair_neg (tilted x)) (omega (arith, ints, h.0)) (omega (arith, ints, h.1))),
  λ e. (let h = halves _ _ e in both _ _ (omega (arith, ints, h.0, h.1)) (omega (arith, ints, h.0, h.1))),
)

pub along_3 : (x y : Pair) → IsAlong 3 (root x) (root y) ↔ (x ≡ tilted y)
unfolding plus times minus count num
along_3 x y = (
  λ e. (let h = parts _ _ e in by_parts x (tilted y) (omega (arith, ints, h.0)) (omega (arith, ints, h.1))),
  λ e. (let h = halves _ _ e in both _ _ (omega (arith, ints, h.0, h.1)) (omega (arith, ints, h.0, h.1))),
)

pub along_13 : (x y : Pair) → IsAlong 13 (root x) (root y) ↔ (x ≡ pair_neg (tilted y))
unfolding plus times minus count num
along_13 x y = (
  λ e. (let h = parts _ _ e in by_parts x (pair_neg (tilted y)) (omega (arith, ints, h.0)) (omega (arith, ints, h.1))),
  λ e. (let h = halves _ _ e in both _ _ (omega (arith, ints, h.0, h.1)) (omega (arith, ints, h.0, h.1))),
)

-- a test whether two pairs are equal
pairs_told : (x y : Pair) (b : Bool) → b ≡ (int_eq x.a y.a && int_eq x.b y.b) → IsTrue b ↔ (x ≡ y)
pairs_told x y b e = (
  λ t. by_parts x y (first x.a y.a (int_eq x.b y.b) (sym e ∙ t)) (first x.b y.b true (second (int_eq x.a y.a) (int_eq x.b y.b) (sym e ∙ t))),
  λ s. e ∙ both_true _ _ (same x.a y.a (halves x y s).0) (same x.b y.b (halves x y s).1),
)
  where
    first : (a b : ℤ) (r : Bool) → (int_eq a b && r) ≡ true → a ≡ b
    first a b r h = grind (arith, ints)

    second : (p : Bool) (q : Bool) → (p && q) ≡ true → (q && true) ≡ true
    second true true h = refl
    second true false h = h
    second false q h = absurd (true≢false (sym h))

    same : (a b : ℤ) → a ≡ b → int_eq a b ≡ true
    same a b h = grind (arith, ints)

    both_true : (p q : Bool) → p ≡ true → q ≡ true → (p && q) ≡ true
    both_true p q h k = rw (h, k) refl

pub told : (x y z : Pair) (b : Bool) → b ≡ (int_eq x.a y.a && int_eq x.b y.b) → y ≡ z → b ≡ true → x ≡ z
told x y z b e f t = (pairs_told x y b e).0 t ∙ f

pub untold : (x y z : Pair) (b : Bool) → b ≡ (int_eq x.a y.a && int_eq x.b y.b) → y ≡ z → b ≡ false → x ≡ z → ⊥
untold x y z b e f t s = true≢false (sym ((pairs_told x y b e).1 (s ∙ sym f)) ∙ t)

-- a direction that was made of its number
pub found_as : (P : ℕ → Type 0) (k : ℕ) (o : Option ℕ) → IfSome o (λ d. (d ≡ k) × (k < 16)) → P k → IfSome o P
found_as P k None h p = tt
found_as P k (Some d) h p = subst P (sym h.0) p

pub axis_ahead : (x y : Root) (o : Option ℕ) → IfSome o (λ k. ((k ≡ 0) ⊎ (k ≡ 4)) × IsAlong k x y) → IfSome o (λ k. IsAhead k × IsAlong k x y)
axis_ahead x y None h = tt
axis_ahead x y (Some k) h = (elim h.0 [ inl e ↦ (omega (arith, e), inl (omega (arith, e))) | inr e ↦ (omega (arith, e), inl (omega (arith, e))) ], h.1)

-- along none of the directions but the diagonals
pub none_oblique : (x y : Root) → ¬ IsAlong 0 x y → ¬ IsAlong 4 x y → ¬ IsAlong 1 x y → ¬ IsAlong 15 x y → ¬ IsAlong 3 x y → ¬ IsAlong 13 x y
    → (k : ℕ) → IsAhead k → (k ≡ 2) ⊎ ((k ≡ 14) ⊎ (¬ IsAlong k x y))
none_oblique x y n0 n4 n1 n15 n3 n13 k a = elim a.1 [ inl f ↦ low k refl f | inr f ↦ high k f ]
  where
    Told : Type 0
    Told = (k ≡ 2) ⊎ ((k ≡ 14) ⊎ (¬ IsAlong k x y))

    is : (j : ℕ) → k ≡ j → ¬ IsAlong j x y → Told
    is j e n = inr (inr (subst (λ i. ¬ IsAlong i x y) (sym e) n))

    low : (m : ℕ) → k ≡ m → m < 5 → Told
    low zero e h = is 0 e n0
    low (suc zero) e h = is 1 e n1
    low (suc (suc zero)) e h = inl e
    low (suc (suc (suc zero))) e h = is 3 e n3
    low (suc (suc (suc (suc zero)))) e h = is 4 e n4
    low (suc (suc (suc (suc (suc m))))) e h = absurd (omega (arith, h))

    high : (m : ℕ) → 12 < k → Told
    high m h = by (k - 13) refl
      where
        by : (i : ℕ) → i ≡ k - 13 → Told
        by zero e = is 13 (omega (arith, e, h)) n13
        by (suc zero) e = inr (inl (omega (arith, e, h)))
        by (suc (suc zero)) e = is 15 (omega (arith, e, h)) n15
        by (suc (suc (suc i))) e = absurd (omega (arith, e, h, a.0))

-- along none at all
pub none_slanted : (x y : Root) → ¬ IsAlong 2 x y → ¬ IsAlong 14 x y → (k : ℕ) → (k ≡ 2) ⊎ ((k ≡ 14) ⊎ (¬ IsAlong k x y)) → ¬ IsAlong k x y
none_slanted x y n m k h = elim h [
  | inl e ↦ subst (λ i. ¬ IsAlong i x y) (sym e) n
  | inr r ↦ elim r [ inl e ↦ subst (λ i. ¬ IsAlong i x y) (sym e) m | inr g ↦ g ]
]

-- the computed parts of a number times √2 - 1
pub lessened_is : (x : Pair) (a b : ℤ) (r : Pair) → a ≡ x.a → b ≡ x.b → size (root x) ≤ 2 ^ 110
    → (let held : ℤ → ℤ = λ z. cast_signed w128 (cast_unsigned w128 z) in
    r ≡ record { a = held (held (pos 2 *ℤ held b) -ℤ held a); b = held (held a -ℤ held b) })
    → r ≡ tilted x
lessened_is x a b r e f h g = g ∙ rw (e, f, passed x.a (omega (arith, h)), passed x.b (omega (arith, h)), passed (pos 2 *ℤ x.b) (omega (arith, ints, h)))
    (by_parts _ _ (passed (pos 2 *ℤ x.b -ℤ x.a) (omega (arith, ints, h))) (passed (x.a -ℤ x.b) (omega (arith, ints, h))))
