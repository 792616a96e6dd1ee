-- The two least of a set, as the set grows.
use Rattle.std.proofs.Common.{◌≡◌, ℕ, ◌⊎◌, arith, sym, subst, inl, inr}
use Rattle.std.specs.Prelude.{pos, neg_ℤ, ◌+ℤ◌, ◌-ℤ◌}
use Rattle.std.proofs.lemmas.Int.{ints}
use Rattle.exact.specs.Number.{Positive}
use Rattle.exact.proofs.Positive.{moved, positive_sum}
use Rattle.lattice.specs.Found.{IsBelow, AreSameNumerators, Holds, Inserts}
use Rattle.lattice.specs.declared.found.Numerators.{Numerators}
use Rattle.lattice.specs.declared.found.Found.{Found}
use Rattle.lattice.specs.declared.found.Found.TheVariants.{Nothing, One, Two}

spot_of : (p q p' q' : ℕ) → p ≡ p' → q ≡ q' → (let s : Numerators = record { whole = p; root = q } in s) ≡ record { whole = p'; root = q' }
spot_of p q p' q' e f = cc

pub spot_is : (s t : Numerators) → AreSameNumerators s t → s ≡ t
spot_is s t e = spot_of s.whole s.root t.whole t.root e.whole e.root

pub below_on : (s t u : Numerators) → IsBelow s t → IsBelow t u → IsBelow s u
below_on s t u h k = record { below = moved _ _ _ _ (sym (over s.whole t.whole u.whole)) (sym (over s.root t.root u.root)) (positive_sum _ _ _ _ h.below k.below) }
  where
    over : (a b c : ℕ) → (pos b -ℤ pos a) +ℤ (pos c -ℤ pos b) ≡ pos c -ℤ pos a
    over a b c = omega (arith, ints)

-- of the same set
pub holds_same : (S T : Numerators → Type 0) (f : Found) → ((s : Numerators) → S s → T s) → ((s : Numerators) → T s → S s) → Holds S f → Holds T f
holds_same S T Nothing to from h = λ s a. h s (from s a)
holds_same S T (One t) to from h = (to t h.0, λ s a. h.1 s (from s a))
holds_same S T (Two t u) to from h = (to t h.0, to u h.1, h.2, λ s a. h.3 s (from s a))

at : (T : Numerators → Type 0) (s t : Numerators) → t ≡ s → T s → T t
at T s t e h = subst T (sym e) h

-- of a set with one more number
pub holds_with : (S T : Numerators → Type 0) (f g : Found) (z : Numerators) → Inserts f z g → ((s : Numerators) → S s → T s) → T z → ((s : Numerators) → T s → S s ⊎ AreSameNumerators s z) → Holds S f → Holds T g
holds_with S T Nothing (One t) z e to here from h =
    rw e (here, λ s a. elim (from s a) [ inl b ↦ absurd (h s b) | inr b ↦ b ])
holds_with S T (One f) (One t) z e to here from h =
    rw e.1 (to f h.0, λ s a. elim (from s a) [ inl b ↦ h.1 s b | inr b ↦ subst (λ y. AreSameNumerators y f) (sym (spot_is s z b)) e.0 ])
holds_with S T (One f) (Two t u) z e to here from h = elim e [
  | inl x ↦ rw (x.1, x.2) (here, to f h.0, x.0, λ s a. elim (from s a) [ inl b ↦ inr (inl (h.1 s b)) | inr b ↦ inl b ])
  | inr x ↦ rw (x.1, x.2) (to f h.0, here, x.0, λ s a. elim (from s a) [ inl b ↦ inl (h.1 s b) | inr b ↦ inr (inl b) ])
]
holds_with S T (Two f g) (Two t u) z e to here from h = elim e [
  | inl x ↦ rw (x.1, x.2) (here, to f h.0, x.0, λ s a. elim (from s a) [ inl b ↦ lowest s b | inr b ↦ inl b ])
  | inr y ↦ elim y [
    | inl x ↦ rw (x.2, x.3) (to f h.0, here, x.0, λ s a. elim (from s a) [ inl b ↦ middle x.1 s b | inr b ↦ inr (inl b) ])
    | inr x ↦ rw (x.1, x.2) (to f h.0, to g h.1, h.2, λ s a. elim (from s a) [ inl b ↦ h.3 s b | inr b ↦ rw (spot_is s z b) x.0 ])
  ]
]
  where
    lowest : (s : Numerators) → S s → AreSameNumerators s z ⊎ (AreSameNumerators s f ⊎ IsBelow f s)
    lowest s b = elim (h.3 s b) [
      | inl i ↦ inr (inl i)
      | inr j ↦ elim j [ inl i ↦ inr (inr (subst (λ y. IsBelow f y) (sym (spot_is s g i)) h.2)) | inr k ↦ inr (inr (below_on f g s h.2 k)) ]
    ]

    middle : IsBelow z g → (s : Numerators) → S s → AreSameNumerators s f ⊎ (AreSameNumerators s z ⊎ IsBelow z s)
    middle zg s b = elim (h.3 s b) [
      | inl i ↦ inl i
      | inr j ↦ elim j [ inl i ↦ inr (inr (subst (λ y. IsBelow z y) (sym (spot_is s g i)) zg)) | inr k ↦ inr (inr (below_on z g s zg k)) ]
    ]
holds_with S T Nothing Nothing z e to here from h = absurd e
holds_with S T Nothing (Two t u) z e to here from h = absurd e
holds_with S T (One f) Nothing z e to here from h = absurd e
holds_with S T (Two f g) Nothing z e to here from h = absurd e
holds_with S T (Two f g) (One t) z e to here from h = absurd e

turned : (a b : ℕ) → neg_ℤ (pos a -ℤ pos b) ≡ pos b -ℤ pos a
turned a b = omega (arith, ints)

equal : (a b : ℕ) → pos a -ℤ pos b ≡ pos 0 → a ≡ b
equal a b e = omega (arith, ints)

-- what an answer of the order means
pub minus_below : (s t : Numerators) → Positive (neg_ℤ (pos s.whole -ℤ pos t.whole)) (neg_ℤ (pos s.root -ℤ pos t.root)) → IsBelow s t
minus_below s t h = record { below = rw (← turned s.whole t.whole, ← turned s.root t.root) h }

pub plus_below : (s t : Numerators) → Positive (pos s.whole -ℤ pos t.whole) (pos s.root -ℤ pos t.root) → IsBelow t s
plus_below s t h = record { below = h }

pub zero_spot : (s t : Numerators) → (pos s.whole -ℤ pos t.whole ≡ pos 0) × (pos s.root -ℤ pos t.root ≡ pos 0) → AreSameNumerators s t
zero_spot s t z = record { whole = equal _ _ z.0; root = equal _ _ z.1 }
