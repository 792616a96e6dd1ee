-- The numbers that the search has gone over.
use Rattle.std.proofs.Common.{◌≡◌, ℕ, ◌+◌, ◌*◌, ◌<◌, ◌⊎◌, arith, refl, ap, subst, inl, inr, ◌∙◌}
use Rattle.std.proofs.lemmas.Bool.{cases_lt}
use Rattle.lattice.specs.Search.{Fits, IsSeen}
use Rattle.lattice.specs.Found.{Holds, Inserts}
use Rattle.lattice.specs.declared.found.Numerators.{Numerators}
use Rattle.lattice.specs.declared.found.Found.{Found}
use Rattle.lattice.specs.declared.search.Window.{Window}
use Rattle.lattice.proofs.Sets.{holds_same, holds_with}
use Rattle.lattice.proofs.Fitting.{above_field, below_field}

grown : (w : Window) (n j : ℕ) (s : Numerators) → IsSeen w n j s → IsSeen w n (j + 1) s
grown w n j s h = record { seen = (h.seen.0, h.seen.1, h.seen.2, h.seen.3, elim h.seen.4 [ inl a ↦ inl a | inr a ↦ inr (a.0, omega (arith, a.1)) ]) }

-- seen before, or just now
parted : (w : Window) (n j : ℕ) (s : Numerators) → IsSeen w n (j + 1) s → IsSeen w n j s ⊎ ((i : ℕ) × (s.whole ≡ n * w.d + i) × (s.root ≡ j) × Fits w n i j)
parted w n j s h = elim h.seen.4 [
  | inl a ↦ inl (record { seen = (h.seen.0, h.seen.1, h.seen.2, h.seen.3, inl a) })
  | inr a ↦ elim (cases_lt s.root j) [
    | inl lt ↦ inl (record { seen = (h.seen.0, h.seen.1, h.seen.2, h.seen.3, inr (a.0, lt)) })
    | inr ge ↦ (
        let e : s.root ≡ j = omega (arith, a.1, ge) in
        inr (h.seen.1, h.seen.2 ∙ ap (λ m. m * w.d + h.seen.1) a.0, e, subst (λ m. Fits w m h.seen.1 j) a.0 (subst (λ r. Fits w h.seen.0 h.seen.1 r) e h.seen.3)))
  ]
]

pub seen_none : (w : Window) (n j : ℕ) (f : Found) → ((q : ℕ) → Fits w n q j → ⊥) → Holds (IsSeen w n j) f → Holds (IsSeen w n (j + 1)) f
seen_none w n j f none h = holds_same (IsSeen w n j) (IsSeen w n (j + 1)) f (grown w n j) (λ s a. elim (parted w n j s a) [ inl b ↦ b | inr b ↦ absurd (none b.0 b.3) ]) h

pub seen_more : (w : Window) (n j i : ℕ) (f g : Found) → Fits w n i j → ((q : ℕ) → Fits w n q j → q ≡ i) → Inserts f (record { whole = n * w.d + i; root = j }) g → Holds (IsSeen w n j) f → Holds (IsSeen w n (j + 1)) g
seen_more w n j i f g fit only e h =
    holds_with (IsSeen w n j) (IsSeen w n (j + 1)) f g (record { whole = n * w.d + i; root = j }) e (grown w n j)
    (record { seen = (n, i, refl, fit, inr (refl, omega arith)) })
    (λ s a. elim (parted w n j s a) [ inl b ↦ inl b | inr b ↦ inr (record { whole = b.1 ∙ ap (λ q. n * w.d + q) (only b.0 b.3); root = b.2 }) ])
    h

widened : (w : Window) (n j : ℕ) (s : Numerators) → IsSeen w n j s → IsSeen w (n + 1) 0 s
widened w n j s h = record { seen = (h.seen.0, h.seen.1, h.seen.2, h.seen.3, inl (elim h.seen.4 [ inl a ↦ omega (arith, a) | inr a ↦ omega (arith, a.0) ])) }

narrowed : (w : Window) (n : ℕ) (s : Numerators) → IsSeen w (n + 1) 0 s → IsSeen w n (2 * w.k + 1) s
narrowed w n s h = elim h.seen.4 [
  | inl a ↦ record { seen = (h.seen.0, h.seen.1, h.seen.2, h.seen.3, elim (cases_lt h.seen.0 n) [ inl lt ↦ inl lt | inr ge ↦ inr (omega (arith, a, ge), omega (arith, h.seen.3.j_small)) ]) }
  | inr a ↦ absurd (omega (arith, a.1))
]

-- a whole field
pub seen_field : (w : Window) (n : ℕ) (f : Found) → Holds (IsSeen w n (2 * w.k + 1)) f → Holds (IsSeen w (n + 1) 0) f
seen_field w n f h = holds_same (IsSeen w n (2 * w.k + 1)) (IsSeen w (n + 1) 0) f (widened w n (2 * w.k + 1)) (narrowed w n) h

-- a field with none
pub seen_skipped : (w : Window) (n : ℕ) (f : Found) → ((i j : ℕ) → Fits w n i j → ⊥) → Holds (IsSeen w n 0) f → Holds (IsSeen w (n + 1) 0) f
seen_skipped w n f none h = holds_same (IsSeen w n 0) (IsSeen w (n + 1) 0) f (widened w n 0) back h
  where
    back : (s : Numerators) → IsSeen w (n + 1) 0 s → IsSeen w n 0 s
    back s a = elim a.seen.4 [
      | inl b ↦ elim (cases_lt a.seen.0 n) [
        | inl lt ↦ record { seen = (a.seen.0, a.seen.1, a.seen.2, a.seen.3, inl lt) }
        | inr ge ↦ absurd (none a.seen.1 s.root (subst (λ m. Fits w m a.seen.1 s.root) (let e : a.seen.0 ≡ n = omega (arith, b, ge) in e) a.seen.3))
      ]
      | inr b ↦ absurd (omega (arith, b.1))
    ]

pub seen_above : (w : Window) (n : ℕ) (f : Found) → w.d * w.reach < w.d * (n * 400000000000000) → Holds (IsSeen w n 0) f → Holds (IsSeen w (n + 1) 0) f
seen_above w n f far h = seen_skipped w n f (λ i j a. omega (arith, above_field w n i j a, far)) h

pub seen_below : (w : Window) (n : ℕ) (f : Found) → w.d * ((n + 1) * 400000000000000) + 2 * w.spread < w.d * w.reach → Holds (IsSeen w n 0) f → Holds (IsSeen w (n + 1) 0) f
seen_below w n f far h = seen_skipped w n f (λ i j a. omega (arith, below_field w n i j a, far)) h
