-- Each list of sectors has an end of its crimping.
use Rattle.std.proofs.Common.{◌≡◌, ◌≤◌, ◌<◌, ◌+◌, ◌-◌, ℕ, zero, suc, arith, subst, ap, ◌∙◌, ◌⊎◌, inl, inr, List, ◌∷◌, length}
use Rattle.std.proofs.lemmas.Bool.{cases_lt, cases_eq}
use Rattle.sheet.specs.declared.mark.Mark.{Mark}
use Rattle.sheet.specs.declared.mark.Mark.TheVariants as kind
use Rattle.layers.specs.declared.sector_list.Sector.{Sector}
use Rattle.layers.specs.Sectors.{sector_at, behind}
use Rattle.crimp.specs.Crimping.{Opposite}
use Rattle.crimp.specs.Crimps.{joined, after_crimp, CanCrimp}
use Rattle.crimp.specs.Crimps as crimps
use Rattle.crimp.specs.BlockedRun.{IsNext, CrimpsTo, Ended, Goes}
use Rattle.crimp.proofs.Turns.{fronted}
use Rattle.crimp.proofs.Cycle.{length_turn}
use Rattle.crimp.proofs.Stuck.{least_one, opposite_or}

not_opposite : (m n : Mark) → m ≡ n → Opposite m n → ⊥
not_opposite kind.M kind.M e h = h
not_opposite kind.V kind.V e h = h
not_opposite kind.M kind.V e h = cc
not_opposite kind.V kind.M e h = cc

decide_can : (ss : List Sector) (i : ℕ) → CanCrimp ss i ⊎ (CanCrimp ss i → ⊥)
decide_can ss i = elim (cases_lt (length ss) 4) [
  | inl l ↦ inr (λ K. let f = K.four in absurd (omega arith))
  | inr four ↦ elim (cases_lt i (length ss)) [
    | inr w ↦ inr (λ K. let v = K.within in absurd (omega arith))
    | inl w ↦
        let m = least_one (λ j. (sector_at ss j).angle) (length ss - 1) in let v = m.1.0 in
        elim (cases_lt (sector_at ss m.0).angle (sector_at ss i).angle) [
          | inl l ↦ inr (λ K. let k = K.least m.0 (omega arith) in absurd (omega arith))
          | inr l ↦ elim (opposite_or (sector_at ss i).mark (sector_at ss (behind (length ss) i)).mark) [
            | inl o ↦ inl (record { four = four; within = w; least = λ j h. let k = m.1.1 j (omega arith) in omega arith; opposite = o })
            | inr e ↦ inr (λ K. not_opposite (sector_at ss i).mark (sector_at ss (behind (length ss) i)).mark e K.opposite)
          ]
        ]
  ]
]

record Best (ss : List Sector) (k i : ℕ) : Type 0 where
  can : CanCrimp ss i
  first : (j : ℕ) → j < k → CanCrimp ss j → (sector_at ss i).first ≤ (sector_at ss j).first

best : (ss : List Sector) (k : ℕ) → ((i : ℕ) × Best ss k i) ⊎ ((j : ℕ) → j < k → CanCrimp ss j → ⊥)
best ss zero = inr (λ j h K. absurd (omega arith))
best ss (suc k) = elim (decide_can ss k) [
  | inr n ↦ elim (best ss k) [
    | inl b ↦ inl (b.0, record { can = b.1.can; first = λ j h K. elim (cases_eq j k) [ inl e ↦ absurd (n (subst (CanCrimp ss) e K)) | inr m ↦ b.1.first j (omega arith) K ] })
    | inr none ↦ inr (λ j h K. elim (cases_eq j k) [ inl e ↦ n (subst (CanCrimp ss) e K) | inr m ↦ none j (omega arith) K ])
  ]
  | inl K' ↦ elim (best ss k) [
    | inr none ↦ inl (
      k,
      record {
        can = K';
        first = λ j h K. elim (cases_eq j k) [ inl e ↦ let f : (sector_at ss j).first ≡ (sector_at ss k).first = ap (λ i. (sector_at ss i).first) e in omega arith | inr m ↦ absurd (none j (omega arith) K) ];
      },
    )
    | inl b ↦ elim (cases_lt (sector_at ss k).first (sector_at ss b.0).first) [
      | inl l ↦ inl (
        k,
        record {
          can = K';
          first = λ j h K. elim (cases_eq j k) [
            | inl e ↦ let f : (sector_at ss j).first ≡ (sector_at ss k).first = ap (λ i. (sector_at ss i).first) e in omega arith
            | inr m ↦ let g = b.1.first j (omega arith) K in omega arith
          ];
        },
      )
      | inr l ↦ inl (
        b.0,
        record {
          can = b.1.can;
          first = λ j h K. elim (cases_eq j k) [
            | inl e ↦ let f : (sector_at ss j).first ≡ (sector_at ss k).first = ap (λ i. (sector_at ss i).first) e in omega arith
            | inr m ↦ b.1.first j (omega arith) K
          ];
        },
      )
    ]
  ]
]

next_or_stuck : (ss : List Sector) → ((i : ℕ) × IsNext ss i) ⊎ crimps.Stuck ss
next_or_stuck ss = elim (best ss (length ss)) [
  | inl b ↦ inl (b.0, record { can = b.1.can; first = λ j K. b.1.first j K.within K })
  | inr none ↦ inr (λ j K. none j K.within K)
]

pub after_length : (ss : List Sector) (i : ℕ) → CanCrimp ss i → length (after_crimp ss i) + 2 ≡ length ss
after_length ss i K =
    let four = K.four in let F = fronted joined (record { first = 0; mark = kind.M; angle = 0 }) ss i (omega arith) K.within in
    let a : length ss ≡ 3 + length F.rest = length_turn ss (F.p ∷ F.q ∷ F.r ∷ F.rest) F.whole ∙ omega arith in
    let b : length (after_crimp ss i) ≡ 1 + length F.rest = length_turn (after_crimp ss i) (joined F.p F.q F.r ∷ F.rest) F.less ∙ omega arith in omega arith

reach : (n : ℕ) (ss : List Sector) → length ss ≤ n → (es : List Sector) × CrimpsTo ss es
reach zero ss h = (ss, Ended ss (λ i K. let f = K.four in absurd (omega arith)))
reach (suc n) ss h = elim (next_or_stuck ss) [
  | inr stuck ↦ (ss, Ended ss stuck)
  | inl N ↦ let l = after_length ss N.0 N.1.can in let r = reach n (after_crimp ss N.0) (omega arith) in (r.0, Goes ss r.0 N.0 N.1 r.1)
]

-- the end of the crimping
pub crimping_ends : (ss : List Sector) → (es : List Sector) × CrimpsTo ss es
crimping_ends ss = reach (length ss) ss (omega arith)
