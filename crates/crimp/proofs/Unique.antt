-- The blocked run of a star is one run.
use Rattle.std.proofs.Common.{◌≡◌, ◌≤◌, ◌<◌, ◌+◌, ◌%◌, ℕ, arith, refl, subst, ap, sym, ◌∙◌, inl, inr, List, length, map, get_or}
use Rattle.std.proofs.Math.Nat.{mod-lt}
use Rattle.std.proofs.lemmas.Bool.{cases_order}
use Rattle.std.proofs.lemmas.List.{length-map}
use Rattle.sheet.specs.declared.mark.Mark.TheVariants as kind
use Rattle.layers.specs.declared.sector_list.Sector.{Sector}
use Rattle.layers.specs.Sectors.{sector_at, AreSectors}
use Rattle.crimp.specs.declared.outcome.Run.{Run}
use Rattle.crimp.specs.Cyclic.{Rises}
use Rattle.crimp.specs.Crimps.{joined, after_crimp, CanCrimp}
use Rattle.crimp.specs.Crimps as crimps
use Rattle.crimp.specs.BlockedRun.{IsNext, CrimpsTo, Ended, Goes, IsLeast, IsRun, IsNamedRun, IsBlockedRun}
use Rattle.crimp.proofs.Law.{crimped_map, get_or-map}
use Rattle.crimp.proofs.Rising.{first_of_three, crimped_numbers_of, rises_remove, rising_from}
use Rattle.crimp.proofs.Runs.{rises_at, round_to}

firsts : List Sector → List ℕ
firsts ss = map (λ s. s.first) ss

firsts_at : (ss : List Sector) (i : ℕ) → get_or (firsts ss) i 0 ≡ (sector_at ss i).first
unfolding firsts
firsts_at ss i = get_or-map (λ s. s.first) ss i (record { first = 0; mark = kind.M; angle = 0 })

firsts_length : (ss : List Sector) → length (firsts ss) ≡ length ss
unfolding firsts
firsts_length ss = length-map ss (λ s. s.first)

firsts_after : (ss : List Sector) (i : ℕ) → Rises (firsts ss) → Rises (firsts (after_crimp ss i))
unfolding firsts first_of_three
firsts_after ss i R = subst Rises (sym (crimped_map (λ s. s.first) joined first_of_three (record { first = 0; mark = kind.M; angle = 0 }) (λ p q r. refl) ss i ∙ crimped_numbers_of (map (λ s. s.first) ss) i))
    (rises_remove _ _ (rises_remove (map (λ s. s.first) ss) i R))

-- two places with one first direction are one place
same_place : (ss : List Sector) → Rises (firsts ss) → (i j : ℕ) → i < length ss → j < length ss → (sector_at ss i).first ≤ (sector_at ss j).first → (sector_at ss j).first ≤ (sector_at ss i).first → i ≡ j
same_place ss R i j h k l m = let n = firsts_length ss in let e = firsts_at ss i in let f = firsts_at ss j in
    elim (cases_order i j) [
      | inl o ↦ o
      | inr o ↦ elim o [ inl u ↦ let r = rises_at (firsts ss) R i j u (omega arith) in absurd (omega arith) | inr u ↦ let r = rises_at (firsts ss) R j i u (omega arith) in absurd (omega arith) ]
    ]

ended_same : (ss fs : List Sector) → crimps.Stuck ss → CrimpsTo ss fs → ss ≡ fs
ended_same _ _ s (Ended ss stuck) = refl
ended_same _ _ s (Goes ss fs i N rest) = absurd (s i N.can)

goes_same : (ss fs es : List Sector) (i : ℕ) → Rises (firsts ss) → IsNext ss i → ((gs : List Sector) → CrimpsTo (after_crimp ss i) gs → es ≡ gs) → CrimpsTo ss fs → es ≡ fs
goes_same _ _ es i R N same (Ended ss stuck) = absurd (stuck i N.can)
goes_same _ _ es i R N same (Goes ss fs j M rest) =
    let e : j ≡ i = same_place ss R j i M.can.within N.can.within (M.first i N.can) (N.first j M.can) in same fs (subst (λ k. CrimpsTo (after_crimp ss k) fs) e rest)

one_end : (ss es fs : List Sector) → Rises (firsts ss) → CrimpsTo ss es → CrimpsTo ss fs → es ≡ fs
one_end _ _ fs R (Ended ss stuck) T = ended_same ss fs stuck T
one_end _ _ fs R (Goes ss es i N rest) T = goes_same ss fs es i R N (λ gs U. one_end (after_crimp ss i) es gs (firsts_after ss i R) rest U) T

firsts_end : (ss es : List Sector) → Rises (firsts ss) → CrimpsTo ss es → Rises (firsts es)
firsts_end _ _ R (Ended ss stuck) = R
firsts_end _ _ R (Goes ss es i N rest) = firsts_end (after_crimp ss i) es (firsts_after ss i R) rest

not_shorter : (es : List Sector) (s c d : ℕ) → IsRun es s c → IsRun es s d → c < d → ⊥
not_shorter es s c d C D l = elim C.maximal [
  | inr m ↦ m.1 (D.least c l)
  | inl e ↦ elim D.maximal [
    | inl f ↦ omega arith
    | inr m ↦ let w = C.within in let k = round_to (length es) s ((s + d) % length es) w (mod-lt (s + d) (omega arith)) in let v = k.1 in m.1 (subst (IsLeast es) k.2 (C.least k.0 (omega arith)))
  ]
]

same_run : (r s : Run) → r.from ≡ s.from → r.to ≡ s.to → r.angle ≡ s.angle → r.count ≡ s.count → r ≡ s
same_run r s e f g h =
    ap (λ k. record { from = k; to = r.to; angle = r.angle; count = r.count }) e ∙ ap (λ k. record { from = s.from; to = k; angle = r.angle; count = r.count }) f
    ∙ ap (λ k. record { from = s.from; to = s.to; angle = k; count = r.count }) g ∙ ap (λ k. record { from = s.from; to = s.to; angle = s.angle; count = k }) h

named_same : (es : List Sector) → Rises (firsts es) → (r s : Run) → IsNamedRun es r → IsNamedRun es s → r ≡ s
named_same es R r s N M =
    let e : N.start ≡ M.start = same_place es R N.start M.start N.is.within M.is.within (N.first M.start s.count M.is) (M.first N.start r.count N.is) in
    let C : IsRun es M.start r.count = subst (λ k. IsRun es k r.count) e N.is in
    let h : r.count ≡ s.count = elim (cases_order r.count s.count) [ inl o ↦ o | inr o ↦ elim o [ inl u ↦ absurd (not_shorter es M.start r.count s.count C M.is u) | inr u ↦ absurd (not_shorter es M.start s.count r.count M.is C u) ] ] in
    same_run r s (N.from ∙ ap (λ k. (sector_at es k).first) e ∙ sym M.from)
    (N.to ∙ ap (λ k. (sector_at es ((k + r.count) % length es)).first) e ∙ ap (λ k. (sector_at es ((M.start + k) % length es)).first) h ∙ sym M.to)
    (N.angle ∙ ap (λ k. (sector_at es k).angle) e ∙ sym M.angle) h

star_rises : (ss : List Sector) → AreSectors ss → Rises (firsts ss)
star_rises ss A = rising_from (firsts ss) (λ i h. let n = firsts_length ss in let m = A.of.long in let a = A.star.ascends i (omega arith) in
    let e = firsts_at ss i in let f = firsts_at ss (i + 1) in let g = (A.of.each i (omega arith)).first in let k = (A.of.each (i + 1) (omega arith)).first in omega arith)

pub one_run : (ss : List Sector) (r s : Run) → AreSectors ss → IsBlockedRun ss r → IsBlockedRun ss s → r ≡ s
one_run ss r s A B D =
    let R = star_rises ss A in let e : B.ends ≡ D.ends = one_end ss B.ends D.ends R B.crimping D.crimping in
    named_same D.ends (firsts_end ss D.ends R D.crimping) r s (subst (λ l. IsNamedRun l r) e B.named) D.named
