-- Whichever way a list is crimped, it stays foldable or not.
use Rattle.std.proofs.Common.{◌≡◌, ◌≤◌, ℕ, arith, refl, ap, inl, inr, List, ◌∷◌, length}
use Rattle.std.specs.Prelude.{◌↔◌}
use Rattle.sheet.specs.declared.mark.Mark.TheVariants as kind
use Rattle.layers.specs.declared.sector_list.Sector.{Sector}
use Rattle.layers.specs.Sectors.{sector_at}
use Rattle.layers.specs.LayerOrder.{before}
use Rattle.crimp.specs.Cyclic.{In}
use Rattle.crimp.specs.Crimps.{joined, after_crimp, CanCrimp, Foldable, AllOpen, Crimps, Done, Then}
use Rattle.layers.proofs.callers.Places.{before_lt}
use Rattle.crimp.proofs.Turns.{fronted}
use Rattle.crimp.proofs.Cycle.{in_turn, turn_back}
use Rattle.crimp.proofs.Start.{in_at, in_from}
use Rattle.crimp.proofs.Law.{foldable_before}
use Rattle.crimp.proofs.Converse.{foldable_after}

pub still_open : (ss : List Sector) (i : ℕ) → CanCrimp ss i → AllOpen ss → AllOpen (after_crimp ss i)
still_open ss i K A j h =
    let four = K.four in
    let F = fronted joined (record { first = 0; mark = kind.M; angle = 0 }) ss i (omega arith) K.within in
    let l : (sector_at ss i).angle ≤ (sector_at ss (before (length ss) i)).angle = K.least (before (length ss) i) (before_lt (length ss) i K.within) in
    let ep : (sector_at ss (before (length ss) i)).angle ≡ F.p.angle = ap (λ s. s.angle) F.before_i in
    let eq : (sector_at ss i).angle ≡ F.q.angle = ap (λ s. s.angle) F.at_i in
    let old : (s : Sector) → In (F.p ∷ F.q ∷ F.r ∷ F.rest) s → 1 ≤ s.angle = λ s k.
    let m = in_at (record { first = 0; mark = kind.M; angle = 0 }) ss s (in_turn (F.p ∷ F.q ∷ F.r ∷ F.rest) ss s (turn_back F.whole) k) in
    let e : s.angle ≡ (sector_at ss m.0).angle = ap (λ s. s.angle) m.2 in let a = A m.0 m.1 in omega arith in
    let r = old F.r (inr (inr (inl refl))) in
    elim (in_turn (after_crimp ss i) (joined F.p F.q F.r ∷ F.rest) (sector_at (after_crimp ss i) j) F.less (in_from (record { first = 0; mark = kind.M; angle = 0 }) (after_crimp ss i) j h)) [
      | inl e ↦ let f : (sector_at (after_crimp ss i) j).angle ≡ (joined F.p F.q F.r).angle = ap (λ s. s.angle) e in omega arith
      | inr k ↦ old (sector_at (after_crimp ss i) j) (inr (inr (inr k)))
    ]

pub same_ends : (ss es : List Sector) → Crimps ss es → AllOpen ss → (Foldable ss ↔ Foldable es)
same_ends _ _ (Done _) A = (λ f. f, λ f. f)
same_ends _ _ (Then ss es i K c) A =
    let k = same_ends (after_crimp ss i) es c (still_open ss i K A) in
    (λ f. k.0 (foldable_after ss i K A f.0 f.1), λ f. let g = k.1 f in foldable_before ss i K g.0 g.1)
