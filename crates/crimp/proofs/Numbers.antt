-- The list with which `reduce` begins.
use Rattle.std.proofs.Common.{◌≡◌, ◌≤◌, ◌<◌, ◌+◌, ◌%◌, ℕ, zero, suc, arith, refl, subst, ap, sym, ◌∙◌, List, [], ◌∷◌, ◌++◌, length, take}
use Rattle.std.specs.Prelude.{ℤ, pos}
use Rattle.sheet.specs.declared.mark.Mark.{Mark}
use Rattle.crimp.specs.declared.entries.Entry.{Entry}
use Rattle.layers.specs.declared.sector_list.Sector.{Sector}
use Rattle.layers.specs.Sectors.{sector_at}
use Rattle.layers.specs.LayerOrder.{place, IsLayerOrder}
use Rattle.crimp.specs.Cycle.{numbers_of, entry_at, IsCycle, IsSomeCycle, Layered, numbered, total}
use Rattle.crimp.proofs.Start.{Numbered, start, finish}
use Rattle.crimp.proofs.Directions.{angles}
use Rattle.crimp.proofs.Law.{length-numbered, numbered_at}

pub numbered_more : (k : ℕ) (ss : List Sector) (i : ℕ) → i < length ss → numbered k (take (i + 1) ss) ≡ numbered k (take i ss) ++ record { number = k + i; mark = (sector_at ss i).mark; angle = (sector_at ss i).angle } ∷ []
unfolding numbered
numbered_more k ss i h = let e : i + 1 ≡ suc i = omega arith in subst (λ j. numbered k (take j ss) ≡ numbered k (take i ss) ++ record { number = k + i; mark = (sector_at ss i).mark; angle = (sector_at ss i).angle } ∷ []) (sym e) (more k ss i h)
  where
    more : (k : ℕ) (ss : List Sector) (i : ℕ) → i < length ss → numbered k (take (suc i) ss) ≡ numbered k (take i ss) ++ record { number = k + i; mark = (sector_at ss i).mark; angle = (sector_at ss i).angle } ∷ []
    more k [] i h = absurd (omega arith)
    more k (s ∷ ss) zero h = ap (λ j. record { number = j; mark = s.mark; angle = s.angle } ∷ []) (let e : k ≡ k + 0 = omega arith in e)
    more k (s ∷ ss) (suc i) h = ap (λ ys. record { number = k; mark = s.mark; angle = s.angle } ∷ ys) (more (k + 1) ss i (omega arith)
        ∙ ap (λ j. numbered (k + 1) (take i ss) ++ record { number = j; mark = (sector_at ss i).mark; angle = (sector_at ss i).angle } ∷ []) (let e : k + 1 + i ≡ k + suc i = omega arith in e))

pub numbered_none : numbered 0 [] ≡ []
unfolding numbered
numbered_none = refl

total_numbered : (k : ℕ) (ss : List Sector) → total (numbered k ss) ≡ angles ss
unfolding numbered total angles
total_numbered k [] = refl
total_numbered k (s ∷ ss) = ap (λ n. s.angle + n) (total_numbered (k + 1) ss)

module _ (ss : List Sector) (es : List Entry) (is : es ≡ numbered 0 ss) where
  pub numbers : Numbered ss es
  numbers = record {
    long = ap length is ∙ length-numbered 0 ss;
    at = λ k h. ap (λ fs. entry_at fs k) is ∙ numbered_at 0 ss k h ∙ ap (λ j. record { number = j; mark = (sector_at ss k).mark; angle = (sector_at ss k).angle }) (let e : 0 + k ≡ k = omega arith in e);
  }

  pub total_is : total es ≡ angles ss
  total_is = ap total is ∙ total_numbered 0 ss

  module _ (even : length ss % 2 ≡ 0) (some : 2 ≤ length ss) (closed : place ss (length ss) ≡ pos 0) where
    pub cycle : IsSomeCycle es
    cycle = record { x = place ss; mark = λ i. (sector_at ss i).mark; is = start ss es numbers even some closed }

    pub ordered : (order : List ℕ) → ((x : ℕ → ℤ) (mark : ℕ → Mark) → IsCycle x mark es → Layered x mark (numbers_of es) order) → IsLayerOrder ss order
    ordered order L = finish ss es numbers even some closed order (L (place ss) (λ i. (sector_at ss i).mark) (start ss es numbers even some closed))
