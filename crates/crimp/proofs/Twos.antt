-- A layer order of two sectors: their creases have one mark.
use Rattle.std.proofs.Common.{◌≡◌, ℕ, arith, refl, subst, List, length}
use Rattle.sheet.specs.declared.mark.Mark.{Mark}
use Rattle.sheet.specs.declared.mark.Mark.TheVariants as kind
use Rattle.crimp.specs.Rules.{Agrees}
use Rattle.layers.specs.declared.sector_list.Sector.{Sector}
use Rattle.layers.specs.Sectors.{sector_at}
use Rattle.layers.specs.LayerOrder.{before, height, IsLayerOrder}

one_mark : (m n : Mark) (rank : ℕ → ℕ) → Agrees m 1 0 rank → Agrees n 0 1 rank → m ≡ n
one_mark kind.V kind.V rank g h = refl
one_mark kind.M kind.M rank g h = refl
one_mark kind.V kind.M rank g h = let a = g.1 refl in let b = h.0 refl in absurd (omega arith)
one_mark kind.M kind.V rank g h = let a = g.1 refl in let b = h.0 refl in absurd (omega arith)

first_before : before 2 0 ≡ 1
unfolding before
first_before = refl

second_before : before 2 1 ≡ 0
unfolding before
second_before = refl

pub pair_marks : (ss : List Sector) (order : List ℕ) → length ss ≡ 2 → IsLayerOrder ss order → (sector_at ss 0).mark ≡ (sector_at ss 1).mark
pair_marks ss order e L = one_mark (sector_at ss 0).mark (sector_at ss 1).mark (height order)
    (subst (λ a. Agrees (sector_at ss 0).mark a 0 (height order)) first_before (subst (λ n. Agrees (sector_at ss 0).mark (before n 0) 0 (height order)) e (L.agrees 0 (omega arith))))
    (subst (λ a. Agrees (sector_at ss 1).mark a 1 (height order)) second_before (subst (λ n. Agrees (sector_at ss 1).mark (before n 1) 1 (height order)) e (L.agrees 1 (omega arith))))
