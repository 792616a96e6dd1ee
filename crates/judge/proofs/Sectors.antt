-- A star has one list of sectors, each with an angle of at most sixteen units.
use Rattle.std.proofs.Common.{◌≡◌, ◌≤◌, ◌+◌, ◌%◌, ℕ, arith, ap, sym, ◌∙◌, List, length}
use Rattle.std.proofs.lemmas.List.{ext_get_or}
use Rattle.layers.specs.declared.star.Ray.{Ray}
use Rattle.layers.specs.declared.sector_list.Sector.{Sector}
use Rattle.layers.specs.Star.{ray_at}
use Rattle.layers.specs.Sectors.{sector_at, behind, IsSector, AreSectorsOf}

-- one angle leads from a direction to the next one
one_angle : (first a b next : ℕ) → 1 ≤ a → a ≤ 16 → 1 ≤ b → b ≤ 16 → (first + a) % 16 ≡ next → (first + b) % 16 ≡ next → a ≡ b
one_angle first a b next h i j k e f = omega arith

one_sector : (rays : List Ray) (i : ℕ) (s t : Sector) → IsSector rays i s → IsSector rays i t → s ≡ t
one_sector rays i s t S T =
    let first : s.first ≡ t.first = S.first ∙ sym T.first in let mark : s.mark ≡ t.mark = S.mark ∙ sym T.mark in
    let angle : s.angle ≡ t.angle = one_angle s.first s.angle t.angle (ray_at rays (behind (length rays) i)).dir S.some S.turn T.some T.turn S.reaches (ap (λ k. (k + t.angle) % 16) first ∙ T.reaches) in
    ap (λ f. record { first = f; mark = s.mark; angle = s.angle }) first ∙ ap (λ m. record { first = t.first; mark = m; angle = s.angle }) mark ∙ ap (λ a. record { first = t.first; mark = t.mark; angle = a }) angle

pub one_list : (rays : List Ray) (ss ts : List Sector) → AreSectorsOf rays ss → AreSectorsOf rays ts → ss ≡ ts
one_list rays ss ts S T = let n = S.long in let m = T.long in
    ext_get_or _ ss ts (omega arith) (λ i h. one_sector rays i (sector_at ss i) (sector_at ts i) (S.each i (omega arith)) (T.each i (omega arith)))
