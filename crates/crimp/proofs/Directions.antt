-- The sectors of a star: their first directions ascend, and their angles make a full turn.
use Rattle.std.proofs.Common.{◌≡◌, ◌≤◌, ◌<◌, ◌+◌, ◌-◌, ◌%◌, ℕ, zero, suc, arith, ap, ◌∙◌, inl, inr, List, [], ◌∷◌, ◌++◌, length, take}
use Rattle.std.proofs.lemmas.Bool.{cases_eq}
use Rattle.std.proofs.lemmas.List.{take_more, take_all}
use Rattle.sheet.specs.declared.mark.Mark.TheVariants as kind
use Rattle.layers.specs.declared.sector_list.Sector.{Sector}
use Rattle.layers.specs.Star.{ray_at}
use Rattle.layers.specs.Sectors.{sector_at, AreSectors}
use Rattle.crimp.specs.Crimps.{AllOpen}
use Rattle.layers.proofs.callers.Places.{behind_inner, behind_outer}

-- the sum of the angles
unfoldable pub angles : List Sector → ℕ
angles [] = 0
angles (s ∷ ss) = s.angle + angles ss

module _ (ss : List Sector) (A : AreSectors ss) where
  dir : ℕ → ℕ
  dir i = (ray_at A.rays i).dir

  long : length ss ≡ length A.rays
  long = A.of.long

  rises_to : (a b : ℕ) → a ≤ b → b < length ss → dir a ≤ dir b
  unfolding dir
  rises_to a zero l h = let e : a ≡ zero = omega arith in let f : dir a ≡ dir zero = ap dir e in omega arith
  rises_to a (suc b) l h = elim (cases_eq a (suc b)) [
    | inl e ↦ let f : dir a ≡ dir (suc b) = ap dir e in omega arith
    | inr n ↦ let g = rises_to a b (omega arith) (omega arith) in let m = long in let s = A.star.ascends b (omega arith) in
        let f : dir (b + 1) ≡ dir (suc b) = ap dir (let e : b + 1 ≡ suc b = omega arith in e) in omega arith
  ]

  pub firsts_ascend : (a b : ℕ) → a ≤ b → b < length ss → (sector_at ss a).first ≤ (sector_at ss b).first
  unfolding dir
  firsts_ascend a b l h = let m = long in let e = (A.of.each a (omega arith)).first in let f = (A.of.each b (omega arith)).first in let g = rises_to a b l h in omega arith

  inner : (i : ℕ) → i + 1 < length ss → (sector_at ss i).angle + dir i ≡ dir (i + 1)
  unfolding dir
  inner i h = let m = long in let S = A.of.each i (omega arith) in let a = S.some in let b = S.turn in let c = S.first in
      let r : ((sector_at ss i).first + (sector_at ss i).angle) % 16 ≡ dir (i + 1) =
      S.reaches ∙ ap dir (behind_inner (length A.rays) i (omega arith)) ∙ ap dir (let e : suc i ≡ i + 1 = omega arith in e) in
      let u = A.star.ascends i (omega arith) in let v = A.star.directions (i + 1) (omega arith) in omega arith

  last : (i : ℕ) → i + 1 ≡ length ss → (sector_at ss i).angle + dir i ≡ dir 0 + 16
  unfolding dir
  last i h = let m = long in let S = A.of.each i (omega arith) in let a = S.some in let b = S.turn in let c = S.first in
      let r : ((sector_at ss i).first + (sector_at ss i).angle) % 16 ≡ dir 0 = S.reaches ∙ ap dir (behind_outer (length A.rays) i (omega arith)) in
      let u = rises_to 0 i (omega arith) (omega arith) in let v = A.star.directions i (omega arith) in let w = A.star.directions 0 (omega arith) in omega arith

  angles-append : (xs ys : List Sector) → angles (xs ++ ys) ≡ angles xs + angles ys
  unfolding angles
  angles-append [] ys = omega arith
  angles-append (x ∷ xs) ys = let e = angles-append xs ys in omega arith

  angles_more : (i : ℕ) → i < length ss → angles (take (i + 1) ss) ≡ angles (take i ss) + (sector_at ss i).angle
  unfolding angles
  angles_more i h = ap angles (take_more ss i (record { first = 0; mark = kind.M; angle = 0 }) h) ∙ angles-append (take i ss) (sector_at ss i ∷ []) ∙ omega arith

  sum_to : (i : ℕ) → i < length ss → angles (take i ss) + dir 0 ≡ dir i
  unfolding angles
  sum_to zero h = omega arith
  sum_to (suc i) h = let e = sum_to i (omega arith) in let f = angles_more i (omega arith) in let g = inner i (omega arith) in
      let n : i + 1 ≡ suc i = omega arith in let p : angles (take (i + 1) ss) ≡ angles (take (suc i) ss) = ap (λ k. angles (take k ss)) n in let q : dir (i + 1) ≡ dir (suc i) = ap dir n in omega arith

  pub full_turn : 1 ≤ length ss → angles ss ≡ 16
  full_turn h = let i = length ss - 1 in let e = sum_to i (omega arith) in let f = angles_more i (omega arith) in let g = last i (omega arith) in
      let n : i + 1 ≡ length ss = omega arith in let p : angles (take (i + 1) ss) ≡ angles ss = ap (λ k. angles (take k ss)) n ∙ ap angles (take_all (length ss) ss (omega arith)) in omega arith

  pub all_open : AllOpen ss
  all_open j h = let m = long in (A.of.each j (omega arith)).some
