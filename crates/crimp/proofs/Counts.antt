-- Mountains less valleys, which a crimp keeps.
use Rattle.std.proofs.Common.{◌≡◌, ◌+◌, ℕ, arith, refl, subst, ap, sym, ◌∙◌, ◌⊎◌, inl, inr, List, [], ◌∷◌, ◌++◌, length, map, cond}
use Rattle.std.specs.Prelude.{ℤ, pos, ◌+ℤ◌, ◌-ℤ◌}
use Rattle.std.proofs.lemmas.Int.{ints}
use Rattle.std.proofs.lemmas.List.{length-map, ext_get_or}
use Rattle.std.proofs.lemmas.List.Sums.{sum_by-cons}
use Rattle.sheet.specs.declared.mark.Mark.{Mark}
use Rattle.sheet.specs.declared.mark.Mark.TheVariants as kind
use Rattle.layers.specs.declared.star.Ray.{Ray}
use Rattle.layers.specs.declared.sector_list.Sector.{Sector}
use Rattle.layers.specs.Star.{is_mountain, is_valley, mountains, valleys}
use Rattle.layers.specs.Sectors.{sector_at, AreSectorsOf}
use Rattle.crimp.specs.Crimping.{Opposite}
use Rattle.crimp.proofs.Turned.{Turned}
use Rattle.crimp.specs.Crimps.{joined, after_crimp, CanCrimp, AllOpen, Crimps, Done, Then}
use Rattle.crimp.specs.StarLaw.{IsOrderOfStar, CrimpsToPair}
use Rattle.crimp.proofs.Turns.{fronted}
use Rattle.crimp.proofs.Law.{get_or-map}
use Rattle.crimp.proofs.Ending.{any_crimps, pair_end}
use Rattle.crimp.proofs.Reaching.{crimping_ends}

sign : Mark → ℤ
sign kind.M = pos 1
sign kind.V = pos 0 -ℤ pos 1

-- mountains less valleys
balance : List Mark → ℤ
balance [] = pos 0
balance (m ∷ ms) = sign m +ℤ balance ms

marks : List Sector → List Mark
marks ss = map (λ s. s.mark) ss

balance-append : (xs ys : List Mark) → balance (xs ++ ys) ≡ balance xs +ℤ balance ys
unfolding balance
balance-append [] ys = omega (arith, ints)
balance-append (x ∷ xs) ys = let e = balance-append xs ys in omega (arith, ints)

marks-append : (xs ys : List Sector) → marks (xs ++ ys) ≡ marks xs ++ marks ys
unfolding marks
marks-append [] ys = refl
marks-append (x ∷ xs) ys = ap (λ ms. x.mark ∷ ms) (marks-append xs ys)

balance_turn : (xs ys : List Sector) → Turned xs ys → balance (marks xs) ≡ balance (marks ys)
balance_turn xs ys t =
    let e : balance (marks xs) ≡ balance (marks t.front) +ℤ balance (marks t.back) = ap (λ l. balance (marks l)) t.from ∙ ap balance (marks-append t.front t.back) ∙ balance-append (marks t.front) (marks t.back) in
    let f : balance (marks ys) ≡ balance (marks t.back) +ℤ balance (marks t.front) = ap (λ l. balance (marks l)) t.to ∙ ap balance (marks-append t.back t.front) ∙ balance-append (marks t.back) (marks t.front) in
    omega (arith, ints)

cancel : (m n : Mark) → Opposite m n → sign m +ℤ sign n ≡ pos 0
unfolding sign
cancel kind.M kind.V o = refl
cancel kind.V kind.M o = refl
cancel kind.M kind.M o = absurd o
cancel kind.V kind.V o = absurd o

balance_front : (p q r : Sector) (zs : List Sector) → Opposite q.mark r.mark → balance (marks (p ∷ q ∷ r ∷ zs)) ≡ balance (marks (joined p q r ∷ zs))
unfolding balance marks
balance_front p q r zs o = let c = cancel q.mark r.mark o in omega (arith, ints)

balance_crimp : (ss : List Sector) (i : ℕ) → CanCrimp ss i → balance (marks ss) ≡ balance (marks (after_crimp ss i))
balance_crimp ss i K =
    let four = K.four in let F = fronted joined (record { first = 0; mark = kind.M; angle = 0 }) ss i (omega arith) K.within in
    let o : Opposite F.q.mark F.r.mark = subst (λ m. Opposite m F.r.mark) (ap (λ s. s.mark) F.at_i) (subst (λ m. Opposite (sector_at ss i).mark m) (ap (λ s. s.mark) F.behind_i) K.opposite) in
    balance_turn ss (F.p ∷ F.q ∷ F.r ∷ F.rest) F.whole ∙ balance_front F.p F.q F.r F.rest o ∙ sym (balance_turn (after_crimp ss i) (joined F.p F.q F.r ∷ F.rest) F.less)

balance_end : (ss es : List Sector) → Crimps ss es → balance (marks ss) ≡ balance (marks es)
balance_end _ _ (Done ss) = refl
balance_end _ _ (Then ss es i K rest) = balance_crimp ss i K ∙ balance_end (after_crimp ss i) es rest

sum_two : (m n : Mark) → m ≡ n → (sign m +ℤ (sign n +ℤ pos 0) ≡ pos 2) ⊎ (sign m +ℤ (sign n +ℤ pos 0) ≡ pos 0 -ℤ pos 2)
unfolding sign
sum_two kind.M kind.M e = inl refl
sum_two kind.V kind.V e = inr refl
sum_two kind.M kind.V e = cc
sum_two kind.V kind.M e = cc

balance_pair : (es : List Sector) → length es ≡ 2 → (sector_at es 0).mark ≡ (sector_at es 1).mark → (balance (marks es) ≡ pos 2) ⊎ (balance (marks es) ≡ pos 0 -ℤ pos 2)
unfolding balance marks
balance_pair [] n e = absurd (omega arith)
balance_pair (a ∷ []) n e = absurd (omega arith)
balance_pair (a ∷ b ∷ []) n e = sum_two a.mark b.mark e
balance_pair (a ∷ b ∷ c ∷ es) n e = absurd (omega arith)

one_more : (m : Mark) (b : ℤ) (x y : ℕ) → b ≡ pos x -ℤ pos y → sign m +ℤ b ≡ pos (cond (is_mountain m) 1 0 + x) -ℤ pos (cond (is_valley m) 1 0 + y)
unfolding sign
one_more kind.M b x y e = omega (arith, ints)
one_more kind.V b x y e = omega (arith, ints)

balance_rays : (rays : List Ray) → balance (map (λ r. r.mark) rays) ≡ pos (mountains rays) -ℤ pos (valleys rays)
unfolding balance
balance_rays [] = refl
balance_rays (r ∷ rs) =
    let m : mountains (r ∷ rs) ≡ cond (is_mountain r.mark) 1 0 + mountains rs = sum_by-cons (λ (x : Ray). cond (is_mountain x.mark) 1 0) r rs in
    let v : valleys (r ∷ rs) ≡ cond (is_valley r.mark) 1 0 + valleys rs = sum_by-cons (λ (x : Ray). cond (is_valley x.mark) 1 0) r rs in
    one_more r.mark (balance (map (λ r. r.mark) rs)) (mountains rs) (valleys rs) (balance_rays rs) ∙ ap (λ k. pos k -ℤ pos (cond (is_valley r.mark) 1 0 + valleys rs)) (sym m) ∙ ap (λ k. pos (mountains (r ∷ rs)) -ℤ pos k) (sym v)

marks_rays : (rays : List Ray) (ss : List Sector) → AreSectorsOf rays ss → marks ss ≡ map (λ r. r.mark) rays
unfolding marks
marks_rays rays ss O =
    let n = O.long in let a : length (map (λ s. s.mark) ss) ≡ length ss = length-map ss (λ s. s.mark) in let b : length (map (λ r. r.mark) rays) ≡ length rays = length-map rays (λ r. r.mark) in
    ext_get_or kind.M (map (λ s. s.mark) ss) (map (λ r. r.mark) rays) (omega arith)
    (λ i h. get_or-map (λ s. s.mark) ss i (record { first = 0; mark = kind.M; angle = 0 }) ∙ (O.each i (omega arith)).mark ∙ sym (get_or-map (λ r. r.mark) rays i (record { dir = 0; mark = kind.M })))

module _ (rays : List Ray) (order : List ℕ) (L : IsOrderOfStar rays order) where
  all_open : AllOpen L.sectors
  all_open j h = let m = L.of.long in (L.of.each j (omega arith)).some

  pub to_pair : CrimpsToPair rays
  to_pair = let T = crimping_ends L.sectors in let p = pair_end L.sectors T.0 T.1 all_open (order, L.is) in
      record { sectors = L.sectors; of = L.of; ends = T.0; crimping = T.1; pair = record { two = p.0; same = p.1 } }

  pub differ_by_two : (mountains rays ≡ valleys rays + 2) ⊎ (valleys rays ≡ mountains rays + 2)
  differ_by_two =
      let T = crimping_ends L.sectors in let p = pair_end L.sectors T.0 T.1 all_open (order, L.is) in
      let e : balance (marks T.0) ≡ pos (mountains rays) -ℤ pos (valleys rays) = sym (balance_end L.sectors T.0 (any_crimps L.sectors T.0 T.1)) ∙ ap balance (marks_rays rays L.sectors L.of) ∙ balance_rays rays in
      elim (balance_pair T.0 p.0 p.1) [ inl b ↦ inl (omega (arith, ints)) | inr b ↦ inr (omega (arith, ints)) ]
