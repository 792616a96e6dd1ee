-- The sums of the angles, sector after sector, and how they tell whether the folded sectors close.
use Rattle.std.proofs.Common.{◌≡◌, ◌≤◌, ◌<◌, ◌+◌, ◌%◌, ℕ, zero, suc, arith, refl, ap, sym, ◌∙◌, eqb, eq-eqb, eqb-true, false, true, cond, inl, inr, List, [], ◌∷◌, ◌++◌, length, get_or, append-nil}
use Rattle.std.specs.Prelude.{pos, ◌-ℤ◌}
use Rattle.std.specs.List.{range_with_len, filter, sum_by}
use Rattle.std.proofs.lemmas.Int.{ints}
use Rattle.std.proofs.lemmas.Bool.{cases_Bool, cases_eq, true≢false}
use Rattle.std.proofs.lemmas.List.{get_or_default}
use Rattle.std.proofs.lemmas.List.Sums.{sum_by_push}
use Rattle.std.proofs.lemmas.List.Elements.{filter-append}
use Rattle.sheet.specs.declared.mark.Mark.TheVariants as kind
use Rattle.layers.specs.declared.sector_list.Sector.{Sector}
use Rattle.layers.specs.Sectors.{sector_at}
use Rattle.layers.specs.LayerOrder.{place, ClosesUp}
use Rattle.judge.specs.Conditions.{numbers, angle_sum, MeetsKawasaki}

-- the sum of the angles of the sectors below n with such numbers
unfoldable pub sum_below : ℕ → List Sector → ℕ → ℕ
sum_below rest sectors n = sum_by (λ i. (sector_at sectors i).angle) (numbers rest n)

pub sum_at_end : (rest : ℕ) (sectors : List Sector) → sum_below rest sectors (length sectors) ≡ angle_sum rest sectors
unfolding sum_below angle_sum
sum_at_end rest sectors = refl

pub sum_at_none : (rest : ℕ) (sectors : List Sector) → sum_below rest sectors 0 ≡ 0
unfolding sum_below numbers
sum_at_none rest sectors = refl

range_more : (a n : ℕ) → range_with_len a (suc n) ≡ range_with_len a n ++ (a + n) ∷ []
range_more a zero = let e : a ≡ a + 0 = omega arith in ap (λ k. k ∷ []) e
range_more a (suc n) = let e : a + 1 + n ≡ a + suc n = omega arith in ap (λ ks. a ∷ ks) (range_more (a + 1) n) ∙ ap (λ k. a ∷ (range_with_len (a + 1) n ++ k ∷ [])) e

numbers_more : (rest n : ℕ) → numbers rest (suc n) ≡ numbers rest n ++ filter (λ i. eqb (i % 2) rest) (n ∷ [])
unfolding numbers
numbers_more rest n = let e : 0 + n ≡ n = omega arith in ap (λ ks. filter (λ i. eqb (i % 2) rest) ks) (range_more 0 n) ∙ filter-append (λ i. eqb (i % 2) rest) (range_with_len 0 n) ((0 + n) ∷ [])
    ∙ ap (λ k. filter (λ i. eqb (i % 2) rest) (range_with_len 0 n) ++ filter (λ i. eqb (i % 2) rest) (k ∷ [])) e

odd_else : (n : ℕ) → eqb (n % 2) 0 ≡ false → n % 2 ≡ 1
odd_else n f = elim (cases_eq (n % 2) 0) [ inl e ↦ absurd (true≢false (sym (eq-eqb (n % 2) 0 e) ∙ f)) | inr m ↦ omega arith ]

pub sum_takes : (rest : ℕ) (sectors : List Sector) (n : ℕ) → n % 2 ≡ rest → sum_below rest sectors (suc n) ≡ sum_below rest sectors n + (sector_at sectors n).angle
unfolding sum_below
sum_takes rest sectors n h = let t : eqb (n % 2) rest ≡ true = eq-eqb (n % 2) rest h in
    ap (λ ks. sum_by (λ i. (sector_at sectors i).angle) ks) (numbers_more rest n ∙ ap (λ b. numbers rest n ++ cond b (n ∷ []) []) t) ∙ sum_by_push (λ i. (sector_at sectors i).angle) (numbers rest n) n

pub sum_leaves : (rest : ℕ) (sectors : List Sector) (n : ℕ) → (n % 2 ≡ rest → ⊥) → sum_below rest sectors (suc n) ≡ sum_below rest sectors n
unfolding sum_below
sum_leaves rest sectors n h = elim (cases_Bool (eqb (n % 2) rest)) [
  | inl t ↦ absurd (h (eqb-true (n % 2) rest t))
  | inr f ↦ ap (λ ks. sum_by (λ i. (sector_at sectors i).angle) ks) (numbers_more rest n ∙ ap (λ b. numbers rest n ++ cond b (n ∷ []) []) f ∙ append-nil (numbers rest n))
]

-- the place of a crease is what the even sectors before it go up, less what the odd ones go down
place_is : (sectors : List Sector) (n : ℕ) → place sectors n ≡ pos (sum_below 0 sectors n) -ℤ pos (sum_below 1 sectors n)
unfolding place
place_is sectors zero = let e = sum_at_none 0 sectors in let f = sum_at_none 1 sectors in omega (arith, ints)
place_is sectors (suc n) = let k = place_is sectors n in elim (cases_Bool (eqb (n % 2) 0)) [
  | inl t ↦ let m : n % 2 ≡ 0 = eqb-true (n % 2) 0 t in let e = sum_takes 0 sectors n m in let f = sum_leaves 1 sectors n (λ o. absurd (omega arith)) in rw t (omega (arith, ints))
  | inr t ↦ let m : n % 2 ≡ 1 = odd_else n t in let e = sum_leaves 0 sectors n (λ o. absurd (omega arith)) in let f = sum_takes 1 sectors n m in rw t (omega (arith, ints))
]

place_at_end : (sectors : List Sector) → place sectors (length sectors) ≡ pos (angle_sum 0 sectors) -ℤ pos (angle_sum 1 sectors)
place_at_end sectors = let k = place_is sectors (length sectors) in let e = sum_at_end 0 sectors in let f = sum_at_end 1 sectors in omega (arith, ints)

-- equal sums close the folded sectors
pub closes : (sectors : List Sector) → 1 ≤ length sectors → MeetsKawasaki sectors → ClosesUp sectors
closes sectors some K = let k = place_at_end sectors in let e = K.sums in let f = K.even in record { even = K.even; some = omega arith; closed = omega (arith, ints) }

-- folded sectors that close have equal sums
pub sums_agree : (sectors : List Sector) → ClosesUp sectors → MeetsKawasaki sectors
sums_agree sectors C = let k = place_at_end sectors in let e = C.closed in record { even = C.even; sums = omega (arith, ints) }

pub sum_takes_one : (rest : ℕ) (sectors : List Sector) (n : ℕ) → n % 2 ≡ rest → sum_below rest sectors (n + 1) ≡ sum_below rest sectors n + (sector_at sectors n).angle
sum_takes_one rest sectors n h = let e : n + 1 ≡ suc n = omega arith in rw e (sum_takes rest sectors n h)

pub sum_leaves_one : (rest : ℕ) (sectors : List Sector) (n : ℕ) → (n % 2 ≡ rest → ⊥) → sum_below rest sectors (n + 1) ≡ sum_below rest sectors n
sum_leaves_one rest sectors n h = let e : n + 1 ≡ suc n = omega arith in rw e (sum_leaves rest sectors n h)

-- the angle of a sector that was read from the list
pub angle_read : (sectors : List Sector) (i : ℕ) (read : Sector) → i < length sectors → read ≡ get_or sectors i read → read.angle ≡ (sector_at sectors i).angle
angle_read sectors i read h e = ap (λ s. s.angle) (e ∙ get_or_default sectors i read (record { first = 0; mark = kind.M; angle = 0 }) h)
