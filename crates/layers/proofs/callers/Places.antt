-- Steps of the table of places, and the neighbours in a cyclic list.
use Rattle.std.proofs.Common.{◌≡◌, ◌≤◌, ◌<◌, ◌+◌, ◌-◌, ◌%◌, ℕ, zero, suc, arith, refl, ap, inl, inr, List, eqb, eq-eqb, true}
use Rattle.std.specs.Prelude.{pos, ◌+ℤ◌, ◌-ℤ◌}
use Rattle.std.proofs.lemmas.Int.{ints}
use Rattle.std.proofs.lemmas.Bool.{cases_Bool, cases_eq, eqb-true}
use Rattle.layers.specs.Sectors.{Sector, sector_at, behind}
use Rattle.layers.specs.LayerOrder.{place, before}

pub place_zero : (sectors : List Sector) → place sectors 0 ≡ pos 0
unfolding place
place_zero sectors = refl

pub place_up : (sectors : List Sector) (i : ℕ) → i % 2 ≡ 0 → place sectors (suc i) ≡ place sectors i +ℤ pos (sector_at sectors i).angle
unfolding place
place_up sectors i e = let t : eqb (i % 2) 0 ≡ true = eq-eqb (i % 2) 0 e in rw t refl

pub place_down : (sectors : List Sector) (i : ℕ) → i % 2 ≡ 1 → place sectors (suc i) ≡ place sectors i -ℤ pos (sector_at sectors i).angle
unfolding place
place_down sectors i e = elim (cases_Bool (eqb (i % 2) 0)) [ inl t ↦ let f : i % 2 ≡ 0 = eqb-true (i % 2) 0 t in absurd (omega arith) | inr t ↦ rw t refl ]

pub up_more : (sectors : List Sector) (k x y : ℕ) → k % 2 ≡ 0 → y ≡ x + (sector_at sectors k).angle → pos x ≡ place sectors k +ℤ pos 4096 → pos y ≡ place sectors (k + 1) +ℤ pos 4096
up_more sectors k x y o e f = let g : k + 1 ≡ suc k = omega arith in let h : place sectors (k + 1) ≡ place sectors (suc k) = ap (place sectors) g in let u = place_up sectors k o in omega (arith, ints)

pub down_more : (sectors : List Sector) (k x y : ℕ) → k % 2 ≡ 1 → (sector_at sectors k).angle ≤ x → y ≡ x - (sector_at sectors k).angle → pos x ≡ place sectors k +ℤ pos 4096 → pos y ≡ place sectors (k + 1) +ℤ pos 4096
down_more sectors k x y o l e f = let g : k + 1 ≡ suc k = omega arith in let h : place sectors (k + 1) ≡ place sectors (suc k) = ap (place sectors) g in let u = place_down sectors k o in omega (arith, ints)

pub before_first : (n i : ℕ) → i ≡ 0 → n - 1 ≡ before n i
unfolding before
before_first n zero e = refl
before_first n (suc i) e = absurd (omega arith)

pub before_later : (n i : ℕ) → 0 < i → i - 1 ≡ before n i
unfolding before
before_later n zero h = absurd (omega arith)
before_later n (suc i) h = omega arith

pub behind_last : (n i : ℕ) → i + 1 ≡ n → 0 ≡ behind n i
unfolding behind
behind_last n i e = let t : eqb (i + 1) n ≡ true = eq-eqb (i + 1) n e in rw t refl

pub behind_other : (n i : ℕ) → (i + 1 ≡ n → ⊥) → i + 1 ≡ behind n i
unfolding behind
behind_other n i h = elim (cases_Bool (eqb (i + 1) n)) [ inl t ↦ absurd (h (eqb-true (i + 1) n t)) | inr f ↦ rw f refl ]

pub before_lt : (n i : ℕ) → i < n → before n i < n
unfolding before
before_lt n zero h = omega arith
before_lt n (suc i) h = omega arith

pub behind_inner : (n i : ℕ) → i + 1 < n → behind n i ≡ suc i
unfolding behind
behind_inner n i h = elim (cases_Bool (eqb (i + 1) n)) [ inl t ↦ let e : i + 1 ≡ n = eqb-true (i + 1) n t in absurd (omega arith) | inr f ↦ let e : i + 1 ≡ suc i = omega arith in rw f e ]

pub behind_outer : (n i : ℕ) → i + 1 ≡ n → behind n i ≡ 0
unfolding behind
behind_outer n i e = let t : eqb (i + 1) n ≡ true = eq-eqb (i + 1) n e in rw t refl

pub behind_lt : (n i : ℕ) → i < n → behind n i < n
behind_lt n i h = elim (cases_eq (i + 1) n) [ inl e ↦ let f = behind_outer n i e in omega arith | inr e ↦ let f = behind_inner n i (omega arith) in omega arith ]
