-- A list in which nothing can be crimped has no layer order.
use Rattle.std.proofs.Common.{◌≡◌, ◌≢◌, ◌≤◌, ◌<◌, ◌+◌, ◌-◌, ◌%◌, ℕ, zero, suc, arith, refl, ap, subst, sym, ◌∙◌, ◌⊎◌, inl, inr, List, length}
use Rattle.std.specs.Prelude.{ℤ, pos, ◌+ℤ◌}
use Rattle.std.proofs.lemmas.Int.{ints}
use Rattle.std.proofs.lemmas.Bool.{cases_eq, cases_lt}
use Rattle.sheet.specs.declared.mark.Mark.{Mark}
use Rattle.sheet.specs.declared.mark.Mark.TheVariants as kind
use Rattle.layers.specs.declared.sector_list.Sector.{Sector}
use Rattle.layers.specs.Sectors.{sector_at, behind}
use Rattle.layers.specs.LayerOrder.{place, before, height, IsLayerOrder}
use Rattle.layers.proofs.callers.Places.{place_down, place_up}
use Rattle.crimp.proofs.Partial.{Next}
use Rattle.crimp.specs.Crimping.{Opposite}
use Rattle.crimp.specs.Crimps.{CanCrimp}
use Rattle.crimp.proofs.Start.{behind_before}
use Rattle.crimp.proofs.Bridge.{rules_of, ends, after}
use Rattle.crimp.proofs.Survives.{low, high, low_same, low_other, high_same, high_other, Walk, spans}
use Rattle.crimp.proofs.Spiral.{Least, Blocked, spiral}

pub least_one : (f : ℕ → ℕ) (k : ℕ) → (i : ℕ) × ((i < suc k) × ((j : ℕ) → j < suc k → f i ≤ f j))
least_one f zero = (0, (omega arith, λ j h. let e : f j ≡ f 0 = ap f (let z : j ≡ 0 = omega arith in z) in omega arith))
least_one f (suc k) = let m = least_one f k in elim (cases_lt (f (suc k)) (f m.0)) [
  | inl l ↦ (suc k, (omega arith, λ j h. elim (cases_eq j (suc k)) [ inl e ↦ let g : f j ≡ f (suc k) = ap f e in omega arith | inr n ↦ let g = m.1.1 j (omega arith) in omega arith ]))
  | inr l ↦ (m.0, (let w = m.1.0 in omega arith, λ j h. elim (cases_eq j (suc k)) [ inl e ↦ let g : f j ≡ f (suc k) = ap f e in omega arith | inr n ↦ m.1.1 j (omega arith) ]))
]

before_is : (n b : ℕ) → b < n → ((b ≡ 0) × (before n b + 1 ≡ n)) ⊎ (before n b + 1 ≡ b)
unfolding before
before_is n zero h = inl (refl, omega arith)
before_is n (suc b) h = inr (omega arith)

pub opposite_or : (m n : Mark) → Opposite m n ⊎ (m ≡ n)
opposite_or kind.V kind.V = inr refl
opposite_or kind.V kind.M = inl tt
opposite_or kind.M kind.V = inl tt
opposite_or kind.M kind.M = inr refl

width : (x : ℕ → ℤ) (arc : ℕ → ℕ) (s a : ℕ) → high x arc s a ≡ low x arc s a +ℤ pos (arc a)
width x arc s a = elim (cases_eq (a % 2) s) [
  | inl o ↦ let e = low_same x arc s a o in let f = high_same x arc s a o in omega (arith, ints)
  | inr o ↦ let e = low_other x arc s a o in let f = high_other x arc s a o in omega (arith, ints)
]

module _ (ss : List Sector) (four : 4 ≤ length ss) (some : (j : ℕ) → j < length ss → 1 ≤ (sector_at ss j).angle) (stuck : (i : ℕ) → CanCrimp ss i → ⊥) (order : List ℕ) (L : IsLayerOrder ss order) where
  angle : ℕ → ℕ
  angle a = (sector_at ss a).angle

  odd : (a b : ℕ) → Next (length ss) a b → b % 2 ≢ a % 2
  odd a b l o = let e = l.1 in let v = L.closes.even in elim (before_is (length ss) b l.0) [ inl k ↦ let z = k.0 in let w = k.1 in omega arith | inr k ↦ omega arith ]

  from_less : (a b : ℕ) → Next (length ss) a b → a < length ss
  from_less a b l = let e = l.1 in let w = l.0 in elim (before_is (length ss) b l.0) [ inl k ↦ let m = k.1 in omega arith | inr k ↦ omega arith ]

  end : (a b : ℕ) → Next (length ss) a b → place ss b ≡ place ss (suc a)
  end a b l = ends ss order L.closes.closed a b l ∙ ap (place ss) (let e : a + 1 ≡ suc a = omega arith in e)

  walk : Walk (λ a. a < length ss) (Next (length ss)) (place ss) angle 0
  unfolding angle
  walk = record {
    bit = omega arith;
    odd = odd;
    up = λ a b l o. end a b l ∙ place_up ss a o;
    down = λ a b l n. end a b l ∙ place_down ss a (omega arith);
    next = λ a h. after ss order a h;
    some = some;
  }

  more : (a b c : ℕ) → Next (length ss) a b → Next (length ss) b c → a ≢ c
  more a b c l m e = let f = l.1 in let g = m.1 in let n = four in elim (before_is (length ss) b l.0) [
    | inl k ↦ let z = k.0 in let w = k.1 in elim (before_is (length ss) c m.0) [ inl j ↦ let z' = j.0 in let w' = j.1 in omega arith | inr j ↦ omega arith ]
    | inr k ↦ elim (before_is (length ss) c m.0) [ inl j ↦ let z' = j.0 in let w' = j.1 in omega arith | inr j ↦ omega arith ]
  ]

  shorter : (b c : ℕ) → Least (λ a. a < length ss) (low (place ss) angle 0) (high (place ss) angle 0) b → c < length ss → angle b ≤ angle c
  shorter b c M h = let l = M.least c h in let e = width (place ss) angle 0 b in let f = width (place ss) angle 0 c in omega (arith, ints)

  least_angle : (b : ℕ) → Least (λ a. a < length ss) (low (place ss) angle 0) (high (place ss) angle 0) b → (j : ℕ) → j < length ss → (sector_at ss b).angle ≤ (sector_at ss j).angle
  unfolding angle
  least_angle b M j h = shorter b j M h

  same : (a b c : ℕ) → Least (λ a. a < length ss) (low (place ss) angle 0) (high (place ss) angle 0) b → Next (length ss) a b → Next (length ss) b c → (sector_at ss b).mark ≡ (sector_at ss c).mark
  same a b c M l m = elim (opposite_or (sector_at ss b).mark (sector_at ss c).mark) [
    | inr e ↦ e
    | inl o ↦
        let e : behind (length ss) b ≡ c = ap (behind (length ss)) m.1 ∙ behind_before (length ss) c m.0 in
        absurd (stuck b (record { four = four; within = l.0; least = least_angle b M; opposite = subst (λ k. Opposite (sector_at ss b).mark (sector_at ss k).mark) (sym e) o }))
  ]

  blocked : Blocked (λ a. a < length ss) (Next (length ss)) (low (place ss) angle 0) (high (place ss) angle 0) (λ k. (sector_at ss k).mark) 0
  blocked = record {
    bit = omega arith;
    odd = odd;
    next = λ a h. let b = after ss order a h in (b.0, (b.1, b.1.0));
    last = λ b h. (before (length ss) b, ((h, refl), from_less (before (length ss) b) b (h, refl)));
    more = more;
    same = same;
  }

  first_least : (q : ℕ) × Least (λ a. a < length ss) (low (place ss) angle 0) (high (place ss) angle 0) q
  first_least = let n = four in let m = least_one angle (length ss - 1) in let w = m.1.0 in
      (m.0, record { here = omega arith; least = λ c h. let l = m.1.1 c (omega arith) in let e = width (place ss) angle 0 m.0 in let f = width (place ss) angle 0 c in omega (arith, ints) })

  pub no_order : ⊥
  no_order = spiral (λ a. a < length ss) (Next (length ss)) (place ss) (low (place ss) angle 0) (high (place ss) angle 0) (λ k. (sector_at ss k).mark) (height order) 0
      (spans (λ a. a < length ss) (Next (length ss)) (place ss) angle 0 walk) blocked (rules_of ss order L) first_least.0 first_least.1
