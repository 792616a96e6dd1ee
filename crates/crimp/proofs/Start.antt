-- The list with which the crimping begins, and the order at the end.
use Rattle.std.proofs.Common.{◌≡◌, ◌≤◌, ◌<◌, ◌+◌, ◌-◌, ◌%◌, ℕ, zero, suc, arith, refl, subst, ap, sym, ◌∙◌, inl, inr, List, [], ◌∷◌, length, get_or}
use Rattle.std.specs.Prelude.{pos}
use Rattle.std.proofs.lemmas.Bool.{cases_eq, cases_lt}
use Rattle.std.proofs.lemmas.List.{length-map}
use Rattle.crimp.specs.declared.entries.Entry.{Entry}
use Rattle.layers.specs.declared.sector_list.Sector.{Sector}
use Rattle.layers.specs.Sectors.{sector_at, behind}
use Rattle.layers.specs.LayerOrder.{place, before, height, IsLayerOrder}
use Rattle.layers.proofs.callers.Places.{before_lt, behind_inner, behind_outer, place_down, place_up, place_zero}
use Rattle.crimp.proofs.Partial.{Next}
use Rattle.crimp.specs.Cyclic.{In, Follows, Linked, Distinct}
use Rattle.crimp.specs.Cycle.{numbers_of, entry_at, no_entry, Step, IsCycle, Layered}
use Rattle.crimp.proofs.Cyclic.{fewer}
use Rattle.crimp.proofs.Bridge.{order_of}

-- neighbours by their places
pub record At {A : Type 0} (none : A) (ls : List A) (a b : A) : Type 0 where
  pub i : ℕ
  pub within : i < length ls
  pub first : a ≡ get_or ls i none
  pub second : b ≡ get_or ls (behind (length ls) i) none

record Along {A : Type 0} (none u : A) (vs : List A) (z a b : A) : Type 0 where
  i : ℕ
  within : i ≤ length vs
  first : a ≡ get_or (u ∷ vs) i none
  inner : i < length vs → b ≡ get_or vs i none
  outer : i ≡ length vs → b ≡ z

along : {A : Type 0} (none u : A) (vs : List A) (z a b : A) → Follows u vs z a b → Along none u vs z a b
along none u [] z a b h = record { i = 0; within = omega arith; first = h.0; inner = λ l. absurd (omega arith); outer = λ e. h.1 }
along none u (v ∷ vs) z a b (inl h) = record { i = 0; within = omega arith; first = h.0; inner = λ l. h.1; outer = λ e. absurd (omega arith) }
along none u (v ∷ vs) z a b (inr h) = let k = along none v vs z a b h in let w = k.within in
    record { i = suc k.i; within = omega arith; first = k.first; inner = λ l. k.inner (omega arith); outer = λ e. k.outer (omega arith) }

pub linked_at : {A : Type 0} (none : A) (ls : List A) (a b : A) → Linked ls a b → At none ls a b
linked_at none [] a b h = absurd h
linked_at none (u ∷ vs) a b h = let k = along none u vs u a b h in let w = k.within in elim (cases_lt k.i (length vs)) [
  | inl l ↦ let e : behind (length (u ∷ vs)) k.i ≡ suc k.i = behind_inner (length (u ∷ vs)) k.i (omega arith) in
      record { i = k.i; within = omega arith; first = k.first; second = k.inner l ∙ ap (λ j. get_or (u ∷ vs) j none) (sym e) }
  | inr l ↦ let e : behind (length (u ∷ vs)) k.i ≡ 0 = behind_outer (length (u ∷ vs)) k.i (omega arith) in
      record { i = k.i; within = omega arith; first = k.first; second = k.outer (omega arith) ∙ ap (λ j. get_or (u ∷ vs) j none) (sym e) }
]

follows_inner : {A : Type 0} (none u : A) (vs : List A) (z : A) (i : ℕ) → i < length vs → Follows u vs z (get_or (u ∷ vs) i none) (get_or vs i none)
follows_inner none u [] z i h = absurd (omega arith)
follows_inner none u (v ∷ vs) z zero h = inl (refl, refl)
follows_inner none u (v ∷ vs) z (suc i) h = inr (follows_inner none v vs z i (omega arith))

follows_outer : {A : Type 0} (none u : A) (vs : List A) (z : A) → Follows u vs z (get_or (u ∷ vs) (length vs) none) z
follows_outer none u [] z = (refl, refl)
follows_outer none u (v ∷ vs) z = inr (follows_outer none v vs z)

pub linked_from : {A : Type 0} (none : A) (ls : List A) (i : ℕ) → i < length ls → Linked ls (get_or ls i none) (get_or ls (behind (length ls) i) none)
linked_from none [] i h = absurd (omega arith)
linked_from none (u ∷ vs) i h = elim (cases_lt i (length vs)) [
  | inl l ↦ let e : suc i ≡ behind (length (u ∷ vs)) i = sym (behind_inner (length (u ∷ vs)) i (omega arith)) in
      subst (λ j. Linked (u ∷ vs) (get_or (u ∷ vs) i none) (get_or (u ∷ vs) j none)) e (follows_inner none u vs u i l)
  | inr l ↦ let e : 0 ≡ behind (length (u ∷ vs)) i = sym (behind_outer (length (u ∷ vs)) i (omega arith)) in let f : length vs ≡ i = omega arith in
      subst (λ j. Linked (u ∷ vs) (get_or (u ∷ vs) i none) (get_or (u ∷ vs) j none)) e (subst (λ j. Linked (u ∷ vs) (get_or (u ∷ vs) j none) u) f (follows_outer none u vs u))
]

-- numbers one after another
pub in_at : {A : Type 0} (none : A) (ls : List A) (a : A) → In ls a → (i : ℕ) × (i < length ls) × (a ≡ get_or ls i none)
in_at none [] a h = absurd h
in_at none (l ∷ ls) a (inl e) = (0, omega arith, e)
in_at none (l ∷ ls) a (inr h) = let k = in_at none ls a h in let w = k.1 in (suc k.0, omega arith, k.2)

pub in_from : {A : Type 0} (none : A) (ls : List A) (i : ℕ) → i < length ls → In ls (get_or ls i none)
in_from none [] i h = absurd (omega arith)
in_from none (l ∷ ls) zero h = inl refl
in_from none (l ∷ ls) (suc i) h = inr (in_from none ls i (omega arith))

rising_distinct : (k : ℕ) (ls : List ℕ) → ((i : ℕ) → i < length ls → get_or ls i 0 ≡ k + i) → Distinct ls
rising_distinct k [] f = tt
rising_distinct k (l ∷ ls) f = (
  λ h. let j = in_at 0 ls l h in let w = j.1 in let e : get_or ls j.0 0 ≡ k + suc j.0 = f (suc j.0) (omega arith) in let g : l ≡ k + 0 = f 0 (omega arith) in let m = j.2 in absurd (omega arith),
  rising_distinct (suc k) ls (λ i h. let e : get_or ls i 0 ≡ k + suc i = f (suc i) (omega arith) in omega arith),
)

pub get_or-numbers_of : (es : List Entry) (i : ℕ) → get_or (numbers_of es) i 0 ≡ (entry_at es i).number
get_or-numbers_of [] i = refl
get_or-numbers_of (e ∷ es) zero = refl
get_or-numbers_of (e ∷ es) (suc i) = get_or-numbers_of es i

pub before_behind : (n i : ℕ) → i < n → before n (behind n i) ≡ i
unfolding before
before_behind n i h = elim (cases_eq (i + 1) n) [
  | inl e ↦ let f : behind n i ≡ 0 = behind_outer n i e in rw f (omega arith)
  | inr e ↦ let f : behind n i ≡ suc i = behind_inner n i (omega arith) in rw f refl
]

pub behind_before : (n b : ℕ) → b < n → behind n (before n b) ≡ b
unfolding before
behind_before n zero h = behind_outer n (n - 1) (omega arith)
behind_before n (suc b) h = behind_inner n b (omega arith)

-- the sectors with their numbers
pub record Numbered (sectors : List Sector) (es : List Entry) : Type 0 where
  pub long : length es ≡ length sectors
  pub at : (i : ℕ) → i < length sectors → entry_at es i ≡ record { number = i; mark = (sector_at sectors i).mark; angle = (sector_at sectors i).angle }

module _ (sectors : List Sector) (es : List Entry) (N : Numbered sectors es) (even : length sectors % 2 ≡ 0) (some : 2 ≤ length sectors) (closed : place sectors (length sectors) ≡ pos 0) where
  number_at : (i : ℕ) → i < length sectors → (entry_at es i).number ≡ i
  number_at i h = ap (λ e. e.number) (N.at i h)

  rises : (i : ℕ) → i < length (numbers_of es) → get_or (numbers_of es) i 0 ≡ 0 + i
  rises i h = let e : length (numbers_of es) ≡ length es = length-map es (λ e. e.number) in let f = N.long in get_or-numbers_of es i ∙ number_at i (omega arith) ∙ omega arith

  step : (i : ℕ) → i < length sectors → Step (place sectors) (record { number = i; mark = (sector_at sectors i).mark; angle = (sector_at sectors i).angle }) (entry_at es (behind (length sectors) i))
  step i h = elim (cases_eq (i + 1) (length sectors)) [
    | inl e ↦ let f : (entry_at es (behind (length sectors) i)).number ≡ 0 = ap (λ j. (entry_at es j).number) (behind_outer (length sectors) i e) ∙ number_at 0 (omega arith) in
        let g : place sectors (entry_at es (behind (length sectors) i)).number ≡ place sectors (suc i) = ap (place sectors) f ∙ place_zero sectors ∙ sym closed ∙ ap (place sectors) (sym e ∙ omega arith) in
        record { odd = λ o. omega arith; up = λ o. g ∙ place_up sectors i o; down = λ o. g ∙ place_down sectors i o }
    | inr e ↦ let f : (entry_at es (behind (length sectors) i)).number ≡ suc i = ap (λ j. (entry_at es j).number) (behind_inner (length sectors) i (omega arith)) ∙ number_at (suc i) (omega arith) in
        let g : place sectors (entry_at es (behind (length sectors) i)).number ≡ place sectors (suc i) = ap (place sectors) f in
        record { odd = λ o. omega arith; up = λ o. g ∙ place_up sectors i o; down = λ o. g ∙ place_down sectors i o }
  ]

  pub start : IsCycle (place sectors) (λ i. (sector_at sectors i).mark) es
  start = record {
    steps = λ e f l. let k = linked_at no_entry es e f l in let w = k.within in let n = N.long in
        let ef : f ≡ entry_at es (behind (length sectors) k.i) = k.second ∙ ap (λ m. entry_at es (behind m k.i)) n in
        subst (λ g. Step (place sectors) e g) (sym ef) (subst (λ g. Step (place sectors) g (entry_at es (behind (length sectors) k.i))) (sym (k.first ∙ N.at k.i (omega arith))) (step k.i (omega arith)));
    marked = λ e h. let k = in_at no_entry es e h in let w = k.1 in let n = N.long in rw (k.2 ∙ N.at k.0 (omega arith)) refl;
    distinct = rising_distinct 0 (numbers_of es) rises;
  }

  length_numbers_of : length (numbers_of es) ≡ length sectors
  length_numbers_of = length-map es (λ e. e.number) ∙ N.long

  pub in_numbers_of : (a : ℕ) → a < length sectors → In (numbers_of es) a
  in_numbers_of a h = let n = length_numbers_of in subst (In (numbers_of es)) (rises a (omega arith) ∙ omega arith) (in_from 0 (numbers_of es) a (omega arith))

  pub linked_numbers_of : (a b : ℕ) → Next (length sectors) a b → Linked (numbers_of es) a b
  linked_numbers_of a b l = let n = length_numbers_of in let w = l.0 in
      let m : a < length sectors = subst (λ k. k < length sectors) (sym l.1) (before_lt (length sectors) b l.0) in
      let e : get_or (numbers_of es) a 0 ≡ a = rises a (omega arith) ∙ omega arith in
      let f : behind (length (numbers_of es)) a ≡ b = ap (λ k. behind k a) n ∙ ap (behind (length sectors)) l.1 ∙ behind_before (length sectors) b l.0 in
      let g : get_or (numbers_of es) b 0 ≡ b = rises b (omega arith) ∙ omega arith in
      subst (λ c. Linked (numbers_of es) c b) e (subst (λ c. Linked (numbers_of es) (get_or (numbers_of es) a 0) c) (ap (λ j. get_or (numbers_of es) j 0) f ∙ g) (linked_from 0 (numbers_of es) a (omega arith)))

  in_small : (a : ℕ) → In (numbers_of es) a → a < length sectors
  in_small a h = let k = in_at 0 (numbers_of es) a h in let w = k.1 in let n = length_numbers_of in let e = rises k.0 w in let f = k.2 in omega arith

  pub finish : (order : List ℕ) → Layered (place sectors) (λ i. (sector_at sectors i).mark) (numbers_of es) order → IsLayerOrder sectors order
  finish order L = order_of sectors order even some closed
      (record {
        long = L.long ∙ length_numbers_of;
        each = λ a h. let e = L.holds a (in_numbers_of a h) in let f = L.long in let n = length_numbers_of in omega arith;
        lacks = λ a h. L.lacks a (λ k. let m = in_small a k in omega arith) ∙ L.long ∙ length_numbers_of;
      })
      (fewer (In (numbers_of es)) (λ a. a < length sectors) (Linked (numbers_of es)) (Next (length sectors)) (place sectors) (λ i. (sector_at sectors i).mark) (height order) in_numbers_of linked_numbers_of L.rules)
