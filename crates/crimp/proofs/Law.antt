-- Where the list after a crimp is foldable, the list before it is.
use Rattle.std.proofs.Common.{◌≡◌, ◌≢◌, ◌≤◌, ◌<◌, ◌+◌, ◌-◌, ◌%◌, ℕ, zero, suc, arith, refl, subst, ap, sym, ◌∙◌, inl, inr, List, [], ◌∷◌, length, map, get_or, set, cond, eqb}
use Rattle.std.specs.Prelude.{ℤ, pos, ◌+ℤ◌, ◌-ℤ◌}
use Rattle.std.specs.List.{remove}
use Rattle.std.proofs.lemmas.Int.{ints}
use Rattle.std.proofs.lemmas.Bool.{cases_eq}
use Rattle.std.proofs.lemmas.List.{length-map}
use Rattle.sheet.specs.declared.mark.Mark.{Mark}
use Rattle.sheet.specs.declared.mark.Mark.TheVariants as kind
use Rattle.crimp.specs.declared.entries.Entry.{Entry}
use Rattle.crimp.specs.Rules.{Rules}
use Rattle.layers.specs.declared.sector_list.Sector.{Sector}
use Rattle.layers.specs.Sectors.{sector_at, behind}
use Rattle.layers.specs.LayerOrder.{place, before, height, IsLayerOrder}
use Rattle.layers.proofs.callers.Places.{before_lt, behind_inner, behind_lt, place_down, place_up, place_zero}
use Rattle.crimp.proofs.Partial.{Next}
use Rattle.crimp.specs.Cyclic.{In, Linked, Distinct}
use Rattle.crimp.specs.Crimping.{Opposite, crimped}
use Rattle.crimp.specs.Cycle.{merged, no_entry, numbers_of, entry_at, crimped_at, Step, IsCycle, Crimpable, numbered}
use Rattle.crimp.proofs.Start.{Numbered, start, linked_at, linked_from, in_at, in_from, get_or-numbers_of, before_behind, in_numbers_of, linked_numbers_of}
use Rattle.crimp.specs.Crimps.{joined, after_crimp, CanCrimp, Foldable}
use Rattle.crimp.proofs.Cyclic.{fewer}
use Rattle.crimp.proofs.Orders.{height_here, height_past}
use Rattle.crimp.proofs.Turns.{fronted}
use Rattle.crimp.proofs.Cycle.{crimped_cycle}
use Rattle.crimp.proofs.Bridge.{rules_of, order_of}
use Rattle.crimp.proofs.PutIn.{listed}
use Rattle.crimp.proofs.Closed.{closed_before}
use Rattle.crimp.proofs.Relabel.{Relabelled, straight, flipped}
use Rattle.crimp.proofs.Ranks.{uncrimped_rank}

-- a crimp under a map
map_remove : {A B : Type 0} (f : A → B) (xs : List A) (i : ℕ) → map f (remove xs i) ≡ remove (map f xs) i
map_remove f [] zero = refl
map_remove f [] (suc i) = refl
map_remove f (x ∷ xs) zero = refl
map_remove f (x ∷ xs) (suc i) = ap (λ ys. f x ∷ ys) (map_remove f xs i)

map_set : {A B : Type 0} (f : A → B) (xs : List A) (i : ℕ) (v : A) → map f (set xs i v) ≡ set (map f xs) i (f v)
map_set f [] zero v = refl
map_set f [] (suc i) v = refl
map_set f (x ∷ xs) zero v = refl
map_set f (x ∷ xs) (suc i) v = ap (λ ys. f x ∷ ys) (map_set f xs i v)

pub get_or-map : {A B : Type 0} (f : A → B) (xs : List A) (i : ℕ) (d : A) → get_or (map f xs) i (f d) ≡ f (get_or xs i d)
get_or-map f [] zero d = refl
get_or-map f [] (suc i) d = refl
get_or-map f (x ∷ xs) zero d = refl
get_or-map f (x ∷ xs) (suc i) d = get_or-map f xs i d

pub crimped_map : {A B : Type 0} (f : A → B) (m : A → A → A → A) (w : B → B → B → B) (d : A) → ((p q r : A) → f (m p q r) ≡ w (f p) (f q) (f r)) → (xs : List A) (i : ℕ)
    → map f (crimped m d xs i) ≡ crimped w (f d) (map f xs) i
unfolding crimped
crimped_map f m w d e xs i =
    let n : length (map f xs) ≡ length xs = length-map xs f in
    map_remove f _ _ ∙ ap (λ ys. remove ys (cond (eqb (i + 1) (length xs)) 0 i)) (map_remove f _ i ∙ ap (λ ys. remove ys i) (map_set f xs (before (length xs) i) _
    ∙ ap (λ v. set (map f xs) (before (length xs) i) v) (e _ _ _ ∙ ap (λ v. w v (f (get_or xs i d)) (f (get_or xs (behind (length xs) i) d))) (sym (get_or-map f xs (before (length xs) i) d))
    ∙ ap (λ v. w (get_or (map f xs) (before (length xs) i) (f d)) v (f (get_or xs (behind (length xs) i) d))) (sym (get_or-map f xs i d))
    ∙ ap (λ v. w (get_or (map f xs) (before (length xs) i) (f d)) (get_or (map f xs) i (f d)) v) (sym (get_or-map f xs (behind (length xs) i) d)))))
    ∙ ap (λ k. remove (remove (set (map f xs) (before k i) (w (get_or (map f xs) (before k i) (f d)) (get_or (map f xs) i (f d)) (get_or (map f xs) (behind k i) (f d)))) i) (cond (eqb (i + 1) k) 0 i)) (sym n)

pub length-numbered : (k : ℕ) (ss : List Sector) → length (numbered k ss) ≡ length ss
unfolding numbered
length-numbered k [] = refl
length-numbered k (s ∷ ss) = ap suc (length-numbered (k + 1) ss)

pub numbered_at : (k : ℕ) (ss : List Sector) (i : ℕ) → i < length ss → entry_at (numbered k ss) i ≡ record { number = k + i; mark = (sector_at ss i).mark; angle = (sector_at ss i).angle }
unfolding numbered
numbered_at k [] i h = absurd (omega arith)
numbered_at k (s ∷ ss) zero h = ap (λ j. record { number = j; mark = s.mark; angle = s.angle }) (let e : k ≡ k + 0 = omega arith in e)
numbered_at k (s ∷ ss) (suc i) h = numbered_at (k + 1) ss i (omega arith)
    ∙ ap (λ j. record { number = j; mark = (sector_at ss i).mark; angle = (sector_at ss i).angle }) (let e : k + 1 + i ≡ k + suc i = omega arith in e)

pub bare : Entry → Sector
bare e = record { first = 0; mark = e.mark; angle = e.angle }

pub nameless : Sector → Sector
nameless s = record { first = 0; mark = s.mark; angle = s.angle }

pub bare_numbered : (k : ℕ) (ss : List Sector) → map bare (numbered k ss) ≡ map nameless ss
unfolding numbered bare nameless
bare_numbered k [] = refl
bare_numbered k (s ∷ ss) = ap (λ ys. nameless s ∷ ys) (bare_numbered (k + 1) ss)

-- both lists, crimped, have the same marks and angles
pub alike_crimped : (ss : List Sector) (i : ℕ) → map bare (crimped_at (numbered 0 ss) i) ≡ map nameless (after_crimp ss i)
unfolding bare nameless
alike_crimped ss i =
    crimped_map bare merged joined no_entry (λ p q r. refl) (numbered 0 ss) i ∙ ap (λ ys. crimped joined (record { first = 0; mark = kind.M; angle = 0 }) ys i) (bare_numbered 0 ss)
    ∙ sym (crimped_map nameless joined joined (record { first = 0; mark = kind.M; angle = 0 }) (λ p q r. refl) ss i)

pub alike_length : (fs : List Entry) (ss : List Sector) → map bare fs ≡ map nameless ss → length fs ≡ length ss
alike_length fs ss e = sym (length-map fs bare) ∙ ap length e ∙ length-map ss nameless

alike_at : (fs : List Entry) (ss : List Sector) → map bare fs ≡ map nameless ss → (k : ℕ) → bare (entry_at fs k) ≡ nameless (sector_at ss k)
unfolding bare nameless
alike_at fs ss e k = sym (get_or-map bare fs k no_entry) ∙ ap (λ ys. get_or ys k (record { first = 0; mark = kind.M; angle = 0 })) e ∙ get_or-map nameless ss k (record { first = 0; mark = kind.M; angle = 0 })

pub height_at : (ls : List ℕ) (j : ℕ) → Distinct ls → j < length ls → height ls (get_or ls j 0) ≡ j
height_at [] j D h = absurd (omega arith)
height_at (l ∷ ls) zero D h = height_here l ls l refl
height_at (l ∷ ls) (suc j) D h =
    let n : l ≢ get_or ls j 0 = λ e. D.0 (subst (In ls) (sym e) (in_from 0 ls j (omega arith))) in
    height_past l ls (get_or ls j 0) n ∙ ap (λ k. 1 + k) (height_at ls j D.1 (omega arith)) ∙ omega arith

-- a list of sectors with their own numbers, and the same list numbered from its first entry
module _ (x : ℕ → ℤ) (mark : ℕ → Mark) (fs : List Entry) (J : IsCycle x mark fs) (ss : List Sector) (E : map bare fs ≡ map nameless ss) where
  long : length fs ≡ length ss
  long = alike_length fs ss E

  same_angle : (k : ℕ) → (entry_at fs k).angle ≡ (sector_at ss k).angle
  unfolding bare nameless
  same_angle k = ap (λ s. s.angle) (alike_at fs ss E k)

  pub same_mark : (k : ℕ) → (entry_at fs k).mark ≡ (sector_at ss k).mark
  unfolding bare nameless
  same_mark k = ap (λ s. s.mark) (alike_at fs ss E k)

  pub length_numbers_of : length (numbers_of fs) ≡ length ss
  length_numbers_of = length-map fs (λ e. e.number) ∙ long

  next_step : (k : ℕ) → suc k < length fs → Step x (entry_at fs k) (entry_at fs (suc k))
  next_step k h = subst (λ j. Step x (entry_at fs k) (entry_at fs j)) (behind_inner (length fs) k (omega arith)) (J.steps (entry_at fs k) (entry_at fs (behind (length fs) k)) (linked_from no_entry fs k (omega arith)))

  pub along_even : (entry_at fs 0).number % 2 ≡ 0 → (k : ℕ) → k < length fs → ((entry_at fs k).number % 2 ≡ k % 2) × (x (entry_at fs k).number ≡ x (entry_at fs 0).number +ℤ place ss k)
  along_even o zero h = let z = place_zero ss in (omega arith, omega (arith, ints))
  along_even o (suc k) h =
      let q = along_even o k (omega arith) in let s = next_step k h in let p = s.odd in let a = same_angle k in let e = q.0 in let f = q.1 in
      elim (cases_eq (k % 2) 0) [
        | inl z ↦ let u = s.up (omega arith) in let v = place_up ss k z in let w : pos (entry_at fs k).angle ≡ pos (sector_at ss k).angle = ap pos a in (omega arith, omega (arith, ints))
        | inr z ↦ let u = s.down (omega arith) in let v = place_down ss k (omega arith) in let w : pos (entry_at fs k).angle ≡ pos (sector_at ss k).angle = ap pos a in (omega arith, omega (arith, ints))
      ]

  pub along_odd : (entry_at fs 0).number % 2 ≡ 1 → (k : ℕ) → k < length fs → ((entry_at fs k).number % 2 ≢ k % 2) × (x (entry_at fs k).number ≡ x (entry_at fs 0).number -ℤ place ss k)
  along_odd o zero h = let z = place_zero ss in ((λ t. omega arith), omega (arith, ints))
  along_odd o (suc k) h =
      let q = along_odd o k (omega arith) in let s = next_step k h in let p = s.odd in let a = same_angle k in let e = q.0 in let f = q.1 in
      elim (cases_eq (k % 2) 0) [
        | inl z ↦ let u = s.down (omega arith) in let v = place_up ss k z in let w : pos (entry_at fs k).angle ≡ pos (sector_at ss k).angle = ap pos a in ((λ t. omega arith), omega (arith, ints))
        | inr z ↦ let u = s.up (omega arith) in let v = place_down ss k (omega arith) in let w : pos (entry_at fs k).angle ≡ pos (sector_at ss k).angle = ap pos a in ((λ t. omega arith), omega (arith, ints))
      ]

  -- the place in the list of the sector with a number
  φ : ℕ → ℕ
  φ a = height (numbers_of fs) a

  record Found (a : ℕ) : Type 0 where
    j : ℕ
    within : j < length ss
    is : a ≡ (entry_at fs j).number
    at : φ a ≡ j

  place_of : (a j : ℕ) → j < length (numbers_of fs) → a ≡ get_or (numbers_of fs) j 0 → φ a ≡ j
  unfolding φ
  place_of a j h e = ap (height (numbers_of fs)) e ∙ height_at (numbers_of fs) j J.distinct h

  found : (a : ℕ) → In (numbers_of fs) a → Found a
  found a h = let k = in_at 0 (numbers_of fs) a h in let w = k.1 in let n = length_numbers_of in
      record { j = k.0; within = omega arith; is = k.2 ∙ get_or-numbers_of fs k.0; at = place_of a k.0 k.1 k.2 }

  back : (a : ℕ) → In (numbers_of fs) a → a ≡ get_or (numbers_of fs) (φ a) 0
  back a h = let f = found a h in f.is ∙ sym (get_or-numbers_of fs f.j) ∙ ap (λ k. get_or (numbers_of fs) k 0) (sym f.at)

  relabelled : Relabelled (In (numbers_of fs)) (λ k. k < length ss) (Linked (numbers_of fs)) (Next (length ss)) mark (λ k. (sector_at ss k).mark) φ
  relabelled = record {
    here = λ a h. let f = found a h in let w = f.within in let e = f.at in omega arith;
    link = λ a b l. let k = linked_at 0 (numbers_of fs) a b l in let w = k.within in let n = length_numbers_of in
        let e : φ a ≡ k.i = place_of a k.i k.within k.first in
        let v : behind (length (numbers_of fs)) k.i < length (numbers_of fs) = behind_lt (length (numbers_of fs)) k.i k.within in
        let f : φ b ≡ behind (length (numbers_of fs)) k.i = place_of b (behind (length (numbers_of fs)) k.i) v k.second in
        let g : before (length ss) (φ b) ≡ k.i = ap (before (length ss)) (f ∙ ap (λ m. behind m k.i) n) ∙ before_behind (length ss) k.i (omega arith) in
        (omega arith, e ∙ sym g);
    ends = λ a b l. let k = linked_at 0 (numbers_of fs) a b l in subst (In (numbers_of fs)) (sym k.second) (in_from 0 (numbers_of fs) (behind (length (numbers_of fs)) k.i) (behind_lt (length (numbers_of fs)) k.i k.within));
    one = λ a b h k e. back a h ∙ ap (λ j. get_or (numbers_of fs) j 0) e ∙ sym (back b k);
    marks = λ a h. let f = found a h in let w = f.within in let n = long in
        ap mark f.is ∙ J.marked (entry_at fs f.j) (in_from no_entry fs f.j (omega arith)) ∙ same_mark f.j ∙ ap (λ k. (sector_at ss k).mark) (sym f.at);
  }

  module _ (order : List ℕ) (L : IsLayerOrder ss order) where
    old_rules : Rules (λ k. k < length ss) (Next (length ss)) (place ss) (λ k. (sector_at ss k).mark) (height order)
    old_rules = rules_of ss order L

    pub ranks : (rank : ℕ → ℕ) × Rules (In (numbers_of fs)) (Linked (numbers_of fs)) x mark rank
    ranks = elim (cases_eq ((entry_at fs 0).number % 2) 0) [
      | inl o ↦ (
        (λ a. height order (φ a)),
        straight (In (numbers_of fs)) (λ k. k < length ss) (Linked (numbers_of fs)) (Next (length ss)) x (place ss) mark (λ k. (sector_at ss k).mark) (λ a. height order (φ a)) (height order) φ relabelled old_rules
            (x (entry_at fs 0).number) (λ a h. refl)
            (λ a h. let f = found a h in let w = f.within in let n = long in let p = (along_even o f.j (omega arith)).0 in let e = f.at in let g = f.is in omega arith)
            (λ a h. let f = found a h in let w = f.within in let n = long in ap x f.is ∙ (along_even o f.j (omega arith)).1 ∙ ap (λ k. x (entry_at fs 0).number +ℤ place ss k) (sym f.at)),
      )
      | inr o ↦ (
        (λ a. length order - height order (φ a)),
        flipped (In (numbers_of fs)) (λ k. k < length ss) (Linked (numbers_of fs)) (Next (length ss)) x (place ss) mark (λ k. (sector_at ss k).mark) (λ a. length order - height order (φ a)) (height order) φ relabelled old_rules
            (x (entry_at fs 0).number) (length order)
            (λ a h. let f = found a h in let w = f.within in let e = f.at in let g = L.once.each (φ a) (omega arith) in omega arith)
            (λ a h. let f = found a h in let w = f.within in let n = long in let p = (along_odd (omega arith) f.j (omega arith)).0 in let e = f.at in let g = f.is in (λ t. omega arith))
            (λ a h. let f = found a h in let w = f.within in let n = long in ap x f.is ∙ (along_odd (omega arith) f.j (omega arith)).1 ∙ ap (λ k. x (entry_at fs 0).number -ℤ place ss k) (sym f.at)),
      )
    ]

-- the law
module _ (ss : List Sector) (i : ℕ) (K : CanCrimp ss i) (order : List ℕ) (L : IsLayerOrder (after_crimp ss i) order) where
  closed : (length ss % 2 ≡ 0) × (place ss (length ss) ≡ pos 0)
  closed = let four = K.four in let F = fronted joined (record { first = 0; mark = kind.M; angle = 0 }) ss i (omega arith) K.within in
      let l : (sector_at ss i).angle ≤ (sector_at ss (before (length ss) i)).angle = K.least (before (length ss) i) (before_lt (length ss) i K.within) in
      let ep : (sector_at ss (before (length ss) i)).angle ≡ F.p.angle = ap (λ s. s.angle) F.before_i in
      let eq : (sector_at ss i).angle ≡ F.q.angle = ap (λ s. s.angle) F.at_i in
      closed_before ss (after_crimp ss i) F.p F.q F.r F.rest F.whole F.less (omega arith) L.closes.even L.closes.closed

  N : Numbered ss (numbered 0 ss)
  N = record { long = length-numbered 0 ss; at = λ k h. numbered_at 0 ss k h ∙ ap (λ j. record { number = j; mark = (sector_at ss k).mark; angle = (sector_at ss k).angle }) (let e : 0 + k ≡ k = omega arith in e) }

  two : 2 ≤ length ss
  two = let f = K.four in omega arith

  I : IsCycle (place ss) (λ k. (sector_at ss k).mark) (numbered 0 ss)
  I = start ss (numbered 0 ss) N closed.0 two closed.1

  K' : Crimpable (numbered 0 ss) i
  K' = let n = length-numbered 0 ss in let f = K.four in let w = K.within in record {
    four = omega arith;
    within = omega arith;
    least = λ j h. let e : (entry_at (numbered 0 ss) i).angle ≡ (sector_at ss i).angle = ap (λ e. e.angle) (N.at i w) in
        let g : (entry_at (numbered 0 ss) j).angle ≡ (sector_at ss j).angle = ap (λ e. e.angle) (N.at j (omega arith)) in let l = K.least j (omega arith) in omega arith;
    opposite = subst (λ m. Opposite (entry_at (numbered 0 ss) i).mark (entry_at (numbered 0 ss) (behind m i)).mark) (sym n)
        (subst (λ m. Opposite (entry_at (numbered 0 ss) i).mark m) (sym (ap (λ e. e.mark) (N.at (behind (length ss) i) (behind_lt (length ss) i w))))
        (subst (λ m. Opposite m (sector_at ss (behind (length ss) i)).mark) (sym (ap (λ e. e.mark) (N.at i w))) K.opposite));
  }

  pub foldable_before : Foldable ss
  foldable_before =
      let J = crimped_cycle (place ss) (λ k. (sector_at ss k).mark) (numbered 0 ss) i I K' in
      let R = ranks (place ss) (λ k. (sector_at ss k).mark) (crimped_at (numbered 0 ss) i) J (after_crimp ss i) (alike_crimped ss i) order L in
      let U = uncrimped_rank (place ss) (λ k. (sector_at ss k).mark) (numbered 0 ss) i I K' R.0 R.1 in
      let V = fewer (In (numbers_of (numbered 0 ss))) (λ a. a < length ss) (Linked (numbers_of (numbered 0 ss))) (Next (length ss)) (place ss) (λ k. (sector_at ss k).mark) U.0
      (in_numbers_of ss (numbered 0 ss) N closed.0 two closed.1) (linked_numbers_of ss (numbered 0 ss) N closed.0 two closed.1) U.1 in
      let W = listed (length ss) (Next (length ss)) (place ss) (λ k. (sector_at ss k).mark) U.0 V in
      (W.0, order_of ss W.0 closed.0 two closed.1 W.1 W.3)
