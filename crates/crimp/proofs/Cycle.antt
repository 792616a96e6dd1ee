-- Crimping a list of sectors, and undoing it in an order.
use Rattle.std.proofs.Common.{◌≡◌, ◌≤◌, ◌<◌, ◌+◌, ◌-◌, ◌%◌, ℕ, arith, refl, subst, ap, sym, ◌∙◌, ◌⊎◌, inl, inr, List, [], ◌∷◌, ◌++◌, length, map}
use Rattle.std.specs.Prelude.{ℤ}
use Rattle.std.specs.List.{insert}
use Rattle.std.proofs.lemmas.Int.{ints}
use Rattle.std.proofs.lemmas.Bool.{cases_eq}
use Rattle.std.proofs.lemmas.List.{length-append}
use Rattle.sheet.specs.declared.mark.Mark.{Mark}
use Rattle.crimp.specs.declared.entries.Entry.{Entry}
use Rattle.layers.specs.LayerOrder.{height, before}
use Rattle.crimp.specs.Cyclic.{In, Follows, Linked, Distinct}
use Rattle.crimp.specs.Crimping.{Opposite}
use Rattle.crimp.proofs.Turned.{Turned}
use Rattle.crimp.specs.Undoing.{IsUp, undone_up, undone_down}
use Rattle.layers.specs.Sectors.{behind}
use Rattle.crimp.specs.Cycle.{merged, no_entry, numbers_of, entry_at, crimped_at, Step, IsCycle, Layered, Crimpable, total}
use Rattle.layers.proofs.callers.Places.{before_lt, behind_lt}
use Rattle.crimp.proofs.Places.{Folded}
use Rattle.crimp.proofs.Cyclic.{in_append, in_left, in_right, in_turned, linked_turned, fewer, crimp_at_front}
use Rattle.crimp.proofs.Crimp.{Crimp}
use Rattle.crimp.proofs.Orders.{height-insert_above}
use Rattle.crimp.proofs.Undo.{Holds, undo_up, undo_down}
use Rattle.crimp.proofs.Turns.{fronted}

pub turn_back : {A : Type 0} {xs ys : List A} → Turned xs ys → Turned ys xs
turn_back t = record { front = t.back; back = t.front; from = t.to; to = t.from }

pub in_turn : {A : Type 0} (xs ys : List A) (a : A) → Turned xs ys → In xs a → In ys a
in_turn xs ys a t h = subst (λ zs. In zs a) (sym t.to) (in_turned t.front t.back a (subst (λ zs. In zs a) t.from h))

pub linked_turn : {A : Type 0} (xs ys : List A) (a b : A) → Turned xs ys → Linked xs a b → Linked ys a b
linked_turn xs ys a b t h = subst (λ zs. Linked zs a b) (sym t.to) (linked_turned t.front t.back a b (subst (λ zs. Linked zs a b) t.from h))

map_append : {A B : Type 0} (f : A → B) (xs ys : List A) → map f (xs ++ ys) ≡ map f xs ++ map f ys
map_append f [] ys = refl
map_append f (x ∷ xs) ys = ap (λ zs. f x ∷ zs) (map_append f xs ys)

pub map_turn : {A B : Type 0} (f : A → B) (xs ys : List A) → Turned xs ys → Turned (map f xs) (map f ys)
map_turn f xs ys t = record {
  front = map f t.front;
  back = map f t.back;
  from = ap (map f) t.from ∙ map_append f t.front t.back;
  to = ap (map f) t.to ∙ map_append f t.back t.front;
}

-- lists of which none has an entry of the other
distinct_left : {A : Type 0} (xs ys : List A) → Distinct (xs ++ ys) → Distinct xs
distinct_left [] ys D = tt
distinct_left (x ∷ xs) ys D = (λ h. D.0 (in_left xs ys x h), distinct_left xs ys D.1)

distinct_right : {A : Type 0} (xs ys : List A) → Distinct (xs ++ ys) → Distinct ys
distinct_right [] ys D = D
distinct_right (x ∷ xs) ys D = distinct_right xs ys D.1

distinct_between : {A : Type 0} (xs ys : List A) (a : A) → Distinct (xs ++ ys) → In xs a → In ys a → ⊥
distinct_between [] ys a D h k = h
distinct_between (x ∷ xs) ys a D (inl e) k = D.0 (in_right xs ys x (subst (λ b. In ys b) e k))
distinct_between (x ∷ xs) ys a D (inr h) k = distinct_between xs ys a D.1 h k

distinct_append : {A : Type 0} (xs ys : List A) → Distinct xs → Distinct ys → ((a : A) → In xs a → In ys a → ⊥) → Distinct (xs ++ ys)
distinct_append [] ys D E f = E
distinct_append (x ∷ xs) ys D E f = (λ h. elim (in_append xs ys x h) [ inl k ↦ D.0 k | inr k ↦ f x (inl refl) k ], distinct_append xs ys D.1 E (λ a h k. f a (inr h) k))

distinct_turn : {A : Type 0} (xs ys : List A) → Turned xs ys → Distinct xs → Distinct ys
distinct_turn xs ys t D = let E = subst Distinct t.from D in
    subst Distinct (sym t.to) (distinct_append t.back t.front (distinct_right t.front t.back E) (distinct_left t.front t.back E) (λ a h k. distinct_between t.front t.back a E k h))

pub cycle_turn : (x : ℕ → ℤ) (mark : ℕ → Mark) (xs ys : List Entry) → Turned xs ys → IsCycle x mark xs → IsCycle x mark ys
cycle_turn x mark xs ys t I = record {
  steps = λ e f l. I.steps e f (linked_turn ys xs e f (turn_back t) l);
  marked = λ e h. I.marked e (in_turn ys xs e (turn_back t) h);
  distinct = distinct_turn (numbers_of xs) (numbers_of ys) (map_turn (λ e. e.number) xs ys t) I.distinct;
}

pub length_turn : {A : Type 0} (xs ys : List A) → Turned xs ys → length xs ≡ length ys
length_turn xs ys t = ap length t.from ∙ length-append t.front t.back ∙ omega arith ∙ sym (length-append t.back t.front) ∙ ap length (sym t.to)

pub layered_turn : (x : ℕ → ℤ) (mark : ℕ → Mark) (xs ys order : List ℕ) → Turned xs ys → Layered x mark xs order → Layered x mark ys order
layered_turn x mark xs ys order t L = record {
  rules = fewer (In xs) (In ys) (Linked xs) (Linked ys) x mark (height order) (λ a h. in_turn ys xs a (turn_back t) h) (λ a b h. linked_turn ys xs a b (turn_back t) h) L.rules;
  holds = λ a h. L.holds a (in_turn ys xs a (turn_back t) h);
  lacks = λ a h. L.lacks a (λ k. h (in_turn xs ys a t k));
  long = L.long ∙ length_turn xs ys t;
}

-- the places of a least sector and its neighbours
folded : (x : ℕ → ℤ) (p q r t : Entry) → Step x p q → Step x q r → Step x r t → q.angle ≤ p.angle → q.angle ≤ r.angle → Folded (x p.number) (x q.number) (x r.number) (x t.number)
folded x p q r t s1 s2 s3 l m = elim (cases_eq (p.number % 2) 0) [
  | inl e ↦ let o1 = s1.odd in let o2 = s2.odd in let a = s1.up e in let b = s2.down (omega arith) in let c = s3.up (omega arith) in
      inl (omega (arith, ints), omega (arith, ints), omega (arith, ints))
  | inr e ↦ let o1 = s1.odd in let o2 = s2.odd in let a = s1.down (omega arith) in let b = s2.up (omega arith) in let c = s3.down (omega arith) in
      inr (omega (arith, ints), omega (arith, ints), omega (arith, ints))
]

step_over : (x : ℕ → ℤ) (p q r t : Entry) → Step x p q → Step x q r → Step x r t → q.angle ≤ p.angle → q.angle ≤ r.angle → Step x (merged p q r) t
step_over x p q r t s1 s2 s3 l m = let o1 = s1.odd in let o2 = s2.odd in let o3 = s3.odd in record {
  odd = λ e. o3 (omega arith);
  up = λ e. let a = s1.up e in let b = s2.down (omega arith) in let c = s3.up (omega arith) in omega (arith, ints);
  down = λ e. let a = s1.down e in let b = s2.up (omega arith) in let c = s3.down (omega arith) in omega (arith, ints);
}

-- the creases up to the end of the list, where the end is another entry
follows_end : {A : Type 0} (u : A) (vs : List A) (z w a b : A) → Follows u vs z a b → (Follows u vs w a w × (b ≡ z)) ⊎ Follows u vs w a b
follows_end u [] z w a b h = inl ((h.0, refl), h.1)
follows_end u (v ∷ vs) z w a b (inl h) = inr (inl h)
follows_end u (v ∷ vs) z w a b (inr h) = elim (follows_end v vs z w a b h) [ inl k ↦ inl (inr k.0, k.1) | inr k ↦ inr (inr k) ]

pub record Front (x : ℕ → ℤ) (mark : ℕ → Mark) (p q r t : Entry) (zs : List Entry) : Type 0 where
  pub cycle : IsCycle x mark (p ∷ q ∷ r ∷ t ∷ zs)
  pub least_p : q.angle ≤ p.angle
  pub least_r : q.angle ≤ r.angle
  pub opposite : Opposite q.mark r.mark

module _ (x : ℕ → ℤ) (mark : ℕ → Mark) (p q r t : Entry) (zs : List Entry) (F : Front x mark p q r t zs) where
  step_p : Step x p q
  step_p = F.cycle.steps p q (inl (refl, refl))

  step_q : Step x q r
  step_q = F.cycle.steps q r (inr (inl (refl, refl)))

  step_r : Step x r t
  step_r = F.cycle.steps r t (inr (inr (inl (refl, refl))))

  front_cycle : IsCycle x mark (merged p q r ∷ t ∷ zs)
  front_cycle = record {
    steps = λ e f l. steps e f l;
    marked = λ e h. elim h [ inl k ↦ rw k (F.cycle.marked p (inl refl)) | inr k ↦ F.cycle.marked e (inr (inr (inr k))) ];
    distinct = (λ h. F.cycle.distinct.0 (inr (inr h)), F.cycle.distinct.1.1.1);
  }
    where
      steps : (e f : Entry) → Linked (merged p q r ∷ t ∷ zs) e f → Step x e f
      steps e f (inl h) = rw (h.0, h.1) (step_over x p q r t step_p step_q step_r F.least_p F.least_r)
      steps e f (inr h) = elim (follows_end t zs (merged p q r) p e f h) [
        | inl k ↦ let s = F.cycle.steps e p (inr (inr (inr k.0))) in rw k.1 (record { odd = s.odd; up = s.up; down = s.down })
        | inr k ↦ F.cycle.steps e f (inr (inr (inr k)))
      ]

  pub opposite : Opposite (mark q.number) (mark r.number)
  opposite = rw (F.cycle.marked q (inr (inl refl)), F.cycle.marked r (inr (inr (inl refl)))) F.opposite

  pub crimp : Crimp (In (numbers_of (merged p q r ∷ t ∷ zs))) (Linked (numbers_of (merged p q r ∷ t ∷ zs))) (In (numbers_of (p ∷ q ∷ r ∷ t ∷ zs))) (Linked (numbers_of (p ∷ q ∷ r ∷ t ∷ zs))) x p.number q.number r.number t.number
  crimp = crimp_at_front x p.number q.number r.number t.number (numbers_of zs) F.cycle.distinct step_p.odd step_q.odd step_r.odd (folded x p q r t step_p step_q step_r F.least_p F.least_r)

  module _ (order : List ℕ) (L : Layered x mark (numbers_of (merged p q r ∷ t ∷ zs)) order) where
    lacks_q : height order q.number ≡ length order
    lacks_q = L.lacks q.number (λ h. elim h [ inl e ↦ F.cycle.distinct.0 (inl (sym e)) | inr k ↦ F.cycle.distinct.1.0 (inr k) ])

    lacks_r : height order r.number ≡ length order
    lacks_r = L.lacks r.number (λ h. elim h [ inl e ↦ F.cycle.distinct.0 (inr (inl (sym e))) | inr k ↦ F.cycle.distinct.1.1.0 k ])

    holds : Holds (In (numbers_of (merged p q r ∷ t ∷ zs))) order
    holds = record { each = L.holds }

    below_p : height order p.number < length order
    below_p = L.holds p.number (inl refl)

    outside : (a : ℕ) → (In (numbers_of (p ∷ q ∷ r ∷ t ∷ zs)) a → ⊥) → height order a ≡ length order
    outside a h = L.lacks a (λ k. elim k [ inl e ↦ h (inl e) | inr k ↦ h (inr (inr (inr k))) ])

    front_up : IsUp p.number q.mark → Layered x mark (numbers_of (p ∷ q ∷ r ∷ t ∷ zs)) (undone_up order p.number q.number r.number)
    front_up u =
        let g = undo_up _ _ _ _ x mark order p.number q.number r.number t.number crimp L.rules holds lacks_q lacks_r opposite (rw (F.cycle.marked q (inr (inl refl))) u) in
        record {
          rules = g.0;
          holds = g.1.each;
          lacks = λ a h.
              let e = outside a h in let b = below_p in
              let i1 : height (insert order (height order p.number + 1) q.number) a ≡ height order a + 1 = height-insert_above order (height order p.number + 1) q.number a (λ f. h (inr (inl (sym f)))) (omega arith) in
              let i2 : height (insert (insert order (height order p.number + 1) q.number) (height order p.number + 2) r.number) a ≡ height (insert order (height order p.number + 1) q.number) a + 1
              = height-insert_above (insert order (height order p.number + 1) q.number) (height order p.number + 2) r.number a (λ f. h (inr (inr (inl (sym f))))) (omega arith) in
              let l = g.2 in omega arith;
          long = let l = g.2 in let m = L.long in omega arith;
        }

    front_down : (IsUp p.number q.mark → ⊥) → Layered x mark (numbers_of (p ∷ q ∷ r ∷ t ∷ zs)) (undone_down order p.number q.number r.number)
    front_down u =
        let g = undo_down _ _ _ _ x mark order p.number q.number r.number t.number crimp L.rules holds lacks_q lacks_r opposite (λ v. u (rw (F.cycle.marked q (inr (inl refl))) at v)) in
        record {
          rules = g.0;
          holds = g.1.each;
          lacks = λ a h.
              let e = outside a h in let b = below_p in
              let i1 : height (insert order (height order p.number) r.number) a ≡ height order a + 1 = height-insert_above order (height order p.number) r.number a (λ f. h (inr (inr (inl (sym f))))) (omega arith) in
              let i2 : height (insert (insert order (height order p.number) r.number) (height order p.number + 1) q.number) a ≡ height (insert order (height order p.number) r.number) a + 1
              = height-insert_above (insert order (height order p.number) r.number) (height order p.number + 1) q.number a (λ f. h (inr (inl (sym f)))) (omega arith) in
              let l = g.2 in omega arith;
          long = let l = g.2 in let m = L.long in omega arith;
        }

total_append : (xs ys : List Entry) → total (xs ++ ys) ≡ total xs + total ys
unfolding total
total_append [] ys = omega arith
total_append (x ∷ xs) ys = let e = total_append xs ys in omega arith

total_turn : (xs ys : List Entry) → Turned xs ys → total xs ≡ total ys
total_turn xs ys t = ap total t.from ∙ total_append t.front t.back ∙ omega arith ∙ sym (total_append t.back t.front) ∙ ap total (sym t.to)

module _ (x : ℕ → ℤ) (mark : ℕ → Mark) (es : List Entry) (i : ℕ) (I : IsCycle x mark es) (K : Crimpable es i) where
  pub record Shown : Type 0 where
    pub p : Entry
    pub q : Entry
    pub r : Entry
    pub t : Entry
    pub zs : List Entry
    pub is_p : entry_at es (before (length es) i) ≡ p
    pub is_q : entry_at es i ≡ q
    pub is_r : entry_at es (behind (length es) i) ≡ r
    pub whole : Turned es (p ∷ q ∷ r ∷ t ∷ zs)
    pub less : Turned (crimped_at es i) (merged p q r ∷ t ∷ zs)
    pub front : Front x mark p q r t zs

  shown_from : (p q r : Entry) (rest : List Entry) → entry_at es (before (length es) i) ≡ p → entry_at es i ≡ q → entry_at es (behind (length es) i) ≡ r → Turned es (p ∷ q ∷ r ∷ rest) → Turned (crimped_at es i) (merged p q r ∷ rest) → Shown
  shown_from p q r [] e f g u v = let n : length es ≡ 3 = length_turn es (p ∷ q ∷ r ∷ []) u in let m = K.four in absurd (omega arith)
  shown_from p q r (t ∷ zs) e f g u v = record {
    p = p;
    q = q;
    r = r;
    t = t;
    zs = zs;
    is_p = e;
    is_q = f;
    is_r = g;
    whole = u;
    less = v;
    front = record {
      cycle = cycle_turn x mark es (p ∷ q ∷ r ∷ t ∷ zs) u I;
      least_p = rw (f, e) at (K.least (before (length es) i) (before_lt (length es) i K.within));
      least_r = rw (f, g) at (K.least (behind (length es) i) (behind_lt (length es) i K.within));
      opposite = rw (f, g) at K.opposite;
    };
  }

  pub shown : Shown
  shown = let h = K.four in let F = fronted merged no_entry es i (omega arith) K.within in shown_from F.p F.q F.r F.rest F.before_i F.at_i F.behind_i F.whole F.less

  pub crimped_cycle : IsCycle x mark (crimped_at es i)
  crimped_cycle = cycle_turn x mark (merged shown.p shown.q shown.r ∷ shown.t ∷ shown.zs) (crimped_at es i) (turn_back shown.less) (front_cycle x mark shown.p shown.q shown.r shown.t shown.zs shown.front)

  -- two entries fewer, and no more angle
  pub shorter : length (crimped_at es i) + 2 ≡ length es
  shorter = let a : length es ≡ 4 + length shown.zs = length_turn es (shown.p ∷ shown.q ∷ shown.r ∷ shown.t ∷ shown.zs) shown.whole ∙ omega arith in
      let b : length (crimped_at es i) ≡ 2 + length shown.zs = length_turn (crimped_at es i) (merged shown.p shown.q shown.r ∷ shown.t ∷ shown.zs) shown.less ∙ omega arith in omega arith

  whole_total : total es ≡ shown.p.angle + (shown.q.angle + (shown.r.angle + (shown.t.angle + total shown.zs)))
  unfolding total
  whole_total = total_turn es (shown.p ∷ shown.q ∷ shown.r ∷ shown.t ∷ shown.zs) shown.whole

  less_total : total (crimped_at es i) ≡ (shown.p.angle + shown.r.angle - shown.q.angle) + (shown.t.angle + total shown.zs)
  unfolding total
  less_total = total_turn (crimped_at es i) (merged shown.p shown.q shown.r ∷ shown.t ∷ shown.zs) shown.less

  pub lighter : total (crimped_at es i) ≤ total es
  lighter = let a = whole_total in let b = less_total in omega arith

  pub two_fit : (entry_at es (before (length es) i)).angle + (entry_at es (behind (length es) i)).angle ≤ total es
  two_fit = let a = whole_total in let e : (entry_at es (before (length es) i)).angle ≡ shown.p.angle = ap (λ e. e.angle) shown.is_p in
      let f : (entry_at es (behind (length es) i)).angle ≡ shown.r.angle = ap (λ e. e.angle) shown.is_r in omega arith

  pub p_stays : In (numbers_of (crimped_at es i)) (entry_at es (before (length es) i)).number
  p_stays = rw shown.is_p (in_turn (numbers_of (merged shown.p shown.q shown.r ∷ shown.t ∷ shown.zs)) (numbers_of (crimped_at es i)) shown.p.number
      (turn_back (map_turn (λ e. e.number) (crimped_at es i) (merged shown.p shown.q shown.r ∷ shown.t ∷ shown.zs) shown.less)) (inl refl))

  module _ (order : List ℕ) (L : Layered x mark (numbers_of (crimped_at es i)) order) where
    at_front : Layered x mark (numbers_of (merged shown.p shown.q shown.r ∷ shown.t ∷ shown.zs)) order
    at_front = layered_turn x mark (numbers_of (crimped_at es i)) (numbers_of (merged shown.p shown.q shown.r ∷ shown.t ∷ shown.zs)) order (map_turn (λ e. e.number) (crimped_at es i) (merged shown.p shown.q shown.r ∷ shown.t ∷ shown.zs) shown.less) L

    home : (new : List ℕ) → Layered x mark (numbers_of (shown.p ∷ shown.q ∷ shown.r ∷ shown.t ∷ shown.zs)) new → Layered x mark (numbers_of es) new
    home new M = layered_turn x mark (numbers_of (shown.p ∷ shown.q ∷ shown.r ∷ shown.t ∷ shown.zs)) (numbers_of es) new (turn_back (map_turn (λ e. e.number) es (shown.p ∷ shown.q ∷ shown.r ∷ shown.t ∷ shown.zs) shown.whole)) M

    pub uncrimped_up : IsUp (entry_at es (before (length es) i)).number (entry_at es i).mark
        → Layered x mark (numbers_of es) (undone_up order (entry_at es (before (length es) i)).number (entry_at es i).number (entry_at es (behind (length es) i)).number)
    uncrimped_up u = rw (shown.is_p, shown.is_q, shown.is_r) (home _ (front_up x mark shown.p shown.q shown.r shown.t shown.zs shown.front order at_front (rw (shown.is_p, shown.is_q) at u)))

    pub uncrimped_down : (IsUp (entry_at es (before (length es) i)).number (entry_at es i).mark → ⊥)
        → Layered x mark (numbers_of es) (undone_down order (entry_at es (before (length es) i)).number (entry_at es i).number (entry_at es (behind (length es) i)).number)
    uncrimped_down u = rw (shown.is_p, shown.is_q, shown.is_r) (home _ (front_down x mark shown.p shown.q shown.r shown.t shown.zs shown.front order at_front (λ v. u (rw (shown.is_p, shown.is_q) v))))
