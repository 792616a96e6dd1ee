-- Putting in one sector after another misses no order.
use Rattle.std.proofs.Common.{◌≡◌, ◌≢◌, ◌≤◌, ◌<◌, ◌+◌, ℕ, zero, suc, arith, refl, subst, ap, sym, ◌∙◌, inl, inr, List, [], ◌∷◌, length, get_or, false, not, ltb}
use Rattle.std.specs.Prelude.{ℤ}
use Rattle.std.specs.List.{insert, position_or_len}
use Rattle.std.proofs.lemmas.Bool.{cases_eq, cases_lt, cases_order, ltb-true, lt-ltb, false≢true}
use Rattle.std.proofs.lemmas.List.Edits.{length-insert}
use Rattle.std.proofs.lemmas.List.Sums.{fails_before_first, passes_at_first, prefix_len-le-length}
use Rattle.sheet.specs.declared.mark.Mark.{Mark}
use Rattle.sheet.specs.declared.mark.Mark.TheVariants as kind
use Rattle.crimp.specs.Rules.{Between, Agrees, Rules}
use Rattle.layers.specs.LayerOrder.{height}
use Rattle.crimp.proofs.Partial.{Partial, Ascends}
use Rattle.crimp.proofs.Orders.{height_here, height_past, height-insert_below, height-insert_above, height-insert_at}
use Rattle.crimp.proofs.Cyclic.{fewer}

-- the rules depend on which sector stands above which alone
module _ (Here : ℕ → Type 0) (Link : ℕ → ℕ → Type 0) (x : ℕ → ℤ) (mark : ℕ → Mark) (rank new : ℕ → ℕ)
    (R : Rules Here Link x mark rank) (on : (a b : ℕ) → Here a → Here b → rank a < rank b → new a < new b) where
  back : (a b : ℕ) → Here a → Here b → new a < new b → rank a < rank b
  back a b h k l = elim (cases_order (rank a) (rank b)) [
    | inl e ↦ let f : new a ≡ new b = ap new (R.apart a b h k e) in absurd (omega arith)
    | inr o ↦ elim o [ inl m ↦ m | inr m ↦ let g : new b < new a = on b a k h m in absurd (omega arith) ]
  ]

  between_on : (a b c : ℕ) → Here a → Here b → Here c → Between (rank a) (rank b) (rank c) → Between (new a) (new b) (new c)
  between_on a b c h k l (inl g) = inl (on b a k h g.0, on a c h l g.1)
  between_on a b c h k l (inr g) = inr (on c a l h g.0, on a b h k g.1)

  between_back : (a b c : ℕ) → Here a → Here b → Here c → Between (new a) (new b) (new c) → Between (rank a) (rank b) (rank c)
  between_back a b c h k l (inl g) = inl (back b a k h g.0, back a c h l g.1)
  between_back a b c h k l (inr g) = inr (back c a l h g.0, back a b h k g.1)

  agrees_on : (m : Mark) (a b : ℕ) → Here a → Here b → Agrees m a b rank → Agrees m a b new
  agrees_on kind.V a b h k g = (λ o. on a b h k (g.0 o), λ o. on b a k h (g.1 o))
  agrees_on kind.M a b h k g = (λ o. on b a k h (g.0 o), λ o. on a b h k (g.1 o))

  apart_on : (a b : ℕ) → Here a → Here b → new a ≡ new b → a ≡ b
  apart_on a b h k e = elim (cases_order (rank a) (rank b)) [
    | inl e ↦ R.apart a b h k e
    | inr o ↦ elim o [ inl m ↦ let g : new a < new b = on a b h k m in absurd (omega arith) | inr m ↦ let g : new b < new a = on b a k h m in absurd (omega arith) ]
  ]

  pub moved : Rules Here Link x mark new
  moved = record {
    apart = apart_on;
    agrees = λ a b l h k. agrees_on (mark b) a b h k (R.agrees a b l h k);
    clear = λ a b c d l h k m j i g. R.clear a b c d l h k m j i (between_back c a b j h k g);
    nested = λ a b c d l h k m i j n s o. let e = R.nested a b c d l h k m i j n s o in
        (λ g. between_on d a b j h k (e.0 (between_back c a b i h k g)), λ g. between_on c a b i h k (e.1 (between_back d a b j h k g)));
  }

-- the sector at a place stands there or earlier
height-get_or : (xs : List ℕ) (i : ℕ) → i < length xs → height xs (get_or xs i 0) ≤ i
height-get_or [] i h = absurd (omega arith)
height-get_or (x ∷ xs) zero h = let e : height (x ∷ xs) x ≡ 0 = height_here x xs x refl in omega arith
height-get_or (x ∷ xs) (suc i) h = elim (cases_eq x (get_or xs i 0)) [
  | inl e ↦ let f : height (x ∷ xs) (get_or xs i 0) ≡ 0 = height_here x xs (get_or xs i 0) e in omega arith
  | inr n ↦ let f : height (x ∷ xs) (get_or xs i 0) ≡ 1 + height xs (get_or xs i 0) = height_past x xs (get_or xs i 0) n in
      let g : height xs (get_or xs i 0) ≤ i = height-get_or xs i (omega arith) in omega arith
]

pub get_or-height : (xs : List ℕ) (a : ℕ) → height xs a < length xs → get_or xs (height xs a) 0 ≡ a
get_or-height [] a h = absurd (omega arith)
get_or-height (x ∷ xs) a h = elim (cases_eq x a) [
  | inl e ↦ let f : height (x ∷ xs) a ≡ 0 = height_here x xs a e in rw f e
  | inr n ↦ let f : height (x ∷ xs) a ≡ suc (height xs a) = height_past x xs a n ∙ omega arith in rw f (get_or-height xs a (omega arith))
]

record Place (rank : ℕ → ℕ) (order : List ℕ) (k i : ℕ) : Type 0 where
  within : i ≤ k
  below : (a : ℕ) → a < k → rank a < rank k → height order a < i
  above : (a : ℕ) → a < k → rank k < rank a → i ≤ height order a

place_is : (rank : ℕ → ℕ) (order : List ℕ) (k : ℕ) → Partial order k → Ascends rank order k → Place rank order k (position_or_len (λ y. ltb (rank k) (rank y)) order)
place_is rank order k P A = record {
  within = omega (arith, prefix_len-le-length (λ y. not (ltb (rank k) (rank y))) order, P.long);
  below = λ a h l. elim (cases_lt (height order a) (position_or_len (λ y. ltb (rank k) (rank y)) order)) [
    | inl m ↦ m
    | inr m ↦
        let s = P.each a h in
        let e = P.long in
        let i = position_or_len (λ y. ltb (rank k) (rank y)) order in
        let b = get_or order i 0 in
        let t : rank k < rank b = ltb-true (rank k) (rank b) (passes_at_first (λ y. ltb (rank k) (rank y)) order 0 (omega arith)) in
        let u : height order b ≤ i = height-get_or order i (omega arith) in
        elim (cases_lt b k) [
          | inl v ↦ let w : height order a < height order b = A.up a b h v (omega arith) in absurd (omega arith)
          | inr v ↦ let w : height order b ≡ k = P.lacks b v in absurd (omega arith)
        ]
  ];
  above = λ a h l. elim (cases_lt (height order a) (position_or_len (λ y. ltb (rank k) (rank y)) order)) [
    | inl m ↦
        let s = P.each a h in
        let e = P.long in
        let f : ltb (rank k) (rank (get_or order (height order a) 0)) ≡ false = fails_before_first (λ y. ltb (rank k) (rank y)) order (height order a) 0 m in
        let g : get_or order (height order a) 0 ≡ a = get_or-height order a (omega arith) in
        absurd (false≢true (sym (subst (λ y. ltb (rank k) (rank y) ≡ false) g f) ∙ lt-ltb (rank k) (rank a) l))
    | inr m ↦ m
  ];
}

-- sector k put in at place i
record Put (rank : ℕ → ℕ) (order : List ℕ) (k i : ℕ) : Type 0 where
  within : i ≤ k
  whole : Partial (insert order i k) (k + 1)
  ascends : Ascends rank (insert order i k) (k + 1)

put_in : (rank : ℕ → ℕ) (order : List ℕ) (k i : ℕ) → ((a : ℕ) → a < k → rank a ≢ rank k) → Partial order k → Ascends rank order k → Place rank order k i → Put rank order k i
put_in rank order k i apart P A L = record {
  within = L.within;
  whole = record {
    long = length-insert order i k (omega arith) ∙ omega arith;
    each = λ a h. elim (cases_lt a k) [
      | inl m ↦ let s = P.each a m in elim (cases_lt (height order a) i) [ inl l ↦ let e = low a m l in omega arith | inr l ↦ let e = high a m l in omega arith ]
      | inr m ↦ let e : a ≡ k = omega arith in let f : height (insert order i k) a ≡ height (insert order i k) k = ap (height (insert order i k)) e in let g = L.within in omega (arith, new)
    ];
    lacks = λ a h. let s : height order a ≡ k = P.lacks a (omega arith) in let g = L.within in height-insert_above order i k a (λ e. omega arith) (omega arith) ∙ omega arith;
  };
  ascends = record {
    up = λ a b h g l. elim (cases_lt a k) [
      | inl m ↦ elim (cases_lt b k) [
        | inl n ↦ let s : height order a < height order b = A.up a b m n l in elim (cases_lt (height order a) i) [
          | inl u ↦ let e = low a m u in elim (cases_lt (height order b) i) [ inl v ↦ let f = low b n v in omega arith | inr v ↦ let f = high b n v in omega arith ]
          | inr u ↦ let e = high a m u in let f = high b n (omega arith) in omega arith
        ]
        | inr n ↦ let c : b ≡ k = omega arith in let d : rank b ≡ rank k = ap rank c in let f : height (insert order i k) b ≡ height (insert order i k) k = ap (height (insert order i k)) c in
            let u = L.below a m (omega arith) in let e = low a m u in omega (arith, new)
      ]
      | inr m ↦ let c : a ≡ k = omega arith in let d : rank a ≡ rank k = ap rank c in let f : height (insert order i k) a ≡ height (insert order i k) k = ap (height (insert order i k)) c in
          elim (cases_lt b k) [
            | inl n ↦ let u = L.above b n (omega arith) in let e = high b n u in omega (arith, new)
            | inr n ↦ let c' : b ≡ k = omega arith in let d' : rank b ≡ rank k = ap rank c' in absurd (omega arith)
          ]
    ];
  };
}
  where
    long : length order ≡ k
    long = P.long

    new : height (insert order i k) k ≡ i
    new = let g = L.within in height-insert_at order i k (omega (arith, long)) (P.lacks k (omega arith) ∙ sym P.long)

    low : (a : ℕ) → a < k → height order a < i → height (insert order i k) a ≡ height order a
    low a h l = let g = L.within in height-insert_below order i k a (λ e. omega arith) (omega (arith, long)) l

    high : (a : ℕ) → a < k → i ≤ height order a → height (insert order i k) a ≡ height order a + 1
    high a h l = height-insert_above order i k a (λ e. omega arith) l

module _ (n : ℕ) (Link : ℕ → ℕ → Type 0) (x : ℕ → ℤ) (mark : ℕ → Mark) (rank : ℕ → ℕ) (R : Rules (λ a. a < n) Link x mark rank) where
  -- where an order of all sectors goes through this order of the first ones, it goes through one with the next sector put in, and that one keeps the rules
  pub goes_on : (order : List ℕ) (k : ℕ) → k < n → Partial order k → Ascends rank order k
      → (i : ℕ) × (i ≤ k) × Partial (insert order i k) (k + 1) × Ascends rank (insert order i k) (k + 1) × Rules (λ a. a < k + 1) Link x mark (height (insert order i k))
  goes_on order k h P A =
      let i = position_or_len (λ y. ltb (rank k) (rank y)) order in
      let put : Put rank order k i = put_in rank order k i (λ a m e. let f : a ≡ k = R.apart a k (omega arith) h e in absurd (omega arith)) P A (place_is rank order k P A) in (
        i,
        put.within,
        put.whole,
        put.ascends,
        moved (λ a. a < k + 1) Link x mark rank (height (insert order i k)) (fewer (λ a. a < n) (λ a. a < k + 1) Link Link x mark rank (λ a l. omega arith) (λ a b l. l) R) put.ascends.up,
      )

  first_ones : (k : ℕ) → k ≤ n → (order : List ℕ) × Partial order k × Ascends rank order k
  first_ones zero h = ([], record { long = refl; each = λ a l. absurd (omega arith); lacks = λ a l. refl }, record { up = λ a b l. absurd (omega arith) })
  first_ones (suc k) h =
      let s = first_ones k (omega arith) in
      let t = goes_on s.0 k (omega arith) s.1 s.2 in
      let e : k + 1 ≡ suc k = omega arith in
      (insert s.0 t.0 k, subst (Partial (insert s.0 t.0 k)) e t.2, subst (Ascends rank (insert s.0 t.0 k)) e t.3)

  -- ranks make an order
  pub listed : (order : List ℕ) × Partial order n × Ascends rank order n × Rules (λ a. a < n) Link x mark (height order)
  listed = let s = first_ones n (omega arith) in (s.0, s.1, s.2, moved (λ a. a < n) Link x mark rank (height s.0) R s.2.up)
