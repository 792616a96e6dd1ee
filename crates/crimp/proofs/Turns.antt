-- A crimp at any place is a crimp at the front, once the list is turned.
use Rattle.std.proofs.Common.{◌≡◌, ◌≢◌, ◌≤◌, ◌<◌, ◌+◌, ◌-◌, ℕ, zero, suc, arith, refl, subst, ap, sym, ◌∙◌, inl, inr, List, [], ◌∷◌, ◌++◌, length, get_or, set, true, false, eq-eqb, eqb, cond}
use Rattle.std.specs.List.{remove}
use Rattle.std.proofs.lemmas.Bool.{cases_Bool, eqb-true}
use Rattle.std.proofs.lemmas.List.{length-append}
use Rattle.layers.specs.LayerOrder.{before}
use Rattle.layers.specs.Sectors.{behind}
use Rattle.crimp.specs.Crimping.{crimped}
use Rattle.crimp.proofs.Turned.{Fronted}

get_past : {A : Type 0} (us bs : List A) (j : ℕ) (d : A) → get_or (us ++ bs) (length us + j) d ≡ get_or bs j d
get_past [] bs j d = let e : 0 + j ≡ j = omega arith in rw e refl
get_past (a ∷ us) bs j d = let e : length (a ∷ us) + j ≡ suc (length us + j) = omega arith in rw e (get_past us bs j d)

set_past : {A : Type 0} (us bs : List A) (j : ℕ) (v : A) → set (us ++ bs) (length us + j) v ≡ us ++ set bs j v
set_past [] bs j v = let e : 0 + j ≡ j = omega arith in rw e refl
set_past (a ∷ us) bs j v = let e : length (a ∷ us) + j ≡ suc (length us + j) = omega arith in rw e (ap (λ ys. a ∷ ys) (set_past us bs j v))

remove_past : {A : Type 0} (us bs : List A) (j : ℕ) → remove (us ++ bs) (length us + j) ≡ us ++ remove bs j
remove_past [] bs j = let e : 0 + j ≡ j = omega arith in rw e refl
remove_past (a ∷ us) bs j = let e : length (a ∷ us) + j ≡ suc (length us + j) = omega arith in rw e (ap (λ ys. a ∷ ys) (remove_past us bs j))

pub record Cut {A : Type 0} (xs : List A) (k : ℕ) : Type 0 where
  us : List A
  y : A
  bs : List A
  is : xs ≡ us ++ y ∷ bs
  at : length us ≡ k

pub cut : {A : Type 0} (xs : List A) (k : ℕ) → k < length xs → Cut xs k
cut [] k h = absurd (omega arith)
cut (x ∷ xs) zero h = record { us = []; y = x; bs = xs; is = refl; at = refl }
cut (x ∷ xs) (suc k) h = let c = cut xs k (omega arith) in let e = c.at in
    record { us = x ∷ c.us; y = c.y; bs = c.bs; is = ap (λ ys. x ∷ ys) c.is; at = omega arith }

no_last : (i n : ℕ) → i + 1 ≢ n → eqb (i + 1) n ≡ false
no_last i n h = elim (cases_Bool (eqb (i + 1) n)) [ inl t ↦ absurd (h (eqb-true (i + 1) n t)) | inr f ↦ f ]

module _ {A : Type 0} (merge : A → A → A → A) (none : A) where
  -- what a crimp comes to, once its places are known
  pieces : (xs : List A) (i a b j : ℕ) (p q r : A) → before (length xs) i ≡ a → behind (length xs) i ≡ b → cond (eqb (i + 1) (length xs)) 0 i ≡ j
      → get_or xs a none ≡ p → get_or xs i none ≡ q → get_or xs b none ≡ r → crimped merge none xs i ≡ remove (remove (set xs a (merge p q r)) i) j
  unfolding crimped
  pieces xs i a b j p q r ea eb ej ep eq er =
      ap (λ k. remove (remove (set xs k (merge (get_or xs k none) (get_or xs i none) (get_or xs (behind (length xs) i) none))) i) (cond (eqb (i + 1) (length xs)) 0 i)) ea
      ∙ ap (λ k. remove (remove (set xs a (merge (get_or xs a none) (get_or xs i none) (get_or xs k none))) i) (cond (eqb (i + 1) (length xs)) 0 i)) eb
      ∙ ap (λ k. remove (remove (set xs a (merge (get_or xs a none) (get_or xs i none) (get_or xs b none))) i) k) ej
      ∙ ap (λ k. remove (remove (set xs a (merge k (get_or xs i none) (get_or xs b none))) i) j) ep
      ∙ ap (λ k. remove (remove (set xs a (merge p k (get_or xs b none))) i) j) eq
      ∙ ap (λ k. remove (remove (set xs a (merge p q k)) i) j) er

  middle : (us : List A) (p q r : A) (zs : List A) → Fronted merge none (us ++ p ∷ q ∷ r ∷ zs) (suc (length us)) (crimped merge none (us ++ p ∷ q ∷ r ∷ zs) (suc (length us)))
  unfolding before behind
  middle us p q r zs =
      let xs = us ++ p ∷ q ∷ r ∷ zs in
      let n : length xs ≡ length us + (3 + length zs) = length-append us (p ∷ q ∷ r ∷ zs) ∙ omega arith in
      let l : eqb (suc (length us) + 1) (length xs) ≡ false = no_last (suc (length us)) (length xs) (λ e. omega arith) in
      let e0 : length us ≡ length us + 0 = omega arith in
      let e1 : suc (length us) ≡ length us + 1 = omega arith in
      let e2 : suc (length us) + 1 ≡ length us + 2 = omega arith in
      let eb : behind (length xs) (suc (length us)) ≡ length us + 2 = ap (λ b. cond b 0 (suc (length us) + 1)) l ∙ e2 in
      let gp : get_or xs (length us) none ≡ p = ap (λ k. get_or xs k none) e0 ∙ get_past us (p ∷ q ∷ r ∷ zs) 0 none in
      let gq : get_or xs (suc (length us)) none ≡ q = ap (λ k. get_or xs k none) e1 ∙ get_past us (p ∷ q ∷ r ∷ zs) 1 none in
      let gr : get_or xs (length us + 2) none ≡ r = get_past us (p ∷ q ∷ r ∷ zs) 2 none in
      let m = merge p q r in
      record {
        p = p;
        q = q;
        r = r;
        rest = zs ++ us;
        whole = record { front = us; back = p ∷ q ∷ r ∷ zs; from = refl; to = refl };
        less = record {
          front = us;
          back = m ∷ zs;
          to = refl;
          from = pieces xs (suc (length us)) (length us) (length us + 2) (length us + 1) p q r refl eb (ap (λ b. cond b 0 (suc (length us))) l ∙ e1) gp gq gr
              ∙ ap (λ k. remove (remove k (suc (length us))) (length us + 1)) (ap (λ k. set xs k m) e0 ∙ set_past us (p ∷ q ∷ r ∷ zs) 0 m)
              ∙ ap (λ k. remove k (length us + 1)) (ap (λ k. remove (us ++ m ∷ q ∷ r ∷ zs) k) e1 ∙ remove_past us (m ∷ q ∷ r ∷ zs) 1)
              ∙ remove_past us (m ∷ r ∷ zs) 1;
        };
        before_i = gp;
        at_i = gq;
        behind_i = ap (λ k. get_or xs k none) eb ∙ gr;
      }

  -- the first entry is crimped: the one before it is the last
  first : (q r : A) (zs : List A) (p : A) → Fronted merge none (q ∷ r ∷ zs ++ p ∷ []) 0 (crimped merge none (q ∷ r ∷ zs ++ p ∷ []) 0)
  unfolding before behind
  first q r zs p =
      let us = q ∷ r ∷ zs in
      let xs = us ++ p ∷ [] in
      let n : length xs ≡ length us + 1 = length-append us (p ∷ []) in
      let l : eqb 1 (length xs) ≡ false = no_last 0 (length xs) (λ e. omega arith) in
      let ea : before (length xs) 0 ≡ length us + 0 = omega arith in
      let eb : behind (length xs) 0 ≡ 1 = ap (λ b. cond b 0 1) l in
      let m = merge p q r in
      record {
        p = p;
        q = q;
        r = r;
        rest = zs;
        whole = record { front = us; back = p ∷ []; from = refl; to = refl };
        less = record {
          front = zs;
          back = m ∷ [];
          to = refl;
          from = pieces xs 0 (length us + 0) 1 0 p q r ea eb (ap (λ b. cond b 0 0) l) (get_past us (p ∷ []) 0 none) refl refl
              ∙ ap (λ k. remove (remove k 0) 0) (set_past us (p ∷ []) 0 m);
        };
        before_i = ap (λ k. get_or xs k none) ea ∙ get_past us (p ∷ []) 0 none;
        at_i = refl;
        behind_i = ap (λ k. get_or xs k none) eb;
      }

  -- the last entry is crimped: the one behind it is the first
  last : (r : A) (zs : List A) (p q : A) → Fronted merge none (r ∷ zs ++ p ∷ q ∷ []) (suc (length (r ∷ zs))) (crimped merge none (r ∷ zs ++ p ∷ q ∷ []) (suc (length (r ∷ zs))))
  unfolding before behind
  last r zs p q =
      let us = r ∷ zs in
      let xs = us ++ p ∷ q ∷ [] in
      let n : length xs ≡ length us + 2 = length-append us (p ∷ q ∷ []) in
      let l : eqb (suc (length us) + 1) (length xs) ≡ true = eq-eqb (suc (length us) + 1) (length xs) (omega arith) in
      let e0 : length us ≡ length us + 0 = omega arith in
      let e1 : suc (length us) ≡ length us + 1 = omega arith in
      let eb : behind (length xs) (suc (length us)) ≡ 0 = ap (λ b. cond b 0 (suc (length us) + 1)) l in
      let gp : get_or xs (length us) none ≡ p = ap (λ k. get_or xs k none) e0 ∙ get_past us (p ∷ q ∷ []) 0 none in
      let gq : get_or xs (suc (length us)) none ≡ q = ap (λ k. get_or xs k none) e1 ∙ get_past us (p ∷ q ∷ []) 1 none in
      let m = merge p q r in
      record {
        p = p;
        q = q;
        r = r;
        rest = zs;
        whole = record { front = us; back = p ∷ q ∷ []; from = refl; to = refl };
        less = record {
          front = zs;
          back = m ∷ [];
          to = refl;
          from = pieces xs (suc (length us)) (length us) 0 0 p q r refl eb (ap (λ b. cond b 0 (suc (length us))) l) gp gq refl
              ∙ ap (λ k. remove (remove k (suc (length us))) 0) (ap (λ k. set xs k m) e0 ∙ set_past us (p ∷ q ∷ []) 0 m)
              ∙ ap (λ k. remove k 0) (ap (λ k. remove (us ++ m ∷ q ∷ []) k) e1 ∙ remove_past us (m ∷ q ∷ []) 1);
        };
        before_i = gp;
        at_i = gq;
        behind_i = ap (λ k. get_or xs k none) eb;
      }

  from_cut : (xs us : List A) (p : A) (ws : List A) (j : ℕ) → xs ≡ us ++ p ∷ ws → length us ≡ j → 3 ≤ length xs → suc j < length xs → Fronted merge none xs (suc j) (crimped merge none xs (suc j))
  from_cut xs us p [] j e f h k = let n : length xs ≡ length us + 1 = ap length e ∙ length-append us (p ∷ []) in absurd (omega arith)
  from_cut xs [] p (q ∷ []) j e f h k = let n : length xs ≡ 2 = ap length e in absurd (omega arith)
  from_cut xs (r ∷ zs) p (q ∷ []) j e f h k =
      subst (λ ys. Fronted merge none ys (suc j) (crimped merge none ys (suc j))) (sym e)
      (subst (λ m. Fronted merge none (r ∷ zs ++ p ∷ q ∷ []) (suc m) (crimped merge none (r ∷ zs ++ p ∷ q ∷ []) (suc m))) f (last r zs p q))
  from_cut xs us p (q ∷ r ∷ zs) j e f h k =
      subst (λ ys. Fronted merge none ys (suc j) (crimped merge none ys (suc j))) (sym e)
      (subst (λ m. Fronted merge none (us ++ p ∷ q ∷ r ∷ zs) (suc m) (crimped merge none (us ++ p ∷ q ∷ r ∷ zs) (suc m))) f (middle us p q r zs))

  first_cut : (q r : A) (xs us : List A) (p : A) (ws : List A) → xs ≡ us ++ p ∷ ws → length us + 1 ≡ length xs → Fronted merge none (q ∷ r ∷ xs) 0 (crimped merge none (q ∷ r ∷ xs) 0)
  first_cut q r xs us p [] e f = subst (λ ys. Fronted merge none (q ∷ r ∷ ys) 0 (crimped merge none (q ∷ r ∷ ys) 0)) (sym e) (first q r us p)
  first_cut q r xs us p (w ∷ ws) e f = let n : length xs ≡ length us + (2 + length ws) = ap length e ∙ length-append us (p ∷ w ∷ ws) ∙ omega arith in absurd (omega arith)

  -- a list of three entries or more, crimped at any place
  pub fronted : (xs : List A) (i : ℕ) → 3 ≤ length xs → i < length xs → Fronted merge none xs i (crimped merge none xs i)
  fronted [] i h k = absurd (omega arith)
  fronted (q ∷ []) i h k = absurd (omega arith)
  fronted (q ∷ r ∷ xs) zero h k = let n : 1 ≤ length xs = omega arith in let c = cut xs (length xs - 1) (omega arith) in let f = c.at in first_cut q r xs c.us c.y c.bs c.is (omega arith)
  fronted (q ∷ r ∷ xs) (suc j) h k = let c = cut (q ∷ r ∷ xs) j (omega arith) in from_cut (q ∷ r ∷ xs) c.us c.y c.bs j c.is c.at h k
