-- A layer order outlives a crimp: whichever way up the three sectors lie.
use Rattle.std.proofs.Common.{◌≡◌, ◌≢◌, ◌≤◌, ◌<◌, ◌+◌, ◌-◌, ◌%◌, ℕ, arith, refl, ap, subst, ◌⊎◌, inl, inr, cond, eqb, eq-eqb, true, false}
use Rattle.std.specs.Prelude.{◌↔◌, ℤ, ◌<ℤ◌, ◌≤ℤ◌}
use Rattle.std.proofs.lemmas.Int.{ints}
use Rattle.std.proofs.lemmas.Bool.{cases_eq, cases_lt, cases_Bool, eqb-true}
use Rattle.sheet.specs.declared.mark.Mark.{Mark}
use Rattle.sheet.specs.declared.mark.Mark.TheVariants as kind
use Rattle.crimp.specs.Rules.{Between, Inside, Agrees, Rules}
use Rattle.crimp.specs.Crimping.{Opposite}
use Rattle.crimp.proofs.Places.{inside_moved, between_over}
use Rattle.crimp.proofs.Opened.{Spans, Opening, Kind, Under, RightLow, RightHigh, LeftLow, LeftHigh, Over, int_order, opened}

-- the rules with other places, marks and ranks that compare alike
pub rules_moved : (Here : ℕ → Type 0) (Link : ℕ → ℕ → Type 0) (x y : ℕ → ℤ) (mark tag : ℕ → Mark) (rank new : ℕ → ℕ) → Rules Here Link x mark rank
    → ((a b c : ℕ) → Inside (y a) (y b) (y c) → Inside (x a) (x b) (x c)) → ((a b : ℕ) → y a ≡ y b → x a ≡ x b)
    → ((a b c : ℕ) → Here a → Here b → Here c → (Between (new a) (new b) (new c) ↔ Between (rank a) (rank b) (rank c))) → ((a b : ℕ) → Here a → Here b → new a ≡ new b → rank a ≡ rank b)
    → ((a b : ℕ) → Here a → Here b → Agrees (mark b) a b rank → Agrees (tag b) a b new) → Rules Here Link y tag new
rules_moved Here Link x y mark tag rank new R inside same between apart agrees = record {
  apart = λ a b h k e. R.apart a b h k (apart a b h k e);
  agrees = λ a b l h k. agrees a b h k (R.agrees a b l h k);
  clear = λ a b c d l h k m j i g. R.clear a b c d l h k m j (inside b c d i) ((between c a b j h k).0 g);
  nested = λ a b c d l h k m i j n s o.
      let q = R.nested a b c d l h k m i j n (same b d s) o in
      (λ g. (between d a b j h k).1 (q.0 ((between c a b i h k).0 g)), λ g. (between c a b i h k).1 (q.1 ((between d a b j h k).0 g)));
}

other : Mark → Mark
other kind.V = kind.M
other kind.M = kind.V

other_twice : (m : Mark) → other (other m) ≡ m
unfolding other
other_twice kind.V = refl
other_twice kind.M = refl

agrees_other : (m : Mark) (a b n : ℕ) (rank new : ℕ → ℕ) → new a + rank a ≡ n → new b + rank b ≡ n → Agrees m a b rank → Agrees (other m) a b new
unfolding other
agrees_other kind.V a b n rank new e f g = (λ o. let l = g.0 o in omega arith, λ o. let l = g.1 o in omega arith)
agrees_other kind.M a b n rank new e f g = (λ o. let l = g.0 o in omega arith, λ o. let l = g.1 o in omega arith)

-- upside down
rules_over : (Here : ℕ → Type 0) (Link : ℕ → ℕ → Type 0) (x : ℕ → ℤ) (mark : ℕ → Mark) (rank new : ℕ → ℕ) (n : ℕ) → ((a : ℕ) → Here a → new a + rank a ≡ n) → Rules Here Link x mark rank → Rules Here Link x (λ a. other (mark a)) new
rules_over Here Link x mark rank new n e R = rules_moved Here Link x x mark (λ a. other (mark a)) rank new R (λ a b c i. i) (λ a b s. s)
    (λ a b c h k l. (λ g. between_over (e a h) (e b k) (e c l) g, λ g. between_over (turned a h) (turned b k) (turned c l) g)) (λ a b h k g. let u = e a h in let v = e b k in omega arith)
    (λ a b h k g. agrees_other (mark b) a b n rank new (e a h) (e b k) g)
  where
    turned : (a : ℕ) → Here a → rank a + new a ≡ n
    turned a h = let u = e a h in omega arith

-- the three sectors lie one above the other
stacked : (m n : Mark) (p q r : ℕ) (rank : ℕ → ℕ) → Opposite m n → q % 2 ≢ p % 2 → Agrees m p q rank → Agrees n q r rank → ((rank p < rank q) × (rank q < rank r)) ⊎ ((rank r < rank q) × (rank q < rank p))
stacked kind.V kind.V p q r rank o n g h = absurd o
stacked kind.M kind.M p q r rank o n g h = absurd o
stacked kind.V kind.M p q r rank o n g h = elim (cases_eq (p % 2) 0) [ inl e ↦ inl (g.0 e, h.1 (omega arith)) | inr e ↦ inr (h.0 (omega arith), g.1 (omega arith)) ]
stacked kind.M kind.V p q r rank o n g h = elim (cases_eq (p % 2) 0) [ inl e ↦ inr (h.1 (omega arith), g.0 e) | inr e ↦ inl (g.1 (omega arith), h.0 (omega arith)) ]

-- the new rank
pick : {P Q R z : ℕ} {xr xq hi : ℤ} → ℕ → (z < P) ⊎ (P ≤ z) → (R < z) ⊎ (z ≤ R) → (z < Q) ⊎ (Q ≤ z) → (xq <ℤ hi) ⊎ ((xq ≡ hi) ⊎ (hi <ℤ xq)) → (xr <ℤ hi) ⊎ ((xr ≡ hi) ⊎ (hi <ℤ xr)) → ℕ
pick {z = z} N (inl a) v w i j = z
pick {z = z} N (inr a) (inl b) w i j = N + N + N + N + z
pick {z = z} N (inr a) (inr b) (inl c) (inl i) j = N + z
pick {z = z} N (inr a) (inr b) (inl c) (inr i) j = N + N + N + z
pick {z = z} N (inr a) (inr b) (inr c) i (inl j) = N + z
pick {z = z} N (inr a) (inr b) (inr c) i (inr j) = N + N + N + z

at_most : {y h : ℤ} → (y ≡ h) ⊎ (h <ℤ y) → h ≤ℤ y
at_most (inl e) = omega (arith, ints)
at_most (inr l) = omega (arith, ints)

not_less : {l y : ℤ} → (l <ℤ y → ⊥) → y ≤ℤ l
not_less {l = l} {y = y} n = elim (int_order l y) [ inl h ↦ absurd (n h) | inr s ↦ elim s [ inl e ↦ omega (arith, ints) | inr h ↦ omega (arith, ints) ] ]

picked : {P Q R z : ℕ} {xr xq lo hi : ℤ} (N : ℕ) (u : (z < P) ⊎ (P ≤ z)) (v : (R < z) ⊎ (z ≤ R)) (w : (z < Q) ⊎ (Q ≤ z)) (i : (xq <ℤ hi) ⊎ ((xq ≡ hi) ⊎ (hi <ℤ xq))) (j : (xr <ℤ hi) ⊎ ((xr ≡ hi) ⊎ (hi <ℤ xr)))
    → P < Q → Q < R → z ≢ P → z ≢ Q → z ≢ R → (P < z → z < Q → xq <ℤ hi → lo <ℤ xq → ⊥) → (Q < z → z < R → xr <ℤ hi → lo <ℤ xr → ⊥) → Kind P Q R N z (pick N u v w i j) xr xq lo hi
unfolding pick
picked N (inl a) v w i j l m np nq nr f g = Under a refl
picked N (inr a) (inl b) w i j l m np nq nr f g = Over b refl
picked N (inr a) (inr b) (inl c) (inl i) j l m np nq nr f g = RightLow (omega arith) c (not_less (f (omega arith) c i)) refl
picked N (inr a) (inr b) (inl c) (inr i) j l m np nq nr f g = LeftLow (omega arith) c (at_most i) refl
picked N (inr a) (inr b) (inr c) i (inl j) l m np nq nr f g = RightHigh (omega arith) (omega arith) (not_less (g (omega arith) (omega arith) j)) refl
picked N (inr a) (inr b) (inr c) i (inr j) l m np nq nr f g = LeftHigh (omega arith) (omega arith) (at_most j) refl

opened_rank : ℕ → (ℕ → ℕ) → (ℕ → ℤ) → ℤ → ℤ → ℕ → ℕ → ℕ → ℕ → ℕ
opened_rank N rank hi xr xq p q r a = cond (eqb a p) (N + N + rank p) (pick N (cases_lt (rank a) (rank p)) (cases_lt (rank r) (rank a)) (cases_lt (rank a) (rank q)) (int_order xq (hi a)) (int_order xr (hi a)))

kind_below : {P Q R N z y : ℕ} {xr xq lo hi : ℤ} → z < N → P < N → Kind P Q R N z y xr xq lo hi → y < N + N + N + N + N
kind_below n m (Under a e) = omega arith
kind_below n m (RightLow a b i e) = omega arith
kind_below n m (RightHigh a b i e) = omega arith
kind_below n m (LeftLow a b i e) = omega arith
kind_below n m (LeftHigh a b i e) = omega arith
kind_below n m (Over a e) = omega arith

module _ (Here Less : ℕ → Type 0) (Link Small : ℕ → ℕ → Type 0) (x lo hi : ℕ → ℤ) (mark : ℕ → Mark) (rank : ℕ → ℕ) (s N p q r t : ℕ)
    (S : Spans Here Link x lo hi s) (O : Opening Here Less Link Small x lo hi s p q r t) (R : Rules Here Link x mark rank) (bound : (a : ℕ) → Here a → rank a < N)
    (pq : rank p < rank q) (qr : rank q < rank r) where
  pub new_rank : ℕ → ℕ
  new_rank = opened_rank N rank hi (lo q) (hi q) p q r

  self_rank : new_rank p ≡ N + N + rank p
  unfolding new_rank opened_rank
  self_rank = let e : eqb p p ≡ true = eq-eqb p p refl in rw e refl

  kind_of : (a : ℕ) → Less a → a ≢ p → Kind (rank p) (rank q) (rank r) N (rank a) (new_rank a) (lo q) (hi q) (lo a) (hi a)
  unfolding new_rank opened_rank
  kind_of a h n =
      let i = O.less a h in
      let e : eqb a p ≡ false = elim (cases_Bool (eqb a p)) [ inl e ↦ absurd (n (eqb-true a p e)) | inr e ↦ e ] in
      let eq = (S.left_side p q O.first O.odd_q).1 in let er = (S.right_side q r O.second O.odd_r).0 in
      let k = picked {xr = lo q} {xq = hi q} {lo = lo a} {hi = hi a} N (cases_lt (rank a) (rank p)) (cases_lt (rank r) (rank a)) (cases_lt (rank a) (rank q)) (int_order (hi q) (hi a)) (int_order (lo q) (hi a)) pq qr
      (λ f. n (R.apart a p i.0 O.here_p f)) (λ f. i.1.0 (R.apart a q i.0 O.here_q f)) (λ f. i.1.1 (R.apart a r i.0 O.here_r f))
      (λ l m u v. let o = S.outside a (hi q) i.0 v u in R.clear p q a o.0 O.first O.here_p O.here_q o.1.0 i.0 (inside_moved eq refl refl o.1.1) (inl (l, m)))
      (λ l m u v. let o = S.outside a (lo q) i.0 v u in R.clear q r a o.0 O.second O.here_q O.here_r o.1.0 i.0 (inside_moved er refl refl o.1.1) (inl (l, m))) in
      rw e k

  pub upwards : Rules Less Small x mark new_rank
  upwards = opened Here Less Link Small x lo hi mark rank new_rank s N p q r t S O R (record { p_q = pq; q_r = qr; bound = bound; self = self_rank; kinds = kind_of })

  pub upwards_below : (a : ℕ) → Less a → new_rank a < N + N + N + N + N
  upwards_below a h = elim (cases_eq a p) [
    | inl e ↦ let f = self_rank in let g : new_rank a ≡ new_rank p = ap new_rank e in let b = bound p O.here_p in omega arith
    | inr n ↦ kind_below (bound a (O.less a h).0) (bound p O.here_p) (kind_of a h n)
  ]

-- The order outlives the crimp.
pub outlives : (Here Less : ℕ → Type 0) (Link Small : ℕ → ℕ → Type 0) (x lo hi : ℕ → ℤ) (mark : ℕ → Mark) (rank : ℕ → ℕ) (s N p q r t : ℕ)
    → Spans Here Link x lo hi s → Opening Here Less Link Small x lo hi s p q r t → Rules Here Link x mark rank → ((a : ℕ) → Here a → rank a < N) → Opposite (mark q) (mark r)
    → (new : ℕ → ℕ) × Rules Less Small x mark new
outlives Here Less Link Small x lo hi mark rank s N p q r t S O R bound o =
    elim (stacked (mark q) (mark r) p q r rank o (let e = O.odd_p in let f = O.odd_q in omega arith) (R.agrees p q O.first O.here_p O.here_q) (R.agrees q r O.second O.here_q O.here_r)) [
      | inl l ↦ (new_rank Here Less Link Small x lo hi mark rank s N p q r t S O R bound l.0 l.1, upwards Here Less Link Small x lo hi mark rank s N p q r t S O R bound l.0 l.1)
      | inr l ↦ downwards l.1 l.0
    ]
  where
    downwards : rank q < rank p → rank r < rank q → (new : ℕ → ℕ) × Rules Less Small x mark new
    downwards qp rq =
        let tag : ℕ → Mark = λ a. other (mark a) in
        let low : ℕ → ℕ = λ a. N - rank a in
        let R' : Rules Here Link x (λ a. other (mark a)) (λ a. N - rank a) = rules_over Here Link x mark rank (λ a. N - rank a) N (λ a h. let b = bound a h in omega arith) R in
        let b' : (a : ℕ) → Here a → N - rank a < N + 1 = λ a h. omega arith in
        let bp = bound p O.here_p in let bq = bound q O.here_q in let br = bound r O.here_r in
        let l' : N - rank p < N - rank q = omega arith in
        let m' : N - rank q < N - rank r = omega arith in
        let new' = new_rank Here Less Link Small x lo hi (λ a. other (mark a)) (λ a. N - rank a) s (N + 1) p q r t S O R' b' l' m' in
        let U = upwards Here Less Link Small x lo hi (λ a. other (mark a)) (λ a. N - rank a) s (N + 1) p q r t S O R' b' l' m' in
        let B = upwards_below Here Less Link Small x lo hi (λ a. other (mark a)) (λ a. N - rank a) s (N + 1) p q r t S O R' b' l' m' in
        let M = N + 1 + (N + 1) + (N + 1) + (N + 1) + (N + 1) in
        let V = rules_over Less Small x (λ a. other (mark a)) new' (λ a. M - new' a) M (λ a h. let b = B a h in omega arith) U in (
          λ a. M - new' a,
          rules_moved Less Small x x (λ a. other (other (mark a))) mark (λ a. M - new' a) (λ a. M - new' a) V (λ a b c i. i) (λ a b e. e) (λ a b c h k j. (λ g. g, λ g. g)) (λ a b h k e. e)
              (λ a b h k g. subst (λ m. Agrees m a b (λ c. M - new' c)) (other_twice (mark b)) g),
        )
