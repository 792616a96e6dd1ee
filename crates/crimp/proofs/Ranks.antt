-- A crimp undone in ranks.
use Rattle.std.proofs.Common.{◌≡◌, ◌≢◌, ◌≤◌, ◌<◌, ◌+◌, ◌%◌, ℕ, arith, refl, subst, ap, sym, ◌∙◌, ◌⊎◌, inl, inr, List, ◌∷◌, cond, eqb, eq-eqb, ltb, true, false}
use Rattle.std.specs.Prelude.{ℤ}
use Rattle.std.proofs.lemmas.Bool.{cases_eq, cases_lt, cases_Bool, ltb-true, lt-ltb, ne_eqb}
use Rattle.sheet.specs.declared.mark.Mark.{Mark}
use Rattle.sheet.specs.declared.mark.Mark.TheVariants as kind
use Rattle.crimp.specs.declared.entries.Entry.{Entry}
use Rattle.crimp.specs.Rules.{Rules}
use Rattle.crimp.specs.Cyclic.{In, Linked}
use Rattle.crimp.specs.Crimping.{Opposite}
use Rattle.crimp.specs.Undoing.{IsUp}
use Rattle.crimp.specs.Cycle.{merged, numbers_of, crimped_at, IsCycle, Crimpable}
use Rattle.crimp.proofs.Cyclic.{fewer}
use Rattle.crimp.proofs.Crimp.{Crimp, uncrimped}
use Rattle.crimp.proofs.Undo.{agrees_up, agrees_down}
use Rattle.crimp.proofs.Cycle.{in_turn, linked_turn, turn_back, map_turn, crimp, opposite, shown}

spread : (ℕ → ℕ) → ℕ → ℕ → ℕ → ℕ → ℕ → ℕ → ℕ → ℕ
spread rank p q r hp hq hr a = cond (eqb a q) hq (cond (eqb a r) hr (cond (eqb a p) hp (cond (ltb (rank a) (rank p)) (rank a) (rank a + 2))))

module _ (rank : ℕ → ℕ) (p q r hp hq hr : ℕ) (pq : p ≢ q) (pr : p ≢ r) (qr : q ≢ r) where
  spread_q : spread rank p q r hp hq hr q ≡ hq
  unfolding spread
  spread_q = let t : eqb q q ≡ true = eq-eqb q q refl in rw t refl

  spread_r : spread rank p q r hp hq hr r ≡ hr
  unfolding spread
  spread_r = let t : eqb r q ≡ false = ne_eqb r q (λ e. qr (sym e)) in let u : eqb r r ≡ true = eq-eqb r r refl in rw (t, u) refl

  spread_p : spread rank p q r hp hq hr p ≡ hp
  unfolding spread
  spread_p = let t : eqb p q ≡ false = ne_eqb p q pq in let u : eqb p r ≡ false = ne_eqb p r pr in let v : eqb p p ≡ true = eq-eqb p p refl in rw (t, u, v) refl

  spread_low : (a : ℕ) → a ≢ p → a ≢ q → a ≢ r → rank a < rank p → spread rank p q r hp hq hr a ≡ rank a
  unfolding spread
  spread_low a np nq nr l = let t : eqb a q ≡ false = ne_eqb a q nq in let u : eqb a r ≡ false = ne_eqb a r nr in let v : eqb a p ≡ false = ne_eqb a p np in
      let w : ltb (rank a) (rank p) ≡ true = lt-ltb (rank a) (rank p) l in rw (t, u, v, w) refl

  spread_high : (a : ℕ) → a ≢ p → a ≢ q → a ≢ r → rank p ≤ rank a → spread rank p q r hp hq hr a ≡ rank a + 2
  unfolding spread
  spread_high a np nq nr l = let t : eqb a q ≡ false = ne_eqb a q nq in let u : eqb a r ≡ false = ne_eqb a r nr in let v : eqb a p ≡ false = ne_eqb a p np in
      elim (cases_Bool (ltb (rank a) (rank p))) [ inl w ↦ let m : rank a < rank p = ltb-true (rank a) (rank p) w in absurd (omega arith) | inr w ↦ rw (t, u, v, w) refl ]

module _ (Here : ℕ → Type 0) (Small : ℕ → ℕ → Type 0) (Old : ℕ → Type 0) (Large : ℕ → ℕ → Type 0) (x : ℕ → ℤ) (mark : ℕ → Mark) (rank : ℕ → ℕ) (p q r t : ℕ)
    (C : Crimp Here Small Old Large x p q r t) (R : Rules Here Small x mark rank) (o : Opposite (mark q) (mark r)) where
  pq : p ≢ q
  pq e = C.no_q (subst Here e C.has_p)

  pr : p ≢ r
  pr e = C.no_r (subst Here e C.has_p)

  qr : q ≢ r
  qr e = C.odd_q (ap (λ n. n % 2) e ∙ C.odd_r)

  kept : (hp hq hr a : ℕ) → Here a → a ≢ p → ((rank a < rank p) × (spread rank p q r hp hq hr a ≡ rank a)) ⊎ ((rank p < rank a) × (spread rank p q r hp hq hr a ≡ rank a + 2))
  kept hp hq hr a h n =
      let nq : a ≢ q = λ e. C.no_q (subst Here e h) in let nr : a ≢ r = λ e. C.no_r (subst Here e h) in
      elim (cases_lt (rank a) (rank p)) [
        | inl l ↦ inl (l, spread_low rank p q r hp hq hr pq pr qr a n nq nr l)
        | inr l ↦ let s : rank a ≢ rank p = λ e. n (R.apart a p h C.has_p e) in inr (omega arith, spread_high rank p q r hp hq hr pq pr qr a n nq nr l)
      ]

  up_rank : ℕ → ℕ
  up_rank = spread rank p q r (rank p) (rank p + 1) (rank p + 2)

  down_rank : ℕ → ℕ
  down_rank = spread rank p q r (rank p + 2) (rank p + 1) (rank p)

  up : IsUp p (mark q) → Rules Old Large x mark up_rank
  unfolding up_rank
  up u =
      let ep = spread_p rank p q r (rank p) (rank p + 1) (rank p + 2) pq pr qr in
      let eq = spread_q rank p q r (rank p) (rank p + 1) (rank p + 2) pq pr qr in
      let er = spread_r rank p q r (rank p) (rank p + 1) (rank p + 2) pq pr qr in
      let g = agrees_up mark (spread rank p q r (rank p) (rank p + 1) (rank p + 2)) p q r u o C.odd_q (omega arith) (omega arith) in
      uncrimped Here Small Old Large x mark rank (spread rank p q r (rank p) (rank p + 1) (rank p + 2)) p q r t C R
      (record { stacked = inl (ep, eq, er); kept = kept (rank p) (rank p + 1) (rank p + 2); agrees_q = g.0; agrees_r = g.1 })

  down : (IsUp p (mark q) → ⊥) → Rules Old Large x mark down_rank
  unfolding down_rank
  down u =
      let ep = spread_p rank p q r (rank p + 2) (rank p + 1) (rank p) pq pr qr in
      let eq = spread_q rank p q r (rank p + 2) (rank p + 1) (rank p) pq pr qr in
      let er = spread_r rank p q r (rank p + 2) (rank p + 1) (rank p) pq pr qr in
      let g = agrees_down mark (spread rank p q r (rank p + 2) (rank p + 1) (rank p)) p q r u o C.odd_q (omega arith) (omega arith) in
      uncrimped Here Small Old Large x mark rank (spread rank p q r (rank p + 2) (rank p + 1) (rank p)) p q r t C R
      (record { stacked = inr (er, eq, ep); kept = kept (rank p + 2) (rank p + 1) (rank p); agrees_q = g.0; agrees_r = g.1 })

  is_up : (m : Mark) → IsUp p m ⊎ (IsUp p m → ⊥)
  is_up kind.V = cases_eq (p % 2) 0
  is_up kind.M = cases_eq (p % 2) 1

  pub undone_rank : (new : ℕ → ℕ) × Rules Old Large x mark new
  undone_rank = elim (is_up (mark q)) [ inl u ↦ (up_rank, up u) | inr u ↦ (down_rank, down u) ]

-- a crimp at any place
pub uncrimped_rank : (x : ℕ → ℤ) (mark : ℕ → Mark) (es : List Entry) (i : ℕ) → IsCycle x mark es → Crimpable es i → (rank : ℕ → ℕ)
    → Rules (In (numbers_of (crimped_at es i))) (Linked (numbers_of (crimped_at es i))) x mark rank → (new : ℕ → ℕ) × Rules (In (numbers_of es)) (Linked (numbers_of es)) x mark new
uncrimped_rank x mark es i I K rank R =
    let S = shown x mark es i I K in
    let small = numbers_of (merged S.p S.q S.r ∷ S.t ∷ S.zs) in
    let large = numbers_of (S.p ∷ S.q ∷ S.r ∷ S.t ∷ S.zs) in
    let tl = map_turn (λ e. e.number) (crimped_at es i) (merged S.p S.q S.r ∷ S.t ∷ S.zs) S.less in
    let tw = map_turn (λ e. e.number) es (S.p ∷ S.q ∷ S.r ∷ S.t ∷ S.zs) S.whole in
    let F = S.front in
    let R' = fewer (In (numbers_of (crimped_at es i))) (In small) (Linked (numbers_of (crimped_at es i))) (Linked small) x mark rank
    (λ a h. in_turn small (numbers_of (crimped_at es i)) a (turn_back tl) h) (λ a b h. linked_turn small (numbers_of (crimped_at es i)) a b (turn_back tl) h) R in
    let u = undone_rank (In small) (Linked small) (In large) (Linked large) x mark rank S.p.number S.q.number S.r.number S.t.number (crimp x mark S.p S.q S.r S.t S.zs F) R' (opposite x mark S.p S.q S.r S.t S.zs F) in
    (u.0, fewer (In large) (In (numbers_of es)) (Linked large) (Linked (numbers_of es)) x mark u.0 (λ a h. in_turn (numbers_of es) large a tw h) (λ a b h. linked_turn (numbers_of es) large a b tw h) u.1)
