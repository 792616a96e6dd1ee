-- Where each least sector has one mark on its two creases, there is no layer order.
use Rattle.std.proofs.Common.{◌≡◌, ◌≢◌, ◌≤◌, ◌<◌, ◌+◌, ◌%◌, ℕ, zero, suc, arith, sym, ◌∙◌, ◌⊎◌, inl, inr}
use Rattle.std.specs.Prelude.{ℤ, ◌+ℤ◌, ◌≤ℤ◌}
use Rattle.std.proofs.lemmas.Int.{ints}
use Rattle.std.proofs.lemmas.Bool.{cases_eq, cases_order}
use Rattle.sheet.specs.declared.mark.Mark.{Mark}
use Rattle.sheet.specs.declared.mark.Mark.TheVariants as kind
use Rattle.crimp.specs.Rules.{Between, Agrees, Rules}
use Rattle.crimp.proofs.Opened.{Spans, int_order}

abbrev pub OneSide : ℕ → ℕ → ℕ → Type 0
OneSide u c v = ((u < c) × (v < c)) ⊎ ((c < u) × (c < v))

-- at one mark both neighbours are on one side
one_side : (m : Mark) (u c v : ℕ) (rank : ℕ → ℕ) → c % 2 ≢ u % 2 → Agrees m u c rank → Agrees m c v rank → OneSide (rank u) (rank c) (rank v)
one_side kind.V u c v rank n g h = elim (cases_eq (u % 2) 0) [ inl e ↦ inl (g.0 e, h.1 (omega arith)) | inr e ↦ inr (g.1 (omega arith), h.0 (omega arith)) ]
one_side kind.M u c v rank n g h = elim (cases_eq (u % 2) 0) [ inl e ↦ inr (g.0 e, h.1 (omega arith)) | inr e ↦ inl (g.1 (omega arith), h.0 (omega arith)) ]

inner : {a b c d : ℕ} → Between c a b → Between d a b → OneSide b c d → Between d b c
inner (inl g) (inl h) (inl k) = absurd (omega arith)
inner (inl g) (inl h) (inr k) = inr (omega arith, omega arith)
inner (inl g) (inr h) k = absurd (omega arith)
inner (inr g) (inl h) k = absurd (omega arith)
inner (inr g) (inr h) (inl k) = inl (omega arith, omega arith)
inner (inr g) (inr h) (inr k) = absurd (omega arith)

side_turned : {u c v : ℕ} → OneSide u c v → OneSide v c u
side_turned (inl g) = inl (g.1, g.0)
side_turned (inr g) = inr (g.1, g.0)

between_turned : {c a b : ℕ} → Between c a b → Between c b a
between_turned (inl g) = inr g
between_turned (inr g) = inl g

closer : (n : ℕ) {a b c : ℕ} → a ≤ b + suc n → b ≤ a + suc n → Between c a b → (b ≤ c + n) × (c ≤ b + n)
closer n h k (inl g) = (omega arith, omega arith)
closer n h k (inr g) = (omega arith, omega arith)

not_between : {a b c : ℕ} → a ≤ b + 0 → b ≤ a + 0 → Between c a b → ⊥
not_between h k (inl g) = omega arith
not_between h k (inr g) = omega arith

-- no sector is shorter
pub record Least (Here : ℕ → Type 0) (lo hi : ℕ → ℤ) (b : ℕ) : Type 0 where
  pub here : Here b
  pub least : (c : ℕ) → Here c → (hi b +ℤ lo c) ≤ℤ (hi c +ℤ lo b)

pub record Blocked (Here : ℕ → Type 0) (Link : ℕ → ℕ → Type 0) (lo hi : ℕ → ℤ) (mark : ℕ → Mark) (s : ℕ) : Type 0 where
  pub bit : s < 2
  pub odd : (a b : ℕ) → Link a b → b % 2 ≢ a % 2
  pub next : (a : ℕ) → Here a → (b : ℕ) × (Link a b × Here b)
  pub last : (b : ℕ) → Here b → (a : ℕ) × (Link a b × Here a)
  pub more : (a b c : ℕ) → Link a b → Link b c → a ≢ c
  pub same : (a b c : ℕ) → Least Here lo hi b → Link a b → Link b c → mark b ≡ mark c

module _ (Here : ℕ → Type 0) (Link : ℕ → ℕ → Type 0) (x lo hi : ℕ → ℤ) (mark : ℕ → Mark) (rank : ℕ → ℕ) (s : ℕ)
    (S : Spans Here Link x lo hi s) (B : Blocked Here Link lo hi mark s) (R : Rules Here Link x mark rank) where
  side : (a b c : ℕ) → Link a b → Link b c → Here a → Here c → Least Here lo hi b → OneSide (rank a) (rank b) (rank c)
  side a b c l m h k L = one_side (mark b) a b c rank (B.odd a b l) (R.agrees a b l h L.here) (let e = B.same a b c L l m in rw e (R.agrees b c m L.here k))

  least_like : (b c : ℕ) → Here c → lo b ≡ lo c → hi b ≡ hi c → Least Here lo hi b → Least Here lo hi c
  least_like b c h e f L = record { here = h; least = λ d k. let g = L.least d k in omega (arith, ints) }

  -- b is least and c, behind it, lies between a and b: so does what comes behind c, and c is least
  level : (a b c : ℕ) → Link a b → Link b c → Here a → Here c → Least Here lo hi b → Between (rank c) (rank a) (rank b) → (lo b ≡ lo c) × (hi b ≡ hi c)
  level a b c l m h k L g =
      let f = L.least c k in let o = B.odd b c m in let bit = B.bit in let sb = S.short b L.here in let sc = S.short c k in
      elim (cases_eq (b % 2) s) [
        | inl e ↦
            let p = S.right_side a b l e in let q = S.left_side b c m (λ t. o (t ∙ sym e)) in
            let n : (lo b ≡ lo c) = elim (int_order (lo c) (x b)) [
              | inl u ↦ let w = S.outside c (x b) k u (omega (arith, ints)) in absurd (R.clear a b c w.0 l h L.here w.1.0 k w.1.1 g)
              | inr u ↦ elim u [ inl v ↦ omega (arith, ints) | inr v ↦ absurd (omega (arith, ints)) ]
            ] in (n, omega (arith, ints))
        | inr e ↦
            let p = S.left_side a b l e in let q = S.right_side b c m (omega arith) in
            let n : (hi b ≡ hi c) = elim (int_order (x b) (hi c)) [
              | inl u ↦ let w = S.outside c (x b) k (omega (arith, ints)) u in absurd (R.clear a b c w.0 l h L.here w.1.0 k w.1.1 g)
              | inr u ↦ elim u [ inl v ↦ omega (arith, ints) | inr v ↦ absurd (omega (arith, ints)) ]
            ] in (omega (arith, ints), n)
      ]

  level_back : (a b c : ℕ) → Link b a → Link c b → Here a → Here c → Least Here lo hi b → Between (rank c) (rank b) (rank a) → (lo b ≡ lo c) × (hi b ≡ hi c)
  level_back a b c l m h k L g =
      let f = L.least c k in let o = B.odd b a l in let bit = B.bit in let sb = S.short b L.here in let sc = S.short c k in
      elim (cases_eq (b % 2) s) [
        | inl e ↦
            let p = S.left_side b a l (λ t. o (t ∙ sym e)) in let q = S.right_side c b m e in
            let n : (hi b ≡ hi c) = elim (int_order (x a) (hi c)) [
              | inl u ↦ let w = S.outside c (x a) k (omega (arith, ints)) u in absurd (R.clear b a c w.0 l L.here h w.1.0 k w.1.1 g)
              | inr u ↦ elim u [ inl v ↦ omega (arith, ints) | inr v ↦ absurd (omega (arith, ints)) ]
            ] in (omega (arith, ints), n)
        | inr e ↦
            let p = S.right_side b a l (omega arith) in let q = S.left_side c b m e in
            let n : (lo b ≡ lo c) = elim (int_order (lo c) (x a)) [
              | inl u ↦ let w = S.outside c (x a) k u (omega (arith, ints)) in absurd (R.clear b a c w.0 l L.here h w.1.0 k w.1.1 g)
              | inr u ↦ elim u [ inl v ↦ omega (arith, ints) | inr v ↦ absurd (omega (arith, ints)) ]
            ] in (n, omega (arith, ints))
      ]

  same_place : (a b c d : ℕ) → Link a b → Link b c → Link c d → lo b ≡ lo c → hi b ≡ hi c → x b ≡ x d
  same_place a b c d l m n e f =
      let o = B.odd b c m in let o' = B.odd c d n in let bit = B.bit in
      elim (cases_eq (b % 2) s) [
        | inl k ↦ let p = S.right_side a b l k in let q = S.right_side c d n (omega arith) in omega (arith, ints)
        | inr k ↦ let p = S.left_side a b l k in let q = S.left_side c d n (λ t. k (omega arith)) in omega (arith, ints)
      ]

  forward : (n a b c : ℕ) → rank a ≤ rank b + n → rank b ≤ rank a + n → Link a b → Link b c → Here a → Here c → Least Here lo hi b → Between (rank c) (rank a) (rank b) → ⊥
  forward zero a b c u v l m h k L g = not_between u v g
  forward (suc n) a b c u v l m h k L g =
      let e = level a b c l m h k L g in let C = least_like b c k e.0 e.1 L in
      let d = B.next c k in
      let o = B.odd b c m in let o' = B.odd c d.0 d.1.0 in
      let i = (R.nested a b c d.0 l h L.here d.1.0 k d.1.1 (B.more b c d.0 m d.1.0) (same_place a b c d.0 l m d.1.0 e.0 e.1) (omega arith)).0 g in
      let w = closer n u v g in
      forward n b c d.0 w.0 w.1 m d.1.0 L.here d.1.1 C (inner g i (side b c d.0 m d.1.0 L.here d.1.1 C))

  backward : (n a b c : ℕ) → rank a ≤ rank b + n → rank b ≤ rank a + n → Link b a → Link c b → Here a → Here c → Least Here lo hi b → Between (rank c) (rank a) (rank b) → ⊥
  backward zero a b c u v l m h k L g = not_between u v g
  backward (suc n) a b c u v l m h k L g =
      let e = level_back a b c l m h k L (between_turned g) in let C = least_like b c k e.0 e.1 L in
      let d = B.last c k in
      let o = B.odd c b m in let o' = B.odd b a l in
      let i = (R.nested b a d.0 c l L.here h d.1.0 d.1.1 k (λ t. B.more c b a m l (sym t)) (sym (same_place d.0 c b a d.1.0 m l (sym e.0) (sym e.1))) (omega arith)).1 (between_turned g) in
      let w = closer n u v g in
      backward n b c d.0 w.0 w.1 m d.1.0 L.here d.1.1 C (inner g (between_turned i) (side_turned (side d.0 c b d.1.0 m d.1.1 L.here C)))

  -- so no order keeps the rules
  pub spiral : (q : ℕ) → Least Here lo hi q → ⊥
  spiral q L =
      let p = B.last q L.here in let r = B.next q L.here in
      let i = side p.0 q r.0 p.1.0 r.1.0 p.1.1 r.1.1 L in
      elim (cases_order (rank p.0) (rank r.0)) [
        | inl e ↦ B.more p.0 q r.0 p.1.0 r.1.0 (R.apart p.0 r.0 p.1.1 r.1.1 e)
        | inr t ↦ elim t [
          | inl t ↦ elim i [
            | inl j ↦ forward (rank p.0 + rank q) p.0 q r.0 (omega arith) (omega arith) p.1.0 r.1.0 p.1.1 r.1.1 L (inl (t, j.1))
            | inr j ↦ backward (rank r.0 + rank q) r.0 q p.0 (omega arith) (omega arith) r.1.0 p.1.0 r.1.1 p.1.1 L (inr (j.0, t))
          ]
          | inr t ↦ elim i [
            | inl j ↦ backward (rank r.0 + rank q) r.0 q p.0 (omega arith) (omega arith) r.1.0 p.1.0 r.1.1 p.1.1 L (inl (t, j.0))
            | inr j ↦ forward (rank p.0 + rank q) p.0 q r.0 (omega arith) (omega arith) p.1.0 r.1.0 p.1.1 r.1.1 L (inr (j.1, t))
          ]
        ]
      ]
