-- A crimp undone: an order of the sectors after the crimp, with the crimped sector spread to three, keeps the rules before it.
use Rattle.std.proofs.Common.{◌≡◌, ◌≢◌, ◌≤◌, ◌<◌, ◌+◌, ◌%◌, ℕ, arith, refl, ap, sym, ◌∙◌, ◌⊎◌, inl, inr}
use Rattle.std.specs.Prelude.{◌↔◌, ℤ}
use Rattle.sheet.specs.declared.mark.Mark.{Mark}
use Rattle.sheet.specs.declared.mark.Mark.TheVariants as kind
use Rattle.crimp.specs.Rules.{Between, Inside, Agrees, Rules}
use Rattle.std.proofs.lemmas.Bool.{cases_eq, cases_lt}
use Rattle.crimp.proofs.Places.{Folded, inside_moved, between_moved, whole_first, whole_second, whole_third, end_first, end_second, start_second, start_third}
use Rattle.crimp.proofs.Nested.{Aside, Out, out, first_two, two_first, last_two, two_last, alike}
use Rattle.crimp.proofs.Heights.{Kept, Below, Above, Spread, less_on, between_back, both_on, Stacked}

-- a crease that the crimp leaves: sector a before it, b behind it
pub record Other (Here : ℕ → Type 0) (Small : ℕ → ℕ → Type 0) (p q r t a b : ℕ) : Type 0 where
  pub link : Small a b
  pub from : Here a
  pub to : Here b
  pub not_p : a ≢ p
  pub not_t : b ≢ t

pub data Creases (Here : ℕ → Type 0) (Small : ℕ → ℕ → Type 0) (p q r t a b : ℕ) : Type 0 where
  First : a ≡ p → b ≡ q → Creases Here Small p q r t a b
  Second : a ≡ q → b ≡ r → Creases Here Small p q r t a b
  Third : a ≡ r → b ≡ t → Creases Here Small p q r t a b
  Left : Other Here Small p q r t a b → Creases Here Small p q r t a b

-- Sectors p, q, r become p; t comes behind them. Here, Small are the sectors and creases after the crimp, Old, Large those before it.
pub record Crimp (Here : ℕ → Type 0) (Small : ℕ → ℕ → Type 0) (Old : ℕ → Type 0) (Large : ℕ → ℕ → Type 0) (x : ℕ → ℤ) (p q r t : ℕ) : Type 0 where
  pub creases : (a b : ℕ) → Large a b → Creases Here Small p q r t a b
  pub sectors : (a : ℕ) → Old a → (a ≡ q) ⊎ ((a ≡ r) ⊎ Here a)
  pub joined : Small p t
  pub has_p : Here p
  pub has_t : Here t
  pub no_q : Here q → ⊥
  pub no_r : Here r → ⊥
  pub odd_q : q % 2 ≢ p % 2
  pub odd_r : r % 2 ≡ p % 2
  pub odd_t : t % 2 ≢ p % 2
  pub places : Folded (x p) (x q) (x r) (x t)

-- the heights after the crimp is undone
pub record Spreads (Here : ℕ → Type 0) (mark : ℕ → Mark) (rank new : ℕ → ℕ) (p q r : ℕ) : Type 0 where
  pub stacked : Stacked (rank p) (new p) (new q) (new r)
  pub kept : (a : ℕ) → Here a → a ≢ p → ((rank a < rank p) × (new a ≡ rank a)) ⊎ ((rank p < rank a) × (new a ≡ rank a + 2))
  pub agrees_q : Agrees (mark q) p q new
  pub agrees_r : Agrees (mark r) q r new

module _ (Here : ℕ → Type 0) (Small : ℕ → ℕ → Type 0) (Old : ℕ → Type 0) (Large : ℕ → ℕ → Type 0) (x : ℕ → ℤ) (mark : ℕ → Mark) (rank new : ℕ → ℕ) (p q r t : ℕ)
    (C : Crimp Here Small Old Large x p q r t) (R : Rules Here Small x mark rank) (S : Spreads Here mark rank new p q r) where
  -- where a sector other than p stands
  stands : (Y a : ℕ) → Here a → a ≢ p → Kept (rank p) Y (rank a) (new a)
  stands Y a h n = elim (S.kept a h n) [ inl s ↦ Below s.0 s.1 | inr s ↦ Above s.0 s.1 ]

  low_p : rank p ≤ new p
  low_p = elim S.stacked [ inl s ↦ omega arith | inr s ↦ omega arith ]

  high_p : new p ≤ rank p + 2
  high_p = elim S.stacked [ inl s ↦ omega arith | inr s ↦ omega arith ]

  low_r : rank p ≤ new r
  low_r = elim S.stacked [ inl s ↦ omega arith | inr s ↦ omega arith ]

  high_r : new r ≤ rank p + 2
  high_r = elim S.stacked [ inl s ↦ omega arith | inr s ↦ omega arith ]

  t_not_p : t ≢ p
  t_not_p e = C.odd_t (ap (λ n. n % 2) e)

  -- no sector between the first two, nor between the last two
  none_first : (a b h : ℕ) → a ≡ p → b ≡ q → Between h (new a) (new b) → ⊥
  none_first a b h e f (inl g) = let e' : new a ≡ new p = ap new e in let f' : new b ≡ new q = ap new f in elim S.stacked [ inl s ↦ omega arith | inr s ↦ omega arith ]
  none_first a b h e f (inr g) = let e' : new a ≡ new p = ap new e in let f' : new b ≡ new q = ap new f in elim S.stacked [ inl s ↦ omega arith | inr s ↦ omega arith ]

  none_second : (a b h : ℕ) → a ≡ q → b ≡ r → Between h (new a) (new b) → ⊥
  none_second a b h e f (inl g) = let e' : new a ≡ new q = ap new e in let f' : new b ≡ new r = ap new f in elim S.stacked [ inl s ↦ omega arith | inr s ↦ omega arith ]
  none_second a b h e f (inr g) = let e' : new a ≡ new q = ap new e in let f' : new b ≡ new r = ap new f in elim S.stacked [ inl s ↦ omega arith | inr s ↦ omega arith ]

  low_q : rank p ≤ new q
  low_q = elim S.stacked [ inl s ↦ omega arith | inr s ↦ omega arith ]

  high_q : new q ≤ rank p + 2
  high_q = elim S.stacked [ inl s ↦ omega arith | inr s ↦ omega arith ]

  -- where a sector stands, p among them
  stands_p : (a : ℕ) → Here a → Kept (rank p) (new p) (rank a) (new a)
  stands_p a h = elim (cases_eq a p) [ inl e ↦ Spread (ap rank e) (ap new e) | inr n ↦ stands (new p) a h n ]

  -- p, where it counts as standing at Y
  as_p : (Y : ℕ) → Kept (rank p) Y (rank p) Y
  as_p Y = Spread refl refl

  self_first : (h a b : ℕ) → h ≡ a → Between (new h) (new a) (new b) → ⊥
  self_first h a b e (inl g) = let e' : new h ≡ new a = ap new e in omega arith
  self_first h a b e (inr g) = let e' : new h ≡ new a = ap new e in omega arith

  clear_third : (c d : ℕ) → Creases Here Small p q r t c d → Inside (x t) (x c) (x d) → Between (new c) (new r) (new t) → ⊥
  clear_third c d (First e f) i b = end_first C.places (inside_moved refl (ap x e) (ap x f) i)
  clear_third c d (Second e f) i b = end_second C.places (inside_moved refl (ap x e) (ap x f) i)
  clear_third c d (Third e f) i b = self_first c r t e b
  clear_third c d (Left o) i b = R.clear p t c d C.joined C.has_p C.has_t o.link o.from i
      (between_back low_r high_r (stands (new r) c o.from o.not_p) (as_p (new r)) (stands (new r) t C.has_t t_not_p) b)

  clear_other : (a b c d : ℕ) → Other Here Small p q r t a b → Creases Here Small p q r t c d → Inside (x b) (x c) (x d) → Between (new c) (new a) (new b) → ⊥
  clear_other a b c d u (First e f) i g = R.clear a b p t u.link u.from u.to C.joined C.has_p (whole_first C.places (inside_moved refl (ap x e) (ap x f) i))
      (between_back low_p high_p (as_p (new p)) (stands_p a u.from) (stands_p b u.to) (between_moved (ap new e) refl refl g))
  clear_other a b c d u (Second e f) i g = elim (cases_eq b p) [
    | inl k ↦ start_second C.places (inside_moved (ap x k) (ap x e) (ap x f) i)
    | inr k ↦ R.clear a b p t u.link u.from u.to C.joined C.has_p (whole_second C.places (inside_moved refl (ap x e) (ap x f) i))
        (between_back low_q high_q (as_p (new q)) (stands (new q) a u.from u.not_p) (stands (new q) b u.to k) (between_moved (ap new e) refl refl g))
  ]
  clear_other a b c d u (Third e f) i g = elim (cases_eq b p) [
    | inl k ↦ start_third C.places (inside_moved (ap x k) (ap x e) (ap x f) i)
    | inr k ↦ R.clear a b p t u.link u.from u.to C.joined C.has_p (whole_third C.places (inside_moved refl (ap x e) (ap x f) i))
        (between_back low_r high_r (as_p (new r)) (stands (new r) a u.from u.not_p) (stands (new r) b u.to k) (between_moved (ap new e) refl refl g))
  ]
  clear_other a b c d u (Left o) i g = R.clear a b c d u.link u.from u.to o.link o.from i
      (between_back low_p high_p (stands_p c o.from) (stands_p a u.from) (stands_p b u.to) g)

  clear_all : (a b c d : ℕ) → Creases Here Small p q r t a b → Creases Here Small p q r t c d → Inside (x b) (x c) (x d) → Between (new c) (new a) (new b) → ⊥
  clear_all a b c d (First e f) l i g = none_first a b (new c) e f g
  clear_all a b c d (Second e f) l i g = none_second a b (new c) e f g
  clear_all a b c d (Third e f) l i g = clear_third c d l (inside_moved (ap x f) refl refl i) (between_moved refl (ap new e) (ap new f) g)
  clear_all a b c d (Left o) l i g = clear_other a b c d o l i g

  -- creases whose numbers differ in parity are not compared
  odd_moved : {a b : ℕ} → a ≡ b → a % 2 ≡ b % 2
  odd_moved e = ap (λ n. n % 2) e

  neither : {A B : Type 0} → (A → ⊥) → (B → ⊥) → (A ↔ B)
  neither f g = (λ a. absurd (f a), λ b. absurd (g b))

  nested_third : (c d : ℕ) → Creases Here Small p q r t c d → t ≢ d → x t ≡ x d → t % 2 ≡ d % 2 → (Between (new c) (new r) (new t) ↔ Between (new d) (new r) (new t))
  nested_third c d (First e f) n s o = let m : Aside (rank p) (rank t) (new t) = S.kept t C.has_t t_not_p in
      (λ g. first_two S.stacked m (ap new e) (ap new f) g, λ g. two_first S.stacked m (ap new e) (ap new f) g)
  nested_third c d (Second e f) n s o = absurd (C.odd_t (o ∙ odd_moved f ∙ C.odd_r))
  nested_third c d (Third e f) n s o = absurd (n (sym f))
  nested_third c d (Left u) n s o =
      both_on low_r high_r (stands (new r) c u.from u.not_p) (stands (new r) d u.to (λ e. C.odd_t (o ∙ odd_moved e))) (as_p (new r)) (stands (new r) t C.has_t t_not_p)
      (R.nested p t c d C.joined C.has_p C.has_t u.link u.from u.to n s o)

  nested_other : (a b c d : ℕ) → Other Here Small p q r t a b → Creases Here Small p q r t c d → b ≢ d → x b ≡ x d → b % 2 ≡ d % 2 → (Between (new c) (new a) (new b) ↔ Between (new d) (new a) (new b))
  nested_other a b c d u (First e f) n s o =
      let k : b ≢ p = (λ k. C.odd_q (sym (odd_moved f) ∙ sym o ∙ odd_moved k)) in
      let v : Out (rank p) (new a) = out (S.kept a u.from u.not_p) in
      let w : Out (rank p) (new b) = out (S.kept b u.to k) in (
        λ g. between_moved (sym (ap new f)) refl refl (alike low_p high_p low_q high_q v w (between_moved (ap new e) refl refl g)),
        λ g. between_moved (sym (ap new e)) refl refl (alike low_q high_q low_p high_p v w (between_moved (ap new f) refl refl g)),
      )
  nested_other a b c d u (Second e f) n s o = elim (cases_eq b p) [
    | inl k ↦ let m : Aside (rank p) (rank a) (new a) = S.kept a u.from u.not_p in
        (λ g. last_two S.stacked m (ap new k) (ap new e) (ap new f) g, λ g. two_last S.stacked m (ap new k) (ap new e) (ap new f) g)
    | inr k ↦ let v : Out (rank p) (new a) = out (S.kept a u.from u.not_p) in let w : Out (rank p) (new b) = out (S.kept b u.to k) in (
      λ g. between_moved (sym (ap new f)) refl refl (alike low_q high_q low_r high_r v w (between_moved (ap new e) refl refl g)),
      λ g. between_moved (sym (ap new e)) refl refl (alike low_r high_r low_q high_q v w (between_moved (ap new f) refl refl g)),
    )
  ]
  nested_other a b c d u (Third e f) n s o =
      let k : b ≢ p = (λ k. C.odd_t (sym (odd_moved f) ∙ sym o ∙ odd_moved k)) in
      let i : (Between (new r) (new a) (new b) ↔ Between (new t) (new a) (new b)) =
      both_on low_r high_r (as_p (new r)) (stands (new r) t C.has_t t_not_p) (stands (new r) a u.from u.not_p) (stands (new r) b u.to k)
      (R.nested a b p t u.link u.from u.to C.joined C.has_p C.has_t (λ g. n (g ∙ sym f)) (s ∙ ap x f) (o ∙ odd_moved f)) in
      (λ g. between_moved (sym (ap new f)) refl refl (i.0 (between_moved (ap new e) refl refl g)), λ g. between_moved (sym (ap new e)) refl refl (i.1 (between_moved (ap new f) refl refl g)))
  nested_other a b c d u (Left v) n s o =
      both_on low_p high_p (stands_p c v.from) (stands_p d v.to) (stands_p a u.from) (stands_p b u.to) (R.nested a b c d u.link u.from u.to v.link v.from v.to n s o)

  nested_all : (a b c d : ℕ) → Creases Here Small p q r t a b → Creases Here Small p q r t c d → b ≢ d → x b ≡ x d → b % 2 ≡ d % 2 → (Between (new c) (new a) (new b) ↔ Between (new d) (new a) (new b))
  nested_all a b c d (First e f) l n s o = neither (none_first a b (new c) e f) (none_first a b (new d) e f)
  nested_all a b c d (Second e f) l n s o = neither (none_second a b (new c) e f) (none_second a b (new d) e f)
  nested_all a b c d (Third e f) l n s o =
      let i : (Between (new c) (new r) (new t) ↔ Between (new d) (new r) (new t)) = nested_third c d l (λ g. n (f ∙ g)) (sym (ap x f) ∙ s) (sym (odd_moved f) ∙ o) in (
        λ g. between_moved refl (sym (ap new e)) (sym (ap new f)) (i.0 (between_moved refl (ap new e) (ap new f) g)),
        λ g. between_moved refl (sym (ap new e)) (sym (ap new f)) (i.1 (between_moved refl (ap new e) (ap new f) g)),
      )
  nested_all a b c d (Left u) l n s o = nested_other a b c d u l n s o

  agrees_moved : (m : Mark) (a b a' b' : ℕ) → a % 2 ≡ a' % 2 → (rank a < rank b → new a' < new b') → (rank b < rank a → new b' < new a') → Agrees m a b rank → Agrees m a' b' new
  agrees_moved kind.V a b a' b' e f g h = (λ o. f (h.0 (e ∙ o)), λ o. g (h.1 (e ∙ o)))
  agrees_moved kind.M a b a' b' e f g h = (λ o. g (h.0 (e ∙ o)), λ o. f (h.1 (e ∙ o)))

  agrees_all : (a b : ℕ) → Creases Here Small p q r t a b → Agrees (mark b) a b new
  agrees_all a b (First e f) = rw (e, f) S.agrees_q
  agrees_all a b (Second e f) = rw (e, f) S.agrees_r
  agrees_all a b (Third e f) = rw (e, f) (agrees_moved (mark t) p t r t (sym C.odd_r) (less_on low_r high_r (as_p (new r)) (stands (new r) t C.has_t t_not_p))
      (less_on low_r high_r (stands (new r) t C.has_t t_not_p) (as_p (new r))) (R.agrees p t C.joined C.has_p C.has_t))
  agrees_all a b (Left u) = agrees_moved (mark b) a b a b refl (less_on low_p high_p (stands_p a u.from) (stands_p b u.to)) (less_on low_p high_p (stands_p b u.to) (stands_p a u.from)) (R.agrees a b u.link u.from u.to)

  -- heights of sectors that stay
  same_back : (a b : ℕ) → Here a → Here b → new a ≡ new b → a ≡ b
  same_back a b h k e = elim (cases_eq (rank a) (rank b)) [
    | inl f ↦ R.apart a b h k f
    | inr n ↦ elim (cases_lt (rank a) (rank b)) [
      | inl l ↦ let m : new a < new b = less_on low_p high_p (stands_p a h) (stands_p b k) l in absurd (omega arith)
      | inr l ↦ let m : new b < new a = less_on low_p high_p (stands_p b k) (stands_p a h) (omega arith) in absurd (omega arith)
    ]
  ]

  not_q : (a : ℕ) → Here a → new a ≡ new q → ⊥
  not_q a h e = elim (cases_eq a p) [
    | inl k ↦ let f : new a ≡ new p = ap new k in elim S.stacked [ inl s ↦ omega arith | inr s ↦ omega arith ]
    | inr n ↦ let l : rank p ≤ new q = low_q in let m : new q ≤ rank p + 2 = high_q in elim (S.kept a h n) [ inl s ↦ omega arith | inr s ↦ omega arith ]
  ]

  not_r : (a : ℕ) → Here a → new a ≡ new r → ⊥
  not_r a h e = elim (cases_eq a p) [
    | inl k ↦ let f : new a ≡ new p = ap new k in elim S.stacked [ inl s ↦ omega arith | inr s ↦ omega arith ]
    | inr n ↦ let l : rank p ≤ new r = low_r in let m : new r ≤ rank p + 2 = high_r in elim (S.kept a h n) [ inl s ↦ omega arith | inr s ↦ omega arith ]
  ]

  q_not_r : new q ≡ new r → ⊥
  q_not_r e = elim S.stacked [ inl s ↦ omega arith | inr s ↦ omega arith ]

  apart_all : (a b : ℕ) → (a ≡ q) ⊎ ((a ≡ r) ⊎ Here a) → (b ≡ q) ⊎ ((b ≡ r) ⊎ Here b) → new a ≡ new b → a ≡ b
  apart_all a b (inl e) (inl f) g = e ∙ sym f
  apart_all a b (inl e) (inr (inl f)) g = absurd (q_not_r (sym (ap new e) ∙ g ∙ ap new f))
  apart_all a b (inl e) (inr (inr h)) g = absurd (not_q b h (sym g ∙ ap new e))
  apart_all a b (inr (inl e)) (inl f) g = absurd (q_not_r (sym (ap new f) ∙ sym g ∙ ap new e))
  apart_all a b (inr (inl e)) (inr (inl f)) g = e ∙ sym f
  apart_all a b (inr (inl e)) (inr (inr h)) g = absurd (not_r b h (sym g ∙ ap new e))
  apart_all a b (inr (inr h)) (inl f) g = absurd (not_q a h (g ∙ ap new f))
  apart_all a b (inr (inr h)) (inr (inl f)) g = absurd (not_r a h (g ∙ ap new f))
  apart_all a b (inr (inr h)) (inr (inr k)) g = same_back a b h k g

  pub uncrimped : Rules Old Large x mark new
  uncrimped = record {
    apart = λ a b h k g. apart_all a b (C.sectors a h) (C.sectors b k) g;
    agrees = λ a b l h k. agrees_all a b (C.creases a b l);
    clear = λ a b c d l h k m j i g. clear_all a b c d (C.creases a b l) (C.creases c d m) i g;
    nested = λ a b c d l h k m j i n s o. nested_all a b c d (C.creases a b l) (C.creases c d m) n s o;
  }
