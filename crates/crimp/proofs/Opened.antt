-- A layer order outlives a crimp: the middle one of three sectors is taken out, and what lies in the two pockets moves aside.
use Rattle.std.proofs.Common.{◌≡◌, ◌≢◌, ◌<◌, ◌+◌, ◌%◌, ℕ, arith, refl, ap, subst, sym, ◌∙◌, ◌⊎◌, inl, inr}
use Rattle.std.specs.Prelude.{◌↔◌, ℤ, pos, negsuc, ◌<ℤ◌, ◌≤ℤ◌}
use Rattle.std.proofs.lemmas.Int.{ints}
use Rattle.std.proofs.lemmas.Bool.{cases_eq, cases_order}
use Rattle.sheet.specs.declared.mark.Mark.{Mark}
use Rattle.sheet.specs.declared.mark.Mark.TheVariants as kind
use Rattle.crimp.specs.Rules.{Between, Inside, Agrees, Rules}
use Rattle.crimp.proofs.Places.{inside_moved, between_moved}
use Rattle.crimp.proofs.Pockets.{LeftView, LUnder, LSelf, LPocket, LOver, RightView, RUnder, RPocket, RSelf, ROver, Moved, MUnder, MRight, MLeft, MOver, Class, CUnder, CLow, CHigh, COver, left_less, left_between_back, left_both, right_less, right_between_back, right_both, class_less, class_less_turned, class_back, class_self, class_both, On, left_off, right_off, off_both, on_both, pocket, beside}

pub int_order : (x y : ℤ) → (x <ℤ y) ⊎ ((x ≡ y) ⊎ (y <ℤ x))
int_order (pos a) (pos b) = elim (cases_order a b) [ inl e ↦ inr (inl (ap pos e)) | inr s ↦ elim s [ inl l ↦ inl (omega (arith, ints)) | inr l ↦ inr (inr (omega (arith, ints))) ] ]
int_order (pos a) (negsuc b) = inr (inr (omega (arith, ints)))
int_order (negsuc a) (pos b) = inl (omega (arith, ints))
int_order (negsuc a) (negsuc b) = elim (cases_order a b) [ inl e ↦ inr (inl (ap negsuc e)) | inr s ↦ elim s [ inl l ↦ inr (inr (omega (arith, ints))) | inr l ↦ inl (omega (arith, ints)) ] ]

-- Sectors lie from lo to hi. Behind a crease whose number has the parity s they go to the right, behind the others to the left.
pub record Spans (Here : ℕ → Type 0) (Link : ℕ → ℕ → Type 0) (x lo hi : ℕ → ℤ) (s : ℕ) : Type 0 where
  pub short : (a : ℕ) → Here a → lo a <ℤ hi a
  pub right_side : (a b : ℕ) → Link a b → b % 2 ≡ s → (lo a ≡ x b) × (lo b ≡ x b)
  pub left_side : (a b : ℕ) → Link a b → b % 2 ≢ s → (hi a ≡ x b) × (hi b ≡ x b)
  pub inside : (a b : ℕ) (y : ℤ) → Link a b → Inside y (x a) (x b) → (lo a <ℤ y) × (y <ℤ hi a)
  pub outside : (a : ℕ) (y : ℤ) → Here a → lo a <ℤ y → y <ℤ hi a → (b : ℕ) × (Link a b × Inside y (x a) (x b))

-- a crease that the crimp leaves
pub record Stays (Here : ℕ → Type 0) (Link : ℕ → ℕ → Type 0) (p q r t a b : ℕ) : Type 0 where
  pub link : Link a b
  pub not_p : a ≢ p
  pub not_q : b ≢ q
  pub not_r : b ≢ r
  pub not_t : b ≢ t

-- Sectors p, q, r become p; t comes behind them. Here, Link are the sectors and creases before the crimp, Less, Small those after it.
pub record Opening (Here Less : ℕ → Type 0) (Link Small : ℕ → ℕ → Type 0) (x lo hi : ℕ → ℤ) (s p q r t : ℕ) : Type 0 where
  pub first : Link p q
  pub second : Link q r
  pub third : Link r t
  pub here_p : Here p
  pub here_q : Here q
  pub here_r : Here r
  pub less : (a : ℕ) → Less a → Here a × ((a ≢ q) × (a ≢ r))
  pub small : (a b : ℕ) → Small a b → ((a ≡ p) × (b ≡ t)) ⊎ Stays Here Link p q r t a b
  pub odd_p : p % 2 ≡ s
  pub odd_q : q % 2 ≢ s
  pub odd_r : r % 2 ≡ s
  pub odd_t : t % 2 ≢ s
  pub start : x p ≡ lo p
  pub lower : lo p ≤ℤ lo q
  pub upper : hi q ≤ℤ hi r

-- where a sector that is none of the three goes, by its place
pub data Kind (P Q R N z y : ℕ) (xr xq lo hi : ℤ) : Type 0 where
  Under : z < P → y ≡ z → Kind P Q R N z y xr xq lo hi
  RightLow : P < z → z < Q → xq ≤ℤ lo → y ≡ N + z → Kind P Q R N z y xr xq lo hi
  RightHigh : Q < z → z < R → xr ≤ℤ lo → y ≡ N + z → Kind P Q R N z y xr xq lo hi
  LeftLow : P < z → z < Q → hi ≤ℤ xq → y ≡ N + N + N + z → Kind P Q R N z y xr xq lo hi
  LeftHigh : Q < z → z < R → hi ≤ℤ xr → y ≡ N + N + N + z → Kind P Q R N z y xr xq lo hi
  Over : R < z → y ≡ N + N + N + N + z → Kind P Q R N z y xr xq lo hi

pub record Ranks (Less : ℕ → Type 0) (Here : ℕ → Type 0) (lo hi : ℕ → ℤ) (rank new : ℕ → ℕ) (N p q r : ℕ) : Type 0 where
  pub p_q : rank p < rank q
  pub q_r : rank q < rank r
  pub bound : (a : ℕ) → Here a → rank a < N
  pub self : new p ≡ N + N + rank p
  pub kinds : (a : ℕ) → Less a → a ≢ p → Kind (rank p) (rank q) (rank r) N (rank a) (new a) (lo q) (hi q) (lo a) (hi a)

-- seen by numbers
seen_left : {P Q R N z y : ℕ} {xr xq lo hi : ℤ} → P < Q → Q < R → z < N → xr <ℤ xq → lo <ℤ hi → Kind P Q R N z y xr xq lo hi → lo <ℤ xr → LeftView P R N z y
seen_left l m n f g (Under a e) h = LUnder n a e
seen_left l m n f g (RightLow a b i e) h = absurd (omega (arith, ints))
seen_left l m n f g (RightHigh a b i e) h = absurd (omega (arith, ints))
seen_left l m n f g (LeftLow a b i e) h = LPocket n a (omega arith) e
seen_left l m n f g (LeftHigh a b i e) h = LPocket n (omega arith) b e
seen_left l m n f g (Over a e) h = LOver n a e

seen_right : {P Q R N z y : ℕ} {xr xq lo hi : ℤ} → P < Q → Q < R → z < N → xr <ℤ xq → lo <ℤ hi → Kind P Q R N z y xr xq lo hi → xq <ℤ hi → RightView P R N z y
seen_right l m n f g (Under a e) h = RUnder n a e
seen_right l m n f g (RightLow a b i e) h = RPocket n a (omega arith) e
seen_right l m n f g (RightHigh a b i e) h = RPocket n (omega arith) b e
seen_right l m n f g (LeftLow a b i e) h = absurd (omega (arith, ints))
seen_right l m n f g (LeftHigh a b i e) h = absurd (omega (arith, ints))
seen_right l m n f g (Over a e) h = ROver n a e

-- what begins just at the left end of the middle sector, and is not in the pocket there
seen_left_at : {P Q R N z y : ℕ} {xr xq lo hi : ℤ} → P < Q → Q < R → z < N → xr <ℤ xq → lo <ℤ hi → Kind P Q R N z y xr xq lo hi → lo ≡ xr → (z < Q) ⊎ (R < z) → LeftView P R N z y
seen_left_at l m n f g (Under a e) h k = LUnder n a e
seen_left_at l m n f g (RightLow a b i e) h k = absurd (omega (arith, ints))
seen_left_at l m n f g (RightHigh a b i e) h (inl k) = absurd (omega arith)
seen_left_at l m n f g (RightHigh a b i e) h (inr k) = absurd (omega arith)
seen_left_at l m n f g (LeftLow a b i e) h k = LPocket n a (omega arith) e
seen_left_at l m n f g (LeftHigh a b i e) h k = absurd (omega (arith, ints))
seen_left_at l m n f g (Over a e) h k = LOver n a e

seen_right_at : {P Q R N z y : ℕ} {xr xq lo hi : ℤ} → P < Q → Q < R → z < N → xr <ℤ xq → lo <ℤ hi → Kind P Q R N z y xr xq lo hi → hi ≡ xq → (z < P) ⊎ (Q < z) → RightView P R N z y
seen_right_at l m n f g (Under a e) h k = RUnder n a e
seen_right_at l m n f g (RightLow a b i e) h k = absurd (omega (arith, ints))
seen_right_at l m n f g (RightHigh a b i e) h k = RPocket n (omega arith) b e
seen_right_at l m n f g (LeftLow a b i e) h (inl k) = absurd (omega arith)
seen_right_at l m n f g (LeftLow a b i e) h (inr k) = absurd (omega arith)
seen_right_at l m n f g (LeftHigh a b i e) h k = absurd (omega (arith, ints))
seen_right_at l m n f g (Over a e) h k = ROver n a e

-- what lies beside the middle sector
low_moves : {P Q R N z y : ℕ} {xr xq lo hi : ℤ} → P < Q → Q < R → Kind P Q R N z y xr xq lo hi → lo <ℤ xq → P < z → z < Q → y ≡ N + N + N + z
low_moves l m (Under a e) h k n = absurd (omega arith)
low_moves l m (RightLow a b i e) h k n = absurd (omega (arith, ints))
low_moves l m (RightHigh a b i e) h k n = absurd (omega arith)
low_moves l m (LeftLow a b i e) h k n = e
low_moves l m (LeftHigh a b i e) h k n = absurd (omega arith)
low_moves l m (Over a e) h k n = absurd (omega arith)

high_moves : {P Q R N z y : ℕ} {xr xq lo hi : ℤ} → P < Q → Q < R → Kind P Q R N z y xr xq lo hi → xr <ℤ hi → Q < z → z < R → y ≡ N + z
high_moves l m (Under a e) h k n = absurd (omega arith)
high_moves l m (RightLow a b i e) h k n = absurd (omega arith)
high_moves l m (RightHigh a b i e) h k n = e
high_moves l m (LeftLow a b i e) h k n = absurd (omega arith)
high_moves l m (LeftHigh a b i e) h k n = absurd (omega (arith, ints))
high_moves l m (Over a e) h k n = absurd (omega arith)

under_moves : {P Q R N z y : ℕ} {xr xq lo hi : ℤ} → P < Q → Q < R → Kind P Q R N z y xr xq lo hi → z < P → y ≡ z
under_moves l m (Under a e) h = e
under_moves l m (RightLow a b i e) h = absurd (omega arith)
under_moves l m (RightHigh a b i e) h = absurd (omega arith)
under_moves l m (LeftLow a b i e) h = absurd (omega arith)
under_moves l m (LeftHigh a b i e) h = absurd (omega arith)
under_moves l m (Over a e) h = absurd (omega arith)

over_moves : {P Q R N z y : ℕ} {xr xq lo hi : ℤ} → P < Q → Q < R → Kind P Q R N z y xr xq lo hi → R < z → y ≡ N + N + N + N + z
over_moves l m (Under a e) h = absurd (omega arith)
over_moves l m (RightLow a b i e) h = absurd (omega arith)
over_moves l m (RightHigh a b i e) h = absurd (omega arith)
over_moves l m (LeftLow a b i e) h = absurd (omega arith)
over_moves l m (LeftHigh a b i e) h = absurd (omega arith)
over_moves l m (Over a e) h = e

moved : {P Q R N z y : ℕ} {xr xq lo hi : ℤ} → P < Q → Q < R → z < N → Kind P Q R N z y xr xq lo hi → Moved P R N z y
moved l m n (Under a e) = MUnder n a e
moved l m n (RightLow a b i e) = MRight n a (omega arith) e
moved l m n (RightHigh a b i e) = MRight n (omega arith) b e
moved l m n (LeftLow a b i e) = MLeft n a (omega arith) e
moved l m n (LeftHigh a b i e) = MLeft n (omega arith) b e
moved l m n (Over a e) = MOver n a e

moved_apart : {P R N z y w v : ℕ} → P < R → R < N → Moved P R N z y → Moved P R N w v → y ≡ v → z ≡ w
moved_apart l n (MUnder a b c) (MUnder d e f) h = omega arith
moved_apart l n (MUnder a b c) (MRight d e i f) h = absurd (omega arith)
moved_apart l n (MUnder a b c) (MLeft d e i f) h = absurd (omega arith)
moved_apart l n (MUnder a b c) (MOver d e f) h = absurd (omega arith)
moved_apart l n (MRight a b j c) (MUnder d e f) h = absurd (omega arith)
moved_apart l n (MRight a b j c) (MRight d e i f) h = omega arith
moved_apart l n (MRight a b j c) (MLeft d e i f) h = absurd (omega arith)
moved_apart l n (MRight a b j c) (MOver d e f) h = absurd (omega arith)
moved_apart l n (MLeft a b j c) (MUnder d e f) h = absurd (omega arith)
moved_apart l n (MLeft a b j c) (MRight d e i f) h = absurd (omega arith)
moved_apart l n (MLeft a b j c) (MLeft d e i f) h = omega arith
moved_apart l n (MLeft a b j c) (MOver d e f) h = absurd (omega arith)
moved_apart l n (MOver a b c) (MUnder d e f) h = absurd (omega arith)
moved_apart l n (MOver a b c) (MRight d e i f) h = absurd (omega arith)
moved_apart l n (MOver a b c) (MLeft d e i f) h = absurd (omega arith)
moved_apart l n (MOver a b c) (MOver d e f) h = omega arith

moved_self : {P R N z y : ℕ} → P < R → R < N → Moved P R N z y → y ≡ N + N + P → ⊥
moved_self l n (MUnder a b c) h = omega arith
moved_self l n (MRight a b j c) h = omega arith
moved_self l n (MLeft a b j c) h = omega arith
moved_self l n (MOver a b c) h = omega arith

high_on : {P Q R N z y w v : ℕ} → P < Q → Class P Q R N z y w v → (Q < z) × (z < R) → On N (N + N) y × On N (N + N) v
high_on l (CUnder a b c d e f) i = absurd (omega arith)
high_on l (CLow a b c d e f) i = absurd (omega arith)
high_on l (CHigh a b c d e f) i = ((omega arith, omega arith), (omega arith, omega arith))
high_on l (COver a b c d e f) i = absurd (omega arith)

low_on : {P Q R N z y w v : ℕ} → Q < R → Class P Q R N z y w v → (P < z) × (z < Q) → On (N + N + N) (N + N + N + N) y × On (N + N + N) (N + N + N + N) v
low_on l (CUnder a b c d e f) i = absurd (omega arith)
low_on l (CLow a b c d e f) i = ((omega arith, omega arith), (omega arith, omega arith))
low_on l (CHigh a b c d e f) i = absurd (omega arith)
low_on l (COver a b c d e f) i = absurd (omega arith)

module _ (Here Less : ℕ → Type 0) (Link Small : ℕ → ℕ → Type 0) (x lo hi : ℕ → ℤ) (mark : ℕ → Mark) (rank new : ℕ → ℕ) (s N p q r t : ℕ)
    (S : Spans Here Link x lo hi s) (O : Opening Here Less Link Small x lo hi s p q r t) (R : Rules Here Link x mark rank) (K : Ranks Less Here lo hi rank new N p q r) where
  at_q : (hi p ≡ x q) × (hi q ≡ x q)
  at_q = S.left_side p q O.first O.odd_q

  at_r : (lo q ≡ x r) × (lo r ≡ x r)
  at_r = S.right_side q r O.second O.odd_r

  at_t : (hi r ≡ x t) × (hi t ≡ x t)
  at_t = S.left_side r t O.third O.odd_t

  wide : lo q <ℤ hi q
  wide = S.short q O.here_q

  p_r : rank p < rank r
  p_r = let l = K.p_q in let m = K.q_r in omega arith

  r_N : rank r < N
  r_N = K.bound r O.here_r

  here : (a : ℕ) → Less a → Here a
  here a h = (O.less a h).0

  not_rank : (a b : ℕ) → Here a → Here b → a ≢ b → rank a ≢ rank b
  not_rank a b h k n e = n (R.apart a b h k e)

  not_P : (a : ℕ) → Less a → a ≢ p → rank a ≢ rank p
  not_P a h n = not_rank a p (here a h) O.here_p n

  not_Q : (a : ℕ) → Less a → rank a ≢ rank q
  not_Q a h = not_rank a q (here a h) O.here_q (O.less a h).1.0

  not_R : (a : ℕ) → Less a → rank a ≢ rank r
  not_R a h = not_rank a r (here a h) O.here_r (O.less a h).1.1

  left_self : LeftView (rank p) (rank r) N (rank p) (new p)
  left_self = LSelf (K.bound p O.here_p) refl K.self

  right_self : RightView (rank p) (rank r) N (rank r) (new p)
  right_self = RSelf r_N refl K.self

  left_view : (a : ℕ) → Less a → lo a <ℤ lo q → LeftView (rank p) (rank r) N (rank a) (new a)
  left_view a h l = elim (cases_eq a p) [
    | inl e ↦ rw e left_self
    | inr n ↦ seen_left K.p_q K.q_r (K.bound a (here a h)) wide (S.short a (here a h)) (K.kinds a h n) l
  ]

  left_view_at : (a : ℕ) → Less a → lo a ≡ lo q → (rank a < rank q) ⊎ (rank r < rank a) → LeftView (rank p) (rank r) N (rank a) (new a)
  left_view_at a h l k = elim (cases_eq a p) [
    | inl e ↦ rw e left_self
    | inr n ↦ seen_left_at K.p_q K.q_r (K.bound a (here a h)) wide (S.short a (here a h)) (K.kinds a h n) l k
  ]

  right_view : (a : ℕ) → Less a → a ≢ p → hi q <ℤ hi a → RightView (rank p) (rank r) N (rank a) (new a)
  right_view a h n l = seen_right K.p_q K.q_r (K.bound a (here a h)) wide (S.short a (here a h)) (K.kinds a h n) l

  right_view_at : (a : ℕ) → Less a → a ≢ p → hi a ≡ hi q → (rank a < rank p) ⊎ (rank q < rank a) → RightView (rank p) (rank r) N (rank a) (new a)
  right_view_at a h n l k = seen_right_at K.p_q K.q_r (K.bound a (here a h)) wide (S.short a (here a h)) (K.kinds a h n) l k

  -- one of the three spans the place, so it is not between the neighbours there
  clear_p : (a b : ℕ) → Link a b → Here a → Here b → lo p <ℤ x b → x b <ℤ hi p → Between (rank p) (rank a) (rank b) → ⊥
  clear_p a b l h k m n g = let o = S.outside p (x b) O.here_p m n in R.clear a b p o.0 l h k o.1.0 O.here_p o.1.1 g

  clear_q : (a b : ℕ) → Link a b → Here a → Here b → lo q <ℤ x b → x b <ℤ hi q → Between (rank q) (rank a) (rank b) → ⊥
  clear_q a b l h k m n g = let o = S.outside q (x b) O.here_q m n in R.clear a b q o.0 l h k o.1.0 O.here_q o.1.1 g

  clear_r : (a b : ℕ) → Link a b → Here a → Here b → lo r <ℤ x b → x b <ℤ hi r → Between (rank r) (rank a) (rank b) → ⊥
  clear_r a b l h k m n g = let o = S.outside r (x b) O.here_r m n in R.clear a b r o.0 l h k o.1.0 O.here_r o.1.1 g

  low_class : (a b : ℕ) → Less a → Less b → lo a <ℤ hi q → lo b <ℤ hi q → (rank p < rank a) × (rank a < rank q) → (rank p < rank b) × (rank b < rank q) → Class (rank p) (rank q) (rank r) N (rank a) (new a) (rank b) (new b)
  low_class a b h k la lb ia ib =
      let na : a ≢ p = λ e. let f : rank a ≡ rank p = ap rank e in let i = ia.0 in omega arith in
      let nb : b ≢ p = λ e. let f : rank b ≡ rank p = ap rank e in let i = ib.0 in omega arith in
      CLow (K.bound a (here a h)) (K.bound b (here b k)) ia ib (low_moves K.p_q K.q_r (K.kinds a h na) la ia.0 ia.1) (low_moves K.p_q K.q_r (K.kinds b k nb) lb ib.0 ib.1)

  high_class : (a b : ℕ) → Less a → Less b → lo q <ℤ hi a → lo q <ℤ hi b → (rank q < rank a) × (rank a < rank r) → (rank q < rank b) × (rank b < rank r) → Class (rank p) (rank q) (rank r) N (rank a) (new a) (rank b) (new b)
  high_class a b h k la lb ia ib =
      let l = K.p_q in
      let na : a ≢ p = λ e. let f : rank a ≡ rank p = ap rank e in let i = ia.0 in omega arith in
      let nb : b ≢ p = λ e. let f : rank b ≡ rank p = ap rank e in let i = ib.0 in omega arith in
      CHigh (K.bound a (here a h)) (K.bound b (here b k)) ia ib (high_moves K.p_q K.q_r (K.kinds a h na) la ia.0 ia.1) (high_moves K.p_q K.q_r (K.kinds b k nb) lb ib.0 ib.1)

  -- neighbours at a place that the middle sector spans
  mid_class : (a b : ℕ) → Link a b → Less a → Less b → a ≢ p → b ≢ p → lo q <ℤ x b → x b <ℤ hi q → lo a <ℤ hi q → lo b <ℤ hi q → lo q <ℤ hi a → lo q <ℤ hi b → Class (rank p) (rank q) (rank r) N (rank a) (new a) (rank b) (new b)
  mid_class a b l h k na nb m n la lb ha hb =
      let ap' = at_q in let ar' = at_r in let low = O.lower in let up = O.upper in
      let cp = clear_p a b l (here a h) (here b k) (omega (arith, ints)) (omega (arith, ints)) in
      let cq = clear_q a b l (here a h) (here b k) m n in
      let cr = clear_r a b l (here a h) (here b k) (omega (arith, ints)) (omega (arith, ints)) in
      elim (beside (not_P a h na) (not_P b k nb) cp) [
        | inl i ↦ CUnder (K.bound a (here a h)) (K.bound b (here b k)) i.0 i.1 (under_moves K.p_q K.q_r (K.kinds a h na) i.0) (under_moves K.p_q K.q_r (K.kinds b k nb) i.1)
        | inr i ↦ elim (beside (not_Q a h) (not_Q b k) cq) [
          | inl j ↦ low_class a b h k la lb (i.0, j.0) (i.1, j.1)
          | inr j ↦ elim (beside (not_R a h) (not_R b k) cr) [
            | inl g ↦ high_class a b h k ha hb (j.0, g.0) (j.1, g.1)
            | inr g ↦ COver (K.bound a (here a h)) (K.bound b (here b k)) g.0 g.1 (over_moves K.p_q K.q_r (K.kinds a h na) g.0) (over_moves K.p_q K.q_r (K.kinds b k nb) g.1)
          ]
        ]
      ]

  data Crease (a b : ℕ) : Type 0 where
    OnLeft : Link a b → x b ≤ℤ lo q → LeftView (rank p) (rank r) N (rank a) (new a) → LeftView (rank p) (rank r) N (rank b) (new b) → Crease a b
    OnRight : (c : ℕ) → Link c b → Here c → c % 2 ≡ a % 2 → hi q ≤ℤ x b → RightView (rank p) (rank r) N (rank c) (new a) → RightView (rank p) (rank r) N (rank b) (new b) → Crease a b
    Within : Link a b → Class (rank p) (rank q) (rank r) N (rank a) (new a) (rank b) (new b)
        → (x b ≤ℤ lo q → On N (N + N) (new a) × On N (N + N) (new b)) → (hi q ≤ℤ x b → On (N + N + N) (N + N + N + N) (new a) × On (N + N + N) (N + N + N + N) (new b)) → Crease a b

  right_crease : (a b : ℕ) → Stays Here Link p q r t a b → Less a → Less b → b % 2 ≡ s → Crease a b
  right_crease a b u h k o =
      let e = S.right_side a b u.link o in let sa = S.short a (here a h) in let sb = S.short b (here b k) in let w = wide in
      elim (int_order (x b) (lo q)) [
        | inl l ↦ OnLeft u.link (omega (arith, ints)) (left_view a h (omega (arith, ints))) (left_view b k (omega (arith, ints)))
        | inr m ↦ elim m [
          | inl f ↦
              let n = R.nested a b q r u.link (here a h) (here b k) O.second O.here_q O.here_r u.not_r (let g = at_r in omega (arith, ints)) (o ∙ sym O.odd_r) in
              elim (pocket K.q_r (not_Q a h) (not_R a h) (not_Q b k) (not_R b k) n) [
                | inl i ↦
                    let C = high_class a b h k (omega (arith, ints)) (omega (arith, ints)) i.0 i.1 in
                    Within u.link C (λ j. high_on K.p_q C i.0) (λ j. absurd (omega (arith, ints)))
                | inr i ↦ OnLeft u.link (omega (arith, ints)) (left_view_at a h (omega (arith, ints)) i.0) (left_view_at b k (omega (arith, ints)) i.1)
              ]
          | inr l ↦
              let low = O.lower in
              let nb : b ≢ p = λ g. let f : lo b ≡ lo p = ap lo g in omega (arith, ints) in
              elim (int_order (x b) (hi q)) [
                | inl m ↦ Within u.link (mid_class a b u.link h k u.not_p nb l m (omega (arith, ints)) (omega (arith, ints)) (omega (arith, ints)) (omega (arith, ints))) (λ j. absurd (omega (arith, ints))) (λ j. absurd (omega (arith, ints)))
                | inr m ↦
                    let m' : hi q ≤ℤ x b = elim m [ inl f ↦ omega (arith, ints) | inr f ↦ omega (arith, ints) ] in
                    OnRight a u.link (here a h) refl m' (right_view a h u.not_p (omega (arith, ints))) (right_view b k nb (omega (arith, ints)))
              ]
        ]
      ]

  left_crease : (a b : ℕ) → Stays Here Link p q r t a b → Less a → Less b → b % 2 ≢ s → Crease a b
  left_crease a b u h k o =
      let e = S.left_side a b u.link o in let sa = S.short a (here a h) in let sb = S.short b (here b k) in let w = wide in
      let nb : b ≢ p = λ g. o (ap (λ n. n % 2) g ∙ O.odd_p) in
      elim (int_order (x b) (hi q)) [
        | inl l ↦ elim (int_order (x b) (lo q)) [
          | inl m ↦ OnLeft u.link (omega (arith, ints)) (left_view a h (omega (arith, ints))) (left_view b k (omega (arith, ints)))
          | inr m ↦ elim m [
            | inl f ↦ OnLeft u.link (omega (arith, ints)) (left_view a h (omega (arith, ints))) (left_view b k (omega (arith, ints)))
            | inr f ↦ Within u.link (mid_class a b u.link h k u.not_p nb f l (omega (arith, ints)) (omega (arith, ints)) (omega (arith, ints)) (omega (arith, ints))) (λ j. absurd (omega (arith, ints))) (λ j. absurd (omega (arith, ints)))
          ]
        ]
        | inr m ↦ elim m [
          | inl f ↦
              let n = R.nested a b p q u.link (here a h) (here b k) O.first O.here_p O.here_q u.not_q (let g = at_q in omega (arith, ints)) (let g = O.odd_q in let g' = O.odd_p in omega arith) in
              elim (pocket K.p_q (not_P a h u.not_p) (not_Q a h) (not_P b k nb) (not_Q b k) n) [
                | inl i ↦
                    let C = low_class a b h k (omega (arith, ints)) (omega (arith, ints)) i.0 i.1 in
                    Within u.link C (λ j. absurd (omega (arith, ints))) (λ j. low_on K.q_r C i.0)
                | inr i ↦ OnRight a u.link (here a h) refl (omega (arith, ints)) (right_view_at a h u.not_p (omega (arith, ints)) i.0) (right_view_at b k nb (omega (arith, ints)) i.1)
              ]
          | inr f ↦ OnRight a u.link (here a h) refl (omega (arith, ints)) (right_view a h u.not_p (omega (arith, ints))) (right_view b k nb (omega (arith, ints)))
        ]
      ]

  -- the crease behind the sector that is left of the three
  last_crease : Less t → (hi q ≤ℤ x t) × RightView (rank p) (rank r) N (rank t) (new t)
  last_crease h =
      let e = at_t in let up = O.upper in let sa = S.short t (here t h) in
      let nt : t ≢ p = λ g. O.odd_t (ap (λ n. n % 2) g ∙ O.odd_p) in
      elim (int_order (hi q) (hi t)) [
        | inl l ↦ (omega (arith, ints), right_view t h nt l)
        | inr m ↦
            let f : hi q ≡ hi t = elim m [ inl f ↦ f | inr f ↦ absurd (omega (arith, ints)) ] in
            let n = R.nested r t p q O.third O.here_r (here t h) O.first O.here_p O.here_q (λ g. (O.less t h).1.0 g) (let g = at_q in omega (arith, ints)) (let g = O.odd_q in let g' = O.odd_t in let g'' = O.odd_p in omega arith) in
            let l = K.q_r in let l' = K.p_q in
            elim (pocket K.p_q (omega arith) (omega arith) (not_P t h nt) (not_Q t h) n) [
              | inl i ↦ let j = i.0 in absurd (omega arith)
              | inr i ↦ (omega (arith, ints), right_view_at t h nt (sym f) i.1)
            ]
      ]

  crease : (a b : ℕ) → Small a b → Less a → Less b → Crease a b
  crease a b l h k = elim (O.small a b l) [
    | inl e ↦
        let k' : Less t = subst Less e.1 k in let c = last_crease k' in
        OnRight r (subst (λ n. Link r n) (sym e.1) O.third) O.here_r (O.odd_r ∙ sym O.odd_p ∙ sym (ap (λ n. n % 2) e.0)) (subst (λ n. hi q ≤ℤ x n) (sym e.1) c.0)
        (subst (λ n. RightView (rank p) (rank r) N (rank r) (new n)) (sym e.0) right_self) (subst (λ n. RightView (rank p) (rank r) N (rank n) (new n)) (sym e.1) c.1)
    | inr u ↦ elim (cases_eq (b % 2) s) [ inl o ↦ right_crease a b u h k o | inr o ↦ left_crease a b u h k o ]
  ]

  nested_all : (a b c d : ℕ) → Crease a b → Crease c d → Less a → Less b → Less c → Less d → b ≢ d → x b ≡ x d → b % 2 ≡ d % 2 → (Between (new c) (new a) (new b) ↔ Between (new d) (new a) (new b))
  nested_all a b c d (OnLeft l i u v) (OnLeft m j w z) ha hb hc hd n e o = left_both p_r w z u v (R.nested a b c d l (here a ha) (here b hb) m (here c hc) (here d hd) n e o)
  nested_all a b c d (OnLeft l i u v) (OnRight f m g y j w z) ha hb hc hd n e o = let k = wide in absurd (omega (arith, ints))
  nested_all a b c d (OnLeft l i u v) (Within m C j w) ha hb hc hd n e o = let k = j (omega (arith, ints)) in off_both (left_off u) (left_off v) k.0 k.1
  nested_all a b c d (OnRight g l hg y i u v) (OnLeft m j w z) ha hb hc hd n e o = let k = wide in absurd (omega (arith, ints))
  nested_all a b c d (OnRight g l hg y i u v) (OnRight f m hf y' j w z) ha hb hc hd n e o = right_both p_r w z u v (R.nested g b f d l hg (here b hb) m hf (here d hd) n e o)
  nested_all a b c d (OnRight g l hg y i u v) (Within m C j w) ha hb hc hd n e o = let k = w (omega (arith, ints)) in off_both (right_off p_r u) (right_off p_r v) k.0 k.1
  nested_all a b c d (Within l C i u) (OnLeft m j w z) ha hb hc hd n e o = let k = i (omega (arith, ints)) in on_both k.0 k.1 (left_off w) (left_off z)
  nested_all a b c d (Within l C i u) (OnRight f m hf y' j w z) ha hb hc hd n e o = let k = u (omega (arith, ints)) in on_both k.0 k.1 (right_off p_r w) (right_off p_r z)
  nested_all a b c d (Within l C i u) (Within m D j w) ha hb hc hd n e o = class_both K.p_q K.q_r r_N D C (R.nested a b c d l (here a ha) (here b hb) m (here c hc) (here d hd) n e o)

  -- a sector that the crimp leaves spans the place
  clear_stays : (a b c d : ℕ) → Crease a b → Stays Here Link p q r t c d → Less a → Less b → Less c → Inside (x b) (x c) (x d) → Between (new c) (new a) (new b) → ⊥
  clear_stays a b c d (OnLeft l i u v) m ha hb hc g k =
      let e = S.inside c d (x b) m.link g in
      R.clear a b c d l (here a ha) (here b hb) m.link (here c hc) g (left_between_back p_r (left_view c hc (omega (arith, ints))) u v k)
  clear_stays a b c d (OnRight f l hf y i u v) m ha hb hc g k =
      let e = S.inside c d (x b) m.link g in
      R.clear f b c d l hf (here b hb) m.link (here c hc) g (right_between_back p_r (right_view c hc m.not_p (omega (arith, ints))) u v k)
  clear_stays a b c d (Within l C i u) m ha hb hc g k =
      R.clear a b c d l (here a ha) (here b hb) m.link (here c hc) g (class_back K.p_q K.q_r r_N (moved K.p_q K.q_r (K.bound c (here c hc)) (K.kinds c hc m.not_p)) C k)

  -- the one that is left of the three does
  clear_self : (a b : ℕ) → Crease a b → Less a → Less b → Inside (x b) (x p) (x t) → Between (new p) (new a) (new b) → ⊥
  clear_self a b (OnLeft l i u v) ha hb g k =
      let e = at_t in let f = at_q in let w = wide in let low = O.lower in let up = O.upper in let st = O.start in
      let m : (lo p <ℤ x b) × (x b <ℤ hi r) = elim g [ inl g' ↦ (omega (arith, ints), omega (arith, ints)) | inr g' ↦ absurd (omega (arith, ints)) ] in
      clear_p a b l (here a ha) (here b hb) m.0 (omega (arith, ints)) (left_between_back p_r left_self u v k)
  clear_self a b (OnRight c l hc y i u v) ha hb g k =
      let e = at_t in let f = at_r in let w = wide in let low = O.lower in let up = O.upper in let st = O.start in
      let m : (lo p <ℤ x b) × (x b <ℤ hi r) = elim g [ inl g' ↦ (omega (arith, ints), omega (arith, ints)) | inr g' ↦ absurd (omega (arith, ints)) ] in
      clear_r c b l hc (here b hb) (omega (arith, ints)) m.1 (right_between_back p_r right_self u v k)
  clear_self a b (Within l C i u) ha hb g k = class_self K.p_q K.q_r r_N K.self C k

  clear_all : (a b c d : ℕ) → Crease a b → Small c d → Less a → Less b → Less c → Inside (x b) (x c) (x d) → Between (new c) (new a) (new b) → ⊥
  clear_all a b c d u l ha hb hc g k = elim (O.small c d l) [
    | inl e ↦ clear_self a b u ha hb (inside_moved refl (ap x e.0) (ap x e.1) g) (between_moved (ap new e.0) refl refl k)
    | inr m ↦ clear_stays a b c d u m ha hb hc g k
  ]

  agrees_moved : (m : Mark) (a b c : ℕ) → c % 2 ≡ a % 2 → (rank c < rank b → new a < new b) → (rank b < rank c → new b < new a) → Agrees m c b rank → Agrees m a b new
  agrees_moved kind.V a b c e f g h = (λ o. f (h.0 (e ∙ o)), λ o. g (h.1 (e ∙ o)))
  agrees_moved kind.M a b c e f g h = (λ o. g (h.0 (e ∙ o)), λ o. f (h.1 (e ∙ o)))

  agrees_all : (a b : ℕ) → Crease a b → Less a → Less b → Agrees (mark b) a b new
  agrees_all a b (OnLeft l i u v) ha hb = agrees_moved (mark b) a b a refl (left_less p_r u v) (left_less p_r v u) (R.agrees a b l (here a ha) (here b hb))
  agrees_all a b (OnRight c l hc y i u v) ha hb = agrees_moved (mark b) a b c y (right_less p_r u v) (right_less p_r v u) (R.agrees c b l hc (here b hb))
  agrees_all a b (Within l C i u) ha hb = agrees_moved (mark b) a b a refl (class_less C) (class_less_turned C) (R.agrees a b l (here a ha) (here b hb))

  moved_at : (a : ℕ) → Less a → a ≢ p → Moved (rank p) (rank r) N (rank a) (new a)
  moved_at a h n = moved K.p_q K.q_r (K.bound a (here a h)) (K.kinds a h n)

  apart_all : (a b : ℕ) → Less a → Less b → new a ≡ new b → a ≡ b
  apart_all a b h k e = elim (cases_eq a p) [
    | inl f ↦ elim (cases_eq b p) [
      | inl g ↦ f ∙ sym g
      | inr m ↦ absurd (moved_self p_r r_N (moved_at b k m) (sym e ∙ ap new f ∙ K.self))
    ]
    | inr n ↦ elim (cases_eq b p) [
      | inl g ↦ absurd (moved_self p_r r_N (moved_at a h n) (e ∙ ap new g ∙ K.self))
      | inr m ↦ R.apart a b (here a h) (here b k) (moved_apart p_r r_N (moved_at a h n) (moved_at b k m) e)
    ]
  ]

  pub opened : Rules Less Small x mark new
  opened = record {
    apart = apart_all;
    agrees = λ a b l h k. agrees_all a b (crease a b l h k) h k;
    clear = λ a b c d l h k m j i g. clear_all a b c d (crease a b l h k) m h k j i g;
    nested = λ a b c d l h k m i j n s o. nested_all a b c d (crease a b l h k) (crease c d m i j) h k i j n s o;
  }
