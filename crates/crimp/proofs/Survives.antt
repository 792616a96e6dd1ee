-- A layer order of a cyclic list outlives a crimp.
use Rattle.std.proofs.Common.{◌≡◌, ◌≢◌, ◌≤◌, ◌<◌, ◌%◌, ℕ, arith, refl, ap, sym, ◌∙◌, ◌⊎◌, inl, inr, cond, eqb, eq-eqb, true, false, List, [], ◌∷◌}
use Rattle.std.specs.Prelude.{ℤ, pos, ◌+ℤ◌, ◌-ℤ◌}
use Rattle.std.proofs.lemmas.Int.{ints}
use Rattle.std.proofs.lemmas.Bool.{cases_eq, ne_eqb}
use Rattle.sheet.specs.declared.mark.Mark.{Mark}
use Rattle.crimp.specs.declared.entries.Entry.{Entry}
use Rattle.crimp.specs.Rules.{Inside, Rules}
use Rattle.crimp.specs.Cyclic.{In, Follows, Linked, Distinct}
use Rattle.crimp.specs.Cycle.{merged, numbers_of, crimped_at, IsCycle, Crimpable}
use Rattle.crimp.proofs.Cyclic.{fewer, in_moved, follows_from, follows_to}
use Rattle.crimp.proofs.Cycle.{in_turn, linked_turn, turn_back, map_turn, opposite, shown, Front}
use Rattle.crimp.proofs.Opened.{Spans, Opening, Stays}
use Rattle.crimp.proofs.Outlives.{rules_moved, outlives}

pub low : (ℕ → ℤ) → (ℕ → ℕ) → ℕ → ℕ → ℤ
low x arc s a = cond (eqb (a % 2) s) (x a) (x a -ℤ pos (arc a))

pub high : (ℕ → ℤ) → (ℕ → ℕ) → ℕ → ℕ → ℤ
high x arc s a = cond (eqb (a % 2) s) (x a +ℤ pos (arc a)) (x a)

module _ (x : ℕ → ℤ) (arc : ℕ → ℕ) (s a : ℕ) where
  pub low_same : a % 2 ≡ s → low x arc s a ≡ x a
  unfolding low
  low_same o = let e = eq-eqb (a % 2) s o in rw e refl

  pub low_other : a % 2 ≢ s → low x arc s a ≡ x a -ℤ pos (arc a)
  unfolding low
  low_other o = let e = ne_eqb (a % 2) s o in rw e refl

  pub high_same : a % 2 ≡ s → high x arc s a ≡ x a +ℤ pos (arc a)
  unfolding high
  high_same o = let e = eq-eqb (a % 2) s o in rw e refl

  pub high_other : a % 2 ≢ s → high x arc s a ≡ x a
  unfolding high
  high_other o = let e = ne_eqb (a % 2) s o in rw e refl

-- numbers_of of parity s go up, the others down
pub record Walk (Here : ℕ → Type 0) (Link : ℕ → ℕ → Type 0) (x : ℕ → ℤ) (arc : ℕ → ℕ) (s : ℕ) : Type 0 where
  pub bit : s < 2
  pub odd : (a b : ℕ) → Link a b → b % 2 ≢ a % 2
  pub up : (a b : ℕ) → Link a b → a % 2 ≡ s → x b ≡ x a +ℤ pos (arc a)
  pub down : (a b : ℕ) → Link a b → a % 2 ≢ s → x b ≡ x a -ℤ pos (arc a)
  pub next : (a : ℕ) → Here a → (b : ℕ) × Link a b
  pub some : (a : ℕ) → Here a → 1 ≤ arc a

pub spans : (Here : ℕ → Type 0) (Link : ℕ → ℕ → Type 0) (x : ℕ → ℤ) (arc : ℕ → ℕ) (s : ℕ) → Walk Here Link x arc s → Spans Here Link x (low x arc s) (high x arc s) s
spans Here Link x arc s W = record {
  short = λ a h. let m = W.some a h in elim (cases_eq (a % 2) s) [
    | inl o ↦ let e = low_same x arc s a o in let f = high_same x arc s a o in omega (arith, ints)
    | inr o ↦ let e = low_other x arc s a o in let f = high_other x arc s a o in omega (arith, ints)
  ];
  right_side = λ a b l o.
      let n = W.odd a b l in let oa : a % 2 ≢ s = λ e. n (o ∙ sym e) in
      let e = low_other x arc s a oa in let f = low_same x arc s b o in let g = W.down a b l oa in (omega (arith, ints), f);
  left_side = λ a b l o.
      let n = W.odd a b l in let bit = W.bit in let oa : a % 2 ≡ s = omega arith in
      let e = high_same x arc s a oa in let f = high_other x arc s b o in let g = W.up a b l oa in (omega (arith, ints), f);
  inside = λ a b y l i. elim (cases_eq (a % 2) s) [
    | inl o ↦ let e = low_same x arc s a o in let f = high_same x arc s a o in let g = W.up a b l o in elim i [ inl j ↦ (omega (arith, ints), omega (arith, ints)) | inr j ↦ absurd (omega (arith, ints)) ]
    | inr o ↦ let e = low_other x arc s a o in let f = high_other x arc s a o in let g = W.down a b l o in elim i [ inl j ↦ absurd (omega (arith, ints)) | inr j ↦ (omega (arith, ints), omega (arith, ints)) ]
  ];
  outside = λ a y h m n. let b = W.next a h in elim (cases_eq (a % 2) s) [
    | inl o ↦ let e = low_same x arc s a o in let f = high_same x arc s a o in let g = W.up a b.0 b.1 o in (b.0, (b.1, inl (omega (arith, ints), omega (arith, ints))))
    | inr o ↦ let e = low_other x arc s a o in let f = high_other x arc s a o in let g = W.down a b.0 b.1 o in (b.0, (b.1, inr (omega (arith, ints), omega (arith, ints))))
  ];
}

-- the crimp at the front of a list
opening : (x : ℕ → ℤ) (arc : ℕ → ℕ) (s p q r t : ℕ) (zs : List ℕ) → Distinct (p ∷ q ∷ r ∷ t ∷ zs) → Walk (In (p ∷ q ∷ r ∷ t ∷ zs)) (Linked (p ∷ q ∷ r ∷ t ∷ zs)) x arc s → p % 2 ≡ s → arc q ≤ arc p → arc q ≤ arc r
    → Opening (In (p ∷ q ∷ r ∷ t ∷ zs)) (In (p ∷ t ∷ zs)) (Linked (p ∷ q ∷ r ∷ t ∷ zs)) (Linked (p ∷ t ∷ zs)) x (low x arc s) (high x arc s) s p q r t
opening x arc s p q r t zs D W o lp lr = record {
  first = first;
  second = second;
  third = third;
  here_p = inl refl;
  here_q = inr (inl refl);
  here_r = inr (inr (inl refl));
  less = less;
  small = small;
  odd_p = o;
  odd_q = odd_q;
  odd_r = odd_r;
  odd_t = odd_t;
  start = sym (low_same x arc s p o);
  lower = let e = low_same x arc s p o in let f = low_other x arc s q odd_q in let g = W.up p q first o in omega (arith, ints);
  upper = let e = high_same x arc s r odd_r in let f = high_other x arc s q odd_q in let g = W.down q r second odd_q in omega (arith, ints);
}
  where
    first : Linked (p ∷ q ∷ r ∷ t ∷ zs) p q
    first = inl (refl, refl)

    second : Linked (p ∷ q ∷ r ∷ t ∷ zs) q r
    second = inr (inl (refl, refl))

    third : Linked (p ∷ q ∷ r ∷ t ∷ zs) r t
    third = inr (inr (inl (refl, refl)))

    odd_q : q % 2 ≢ s
    odd_q e = W.odd p q first (e ∙ sym o)

    odd_r : r % 2 ≡ s
    odd_r = let b = W.bit in let n = W.odd q r second in let m = odd_q in omega arith

    odd_t : t % 2 ≢ s
    odd_t e = W.odd r t third (e ∙ sym odd_r)

    less : (a : ℕ) → In (p ∷ t ∷ zs) a → In (p ∷ q ∷ r ∷ t ∷ zs) a × ((a ≢ q) × (a ≢ r))
    less a (inl e) = (inl e, ((λ f. D.0 (inl (sym e ∙ f))), (λ f. D.0 (inr (inl (sym e ∙ f))))))
    less a (inr h) = (inr (inr (inr h)), ((λ f. D.1.0 (inr (in_moved (t ∷ zs) a q f h))), (λ f. D.1.1.0 (in_moved (t ∷ zs) a r f h))))

    last : (a b : ℕ) → Follows t zs p a b → Stays (In (p ∷ q ∷ r ∷ t ∷ zs)) (Linked (p ∷ q ∷ r ∷ t ∷ zs)) p q r t a b
    last a b l = record {
      link = inr (inr (inr l));
      not_p = λ e. D.0 (inr (inr (in_moved (t ∷ zs) a p e (follows_from t zs p a b l))));
      not_q = λ e. elim (follows_to t zs p a b l) [ inl f ↦ D.0 (inl (sym f ∙ e)) | inr k ↦ D.1.0 (inr (inr (in_moved zs b q e k))) ];
      not_r = λ e. elim (follows_to t zs p a b l) [ inl f ↦ D.0 (inr (inl (sym f ∙ e))) | inr k ↦ D.1.1.0 (inr (in_moved zs b r e k)) ];
      not_t = λ e. elim (follows_to t zs p a b l) [ inl f ↦ D.0 (inr (inr (inl (sym f ∙ e)))) | inr k ↦ D.1.1.1.0 (in_moved zs b t e k) ];
    }

    small : (a b : ℕ) → Linked (p ∷ t ∷ zs) a b → ((a ≡ p) × (b ≡ t)) ⊎ Stays (In (p ∷ q ∷ r ∷ t ∷ zs)) (Linked (p ∷ q ∷ r ∷ t ∷ zs)) p q r t a b
    small a b (inl h) = inl h
    small a b (inr l) = inr (last a b l)

-- angles by number
arc : List Entry → ℕ → ℕ
arc [] a = 0
arc (e ∷ es) a = cond (eqb a e.number) e.angle (arc es a)

in_number : (es : List Entry) (e : Entry) → In es e → In (numbers_of es) e.number
in_number [] e h = h
in_number (f ∷ es) e (inl h) = inl (ap (λ e. e.number) h)
in_number (f ∷ es) e (inr h) = inr (in_number es e h)

arc_of : (es : List Entry) (e : Entry) → Distinct (numbers_of es) → In es e → arc es e.number ≡ e.angle
unfolding arc
arc_of [] e D h = absurd h
arc_of (f ∷ es) e D (inl h) = let k : eqb e.number f.number ≡ true = eq-eqb e.number f.number (ap (λ e. e.number) h) in rw k (sym (ap (λ e. e.angle) h))
arc_of (f ∷ es) e D (inr h) = let k : eqb e.number f.number ≡ false = ne_eqb e.number f.number (λ g. D.0 (in_moved (numbers_of es) e.number f.number g (in_number es e h))) in rw k (arc_of es e D.1 h)

in_entry : (es : List Entry) (a : ℕ) → In (numbers_of es) a → (e : Entry) × ((a ≡ e.number) × In es e)
in_entry [] a h = absurd h
in_entry (f ∷ es) a (inl h) = (f, (h, inl refl))
in_entry (f ∷ es) a (inr h) = let k = in_entry es a h in (k.0, (k.1.0, inr k.1.1))

record Behind (u : Entry) (vs : List Entry) (z : Entry) (a b : ℕ) : Type 0 where
  from : Entry
  to : Entry
  is_a : a ≡ from.number
  is_b : b ≡ to.number
  link : Follows u vs z from to

follows_entry : (u : Entry) (vs : List Entry) (z : Entry) (a b : ℕ) → Follows u.number (numbers_of vs) z.number a b → Behind u vs z a b
follows_entry u [] z a b h = record { from = u; to = z; is_a = h.0; is_b = h.1; link = (refl, refl) }
follows_entry u (v ∷ vs) z a b (inl h) = record { from = u; to = v; is_a = h.0; is_b = h.1; link = inl (refl, refl) }
follows_entry u (v ∷ vs) z a b (inr h) = let k = follows_entry v vs z a b h in record { from = k.from; to = k.to; is_a = k.is_a; is_b = k.is_b; link = inr k.link }

follows_next : (u : ℕ) (vs : List ℕ) (z a : ℕ) → In (u ∷ vs) a → (b : ℕ) × Follows u vs z a b
follows_next u [] z a (inl e) = (z, (e, refl))
follows_next u [] z a (inr h) = absurd h
follows_next u (v ∷ vs) z a (inl e) = (v, inl (e, refl))
follows_next u (v ∷ vs) z a (inr h) = let k = follows_next v vs z a h in (k.0, inr k.1)

module _ (x : ℕ → ℤ) (mark : ℕ → Mark) (u : Entry) (vs : List Entry) (I : IsCycle x mark (u ∷ vs)) (some : (e : Entry) → In (u ∷ vs) e → 1 ≤ e.angle) where
  record Went (a b : ℕ) : Type 0 where
    odd : b % 2 ≢ a % 2
    up : a % 2 ≡ 0 → x b ≡ x a +ℤ pos (arc (u ∷ vs) a)
    down : a % 2 ≡ 1 → x b ≡ x a -ℤ pos (arc (u ∷ vs) a)

  went : (a b : ℕ) → Linked (numbers_of (u ∷ vs)) a b → Went a b
  went a b l =
      let k = follows_entry u vs u a b l in
      let s = I.steps k.from k.to k.link in
      let n = s.odd in
      let ea = k.is_a in let eb = k.is_b in
      let g : arc (u ∷ vs) a ≡ k.from.angle = ap (arc (u ∷ vs)) k.is_a ∙ arc_of (u ∷ vs) k.from I.distinct (follows_from u vs u k.from k.to k.link) in
      let pa : pos (arc (u ∷ vs) a) ≡ pos k.from.angle = ap pos g in
      let xa : x a ≡ x k.from.number = ap x k.is_a in let xb : x b ≡ x k.to.number = ap x k.is_b in
      record {
        odd = λ e. n (sym (ap (λ m. m % 2) eb) ∙ e ∙ ap (λ m. m % 2) ea);
        up = λ e. let v = s.up (sym (ap (λ m. m % 2) ea) ∙ e) in omega (arith, ints);
        down = λ e. let v = s.down (sym (ap (λ m. m % 2) ea) ∙ e) in omega (arith, ints);
      }

  arcs : (a : ℕ) → In (numbers_of (u ∷ vs)) a → 1 ≤ arc (u ∷ vs) a
  arcs a h = let k = in_entry (u ∷ vs) a h in let e = some k.0 k.1.1 in
      let g : arc (u ∷ vs) a ≡ k.0.angle = ap (arc (u ∷ vs)) k.1.0 ∙ arc_of (u ∷ vs) k.0 I.distinct k.1.1 in omega arith

  walk_even : Walk (In (numbers_of (u ∷ vs))) (Linked (numbers_of (u ∷ vs))) x (arc (u ∷ vs)) 0
  walk_even = record {
    bit = omega arith;
    odd = λ a b l. (went a b l).odd;
    up = λ a b l e. (went a b l).up e;
    down = λ a b l n. (went a b l).down (omega arith);
    next = λ a h. follows_next u.number (numbers_of vs) u.number a h;
    some = arcs;
  }

  walk_odd : Walk (In (numbers_of (u ∷ vs))) (Linked (numbers_of (u ∷ vs))) (λ a. pos 0 -ℤ x a) (arc (u ∷ vs)) 1
  walk_odd = record {
    bit = omega arith;
    odd = λ a b l. (went a b l).odd;
    up = λ a b l e. let g = (went a b l).down e in omega (arith, ints);
    down = λ a b l n. let g = (went a b l).up (omega arith) in omega (arith, ints);
    next = λ a h. follows_next u.number (numbers_of vs) u.number a h;
    some = arcs;
  }

inside_over : {y x z y' x' z' : ℤ} → y' ≡ pos 0 -ℤ y → x' ≡ pos 0 -ℤ x → z' ≡ pos 0 -ℤ z → Inside y' x' z' → Inside y x z
inside_over e f g (inl h) = inr (omega (arith, ints), omega (arith, ints))
inside_over e f g (inr h) = inl (omega (arith, ints), omega (arith, ints))

places_over : (Here : ℕ → Type 0) (Link : ℕ → ℕ → Type 0) (x y : ℕ → ℤ) (mark : ℕ → Mark) (rank : ℕ → ℕ) → ((a : ℕ) → y a ≡ pos 0 -ℤ x a) → Rules Here Link x mark rank → Rules Here Link y mark rank
places_over Here Link x y mark rank e R = rules_moved Here Link x y mark mark rank rank R (λ a b c i. inside_over (e a) (e b) (e c) i) (λ a b s. let f = e a in let g = e b in omega (arith, ints))
    (λ a b c h k l. (λ g. g, λ g. g)) (λ a b h k g. g) (λ a b h k g. g)

pub survives_front : (x : ℕ → ℤ) (mark : ℕ → Mark) (p q r t : Entry) (zs : List Entry) → Front x mark p q r t zs → ((e : Entry) → In (p ∷ q ∷ r ∷ t ∷ zs) e → 1 ≤ e.angle) → (rank : ℕ → ℕ) (N : ℕ)
    → Rules (In (numbers_of (p ∷ q ∷ r ∷ t ∷ zs))) (Linked (numbers_of (p ∷ q ∷ r ∷ t ∷ zs))) x mark rank → ((a : ℕ) → In (numbers_of (p ∷ q ∷ r ∷ t ∷ zs)) a → rank a < N)
    → (new : ℕ → ℕ) × Rules (In (numbers_of (merged p q r ∷ t ∷ zs))) (Linked (numbers_of (merged p q r ∷ t ∷ zs))) x mark new
survives_front x mark p q r t zs F some rank N R bound = elim (cases_eq (p.number % 2) 0) [
  | inl o ↦
      let W = walk_even x mark p (q ∷ r ∷ t ∷ zs) F.cycle some in
      outlives Here Less Link Small x (low x angle 0) (high x angle 0) mark rank 0 N p.number q.number r.number t.number (spans Here Link x angle 0 W)
      (opening x angle 0 p.number q.number r.number t.number (numbers_of zs) F.cycle.distinct W o least_p least_r) R bound (opposite x mark p q r t zs F)
  | inr o ↦
      let W = walk_odd x mark p (q ∷ r ∷ t ∷ zs) F.cycle some in
      let y : ℕ → ℤ = λ a. pos 0 -ℤ x a in
      let M = outlives Here Less Link Small (λ a. pos 0 -ℤ x a) (low (λ a. pos 0 -ℤ x a) angle 1) (high (λ a. pos 0 -ℤ x a) angle 1) mark rank 1 N p.number q.number r.number t.number (spans Here Link (λ a. pos 0 -ℤ x a) angle 1 W)
      (opening (λ a. pos 0 -ℤ x a) angle 1 p.number q.number r.number t.number (numbers_of zs) F.cycle.distinct W (omega arith) least_p least_r)
      (places_over Here Link x (λ a. pos 0 -ℤ x a) mark rank (λ a. refl) R) bound (opposite x mark p q r t zs F) in
      (M.0, places_over Less Small (λ a. pos 0 -ℤ x a) x mark M.0 (λ a. omega (arith, ints)) M.1)
]
  where
    Here : ℕ → Type 0
    Here = In (numbers_of (p ∷ q ∷ r ∷ t ∷ zs))

    Less : ℕ → Type 0
    Less = In (numbers_of (merged p q r ∷ t ∷ zs))

    Link : ℕ → ℕ → Type 0
    Link = Linked (numbers_of (p ∷ q ∷ r ∷ t ∷ zs))

    Small : ℕ → ℕ → Type 0
    Small = Linked (numbers_of (merged p q r ∷ t ∷ zs))

    angle : ℕ → ℕ
    angle = arc (p ∷ q ∷ r ∷ t ∷ zs)

    least_p : angle q.number ≤ angle p.number
    least_p = let l = F.least_p in let e = arc_of (p ∷ q ∷ r ∷ t ∷ zs) q F.cycle.distinct (inr (inl refl)) in let f = arc_of (p ∷ q ∷ r ∷ t ∷ zs) p F.cycle.distinct (inl refl) in omega arith

    least_r : angle q.number ≤ angle r.number
    least_r = let l = F.least_r in let e = arc_of (p ∷ q ∷ r ∷ t ∷ zs) q F.cycle.distinct (inr (inl refl)) in let f = arc_of (p ∷ q ∷ r ∷ t ∷ zs) r F.cycle.distinct (inr (inr (inl refl))) in omega arith

-- a crimp at any place
pub survives : (x : ℕ → ℤ) (mark : ℕ → Mark) (es : List Entry) (i : ℕ) → IsCycle x mark es → Crimpable es i → ((e : Entry) → In es e → 1 ≤ e.angle) → (rank : ℕ → ℕ) (N : ℕ)
    → Rules (In (numbers_of es)) (Linked (numbers_of es)) x mark rank → ((a : ℕ) → In (numbers_of es) a → rank a < N) → (new : ℕ → ℕ) × Rules (In (numbers_of (crimped_at es i))) (Linked (numbers_of (crimped_at es i))) x mark new
survives x mark es i I K some rank N R bound =
    let S = shown x mark es i I K in
    let small = numbers_of (merged S.p S.q S.r ∷ S.t ∷ S.zs) in
    let large = numbers_of (S.p ∷ S.q ∷ S.r ∷ S.t ∷ S.zs) in
    let tl = map_turn (λ e. e.number) (crimped_at es i) (merged S.p S.q S.r ∷ S.t ∷ S.zs) S.less in
    let tw = map_turn (λ e. e.number) es (S.p ∷ S.q ∷ S.r ∷ S.t ∷ S.zs) S.whole in
    let R' = fewer (In (numbers_of es)) (In large) (Linked (numbers_of es)) (Linked large) x mark rank (λ a h. in_turn large (numbers_of es) a (turn_back tw) h) (λ a b h. linked_turn large (numbers_of es) a b (turn_back tw) h) R in
    let u = survives_front x mark S.p S.q S.r S.t S.zs S.front (λ e h. some e (in_turn (S.p ∷ S.q ∷ S.r ∷ S.t ∷ S.zs) es e (turn_back S.whole) h)) rank N R' (λ a h. bound a (in_turn large (numbers_of es) a (turn_back tw) h)) in
    (u.0, fewer (In small) (In (numbers_of (crimped_at es i))) (Linked small) (Linked (numbers_of (crimped_at es i))) x mark u.0 (λ a h. in_turn (numbers_of (crimped_at es i)) small a tl h) (λ a b h. linked_turn (numbers_of (crimped_at es i)) small a b tl h) u.1)
