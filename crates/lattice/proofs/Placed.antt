-- Near values by two whole numbers that are not below zero.
use Rattle.std.proofs.Common.{◌≡◌, ℕ, suc, ◌+◌, ◌-◌, ◌*◌, ◌<◌, ◌≤◌, max, sym, ap, subst, arith, inl, inr, ◌∙◌}
use Rattle.std.specs.Prelude.{ℤ, pos, negsuc, neg_ℤ, ◌+ℤ◌, ◌-ℤ◌, ◌*ℤ◌, unsigned_abs}
use Rattle.std.proofs.lemmas.Int.{ints}
use Rattle.exact.specs.Number.{ExactNumber, Same, AtMost, den, whole, add, sub, mul}
use Rattle.exact.specs.Floor.{integer}
use Rattle.exact.proofs.Ring.{is_eq, is_mul, is_add, is_sub, is_neg, is_lit, is_atom, over_one}
use Rattle.exact.proofs.Unique.{triple}
use Rattle.lattice.specs.Side.{NotNegative, NotBelow}
use Rattle.lattice.specs.Lattice.{Measures, IsPlace, fraction}
use Rattle.lattice.specs.Found.{value_of}
use Rattle.lattice.proofs.Sides.{nn_moved, nn_carried}

gap_none : (x y : ℤ) → x ≡ y → y -ℤ x ≡ pos 0
gap_none x y e = omega (arith, ints)

none_gap : (x y : ℤ) → y -ℤ x ≡ pos 0 → x ≡ y
none_gap x y e = omega (arith, ints)

-- at most, by what is not below zero
pub at_most_nn : (x y : ExactNumber) → AtMost x y → NotNegative (y.a *ℤ pos (den x) -ℤ x.a *ℤ pos (den y)) (y.b *ℤ pos (den x) -ℤ x.b *ℤ pos (den y))
at_most_nn x y h = elim h [ inl s ↦ inl (gap_none _ _ s.a, gap_none _ _ s.b) | inr l ↦ inr l ]

pub nn_at_most : (x y : ExactNumber) → NotNegative (y.a *ℤ pos (den x) -ℤ x.a *ℤ pos (den y)) (y.b *ℤ pos (den x) -ℤ x.b *ℤ pos (den y)) → AtMost x y
nn_at_most x y h = elim h [ inl z ↦ inl (record { a = none_gap _ _ z.0; b = none_gap _ _ z.1 }) | inr l ↦ inr l ]

-- a whole number of at most k in size, nn_moved by k
pub shifted : (a : ℤ) (k : ℕ) → unsigned_abs a ≤ k → (i : ℕ) × (a ≡ pos i -ℤ pos k) × (i ≤ 2 * k)
shifted (pos n) k h = (n + k, omega (arith, ints), omega (arith, ints))
shifted (negsuc n) k h = (k - suc n, omega (arith, ints), omega (arith, ints))

pub shifted_small : (i k : ℕ) → i ≤ 2 * k → unsigned_abs (pos i -ℤ pos k) ≤ k
shifted_small i k h = omega (arith, ints)

pub record Placed (d k m n i j : ℕ) (u : ExactNumber) : Type 0 where
  pub below : n < m
  pub i_small : i ≤ 2 * k
  pub j_small : j ≤ 2 * k
  pub from_zero : NotBelow i k j k
  pub to_one : NotBelow (d + k) i k j
  pub value : Same u (value_of d k (n * d + i) j)

below_one : (d e i k : ℕ) → e ≡ d → pos 1 *ℤ pos e -ℤ (pos i -ℤ pos k) *ℤ pos 1 ≡ pos (d + k) -ℤ pos i
below_one d e i k p = rw p (is_eq (is_sub (is_mul (is_lit 1) (is_lit d)) (is_mul (is_sub (is_lit i) (is_lit k)) (is_lit 1))) (is_sub (is_lit (d + k)) (is_lit i)) (omega arith))

root_below : (e j k : ℕ) → pos 0 *ℤ pos e -ℤ (pos j -ℤ pos k) *ℤ pos 1 ≡ pos k -ℤ pos j
root_below e j k = is_eq (is_sub (is_mul (is_lit 0) (is_lit e)) (is_mul (is_sub (is_lit j) (is_lit k)) (is_lit 1))) (is_sub (is_lit k) (is_lit j)) (omega arith)

whole_sum : (n d e i k : ℕ) → e ≡ d → pos n *ℤ pos e +ℤ (pos i -ℤ pos k) *ℤ pos 1 ≡ pos (n * d + i) -ℤ pos k
whole_sum n d e i k p = rw p (is_eq (is_add (is_mul (is_lit n) (is_lit d)) (is_mul (is_sub (is_lit i) (is_lit k)) (is_lit 1))) (is_sub (is_lit (n * d + i)) (is_lit k)) (omega arith))

root_sum : (e : ℕ) (b : ℤ) → pos 0 *ℤ pos e +ℤ b *ℤ pos 1 ≡ b
root_sum e b = is_eq (is_add (is_mul (is_lit 0) (is_lit e)) (is_mul (is_atom b) (is_lit 1))) (is_atom b) (omega arith)

pub sum_is : (d k n i j : ℕ) → 1 ≤ d → add (whole n) (fraction (pos i -ℤ pos k) (pos j -ℤ pos k) d) ≡ value_of d k (n * d + i) j
sum_is d k n i j p = triple _ _ _ _ _ _ (whole_sum n d (max 1 d) i k (omega (arith, p))) (root_sum (max 1 d) (pos j -ℤ pos k)) (omega (arith, p))

pub placed_at : (l : Measures) (m n i j : ℕ) (u : ExactNumber) → 1 ≤ l.d → i ≤ 2 * l.k → j ≤ 2 * l.k → IsPlace l m n (pos i -ℤ pos l.k) (pos j -ℤ pos l.k) u → Placed l.d l.k m n i j u
placed_at l m n i j u p hi hj h =
    let v : ExactNumber = fraction (pos i -ℤ pos l.k) (pos j -ℤ pos l.k) l.d in
    record {
      below = h.below;
      i_small = hi;
      j_small = hj;
      from_zero = record { side = nn_moved _ _ _ _ (over_one (pos i -ℤ pos l.k) (max 1 l.d)) (over_one (pos j -ℤ pos l.k) (max 1 l.d)) (at_most_nn (whole 0) v h.from_zero) };
      to_one = record { side = nn_moved _ _ _ _ (below_one l.d (max 1 l.d) i l.k (omega (arith, p))) (root_below (max 1 l.d) j l.k) (at_most_nn v (whole 1) h.to_one) };
      value = subst (λ z. Same u z) (sum_is l.d l.k n i j p) h.value;
    }

pub place_of : (l : Measures) (m n i j : ℕ) (u : ExactNumber) → 1 ≤ l.d → Placed l.d l.k m n i j u → IsPlace l m n (pos i -ℤ pos l.k) (pos j -ℤ pos l.k) u
place_of l m n i j u p h =
    let v : ExactNumber = fraction (pos i -ℤ pos l.k) (pos j -ℤ pos l.k) l.d in
    record {
      below = h.below;
      a_small = shifted_small i l.k h.i_small;
      b_small = shifted_small j l.k h.j_small;
      from_zero = nn_at_most (whole 0) v (nn_moved _ _ _ _ (sym (over_one (pos i -ℤ pos l.k) (max 1 l.d))) (sym (over_one (pos j -ℤ pos l.k) (max 1 l.d))) h.from_zero.side);
      to_one = nn_at_most v (whole 1) (nn_moved _ _ _ _ (sym (below_one l.d (max 1 l.d) i l.k (omega (arith, p)))) (sym (root_below (max 1 l.d) j l.k)) h.to_one.side);
      value = subst (λ z. Same u z) (sym (sum_is l.d l.k n i j p)) h.value;
    }

-- where u lies, at a scale c that begins at h
abbrev pub place : ℕ → ℕ → ExactNumber → ExactNumber
place c h u = sub (mul (whole c) u) (whole h)

dens : (e : ℕ) → 1 ≤ e → (max 1 (1 * e) ≡ e) × (max 1 (max 1 (1 * e) * 1) ≡ e)
dens e p = (omega (arith, p), omega (arith, p))

from_whole : (c h : ℕ) (a b lo : ℤ) (e f g : ℕ) → f ≡ e → g ≡ e → ((pos c *ℤ a +ℤ pos 2 *ℤ (pos 0 *ℤ b)) *ℤ pos 1 +ℤ neg_ℤ (pos h) *ℤ pos f) *ℤ pos 1 -ℤ lo *ℤ pos g ≡ pos c *ℤ a -ℤ (lo +ℤ pos h) *ℤ pos e
from_whole c h a b lo e f g p q =
    let A = is_atom a in let B = is_atom b in let L = is_atom lo in let E = is_lit e in let C = is_lit c in let H = is_lit h in let one = is_lit 1 in
    rw (p, q) (is_eq (is_sub (is_mul (is_add (is_mul (is_add (is_mul C A) (is_mul (is_lit 2) (is_mul (is_lit 0) B))) one) (is_mul (is_neg H) E)) one) (is_mul L E))
    (is_sub (is_mul C A) (is_mul (is_add L H) E)) (omega arith))

from_root : (c : ℕ) (a b : ℤ) (f g : ℕ) → ((pos c *ℤ b +ℤ pos 0 *ℤ a) *ℤ pos 1 +ℤ pos 0 *ℤ pos f) *ℤ pos 1 -ℤ pos 0 *ℤ pos g ≡ pos c *ℤ b
from_root c a b f g =
    let A = is_atom a in let B = is_atom b in let C = is_lit c in let F = is_lit f in let G = is_lit g in let one = is_lit 1 in let none = is_lit 0 in
    is_eq (is_sub (is_mul (is_add (is_mul (is_add (is_mul C B) (is_mul none A)) one) (is_mul none F)) one) (is_mul none G)) (is_mul C B) (omega arith)

to_whole : (c h : ℕ) (a b hi : ℤ) (e f g : ℕ) → f ≡ e → g ≡ e → hi *ℤ pos g -ℤ ((pos c *ℤ a +ℤ pos 2 *ℤ (pos 0 *ℤ b)) *ℤ pos 1 +ℤ neg_ℤ (pos h) *ℤ pos f) *ℤ pos 1 ≡ (hi +ℤ pos h) *ℤ pos e -ℤ pos c *ℤ a
to_whole c h a b hi e f g p q =
    let A = is_atom a in let B = is_atom b in let L = is_atom hi in let E = is_lit e in let C = is_lit c in let H = is_lit h in let one = is_lit 1 in
    rw (p, q) (is_eq (is_sub (is_mul L E) (is_mul (is_add (is_mul (is_add (is_mul C A) (is_mul (is_lit 2) (is_mul (is_lit 0) B))) one) (is_mul (is_neg H) E)) one))
    (is_sub (is_mul (is_add L H) E) (is_mul C A)) (omega arith))

to_root : (c : ℕ) (a b : ℤ) (f g : ℕ) → pos 0 *ℤ pos g -ℤ ((pos c *ℤ b +ℤ pos 0 *ℤ a) *ℤ pos 1 +ℤ pos 0 *ℤ pos f) *ℤ pos 1 ≡ neg_ℤ (pos c *ℤ b)
to_root c a b f g =
    let A = is_atom a in let B = is_atom b in let C = is_lit c in let F = is_lit f in let G = is_lit g in let one = is_lit 1 in let none = is_lit 0 in
    is_eq (is_sub (is_mul none G) (is_mul (is_add (is_mul (is_add (is_mul C B) (is_mul none A)) one) (is_mul none F)) one)) (is_neg (is_mul C B)) (omega arith)

-- what is near from below, and from above, by numerators
abbrev pub NearFrom : ℕ → ℤ → ℤ → ℤ → ℕ → Type 0
NearFrom c low a b d = NotNegative (pos c *ℤ a -ℤ low *ℤ pos d) (pos c *ℤ b)

abbrev pub NearTo : ℕ → ℤ → ℤ → ℤ → ℕ → Type 0
NearTo c top a b d = NotNegative (top *ℤ pos d -ℤ pos c *ℤ a) (neg_ℤ (pos c *ℤ b))

pub from_place : (c h : ℕ) (lo : ℤ) (u : ExactNumber) → AtMost (integer lo) (place c h u) → NearFrom c (lo +ℤ pos h) u.a u.b (den u)
from_place c h lo u a =
    let p = dens (den u) (omega arith) in
    nn_moved _ _ _ _ (from_whole c h u.a u.b lo (den u) (max 1 (1 * den u)) (max 1 (max 1 (1 * den u) * 1)) p.0 p.1) (from_root c u.a u.b (max 1 (1 * den u)) (max 1 (max 1 (1 * den u) * 1))) (at_most_nn (integer lo) (place c h u) a)

pub place_from : (c h : ℕ) (lo : ℤ) (u : ExactNumber) → NearFrom c (lo +ℤ pos h) u.a u.b (den u) → AtMost (integer lo) (place c h u)
place_from c h lo u a =
    let p = dens (den u) (omega arith) in
    nn_at_most (integer lo) (place c h u) (nn_moved _ _ _ _ (sym (from_whole c h u.a u.b lo (den u) (max 1 (1 * den u)) (max 1 (max 1 (1 * den u) * 1)) p.0 p.1)) (sym (from_root c u.a u.b (max 1 (1 * den u)) (max 1 (max 1 (1 * den u) * 1)))) a)

pub to_place : (c h : ℕ) (hi : ℤ) (u : ExactNumber) → AtMost (place c h u) (integer hi) → NearTo c (hi +ℤ pos h) u.a u.b (den u)
to_place c h hi u a =
    let p = dens (den u) (omega arith) in
    nn_moved _ _ _ _ (to_whole c h u.a u.b hi (den u) (max 1 (1 * den u)) (max 1 (max 1 (1 * den u) * 1)) p.0 p.1) (to_root c u.a u.b (max 1 (1 * den u)) (max 1 (max 1 (1 * den u) * 1))) (at_most_nn (place c h u) (integer hi) a)

pub place_to : (c h : ℕ) (hi : ℤ) (u : ExactNumber) → NearTo c (hi +ℤ pos h) u.a u.b (den u) → AtMost (place c h u) (integer hi)
place_to c h hi u a =
    let p = dens (den u) (omega arith) in
    nn_at_most (place c h u) (integer hi) (nn_moved _ _ _ _ (sym (to_whole c h u.a u.b hi (den u) (max 1 (1 * den u)) (max 1 (max 1 (1 * den u) * 1)) p.0 p.1)) (sym (to_root c u.a u.b (max 1 (1 * den u)) (max 1 (max 1 (1 * den u) * 1)))) a)

-- kept from one triple of a number to another
scaled_gap : (c : ℕ) (low a a' : ℤ) (d d' : ℕ) → a *ℤ pos d' ≡ a' *ℤ pos d → (pos c *ℤ a -ℤ low *ℤ pos d) *ℤ pos d' ≡ (pos c *ℤ a' -ℤ low *ℤ pos d') *ℤ pos d
scaled_gap c low a a' d d' s =
    let A = is_atom a in let B = is_atom a' in let L = is_atom low in let D = is_lit d in let E = is_lit d' in let C = is_lit c in
    is_eq (is_mul (is_sub (is_mul C A) (is_mul L D)) E) (is_sub (is_mul C (is_mul A E)) (is_mul (is_mul L D) E)) (omega arith)
    ∙ ap (λ t. pos c *ℤ t -ℤ low *ℤ pos d *ℤ pos d') s
    ∙ is_eq (is_sub (is_mul C (is_mul B D)) (is_mul (is_mul L D) E)) (is_mul (is_sub (is_mul C B) (is_mul L E)) D) (omega arith)

scaled_top : (c : ℕ) (top a a' : ℤ) (d d' : ℕ) → a *ℤ pos d' ≡ a' *ℤ pos d → (top *ℤ pos d -ℤ pos c *ℤ a) *ℤ pos d' ≡ (top *ℤ pos d' -ℤ pos c *ℤ a') *ℤ pos d
scaled_top c top a a' d d' s =
    let A = is_atom a in let B = is_atom a' in let L = is_atom top in let D = is_lit d in let E = is_lit d' in let C = is_lit c in
    is_eq (is_mul (is_sub (is_mul L D) (is_mul C A)) E) (is_sub (is_mul (is_mul L D) E) (is_mul C (is_mul A E))) (omega arith)
    ∙ ap (λ t. top *ℤ pos d *ℤ pos d' -ℤ pos c *ℤ t) s
    ∙ is_eq (is_sub (is_mul (is_mul L D) E) (is_mul C (is_mul B D))) (is_mul (is_sub (is_mul L E) (is_mul C B)) D) (omega arith)

scaled_part : (c : ℕ) (b b' : ℤ) (d d' : ℕ) → b *ℤ pos d' ≡ b' *ℤ pos d → (pos c *ℤ b) *ℤ pos d' ≡ (pos c *ℤ b') *ℤ pos d
scaled_part c b b' d d' s =
    let A = is_atom b in let B = is_atom b' in let D = is_lit d in let E = is_lit d' in let C = is_lit c in
    is_eq (is_mul (is_mul C A) E) (is_mul C (is_mul A E)) (omega arith) ∙ ap (λ t. pos c *ℤ t) s ∙ is_eq (is_mul C (is_mul B D)) (is_mul (is_mul C B) D) (omega arith)

neg_part : (x y : ℤ) (d d' : ℕ) → x *ℤ pos d' ≡ y *ℤ pos d → neg_ℤ x *ℤ pos d' ≡ neg_ℤ y *ℤ pos d
neg_part x y d d' s =
    let X = is_atom x in let Y = is_atom y in let D = is_lit d in let E = is_lit d' in
    is_eq (is_mul (is_neg X) E) (is_neg (is_mul X E)) (omega arith) ∙ ap neg_ℤ s ∙ is_eq (is_neg (is_mul Y D)) (is_mul (is_neg Y) D) (omega arith)

pub from_same : (c : ℕ) (low : ℤ) (u v : ExactNumber) → Same u v → NearFrom c low u.a u.b (den u) → NearFrom c low v.a v.b (den v)
from_same c low u v s h = nn_carried _ _ _ _ (den u) (den v) (omega arith) (omega arith) (scaled_gap c low u.a v.a (den u) (den v) s.a) (scaled_part c u.b v.b (den u) (den v) s.b) h

pub to_same : (c : ℕ) (top : ℤ) (u v : ExactNumber) → Same u v → NearTo c top u.a u.b (den u) → NearTo c top v.a v.b (den v)
to_same c top u v s h = nn_carried _ _ _ _ (den u) (den v) (omega arith) (omega arith) (scaled_top c top u.a v.a (den u) (den v) s.a) (neg_part _ _ (den u) (den v) (scaled_part c u.b v.b (den u) (den v) s.b)) h
