-- Whole parts: of b √2 by doubling, of a signed multiple, and of a number.
use Rattle.std.proofs.Common.{◌≡◌, ℕ, zero, suc, ◌+◌, ◌*◌, ◌/◌, ◌%◌, ◌<◌, ◌≤◌, arith, refl, sym, subst, ap, ◌∙◌, ◌⊎◌, inl, inr}
use Rattle.std.specs.Prelude.{ℤ, pos, negsuc, neg_ℤ, ◌+ℤ◌, ◌-ℤ◌, ◌*ℤ◌, ◌≤ℤ◌, ◌<ℤ◌, unsigned_abs}
use Rattle.std.specs.Int.{int_div_euclid}
use Rattle.std.proofs.lemmas.Int.{ints}
use Rattle.std.proofs.lemmas.Nat.{mul-le, div-add-mod', mod_below}
use Rattle.std.proofs.lemmas.Bool.{cases_lt}
use Rattle.exact.specs.Number.{ExactNumber, Positive, den, mul, whole}
use Rattle.exact.specs.Floor.{IsFloor}
use Rattle.exact.proofs.Root.{irrational}
use Rattle.exact.proofs.Positive.{moved, positive_sum}
use Rattle.exact.proofs.Unique.{triple}
use Rattle.exact.proofs.Ring.{is_eq, is_le, is_lt, is_add, is_sub, is_neg, is_mul, is_atom, is_lit}
use Rattle.qroot2.specs.Root.{IsRootOf, IsRootPart}
use Rattle.exact.proofs.Order.{none_gap}

pub root_low : (b w r : ℕ) → IsRootOf b w r → b ≤ w
root_low b w r h = elim (cases_lt w b) [
  | inl lt ↦ absurd (omega (arith, h.square, h.small, mul-le (w + 1) (w + 1) b b (omega arith) (omega arith)))
  | inr ge ↦ ge
]

root_square : (h e w r m : ℕ) → w * w + r ≡ 2 * (h * h) → m ≡ 8 * (h * e) + 2 * (e * e) → 2 * w * (2 * w) + (4 * r + m) ≡ 2 * ((2 * h + e) * (2 * h + e))
root_square h e w r m s t = rw t (omega (arith, s))

-- A step of the doubling: at most three times the whole number is raised.
pub root_step : (b h e w r m u s v t x y : ℕ) → IsRootOf h w r → b ≡ 2 * h + e → m ≡ 8 * (h * e) + 2 * (e * e) → m ≤ 8 * h + 2
    → u * u + s ≡ 2 * w * (2 * w) + (4 * r + m) → v * v + t ≡ u * u + s → x * x + y ≡ v * v + t
    → (4 * r + m ≤ 8 * (2 * w) + 2 → s ≤ 6 * u + 2) → (s ≤ 6 * u + 2 → t ≤ 4 * v + 2) → (t ≤ 4 * v + 2 → y ≤ 2 * x) → IsRootOf b x y
root_step b h e w r m u s v t x y root be me ml f g k eight six four = record {
  square = k ∙ g ∙ f ∙ root_square h e w r m root.square me ∙ ap (λ z. 2 * (z * z)) (sym be);
  small = four (six (eight (omega (arith, root.small, root_low h w r root))));
}

low_part : (t u : ℕ) → 0 < u → t * t < 2 * (u * u) → Positive (neg_ℤ (pos t)) (pos u)
low_part t zero p h = absurd (omega arith)
low_part zero (suc u) p h = inl (omega (arith, ints), omega (arith, ints), omega (arith, ints))
low_part (suc t) (suc u) p h = inr (inr (omega (arith, ints), omega (arith, ints), omega (arith, ints)))

high_part : (t u : ℕ) → 0 < t → 2 * (u * u) < t * t → Positive (pos t) (neg_ℤ (pos u))
high_part zero u p h = absurd (omega arith)
high_part (suc t) zero p h = inl (omega (arith, ints), omega (arith, ints), omega (arith, ints))
high_part (suc t) (suc u) p h = inr (inl (omega (arith, ints), omega (arith, ints), omega (arith, ints)))

-- the whole part is below b √2, which is no whole number
under : (b w r : ℕ) → 0 < b → IsRootOf b w r → Positive (neg_ℤ (pos w)) (pos b)
under b w zero p h = absurd (irrational w b p (omega (arith, h.square)))
under b w (suc r) p h = low_part w b p (omega (arith, h.square))

over : (b w r : ℕ) → IsRootOf b w r → Positive (pos (w + 1)) (neg_ℤ (pos b))
over b w r h = high_part (w + 1) b (omega arith) (omega (arith, h.square, h.small))

up_part : (b w r : ℕ) → IsRootOf b w r → IsRootPart (pos b) (pos w)
up_part zero w r h = record {
  below = inr (none w r (h.square) (h.small), refl);
  above = over zero w r h;
}
  where
    none : (w r : ℕ) → w * w + r ≡ 2 * (0 * 0) → r ≤ 2 * w → pos w ≡ pos 0
    none zero r e l = refl
    none (suc w) r e l = absurd (omega (arith, e))
up_part (suc b) w r h = record { below = inl (under (suc b) w r (omega arith) h); above = over (suc b) w r h }

down_part : (b w r : ℕ) → 0 < b → IsRootOf b w r → IsRootPart (neg_ℤ (pos b)) (neg_ℤ (pos w) -ℤ pos 1)
down_part b w r p h = record {
  below = inl (moved _ _ (neg_ℤ (pos b)) (omega (arith, ints)) refl (over b w r h));
  above = moved _ _ (neg_ℤ (neg_ℤ (pos b))) (omega (arith, ints)) (omega (arith, ints)) (under b w r p h);
}
  where
    moved : {y : ℤ} (x z : ℤ) (t : ℤ) → z ≡ x → t ≡ y → Positive x y → Positive z t
    moved x z t e f q = rw (e, f) q

product_down : (n m : ℕ) → pos n *ℤ negsuc m ≡ neg_ℤ (pos (n * suc m))
product_down n m = is_eq (is_mul (is_lit n) (is_neg (is_lit (suc m)))) (is_neg (is_lit (n * suc m))) (omega arith)

-- the whole part of n b √2, where b is not below 0 or n is 0
pub part_up : (n : ℕ) (b : ℤ) (w r : ℕ) → (pos 0 ≤ℤ b) ⊎ (n ≡ 0) → IsRootOf (n * unsigned_abs b) w r → IsRootPart (pos n *ℤ b) (pos w)
part_up n (pos m) w r s h = up_part (n * m) w r h
part_up n (negsuc m) w r (inl s) h = absurd (omega (arith, ints))
part_up n (negsuc m) w r (inr s) h =
    let e : n * suc m ≡ 0 = rw s (omega arith) in
    subst (λ (z : ℤ). IsRootPart z (pos w)) (ap (λ (k : ℕ). neg_ℤ (pos k)) (sym e) ∙ sym (product_down n m)) (up_part 0 w r (subst (λ (k : ℕ). IsRootOf k w r) e h))

-- and where b is below 0
pub part_down : (n : ℕ) (b : ℤ) (w r : ℕ) → b <ℤ pos 0 → 0 < n → IsRootOf (n * unsigned_abs b) w r → IsRootPart (pos n *ℤ b) (neg_ℤ (pos w) -ℤ pos 1)
part_down n (pos m) w r s p h = absurd (omega (arith, ints))
part_down zero (negsuc m) w r s p h = absurd (omega arith)
part_down (suc n) (negsuc m) w r s p h = subst (λ (z : ℤ). IsRootPart z (neg_ℤ (pos w) -ℤ pos 1)) (sym (product_down (suc n) m)) (down_part (suc n * suc m) w r (omega arith) h)

-- the quotient rounded down
pub quotient : (s : ℤ) (d : ℕ) → 0 < d → ((int_div_euclid s (pos d) *ℤ pos d) ≤ℤ s) × (s <ℤ ((int_div_euclid s (pos d) +ℤ pos 1) *ℤ pos d))
quotient (pos n) d p = (omega (arith, ints, div-add-mod' n d), omega (arith, ints, mod_below n d p, div-add-mod' n d))
quotient (negsuc n) d p = (
  low (n / d) (n % d) n d (div-add-mod' n d) (mod_below n d p),
  high (n / d) (n % d) n d (div-add-mod' n d),
)
  where
    low : (q r n d : ℕ) → q * d + r ≡ n → r < d → (negsuc q *ℤ pos d) ≤ℤ negsuc n
    low q r n d e l = is_le (is_mul (is_neg (is_lit (suc q))) (is_lit d)) (is_neg (is_lit (suc n))) (omega arith)

    high : (q r n d : ℕ) → q * d + r ≡ n → negsuc n <ℤ ((negsuc q +ℤ pos 1) *ℤ pos d)
    high q r n d e = is_lt (is_neg (is_lit (suc n))) (is_mul (is_add (is_neg (is_lit (suc q))) (is_lit 1)) (is_lit d)) (omega arith)

not_below : (x : ℤ) (b l : ℤ) → pos 0 ≤ℤ x → Positive (neg_ℤ l) b ⊎ ((l ≡ pos 0) × (b ≡ pos 0)) → ((x +ℤ neg_ℤ l ≡ pos 0) × (b ≡ pos 0)) ⊎ Positive (x +ℤ neg_ℤ l) b
not_below (negsuc n) b l h r = absurd (omega (arith, ints))
not_below (pos zero) b l h (inl p) = inr (moved _ _ _ _ (omega (arith, ints)) refl p)
not_below (pos zero) b l h (inr z) = inl (rw (z.0) (omega (arith, ints)), z.1)
not_below (pos (suc n)) b l h (inl p) = inr (moved _ _ _ _ refl (omega (arith, ints)) (positive_sum (pos (suc n)) (pos 0) (neg_ℤ l) b (inl (omega (arith, ints), omega (arith, ints), omega (arith, ints))) p))
not_below (pos (suc n)) b l h (inr z) = inr (rw (z.0, z.1) (inl (omega (arith, ints), omega (arith, ints), omega (arith, ints))))

plus_whole : (z a b : ℤ) → pos 0 ≤ℤ z → Positive a b → Positive (z +ℤ a) b
plus_whole (negsuc n) a b h p = absurd (omega (arith, ints))
plus_whole (pos zero) a b h p = moved _ _ _ _ (omega (arith, ints)) refl p
plus_whole (pos (suc n)) a b h p = moved _ _ _ _ refl (omega (arith, ints)) (positive_sum (pos (suc n)) (pos 0) a b (inl (omega (arith, ints), omega (arith, ints), omega (arith, ints))) p)

-- n x over the denominator d, less k
gap_a : (n : ℕ) (a b k l : ℤ) (d : ℕ) → (pos n *ℤ a +ℤ pos 2 *ℤ (pos 0 *ℤ b)) *ℤ pos 1 -ℤ k *ℤ pos d ≡ ((pos n *ℤ a +ℤ l) -ℤ k *ℤ pos d) +ℤ neg_ℤ l
gap_a n a b k l d =
    let N = is_lit n in let A = is_atom a in let B = is_atom b in let K = is_atom k in let L = is_atom l in let D = is_lit d in
    is_eq (is_sub (is_mul (is_add (is_mul N A) (is_mul (is_lit 2) (is_mul (is_lit 0) B))) (is_lit 1)) (is_mul K D))
    (is_add (is_sub (is_add (is_mul N A) L) (is_mul K D)) (is_neg L)) (omega arith)

gap_b : (n : ℕ) (a b : ℤ) (d : ℕ) → (pos n *ℤ b +ℤ pos 0 *ℤ a) *ℤ pos 1 -ℤ pos 0 *ℤ pos d ≡ pos n *ℤ b
gap_b n a b d =
    let N = is_lit n in let A = is_atom a in let B = is_atom b in let D = is_lit d in
    is_eq (is_sub (is_mul (is_add (is_mul N B) (is_mul (is_lit 0) A)) (is_lit 1)) (is_mul (is_lit 0) D)) (is_mul N B) (omega arith)

lack_a : (n : ℕ) (a b k l : ℤ) (d : ℕ) → (k +ℤ pos 1) *ℤ pos d -ℤ (pos n *ℤ a +ℤ pos 2 *ℤ (pos 0 *ℤ b)) *ℤ pos 1 ≡ ((k +ℤ pos 1) *ℤ pos d -ℤ (pos n *ℤ a +ℤ l) -ℤ pos 1) +ℤ (l +ℤ pos 1)
lack_a n a b k l d =
    let N = is_lit n in let A = is_atom a in let B = is_atom b in let K = is_add (is_atom k) (is_lit 1) in let L = is_atom l in let D = is_lit d in
    is_eq (is_sub (is_mul K D) (is_mul (is_add (is_mul N A) (is_mul (is_lit 2) (is_mul (is_lit 0) B))) (is_lit 1)))
    (is_add (is_sub (is_sub (is_mul K D) (is_add (is_mul N A) L)) (is_lit 1)) (is_add L (is_lit 1))) (omega arith)

lack_b : (n : ℕ) (a b : ℤ) (d : ℕ) → pos 0 *ℤ pos d -ℤ (pos n *ℤ b +ℤ pos 0 *ℤ a) *ℤ pos 1 ≡ neg_ℤ (pos n *ℤ b)
lack_b n a b d =
    let N = is_lit n in let A = is_atom a in let B = is_atom b in let D = is_lit d in
    is_eq (is_sub (is_mul (is_lit 0) D) (is_mul (is_add (is_mul N B) (is_mul (is_lit 0) A)) (is_lit 1))) (is_neg (is_mul N B)) (omega arith)

gap_from : (x y : ℤ) → x ≤ℤ y → pos 0 ≤ℤ (y -ℤ x)
gap_from x y h = omega (arith, ints)

gap_over : (x y : ℤ) → x <ℤ y → pos 0 ≤ℤ (y -ℤ x -ℤ pos 1)
gap_over x y h = omega (arith, ints)

-- the whole part, over a denominator
parts_floor : (n : ℕ) (a b l k : ℤ) (d : ℕ) → IsRootPart (pos n *ℤ b) l → (k *ℤ pos d) ≤ℤ (pos n *ℤ a +ℤ l) → (pos n *ℤ a +ℤ l) <ℤ ((k +ℤ pos 1) *ℤ pos d)
    → (((k *ℤ pos d ≡ (pos n *ℤ a +ℤ pos 2 *ℤ (pos 0 *ℤ b)) *ℤ pos 1) × (pos 0 *ℤ pos d ≡ (pos n *ℤ b +ℤ pos 0 *ℤ a) *ℤ pos 1))
    ⊎ Positive ((pos n *ℤ a +ℤ pos 2 *ℤ (pos 0 *ℤ b)) *ℤ pos 1 -ℤ k *ℤ pos d) ((pos n *ℤ b +ℤ pos 0 *ℤ a) *ℤ pos 1 -ℤ pos 0 *ℤ pos d))
    × Positive ((k +ℤ pos 1) *ℤ pos d -ℤ (pos n *ℤ a +ℤ pos 2 *ℤ (pos 0 *ℤ b)) *ℤ pos 1) (pos 0 *ℤ pos d -ℤ (pos n *ℤ b +ℤ pos 0 *ℤ a) *ℤ pos 1)
parts_floor n a b l k d r h g = (
  elim (not_below ((pos n *ℤ a +ℤ l) -ℤ k *ℤ pos d) (pos n *ℤ b) l (gap_from _ _ h) r.below) [
    | inl z ↦ inl (sym (none_gap _ _ (gap_a n a b k l d ∙ z.0)), sym (none_gap _ _ (gap_b n a b d ∙ z.1)))
    | inr p ↦ inr (rw (gap_a n a b k l d, gap_b n a b d) p)
  ],
  rw (lack_a n a b k l d, lack_b n a b d) (plus_whole _ _ _ (gap_over _ _ g) r.above),
)

pub floor_of : (n : ℕ) (x : ExactNumber) (s l k : ℤ) → 0 < x.d → s ≡ pos n *ℤ x.a +ℤ l → IsRootPart (pos n *ℤ x.b) l → (k *ℤ pos x.d) ≤ℤ s → s <ℤ ((k +ℤ pos 1) *ℤ pos x.d) → IsFloor (mul (whole n) x) k
floor_of n x s l k p e r h g =
    let dy : den (mul (whole n) x) ≡ x.d = omega (arith, p) in
    let q = parts_floor n x.a x.b l k x.d r (rw e at h) (rw e at g) in
    record {
      below = elim q.0 [
        | inl z ↦ inl (record { a = subst (λ (t : ℕ). k *ℤ pos t ≡ (mul (whole n) x).a *ℤ pos 1) (sym dy) z.0; b = subst (λ (t : ℕ). pos 0 *ℤ pos t ≡ (mul (whole n) x).b *ℤ pos 1) (sym dy) z.1 })
        | inr y ↦ inr (subst (λ (t : ℕ). Positive ((mul (whole n) x).a *ℤ pos 1 -ℤ k *ℤ pos t) ((mul (whole n) x).b *ℤ pos 1 -ℤ pos 0 *ℤ pos t)) (sym dy) y)
      ];
      above = subst (λ (t : ℕ). Positive ((k +ℤ pos 1) *ℤ pos t -ℤ (mul (whole n) x).a *ℤ pos 1) (pos 0 *ℤ pos t -ℤ (mul (whole n) x).b *ℤ pos 1)) (sym dy) q.1;
    }

-- a whole part, of a number whose parts passed through calls
pub floor_moved : (n : ℕ) (x : ExactNumber) (a b : ℤ) (d : ℕ) (k l : ℤ) → a ≡ x.a → b ≡ x.b → d ≡ x.d → l ≡ k → IsFloor (mul (whole n) (record { a = a; b = b; d = d })) k → IsFloor (mul (whole n) x) l
floor_moved n x a b d k l ea eb ed ek h =
    subst (λ (z : ℤ). IsFloor (mul (whole n) x) z) (sym ek) (subst (λ (y : ExactNumber). IsFloor (mul (whole n) y) k) (triple _ _ _ _ _ _ ea eb ed) h)
