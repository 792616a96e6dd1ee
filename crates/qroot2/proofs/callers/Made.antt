-- A number made of a reduced triple.
use Rattle.std.proofs.Common.{◌≡◌, ℕ, zero, suc, ◌*◌, ◌<◌, ◌≤◌, ◌^◌, max, arith, refl, sym, subst, ap, ◌∙◌}
use Rattle.std.specs.Prelude.{ℤ, pos, negsuc, neg_ℤ, ◌*ℤ◌, ◌-ℤ◌, unsigned_abs}
use Rattle.std.specs.Int.{◌∣◌, cast_signed, cast_unsigned, w64}
use Rattle.std.proofs.lemmas.Int.{ints, to_z-of_z, fits_signed_from_abs}
use Rattle.exact.proofs.Ring.{is_eq, is_mul, is_neg, is_atom, is_lit, neg_size}
use Rattle.exact.proofs.Unique.{unique_lowest, same_trans, triple}
use Rattle.exact.specs.Number.{ExactNumber, IsCanonical, IsLowest, IsRepresentable, Same, neg}
use Rattle.qroot2.specs.Num.{Reduces, signed}

pub abs_signed : (z : ℤ) (s : ℕ) → unsigned_abs (signed z s) ≡ s
abs_signed (pos n) s = refl
abs_signed (negsuc n) zero = refl
abs_signed (negsuc n) (suc s) = refl

-- a number is its size with its sign
signed_whole : (z : ℤ) → z ≡ signed z (unsigned_abs z)
signed_whole (pos n) = refl
signed_whole (negsuc n) = refl

signed_product : (z : ℤ) (s g : ℕ) → signed z (s * g) ≡ signed z s *ℤ pos g
signed_product (pos n) s g = refl
signed_product (negsuc n) s g = is_eq (is_neg (is_lit (s * g))) (is_mul (is_neg (is_lit s)) (is_lit g)) (omega arith)

back : (z r : ℤ) (s : ℕ) → s ≤ 2 ^ 48 → r ≡ signed z s → cast_signed w64 (cast_unsigned w64 r) ≡ signed z s
back z r s h e =
    let size : unsigned_abs r ≡ s = ap unsigned_abs e ∙ abs_signed z s in
    to_z-of_z w64 r (fits_signed_from_abs w64 r (omega (arith, size))) ∙ e

-- the reduced triple
abbrev pub small : ℤ → ℤ → ℕ → ℕ → ℕ → ExactNumber
small a b x y z = record { a = signed a x; b = signed b y; d = z }

pub low : (a b : ℤ) (x y z : ℕ) → ((n : ℕ) → n ∣ x → n ∣ y → n ∣ z → n ≡ 1) → IsLowest (small a b x y z)
low a b x y z h n p q r = h n (subst (λ (t : ℕ). n ∣ t) (abs_signed a x) p) (subst (λ (t : ℕ). n ∣ t) (abs_signed b y) q) r

pub above : (z g d : ℕ) → 0 < d → d ≡ z * g → 0 < z
above zero g d p e = omega (arith, e)
above (suc z) g d p e = omega arith

part : (a : ℤ) (d x z g : ℕ) → 0 < d → 0 < g → unsigned_abs a ≡ x * g → d ≡ z * g → signed a x *ℤ pos (max 1 d) ≡ a *ℤ pos (max 1 z)
part a d x z g p q e f =
    let zp : 0 < z = above z g d p f in
    let dm : max 1 d ≡ z * g = omega (arith, f) in
    let zm : max 1 z ≡ z = omega arith in
    let whole : a ≡ signed a x *ℤ pos g = signed_whole a ∙ ap (signed a) e ∙ signed_product a x g in
    ap (λ t. signed a x *ℤ pos t) dm
    ∙ is_eq (is_mul (is_atom (signed a x)) (is_lit (z * g))) (is_mul (is_mul (is_atom (signed a x)) (is_lit g)) (is_lit z)) (omega arith)
    ∙ ap (λ t. (signed a x *ℤ pos g) *ℤ pos t) (sym zm) ∙ ap (λ t. t *ℤ pos (max 1 z)) (sym whole)

pub same_small : (a b : ℤ) (d x y z : ℕ) → 0 < d → Reduces (unsigned_abs a) (unsigned_abs b) d x y z → Same (small a b x y z) (record { a = a; b = b; d = d })
same_small a b d x y z p h = record {
  a = part a d x z h.factor.0 p h.factor.1 h.factor.2 h.factor.4;
  b = part b d y z h.factor.0 p h.factor.1 h.factor.3 h.factor.4;
}

canonical_small : (a b : ℤ) (d x y z : ℕ) → 0 < d → Reduces (unsigned_abs a) (unsigned_abs b) d x y z → x ≤ 2 ^ 48 → y ≤ 2 ^ 48 → z ≤ 2 ^ 20 → IsCanonical (small a b x y z)
canonical_small a b d x y z p h hx hy hz = record {
  positive = above z h.factor.0 d p h.factor.4;
  lowest = low a b x y z h.lowest;
  a = omega (arith, abs_signed a x);
  b = omega (arith, abs_signed b y);
  d = hz;
}

pub made : (a b r s : ℤ) (d x y z : ℕ) → 0 < d → Reduces (unsigned_abs a) (unsigned_abs b) d x y z → x ≤ 2 ^ 48 → y ≤ 2 ^ 48 → z ≤ 2 ^ 20 → r ≡ signed a x → s ≡ signed b y
    → (let n : ExactNumber = record { a = cast_signed w64 (cast_unsigned w64 r); b = cast_signed w64 (cast_unsigned w64 s); d = z } in Same n (record { a = a; b = b; d = d }) × IsCanonical n)
made a b r s d x y z p h hx hy hz e f = rw (back a r x hx e, back b s y hy f) (same_small a b d x y z p h, canonical_small a b d x y z p h hx hy hz)

-- a triple that can be held has a reduced one within the limits
pub not_held : (a b : ℤ) (d x y z : ℕ) → 0 < d → Reduces (unsigned_abs a) (unsigned_abs b) d x y z → IsRepresentable (record { a = a; b = b; d = d }) → (x ≤ 2 ^ 48) × (y ≤ 2 ^ 48) × (z ≤ 2 ^ 20)
not_held a b d x y z p h rep =
    let n : ExactNumber = small a b x y z in
    let eq : n ≡ rep.0 = unique_lowest n rep.0 (above z h.factor.0 d p h.factor.4) (low a b x y z h.lowest) rep.2.positive rep.2.lowest (same_trans (record { a = a; b = b; d = d }) n rep.0 (same_back n (record { a = a; b = b; d = d }) (same_small a b d x y z p h)) rep.1) in
    let c : IsCanonical n = subst IsCanonical (sym eq) rep.2 in
    (omega (arith, c.a, abs_signed a x), omega (arith, c.b, abs_signed b y), c.d)
  where
    same_back : (m k : ExactNumber) → Same m k → Same k m
    same_back m k t = record { a = sym t.a; b = sym t.b }

-- the same triple, named otherwise
pub reduces_same : (a b d a' b' d' x y z : ℕ) → a ≡ a' → b ≡ b' → d ≡ d' → Reduces a b d x y z → Reduces a' b' d' x y z
reduces_same a b d a' b' d' x y z e f g h = record { factor = (h.factor.0, h.factor.1, sym e ∙ h.factor.2, sym f ∙ h.factor.3, sym g ∙ h.factor.4); lowest = h.lowest }

pub neg_canonical : (x : ExactNumber) → IsCanonical x → IsCanonical (neg x)
neg_canonical x c = record {
  positive = c.positive;
  lowest = λ k p q r. c.lowest k (subst (λ (t : ℕ). k ∣ t) (neg_size x.a) p) (subst (λ (t : ℕ). k ∣ t) (neg_size x.b) q) r;
  a = omega (arith, neg_size x.a, c.a);
  b = omega (arith, neg_size x.b, c.b);
  d = c.d;
}

turned_through : (z : ℤ) → unsigned_abs z ≤ 2 ^ 48 → cast_signed w64 (cast_unsigned w64 (pos 0 -ℤ cast_signed w64 (cast_unsigned w64 z))) ≡ neg_ℤ z
turned_through z h = rw (to_z-of_z w64 z (fits_signed_from_abs w64 z (omega arith)))
    (to_z-of_z w64 (pos 0 -ℤ z) (fits_signed_from_abs w64 (pos 0 -ℤ z) (omega (arith, ints))) ∙ omega (arith, ints))

pub neg_held : (x : ExactNumber) → IsCanonical x → (let n : ExactNumber = record { a = cast_signed w64 (cast_unsigned w64 (pos 0 -ℤ cast_signed w64 (cast_unsigned w64 x.a))); b = cast_signed w64 (cast_unsigned w64 (pos 0 -ℤ cast_signed w64 (cast_unsigned w64 x.b))); d = x.d } in n) ≡ neg x
neg_held x c = triple _ _ _ _ _ _ (turned_through x.a c.a) (turned_through x.b c.b) refl
