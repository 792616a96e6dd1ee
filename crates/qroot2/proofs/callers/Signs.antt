-- The comparison of canonical numbers.
use Rattle.std.proofs.Common.{◌≡◌, ℕ, ◌<◌, ◌≤◌, ◌^◌, arith, refl, sym, ap, ◌∙◌, inl, inr}
use Rattle.std.specs.Prelude.{ℤ, pos, neg_ℤ, ◌*ℤ◌, ◌-ℤ◌, ◌<ℤ◌, unsigned_abs, FitsSigned}
use Rattle.std.specs.Int.{w128}
use Rattle.std.proofs.lemmas.Int.{ints, unsigned_abs-mul, fits_signed_from_abs}
use Rattle.std.proofs.lemmas.Nat.{mul-le}
use Rattle.std.specs.declared.cmp.Ordering.{Ordering}
use Rattle.std.specs.declared.cmp.Ordering.TheVariants as o
use Rattle.exact.specs.Number.{ExactNumber, IsCanonical, den}
use Rattle.exact.specs.Order.{root_cmp, num_cmp, real_cmp, triple_cmp}
use Rattle.exact.proofs.Order.{root_above, root_below, root_zero, linear, real_less, real_equal, real_greater, triple_total}
use Rattle.std.specs.Cmp.{tied_itself, int_ranks}
use Rattle.std.specs.Ordering.{ordering_then, int_cmp, MatchOrdering}
use Rattle.exact.proofs.Positive.{scaled}
use Rattle.exact.proofs.Ring.{is_eq, is_sub, is_mul, is_neg, is_atom, is_lit}
use Rattle.exact.proofs.Root.{side}
use Rattle.exact.proofs.Unique.{unique}
use Rattle.qroot2.specs.Wide.{HasSign}
use Rattle.qroot2.specs.declared.sign.Sign.{Sign}
use Rattle.qroot2.specs.declared.sign.Sign.TheVariants as sign

pub product_bound : (x : ℤ) (d : ℕ) → unsigned_abs x ≤ 2 ^ 48 → d ≤ 2 ^ 20 → unsigned_abs (x *ℤ pos d) ≤ 2 ^ 68
product_bound x d h k = omega (arith, unsigned_abs-mul x (pos d), mul-le (unsigned_abs x) d (2 ^ 48) (2 ^ 20) h k)

pub product_fits : (x : ℤ) (d : ℕ) → unsigned_abs x ≤ 2 ^ 48 → d ≤ 2 ^ 20 → FitsSigned w128 (x *ℤ pos d)
product_fits x d h k = fits_signed_from_abs w128 (x *ℤ pos d) (omega (arith, product_bound x d h k))

pub minus_side : (a b : ℤ) → HasSign a b sign.Minus → root_cmp a b ≡ o.Less
minus_side a b h = root_below a b h

pub zero_side : (a b : ℤ) → HasSign a b sign.Zero → root_cmp a b ≡ o.Equal
zero_side a b h = root_zero a b h.0 h.1

pub plus_side : (a b : ℤ) → HasSign a b sign.Plus → root_cmp a b ≡ o.Greater
plus_side a b h = root_above a b h

-- the side of the same two numbers
pub side_moved : (a b x y : ℤ) (s : Sign) → x ≡ a → y ≡ b → HasSign x y s → HasSign a b s
side_moved a b x y s e f h = rw (← e, ← f) h

-- the side from the comparison
pub minus_of : (a b : ℤ) → root_cmp a b ≡ o.Less → HasSign a b sign.Minus
minus_of a b e = elim (side a b) [
  | inl h ↦ absurd (let f = root_above a b h in cc)
  | inr k ↦ elim k [ inl z ↦ absurd (let f = root_zero a b z.0 z.1 in cc) | inr h ↦ h ]
]

pub zero_of : (a b : ℤ) → root_cmp a b ≡ o.Equal → HasSign a b sign.Zero
zero_of a b e = elim (side a b) [
  | inl h ↦ absurd (let f = root_above a b h in cc)
  | inr k ↦ elim k [ inl z ↦ z | inr h ↦ absurd (let f = root_below a b h in cc) ]
]

pub plus_of : (a b : ℤ) → root_cmp a b ≡ o.Greater → HasSign a b sign.Plus
plus_of a b e = elim (side a b) [
  | inl h ↦ h
  | inr k ↦ elim k [ inl z ↦ absurd (let f = root_zero a b z.0 z.1 in cc) | inr h ↦ absurd (let f = root_below a b h in cc) ]
]

itself : (x : ExactNumber) → triple_cmp x x ≡ o.Equal
itself x = tied_itself triple_total x

both_same : (f : ℕ → ℕ → Ordering) (s s' t t' : ℕ) → s ≡ s' → t ≡ t' → f s t ≡ f s' t'
both_same f s s' t t' e g = ap (λ u. f u t) e ∙ ap (f s') g

-- the denominators of canonical triples are as they stand
pub canonical_real : (x y : ExactNumber) → IsCanonical x → IsCanonical y → root_cmp (x.a *ℤ pos y.d -ℤ y.a *ℤ pos x.d) (x.b *ℤ pos y.d -ℤ y.b *ℤ pos x.d) ≡ real_cmp x y
canonical_real x y p q = both_same (λ s t. root_cmp (x.a *ℤ pos s -ℤ y.a *ℤ pos t) (x.b *ℤ pos s -ℤ y.b *ℤ pos t)) y.d (den y) x.d (den x) (omega (arith, q.positive)) (omega (arith, p.positive))

-- of canonical triples the values decide
pub values_decide : (x y : ExactNumber) → IsCanonical x → IsCanonical y → num_cmp x y ≡ real_cmp x y
values_decide x y p q = elim (linear x y) [
  | inl h ↦ ap (λ r. ordering_then r (triple_cmp x y)) (real_less x y h) ∙ sym (real_less x y h)
  | inr k ↦ elim k [
    | inl s ↦ ap (λ r. ordering_then r (triple_cmp x y)) (real_equal x y s) ∙ ap (λ z. triple_cmp x z) (sym (unique x y p q s)) ∙ itself x ∙ sym (real_equal x y s)
    | inr h ↦ ap (λ r. ordering_then r (triple_cmp x y)) (real_greater x y h) ∙ sym (real_greater x y h)
  ]
]

pub canonical_cmp : (x y : ExactNumber) → IsCanonical x → IsCanonical y → root_cmp (x.a *ℤ pos y.d -ℤ y.a *ℤ pos x.d) (x.b *ℤ pos y.d -ℤ y.b *ℤ pos x.d) ≡ num_cmp x y
canonical_cmp x y p q = canonical_real x y p q ∙ sym (values_decide x y p q)

-- how one value compares with another by the two differences crosswise
abbrev pub cross_cmp : ExactNumber → ExactNumber → Ordering
cross_cmp x y = root_cmp (x.a *ℤ pos y.d -ℤ y.a *ℤ pos x.d) (x.b *ℤ pos y.d -ℤ y.b *ℤ pos x.d)

-- a factor above zero keeps the side
side_scaled : (a b : ℤ) (k : ℕ) → 0 < k → root_cmp a b ≡ root_cmp (a *ℤ pos k) (b *ℤ pos k)
side_scaled a b k p = elim (side a b) [
  | inl h ↦ root_above a b h ∙ sym (root_above (a *ℤ pos k) (b *ℤ pos k) (scaled a b k p h))
  | inr m ↦ elim m [
    | inl z ↦ root_zero a b z.0 z.1 ∙ sym (root_zero (a *ℤ pos k) (b *ℤ pos k) (none a k z.0) (none b k z.1))
    | inr h ↦ root_below a b h ∙ sym (root_below (a *ℤ pos k) (b *ℤ pos k) (rw (turned a k, turned b k) (scaled (neg_ℤ a) (neg_ℤ b) k p h)))
  ]
]
  where
    none : (z : ℤ) (k : ℕ) → z ≡ pos 0 → z *ℤ pos k ≡ pos 0
    none z k e = rw e (is_eq (is_mul (is_lit 0) (is_lit k)) (is_lit 0) (omega arith))

    turned : (z : ℤ) (k : ℕ) → neg_ℤ (z *ℤ pos k) ≡ neg_ℤ z *ℤ pos k
    turned z k = is_eq (is_neg (is_mul (is_atom z) (is_lit k))) (is_mul (is_neg (is_atom z)) (is_lit k)) (omega arith)

-- over one denominator the differences of the numerators decide
pub over_one_denominator : (x y : ExactNumber) → IsCanonical x → x.d ≡ y.d → root_cmp (x.a -ℤ y.a) (x.b -ℤ y.b) ≡ cross_cmp x y
over_one_denominator x y p e = side_scaled (x.a -ℤ y.a) (x.b -ℤ y.b) x.d p.positive ∙ both_scaled x.a y.a x.b y.b x.d y.d e
  where
    spread : (s t : ℤ) (d : ℕ) → (s -ℤ t) *ℤ pos d ≡ s *ℤ pos d -ℤ t *ℤ pos d
    spread s t d = is_eq (is_mul (is_sub (is_atom s) (is_atom t)) (is_lit d)) (is_sub (is_mul (is_atom s) (is_lit d)) (is_mul (is_atom t) (is_lit d))) (omega arith)

    both_scaled : (s t u v : ℤ) (d e : ℕ) → d ≡ e → root_cmp ((s -ℤ t) *ℤ pos d) ((u -ℤ v) *ℤ pos d) ≡ root_cmp (s *ℤ pos e -ℤ t *ℤ pos d) (u *ℤ pos e -ℤ v *ℤ pos d)
    both_scaled s t u v d e q = rw (← q, spread s t d, spread u v d) refl

-- without roots the products crosswise decide
pub without_roots : (x y : ExactNumber) → x.b ≡ pos 0 → y.b ≡ pos 0 → int_cmp (x.a *ℤ pos y.d) (y.a *ℤ pos x.d) ≡ cross_cmp x y
without_roots x y e f = ranked (x.a *ℤ pos y.d) (y.a *ℤ pos x.d) (int_cmp (x.a *ℤ pos y.d) (y.a *ℤ pos x.d)) (int_ranks (x.a *ℤ pos y.d) (y.a *ℤ pos x.d)) ∙ ap (λ t. root_cmp (x.a *ℤ pos y.d -ℤ y.a *ℤ pos x.d) t) (sym (none x.b y.b x.d y.d e f))
  where
    ranked : (s t : ℤ) (r : Ordering) → MatchOrdering r (s <ℤ t) (s ≡ t) (t <ℤ s) → r ≡ root_cmp (s -ℤ t) (pos 0)
    ranked s t o.Less h = sym (root_below (s -ℤ t) (pos 0) (inl (omega (arith, ints), omega (arith, ints), omega (arith, ints))))
    ranked s t o.Equal h = sym (root_zero (s -ℤ t) (pos 0) (omega (arith, ints)) refl)
    ranked s t o.Greater h = sym (root_above (s -ℤ t) (pos 0) (inl (omega (arith, ints), omega (arith, ints), omega (arith, ints))))

    none : (u v : ℤ) (d e : ℕ) → u ≡ pos 0 → v ≡ pos 0 → u *ℤ pos e -ℤ v *ℤ pos d ≡ pos 0
    none u v d e h k = rw (h, k) (is_eq (is_sub (is_mul (is_lit 0) (is_lit e)) (is_mul (is_lit 0) (is_lit d))) (is_lit 0) (omega arith))

-- what the differences crosswise tell of two numbers, known by their triples u and v
pub ordered : (r : Ordering) (x y u v : ExactNumber) → IsCanonical x → IsCanonical y → x ≡ u → y ≡ v → r ≡ cross_cmp x y → (r ≡ num_cmp u v) × (r ≡ real_cmp u v)
ordered r x y u v p q e f h = rw (← e, ← f) (h ∙ canonical_cmp x y p q, h ∙ canonical_real x y p q)
