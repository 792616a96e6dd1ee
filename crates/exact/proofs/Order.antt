-- The comparison of exact numbers is a total order.
use Rattle.std.proofs.Common.{Bool, ◌≡◌, ◌<◌, ◌+◌, ◌*◌, ℕ, zero, suc, arith, refl, sym, ap, ◌⊎◌, inl, inr, ◌∙◌}
use Rattle.std.specs.Prelude.{ℤ, pos, negsuc, neg_ℤ, ◌+ℤ◌, ◌-ℤ◌, ◌*ℤ◌, ◌<ℤ◌}
use Rattle.std.specs.declared.cmp.Ordering.{Ordering}
use Rattle.std.specs.declared.cmp.Ordering.TheVariants as o
use Rattle.std.specs.Ordering.{int_cmp, nat_cmp, ordering_then, ordering_reverse, is_eq as answers_equal}
use Rattle.std.specs.Cmp.{IsTotalOrder, tied_itself}
use Rattle.std.proofs.lemmas.Bool.Decides.{nat_tests}
use Rattle.std.proofs.lemmas.Cmp.{int_cmp_total, nat_cmp_total, on_total, then_total}
use Rattle.std.proofs.lemmas.Int.{ints}
use Rattle.exact.specs.Number.{ExactNumber, den, Less, Same, Positive}
use Rattle.exact.specs.Order.{root_cmp, real_cmp, triple_cmp, num_cmp, signed_square}
use Rattle.exact.proofs.Ring.{is_neg, is_lit, is_atom, is_mul, is_sub, is_eq}
use Rattle.exact.proofs.Root.{side}
use Rattle.exact.proofs.Unique.{same_trans, triple}
use Rattle.exact.proofs.Positive.{scaled, unscaled, less_trans}

cmp_above : (z : ℤ) → pos 0 <ℤ z → int_cmp z (pos 0) ≡ o.Greater
cmp_above z h = grind (arith, ints)

cmp_below : (z : ℤ) → z <ℤ pos 0 → int_cmp z (pos 0) ≡ o.Less
cmp_below z h = grind (arith, ints)

some_square : (p q : ℕ) → 0 < p + q → 0 < p * p + 2 * (q * q)
some_square zero zero h = omega arith
some_square zero (suc q) h = omega arith
some_square (suc p) q h = omega arith

some_of : (p q : ℕ) → Positive (pos p) (pos q) → 0 < p + q
some_of p q h = elim h [
  | inl x ↦ omega (arith, ints, x.2)
  | inr y ↦ elim y [ inl x ↦ absurd (omega (arith, ints, x.1)) | inr x ↦ absurd (omega (arith, ints, x.0)) ]
]

above : (a b : ℤ) → Positive a b → pos 0 <ℤ (signed_square a +ℤ pos 2 *ℤ signed_square b)
above (pos p) (pos q) h = let sq : 0 < p * p + 2 * (q * q) = some_square p q (some_of p q h) in omega (arith, ints)
above (pos p) (negsuc q) h = elim h [
  | inl x ↦ absurd (omega (arith, ints, x.1))
  | inr y ↦ elim y [ inl x ↦ omega (arith, ints, x.2) | inr x ↦ absurd (omega (arith, ints, x.0)) ]
]
above (negsuc p) (pos q) h = elim h [
  | inl x ↦ absurd (omega (arith, ints, x.0))
  | inr y ↦ elim y [ inl x ↦ absurd (omega (arith, ints, x.0)) | inr x ↦ omega (arith, ints, x.2) ]
]
above (negsuc p) (negsuc q) h = elim h [
  | inl x ↦ absurd (omega (arith, ints, x.0))
  | inr y ↦ elim y [ inl x ↦ absurd (omega (arith, ints, x.0)) | inr x ↦ absurd (omega (arith, ints, x.1)) ]
]

square_turned : (a : ℤ) → signed_square (neg_ℤ a) ≡ neg_ℤ (signed_square a)
square_turned (pos zero) = refl
square_turned (pos (suc n)) = refl
square_turned (negsuc n) = omega (arith, ints)

pub root_above : (a b : ℤ) → Positive a b → root_cmp a b ≡ o.Greater
root_above a b h = cmp_above _ (above a b h)

pub root_below : (a b : ℤ) → Positive (neg_ℤ a) (neg_ℤ b) → root_cmp a b ≡ o.Less
root_below a b h = cmp_below _ (turned (signed_square a) (signed_square b) (rw (square_turned a, square_turned b) at (above (neg_ℤ a) (neg_ℤ b) h)))
  where
    turned : (x y : ℤ) → pos 0 <ℤ (neg_ℤ x +ℤ pos 2 *ℤ neg_ℤ y) → (x +ℤ pos 2 *ℤ y) <ℤ pos 0
    turned x y h = omega (arith, ints)

pub root_zero : (a b : ℤ) → a ≡ pos 0 → b ≡ pos 0 → root_cmp a b ≡ o.Equal
root_zero a b e f = rw (e, f) refl

gap_turned : (x y : ℤ) (d e : ℕ) → neg_ℤ (x *ℤ pos e -ℤ y *ℤ pos d) ≡ y *ℤ pos d -ℤ x *ℤ pos e
gap_turned x y d e = is_eq (is_neg (is_sub (is_mul (is_atom x) (is_lit e)) (is_mul (is_atom y) (is_lit d)))) (is_sub (is_mul (is_atom y) (is_lit d)) (is_mul (is_atom x) (is_lit e))) (omega arith)

gap_none : (x y : ℤ) → x ≡ y → x -ℤ y ≡ pos 0
gap_none x y e = rw e (omega (arith, ints))

pub none_gap : (x y : ℤ) → x -ℤ y ≡ pos 0 → x ≡ y
none_gap x y e = omega (arith, ints)

pub real_less : (x y : ExactNumber) → Less x y → real_cmp x y ≡ o.Less
real_less x y h = root_below (x.a *ℤ pos (den y) -ℤ y.a *ℤ pos (den x)) (x.b *ℤ pos (den y) -ℤ y.b *ℤ pos (den x)) (rw (gap_turned x.a y.a (den x) (den y), gap_turned x.b y.b (den x) (den y)) h)

pub real_greater : (x y : ExactNumber) → Less y x → real_cmp x y ≡ o.Greater
real_greater x y h = root_above _ _ h

pub real_equal : (x y : ExactNumber) → Same x y → real_cmp x y ≡ o.Equal
real_equal x y h = root_zero _ _ (gap_none _ _ h.a) (gap_none _ _ h.b)

-- one of two numbers is less, or they are one
pub linear : (x y : ExactNumber) → Less x y ⊎ (Same x y ⊎ Less y x)
linear x y = elim (side (x.a *ℤ pos (den y) -ℤ y.a *ℤ pos (den x)) (x.b *ℤ pos (den y) -ℤ y.b *ℤ pos (den x))) [
  | inl h ↦ inr (inr h)
  | inr k ↦ elim k [
    | inl z ↦ inr (inl (record { a = none_gap _ _ z.0; b = none_gap _ _ z.1 }))
    | inr h ↦ inl (rw (← gap_turned x.a y.a (den x) (den y), ← gap_turned x.b y.b (den x) (den y)) h)
  ]
]

pub less_of : (x y : ExactNumber) → real_cmp x y ≡ o.Less → Less x y
less_of x y e = elim (linear x y) [
  | inl h ↦ h
  | inr k ↦ elim k [ inl s ↦ absurd (let f = real_equal x y s in cc) | inr h ↦ absurd (let f = real_greater x y h in cc) ]
]

pub same_of : (x y : ExactNumber) → real_cmp x y ≡ o.Equal → Same x y
same_of x y e = elim (linear x y) [
  | inl h ↦ absurd (let f = real_less x y h in cc)
  | inr k ↦ elim k [ inl s ↦ s | inr h ↦ absurd (let f = real_greater x y h in cc) ]
]

pub same_turned : (x y : ExactNumber) → Same x y → Same y x
same_turned x y s = record { a = sym s.a; b = sym s.b }

moved : (x y z : ℤ) (d e f : ℕ) → x *ℤ pos e ≡ y *ℤ pos d → (z *ℤ pos e -ℤ y *ℤ pos f) *ℤ pos d ≡ (z *ℤ pos d -ℤ x *ℤ pos f) *ℤ pos e
moved x y z d e f s =
    let X = is_atom x in let Y = is_atom y in let Z = is_atom z in let D = is_lit d in let E = is_lit e in let F = is_lit f in
    is_eq (is_mul (is_sub (is_mul Z E) (is_mul Y F)) D) (is_sub (is_mul (is_mul Z E) D) (is_mul (is_mul Y D) F)) (omega arith)
    ∙ ap (λ t. z *ℤ pos e *ℤ pos d -ℤ t *ℤ pos f) (sym s)
    ∙ is_eq (is_sub (is_mul (is_mul Z E) D) (is_mul (is_mul X E) F)) (is_mul (is_sub (is_mul Z D) (is_mul X F)) E) (omega arith)

-- less than z is kept from one triple of a number to another
pub less_moved : (x y z : ExactNumber) → Same x y → Less x z → Less y z
less_moved x y z s h = unscaled _ _ (den x) (omega arith) (rw (moved x.a y.a z.a (den x) (den y) (den z) s.a, moved x.b y.b z.b (den x) (den y) (den z) s.b) (scaled _ _ (den y) (omega arith) h))

pub above_moved : (x y z : ExactNumber) → Same x y → Less z x → Less z y
above_moved x y z s h = let g = real_greater x z h in elim (linear y z) [
  | inl k ↦ absurd (let f = real_less x z (less_moved y x z (same_turned x y s) k) in cc)
  | inr k ↦ elim k [
    | inl t ↦ absurd (let f = real_equal x z (same_trans y x z (same_turned x y s) t) in cc)
    | inr ok ↦ ok
  ]
]

reversed : (x y : ExactNumber) → real_cmp x y ≡ ordering_reverse (real_cmp y x)
reversed x y = elim (linear x y) [
  | inl h ↦ real_less x y h ∙ ap ordering_reverse (sym (real_greater y x h))
  | inr k ↦ elim k [
    | inl s ↦ real_equal x y s ∙ ap ordering_reverse (sym (real_equal y x (same_turned x y s)))
    | inr h ↦ real_greater x y h ∙ ap ordering_reverse (sym (real_less y x h))
  ]
]

alike : (x y z : ExactNumber) → Same x y → real_cmp x z ≡ real_cmp y z
alike x y z s = elim (linear x z) [
  | inl h ↦ real_less x z h ∙ sym (real_less y z (less_moved x y z s h))
  | inr k ↦ elim k [
    | inl t ↦ real_equal x z t ∙ sym (real_equal y z (same_trans x y z s t))
    | inr h ↦ real_greater x z h ∙ sym (real_greater y z (above_moved x y z s h))
  ]
]

pub real_total : IsTotalOrder real_cmp
real_total = record {
  antisymm = reversed;
  trans = λ x y z e f. real_less x z (less_trans x y z (less_of x y e) (less_of y z f));
  congr = λ x y z e. alike x y z (same_of x y e);
}

pub triple_total : IsTotalOrder triple_cmp
triple_total = then_total (on_total (λ x. x.a) int_cmp_total) (then_total (on_total (λ x. x.b) int_cmp_total) (on_total (λ x. x.d) nat_cmp_total))

pub num_total : IsTotalOrder num_cmp
num_total = then_total real_total triple_total

whole_exact : (a b : ℤ) → int_cmp a b ≡ o.Equal → a ≡ b
whole_exact a b e = grind (arith, ints)

size_exact : (a b : ℕ) → nat_cmp a b ≡ o.Equal → a ≡ b
size_exact a b e = grind (arith, nat_tests)

pub first_equal : (r s : Ordering) → ordering_then r s ≡ o.Equal → (r ≡ o.Equal) × (s ≡ o.Equal)
first_equal o.Less s e = absurd (cc)
first_equal o.Equal s e = (refl, e)
first_equal o.Greater s e = absurd (cc)

pub triple_exact : (x y : ExactNumber) → triple_cmp x y ≡ o.Equal → x ≡ y
triple_exact x y e =
    let p = first_equal (int_cmp x.a y.a) (ordering_then (int_cmp x.b y.b) (nat_cmp x.d y.d)) e in
    let q = first_equal (int_cmp x.b y.b) (nat_cmp x.d y.d) p.1 in
    triple x.a y.a x.b y.b x.d y.d (whole_exact x.a y.a p.0) (whole_exact x.b y.b q.0) (size_exact x.d y.d q.1)

pub num_exact : (x y : ExactNumber) → num_cmp x y ≡ o.Equal → x ≡ y
num_exact x y e = triple_exact x y (first_equal (real_cmp x y) (triple_cmp x y) e).1

same_tests : (x y : ExactNumber) (r : Ordering) → num_cmp x y ≡ r → (t : Ordering) → triple_cmp x y ≡ t → answers_equal t ≡ answers_equal r
same_tests x y o.Equal e t f = ap answers_equal (sym f ∙ (first_equal (real_cmp x y) (triple_cmp x y) e).1)
same_tests x y o.Less e o.Less f = refl
same_tests x y o.Less e o.Greater f = refl
same_tests x y o.Less e o.Equal f = absurd (let g = ap (λ z. num_cmp x z) (triple_exact x y f) ∙ e in let h = tied_itself num_total x in cc)
same_tests x y o.Greater e o.Less f = refl
same_tests x y o.Greater e o.Greater f = refl
same_tests x y o.Greater e o.Equal f = absurd (let g = ap (λ z. num_cmp x z) (triple_exact x y f) ∙ e in let h = tied_itself num_total x in cc)

-- a test that holds of equal triples is the one that `num_cmp` makes
pub num_ties : {E : ExactNumber → ExactNumber → Bool} → ((x y : ExactNumber) → E x y ≡ answers_equal (triple_cmp x y)) → (x y : ExactNumber) → E x y ≡ answers_equal (num_cmp x y)
num_ties h x y = h x y ∙ same_tests x y (num_cmp x y) refl (triple_cmp x y) refl
