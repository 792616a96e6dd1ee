-- What an operation on numbers answers, from what `Num::new` answers.
use Rattle.std.proofs.Common.{◌≡◌, ℕ, ◌*◌, ◌<◌, ◌≤◌, ◌^◌, arith, refl, sym, subst, ap, ◌∙◌}
use Rattle.std.specs.Prelude.{ℤ, pos, ◌+ℤ◌, ◌*ℤ◌, Option, Some, None, IfSome, IfNone, unsigned_abs}
use Rattle.std.proofs.lemmas.Int.{ints}
use Rattle.exact.specs.Number.{ExactNumber, Same, IsCanonical, IsRepresentable, add, mul, den}
use Rattle.exact.proofs.Kept.{tall}
use Rattle.exact.proofs.Ring.{is_eq, is_add, is_mul, is_atom, is_lit}
use Rattle.exact.proofs.Told.{same_on}
use Rattle.exact.proofs.Unique.{triple}
use Rattle.qroot2.proofs.callers.Held.{through, held_128, both_same}

-- the triple that `Num::new` was given
abbrev pub given : ℤ → ℤ → ℤ → ExactNumber
given a b d = record { a = through a; b = through b; d = unsigned_abs (through d) }

given_is : (a b d : ℤ) (z : ExactNumber) → unsigned_abs a ≤ 2 ^ 120 → unsigned_abs b ≤ 2 ^ 120 → unsigned_abs d ≤ 2 ^ 120 → a ≡ z.a → b ≡ z.b → d ≡ pos z.d → given a b d ≡ z
given_is a b d z h k l e f g = triple _ _ _ _ _ _ (held_128 a (omega arith) ∙ e) (held_128 b (omega arith) ∙ f) (ap unsigned_abs (held_128 d (omega arith) ∙ g))

pub some_given : (o : Option ExactNumber) (a b d : ℤ) (z w : ExactNumber) → unsigned_abs a ≤ 2 ^ 120 → unsigned_abs b ≤ 2 ^ 120 → unsigned_abs d ≤ 2 ^ 120 → a ≡ z.a → b ≡ z.b → d ≡ pos z.d → z ≡ w
    → IfSome o (λ n. Same n (given a b d) × IsCanonical n) → IfSome o (λ n. Same n w)
some_given None a b d z w h k l e f g v s = tt
some_given (Some n) a b d z w h k l e f g v s = subst (λ t. Same n t) (given_is a b d z h k l e f g ∙ v) s.0

pub none_given : (o : Option ExactNumber) (a b d : ℤ) (z w : ExactNumber) → unsigned_abs a ≤ 2 ^ 120 → unsigned_abs b ≤ 2 ^ 120 → unsigned_abs d ≤ 2 ^ 120 → a ≡ z.a → b ≡ z.b → d ≡ pos z.d → z ≡ w
    → IfNone o (IsRepresentable (given a b d) → ⊥) → IfNone o (IsRepresentable w → ⊥)
none_given None a b d z w h k l e f g v s = λ r. s (subst IsRepresentable (sym (given_is a b d z h k l e f g ∙ v)) r)
none_given (Some n) a b d z w h k l e f g v s = tt

-- an answer for one number is one for the same number
pub some_same : (o : Option ExactNumber) (z w : ExactNumber) → Same z w → IfSome o (λ n. Same n z) → IfSome o (λ n. Same n w)
some_same None z w s h = tt
some_same (Some n) z w s h = same_on n z w h s

pub none_same : (o : Option ExactNumber) (z w : ExactNumber) → Same z w → IfNone o (IsRepresentable z → ⊥) → IfNone o (IsRepresentable w → ⊥)
none_same None z w s h = λ r. h (r.0, same_on z w r.0 s r.1, r.2)
none_same (Some n) z w s h = tt

-- over one denominator the numerators alone are added
abbrev pub short_sum : ExactNumber → ExactNumber → ExactNumber
short_sum x y = record { a = x.a +ℤ y.a; b = x.b +ℤ y.b; d = x.d }

pub short_sum_is : (x y : ExactNumber) → 0 < x.d → x.d ≡ y.d → Same (short_sum x y) (add x y)
short_sum_is x y p e =
    let dx : den x ≡ x.d = omega arith in
    let dy : den y ≡ x.d = omega arith in
    let whole : den (add x y) ≡ x.d * x.d = tall (den x) (den y) (omega arith) (omega arith) ∙ both_same ◌*◌ _ _ _ _ dx dy in
    record { a = part x.a y.a x.d _ _ _ whole dx dy; b = part x.b y.b x.d _ _ _ whole dx dy }
  where
    part : (s t : ℤ) (d m e f : ℕ) → m ≡ d * d → e ≡ d → f ≡ d → (s +ℤ t) *ℤ pos m ≡ (s *ℤ pos f +ℤ t *ℤ pos e) *ℤ pos e
    part s t d m e f h k l = rw (h, k, l) (is_eq (is_mul (is_add (is_atom s) (is_atom t)) (is_lit (d * d))) (is_mul (is_add (is_mul (is_atom s) (is_lit d)) (is_mul (is_atom t) (is_lit d))) (is_lit d)) (omega arith))

-- the sum and the product, by denominators that are above zero
abbrev pub sum_of : ExactNumber → ExactNumber → ExactNumber
sum_of x y = record { a = x.a *ℤ pos y.d +ℤ y.a *ℤ pos x.d; b = x.b *ℤ pos y.d +ℤ y.b *ℤ pos x.d; d = x.d * y.d }

pub sum_is : (x y : ExactNumber) → 0 < x.d → 0 < y.d → sum_of x y ≡ add x y
sum_is x y p q = both_same by x.d (den x) y.d (den y) (omega (arith, p)) (omega (arith, q))
  where
    by : ℕ → ℕ → ExactNumber
    by d e = record { a = x.a *ℤ pos e +ℤ y.a *ℤ pos d; b = x.b *ℤ pos e +ℤ y.b *ℤ pos d; d = d * e }

abbrev pub product_of : ExactNumber → ExactNumber → ExactNumber
product_of x y = record { a = x.a *ℤ y.a +ℤ (x.b *ℤ y.b +ℤ x.b *ℤ y.b); b = x.a *ℤ y.b +ℤ x.b *ℤ y.a; d = x.d * y.d }

pub product_is : (x y : ExactNumber) → 0 < x.d → 0 < y.d → product_of x y ≡ mul x y
product_is x y p q = triple _ _ _ _ _ _ (twice (x.a *ℤ y.a) (x.b *ℤ y.b)) refl (both_same ◌*◌ x.d (den x) y.d (den y) (omega (arith, p)) (omega (arith, q)))
  where
    twice : (s t : ℤ) → s +ℤ (t +ℤ t) ≡ s +ℤ pos 2 *ℤ t
    twice s t = omega (arith, ints)
