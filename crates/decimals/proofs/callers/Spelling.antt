-- What is spelled is cut into its own pieces, and pieces that pass are spelled.
use Rattle.std.proofs.Common.{◌≡◌, ◌≢◌, ℕ, zero, suc, ◌+◌, ◌<◌, ◌≤◌, ◌^◌, ◌⊎◌, inl, inr, Bool, true, false, List, [], ◌∷◌, ◌++◌, length, get_or, drop, min, refl, sym, subst, ap, ap₂, ◌∙◌, arith}
use Rattle.std.specs.Prelude.{ℤ, pos, unsigned_abs, MatchOption, Option, Some, None}
use Rattle.std.proofs.lemmas.List.{append-nil}
use Rattle.qroot2.specs.Digits.{AllDigits, value_on}
use Rattle.decimals.specs.Decimal.{Decimal, Spells, IsDecimal, IsSign, IsSmall, IsExponent, signed, units_of, cap, capped}
use Rattle.std.specs.Bool.{◌==◌}
use Rattle.qroot2.proofs.callers.Reading.{some_long}
use Rattle.decimals.specs.declared.exponent.Exponent.{Exponent}
use Rattle.decimals.specs.Cutting.{IsUnsigned, IsRun, IsFraction, IsCut, Cut, EndsRun, BeginsNot}
use Rattle.decimals.proofs.Pieces.{cut_one, unsigned_one, runs_are_one, sign_off, sign_on, digits_begin_not}
use Rattle.decimals.proofs.Scaling.{value_small}

-- an exponent ends a run
pub exponent_ends : (tail : List ℕ) (e : ℤ) → IsExponent tail e → EndsRun tail
exponent_ends [] e h = tt
exponent_ends (b ∷ bytes) e (inl m, s) = inr (omega arith)
exponent_ends (b ∷ bytes) e (inr m, s) = inr (omega arith)

pub exponent_no_point : (tail : List ℕ) (e : ℤ) → IsExponent tail e → BeginsNot 46 tail
exponent_no_point [] e h = tt
exponent_no_point (b ∷ bytes) e (inl m, s) = λ p. omega arith
exponent_no_point (b ∷ bytes) e (inr m, s) = λ p. omega arith

-- a sign stands before no digit and no point
plain_begins : (c : ℕ) (before rest : List ℕ) → c < 46 → AllDigits before → (before ≡ [] → BeginsNot c rest) → BeginsNot c (before ++ rest)
plain_begins c [] rest l a h = h refl
plain_begins c (d ∷ before) rest l a h = digits_begin_not c (d ∷ before) (omega arith) a

rest_begins : (c : ℕ) (before point behind tail : List ℕ) → c < 46 → (point ≡ 46 ∷ []) ⊎ ((point ≡ []) × (behind ≡ [])) → 1 ≤ length before + length behind
    → before ≡ [] → BeginsNot c (point ++ (behind ++ tail))
rest_begins c before point behind tail l (inl p) s e = subst (λ xs. BeginsNot c (xs ++ (behind ++ tail))) (sym p) (λ q. omega arith)
rest_begins c before point behind tail l (inr p) s e = absurd (let m = ap length e in let n = ap length p.1 in omega arith)

rest_ends : (point behind tail : List ℕ) → (point ≡ 46 ∷ []) ⊎ ((point ≡ []) × (behind ≡ [])) → EndsRun tail → EndsRun (point ++ (behind ++ tail))
rest_ends point behind tail (inl p) h = subst (λ xs. EndsRun (xs ++ (behind ++ tail))) (sym p) (inl (omega arith))
rest_ends point behind tail (inr p) h = subst (λ xs. EndsRun (xs ++ (behind ++ tail))) (sym p.0) (subst (λ xs. EndsRun (xs ++ tail)) (sym p.1) h)

fraction_of : (point behind tail : List ℕ) → (point ≡ 46 ∷ []) ⊎ ((point ≡ []) × (behind ≡ [])) → AllDigits behind → EndsRun tail → BeginsNot 46 tail → IsFraction (point ++ (behind ++ tail)) behind tail
fraction_of point behind tail (inl p) a h n = inl (behind ++ tail, ap (λ xs. xs ++ (behind ++ tail)) p, record { whole = refl; digits = a; ends = h })
fraction_of point behind tail (inr p) a h n = inr (p.1, ap₂ (λ xs ys. xs ++ (ys ++ tail)) p.0 p.1, n)

abbrev pub cut_of : Decimal → List ℕ → Cut
cut_of d tail = record { minus = d.minus; before = d.before; behind = d.behind; tail = tail }

pub spelled_is_cut : {bytes : List ℕ} {d : Decimal} → (s : Spells bytes d) → IsCut bytes (cut_of d s.tail)
spelled_is_cut {bytes} {d} s =
    let rest : List ℕ = s.point ++ (d.behind ++ s.tail) in
    let ends = exponent_ends s.tail d.exponent s.exponent in
    let b45 = plain_begins 45 d.before rest (omega arith) s.before_digits (rest_begins 45 d.before s.point d.behind s.tail (omega arith) s.is_point s.some) in
    let b43 = plain_begins 43 d.before rest (omega arith) s.before_digits (rest_begins 43 d.before s.point d.behind s.tail (omega arith) s.is_point s.some) in
    record {
      plain = d.before ++ rest;
      rest = rest;
      unsigned = subst (λ xs. IsUnsigned xs d.minus (d.before ++ rest)) (sym s.text) (sign_off s.sign (d.before ++ rest) d.minus s.is_sign b45 b43);
      before = record { whole = refl; digits = s.before_digits; ends = rest_ends s.point d.behind s.tail s.is_point ends };
      behind = fraction_of s.point d.behind s.tail s.is_point s.behind_digits ends (exponent_no_point s.tail d.exponent s.exponent);
    }

-- exponents are one
small_is_cut : {bytes : List ℕ} {e : ℤ} → (s : IsSmall bytes e) → IsUnsigned bytes s.minus s.digits
small_is_cut {bytes} s = subst (λ xs. IsUnsigned xs s.minus s.digits) (sym s.text) (sign_off s.sign s.digits s.minus s.is_sign (digits_begin_not 45 s.digits (omega arith) s.are_digits) (digits_begin_not 43 s.digits (omega arith) s.are_digits))

small_one : {bytes : List ℕ} {e f : ℤ} → IsSmall bytes e → IsSmall bytes f → e ≡ f
small_one s t =
    let u = unsigned_one (small_is_cut s) (small_is_cut t) in
    s.value ∙ ap₂ (λ m ds. signed m (value_on 0 ds)) u.0 u.1 ∙ sym t.value

pub exponent_one : (tail : List ℕ) (e f : ℤ) → IsExponent tail e → IsExponent tail f → e ≡ f
exponent_one [] e f h k = h ∙ sym k
exponent_one (b ∷ bytes) e f h k = small_one h.1 k.1

pub units_one : {bytes : List ℕ} {d f : Decimal} → Spells bytes d → Spells bytes f → units_of d ≡ units_of f
units_one {bytes} {d} {f} s t =
    let c = cut_one (spelled_is_cut s) (spelled_is_cut t) in
    let e : d.exponent ≡ f.exponent = exponent_one t.tail d.exponent f.exponent (subst (λ xs. IsExponent xs d.exponent) c.tail s.exponent) t.exponent in
    ap units_of (λ i. record { minus = c.minus i; before = c.before i; behind = c.behind i; exponent = e i })

pub decimal_one : (bytes : List ℕ) (x y : ℤ) → IsDecimal bytes x → IsDecimal bytes y → x ≡ y
decimal_one bytes x y h k = h.2 ∙ units_one h.1 k.1 ∙ sym k.2

-- pieces that pass
pieces_spell_by : (bytes : List ℕ) (c : Cut) (k : IsCut bytes c) (e : ℤ) → (sign : List ℕ) × (bytes ≡ sign ++ k.plain) × IsSign sign c.minus → IsFraction k.rest c.behind c.tail
    → 1 ≤ length c.before + length c.behind → IsExponent c.tail e → Spells bytes (record { minus = c.minus; before = c.before; behind = c.behind; exponent = e })
pieces_spell_by bytes c k e s (inl f) some h = record {
  sign = s.0;
  point = 46 ∷ [];
  tail = c.tail;
  text = s.1 ∙ ap (λ xs. s.0 ++ xs) (k.before.whole ∙ ap (λ xs. c.before ++ xs) (f.1 ∙ ap (λ xs. 46 ∷ xs) f.2.whole));
  is_sign = s.2;
  is_point = inl refl;
  before_digits = k.before.digits;
  behind_digits = f.2.digits;
  some = some;
  exponent = h;
}
pieces_spell_by bytes c k e s (inr f) some h = record {
  sign = s.0;
  point = [];
  tail = c.tail;
  text = s.1 ∙ ap (λ xs. s.0 ++ xs) (k.before.whole ∙ ap (λ xs. c.before ++ xs) (f.1 ∙ ap (λ xs. xs ++ c.tail) (sym f.0)));
  is_sign = s.2;
  is_point = inr (refl, f.0);
  before_digits = k.before.digits;
  behind_digits = subst AllDigits (sym f.0) tt;
  some = some;
  exponent = h;
}

pub pieces_spell : (bytes : List ℕ) (c : Cut) (k : IsCut bytes c) (e : ℤ) → 1 ≤ length c.before + length c.behind → IsExponent c.tail e
    → Spells bytes (record { minus = c.minus; before = c.before; behind = c.behind; exponent = e })
pieces_spell bytes c k e some h = pieces_spell_by bytes c k e (sign_on bytes k.plain c.minus k.unsigned) k.behind some h

pub behind_digits : {bytes run rest : List ℕ} → IsFraction bytes run rest → AllDigits run
behind_digits (inl h) = h.2.digits
behind_digits (inr h) = subst AllDigits (sym h.0) tt

-- pieces without a digit are no decimal
pub no_digits : (bytes : List ℕ) (c : Cut) → IsCut bytes c → length c.before ≡ 0 → length c.behind ≡ 0 → (x : ℤ) → ¬ IsDecimal bytes x
no_digits bytes c k m n x h =
    let s = h.1 in
    let o = cut_one (spelled_is_cut s) k in
    let p = ap length o.before in
    let q = ap length o.behind in
    let r = s.some in
    omega arith

pub no_exponent : (bytes : List ℕ) (c : Cut) → IsCut bytes c → ((e : ℤ) → ¬ IsExponent c.tail e) → (x : ℤ) → ¬ IsDecimal bytes x
no_exponent bytes c k n x h =
    let s = h.1 in
    let o = cut_one (spelled_is_cut s) k in
    n h.0.exponent (subst (λ xs. IsExponent xs h.0.exponent) o.tail s.exponent)

pub capped_signed : (minus : Bool) (n : ℕ) → signed minus (min n cap) ≡ capped (signed minus n)
capped_signed false n = refl
capped_signed true zero = refl
capped_signed true (suc n) = refl

-- small numbers
pub small_found : (bytes digits rest plain : List ℕ) (minus : Bool) (size : ℕ) → IsUnsigned bytes minus plain → IsRun plain digits rest → length rest ≡ 0 → 1 ≤ length digits → length digits ≤ 3
    → size ≡ min (value_on 0 digits) cap → IsSmall bytes (signed minus size) × (size ≤ 999)
small_found bytes digits rest plain minus size u r z some few e = told rest r z
  where
    pow_few : (n : ℕ) → n ≤ 3 → 10 ^ n ≤ 1000
    pow_few zero h = omega arith
    pow_few (suc zero) h = omega arith
    pow_few (suc (suc zero)) h = omega arith
    pow_few (suc (suc (suc zero))) h = omega arith
    pow_few (suc (suc (suc (suc n)))) h = absurd (omega arith)

    told : (rest : List ℕ) → IsRun plain digits rest → length rest ≡ 0 → IsSmall bytes (signed minus size) × (size ≤ 999)
    told (x ∷ rest) r z = absurd (omega arith)
    told [] r z =
        let s = sign_on bytes plain minus u in
        let v = value_small digits r.digits in
        let p = pow_few (length digits) few in
        let f : size ≡ value_on 0 digits = omega arith in (
          record {
            sign = s.0;
            digits = digits;
            minus = minus;
            text = s.1 ∙ ap (λ xs. s.0 ++ xs) (r.whole ∙ append-nil digits);
            is_sign = s.2;
            are_digits = r.digits;
            some = some;
            few = few;
            value = ap (signed minus) f;
          },
          omega arith,
        )

pub small_none : (bytes digits rest plain : List ℕ) (minus : Bool) → IsUnsigned bytes minus plain → IsRun plain digits rest → (length digits ≡ 0) ⊎ ((3 < length digits) ⊎ (0 < length rest)) → (e : ℤ) → ¬ IsSmall bytes e
small_none bytes digits rest plain minus u r h e s =
    let o = unsigned_one u (small_is_cut s) in
    let t = runs_are_one r (record { whole = o.1 ∙ sym (append-nil s.digits); digits = s.are_digits; ends = tt }) in
    let p = ap length t.0 in
    let q = ap length t.1 in
    wrong s.some s.few p q h
  where
    wrong : 1 ≤ length s.digits → length s.digits ≤ 3 → length digits ≡ length s.digits → length rest ≡ 0 → (length digits ≡ 0) ⊎ ((3 < length digits) ⊎ (0 < length rest)) → ⊥
    wrong a b p q (inl z) = omega arith
    wrong a b p q (inr (inl z)) = omega arith
    wrong a b p q (inr (inr z)) = omega arith

-- the exponent by its first byte
pub exponent_none : (tail : List ℕ) → length tail ≡ 0 → IsExponent tail (pos 0)
exponent_none [] h = refl
exponent_none (b ∷ bytes) h = absurd (omega arith)

pub exponent_unmarked : (tail : List ℕ) → 0 < length tail → get_or tail 0 0 ≢ 101 → get_or tail 0 0 ≢ 69 → (e : ℤ) → ¬ IsExponent tail e
exponent_unmarked [] l m n e h = omega arith
exponent_unmarked (b ∷ bytes) l m n e (inl k, s) = m k
exponent_unmarked (b ∷ bytes) l m n e (inr k, s) = n k

pub exponent_marked : (tail rest : List ℕ) (o : Option Exponent) → 0 < length tail → rest ≡ drop 1 tail → (get_or tail 0 0 ≡ 101) ⊎ (get_or tail 0 0 ≡ 69)
    → MatchOption o ((e : ℤ) → ¬ IsSmall rest e) (λ p. IsSmall rest (signed p.minus p.size) × (p.size ≤ 999))
    → MatchOption o ((e : ℤ) → ¬ IsExponent tail e) (λ p. IsExponent tail (signed p.minus p.size) × (p.size ≤ 999))
exponent_marked [] rest o l r m h = absurd (omega arith)
exponent_marked (b ∷ bytes) rest None l r m h = λ e k. h e (subst (λ xs. IsSmall xs e) (sym r) k.1)
exponent_marked (b ∷ bytes) rest (Some p) l r m h = ((m, subst (λ xs. IsSmall xs (signed p.minus p.size)) r h.0), h.1)

pub some_digits : (before behind : List ℕ) (r q : Bool) → r ≡ (length before == 0) → q ≡ (length behind == 0) → (r ≡ false) ⊎ (q ≡ false) → 1 ≤ length before + length behind
some_digits before behind r q e f (inl h) = (let p = some_long r (length before) e h in omega arith)
some_digits before behind r q e f (inr h) = (let p = some_long q (length behind) f h in omega arith)

pub some_digit : (before behind : List ℕ) (r : Bool) → r ≡ (length before == 0) → r ≡ false → 1 ≤ length before + length behind
some_digit before behind r e h = (let p = some_long r (length before) e h in omega arith)

pub signed_small : (minus : Bool) (n s : ℕ) (z : ℤ) → z ≡ signed minus n → n ≡ min s cap → unsigned_abs z < 2 ^ 127
signed_small false n s z e h = rw e (omega (arith, h))
signed_small true zero s z e h = rw e (omega arith)
signed_small true (suc n) s z e h = rw e (omega (arith, h))
