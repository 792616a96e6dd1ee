-- Lists without a byte, and lists split at the first such byte.
use Rattle.std.proofs.Common.{◌≡◌, ◌≢◌, ℕ, zero, suc, ◌+◌, ◌<◌, ◌≤◌, List, [], ◌∷◌, ◌++◌, length, get_or, take, arith, refl, sym, subst, ◌⊎◌, inl, inr}
use Rattle.std.proofs.lemmas.List.{take_more}
use Rattle.qroot2.specs.Text.{numeral}
use Rattle.qroot2.specs.Digits.{AllDigits, Lacks}
use Rattle.qroot2.proofs.callers.Numerals.{numeral_is}

pub lacks_append : (c : ℕ) (xs ys : List ℕ) → Lacks c xs → Lacks c ys → Lacks c (xs ++ ys)
lacks_append c [] ys h k = k
lacks_append c (x ∷ xs) ys h k = (h.0, lacks_append c xs ys h.1 k)

pub lacks_more : (c : ℕ) (xs : List ℕ) (i : ℕ) → i < length xs → Lacks c (take i xs) → get_or xs i 0 ≢ c → Lacks c (take (i + 1) xs)
lacks_more c xs i p h n = subst (Lacks c) (sym (take_more xs i 0 p)) (lacks_append c (take i xs) (get_or xs i 0 ∷ []) h (n, tt))

-- the byte stands in no list that lacks it
pub lacks_not : (c : ℕ) (xs ys us : List ℕ) → Lacks c us → xs ++ c ∷ ys ≡ us → ⊥
lacks_not c [] ys [] h e = absurd (cc)
lacks_not c [] ys (u ∷ us) h e = h.0 (let f : u ≡ c = cc in f)
lacks_not c (x ∷ xs) ys [] h e = absurd (cc)
lacks_not c (x ∷ xs) ys (u ∷ us) h e = lacks_not c xs ys us h.1 (cc)

-- there is one place of the first such byte
pub split_unique : (c : ℕ) (xs us ys vs : List ℕ) → Lacks c xs → Lacks c us → xs ++ c ∷ ys ≡ us ++ c ∷ vs → (xs ≡ us) × (ys ≡ vs)
split_unique c [] [] ys vs h k e = (refl, cc)
split_unique c [] (u ∷ us) ys vs h k e = absurd (k.0 (let f : u ≡ c = cc in f))
split_unique c (x ∷ xs) [] ys vs h k e = absurd (h.0 (let f : x ≡ c = cc in f))
split_unique c (x ∷ xs) (u ∷ us) ys vs h k e =
    let r = split_unique c xs us ys vs h.1 k.1 (cc) in
    let f : x ≡ u = cc in
    (let g = r.0 in cc, r.1)

pub lacks_digits : (c : ℕ) (ds : List ℕ) → (c < 48) ⊎ (57 < c) → AllDigits ds → Lacks c ds
lacks_digits c [] h a = tt
lacks_digits c (d ∷ ds) h a = (apart h, lacks_digits c ds h a.2)
  where
    apart : (c < 48) ⊎ (57 < c) → d ≢ c
    apart (inl l) e = omega (arith, a.0)
    apart (inr g) e = omega (arith, a.1)

pub lacks_numeral : (c n : ℕ) → (c < 48) ⊎ (57 < c) → Lacks c (numeral n)
lacks_numeral c n h = lacks_digits c (numeral n) h (numeral_is n).digits

pub digits_at : (ds : List ℕ) (k : ℕ) → AllDigits ds → k < length ds → (48 ≤ get_or ds k 0) × (get_or ds k 0 ≤ 57)
digits_at [] k a h = absurd (omega arith)
digits_at (d ∷ ds) zero a h = (a.0, a.1)
digits_at (d ∷ ds) (suc k) a h = digits_at ds k a.2 (omega arith)

pub digits_append : (xs ys : List ℕ) → AllDigits xs → AllDigits ys → AllDigits (xs ++ ys)
digits_append [] ys h k = k
digits_append (x ∷ xs) ys h k = (h.0, h.1, digits_append xs ys h.2 k)

pub digits_more : (xs : List ℕ) (i : ℕ) → i < length xs → AllDigits (take i xs) → 48 ≤ get_or xs i 0 → get_or xs i 0 ≤ 57 → AllDigits (take (i + 1) xs)
digits_more xs i p h l g = subst AllDigits (sym (take_more xs i 0 p)) (digits_append (take i xs) (get_or xs i 0 ∷ []) h (l, g, tt))
