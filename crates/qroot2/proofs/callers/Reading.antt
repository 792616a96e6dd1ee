-- What each part of the reader answers, from what the parts below it answer.
use Rattle.std.proofs.Common.{◌≡◌, ◌≢◌, ℕ, zero, suc, ◌+◌, ◌<◌, ◌≤◌, ◌^◌, List, [], ◌∷◌, ◌++◌, length, get_or, take, drop, ◌-◌, Bool, true, false, arith, refl, sym, subst, ap, ◌∙◌, ◌⊎◌, inl, inr, length-append}
use Rattle.std.specs.Prelude.{ℤ, pos, negsuc, neg_ℤ, ◌-ℤ◌, unsigned_abs, Option, Some, None, MatchOption}
use Rattle.std.specs.Bool.{◌==◌}
use Rattle.std.specs.Int.{cast_signed, cast_unsigned, w64}
use Rattle.std.proofs.lemmas.Int.{ints, to_z-of_z, to_z_pos, fits_signed_from_abs}
use Rattle.std.proofs.lemmas.Bool.Decides.{nat_tests}
use Rattle.qroot2.specs.Text.{numeral, signed_text, both_text, summand_text}
use Rattle.qroot2.specs.Digits.{AllDigits, Lacks, value_on, capped, capped_size, AreSummands, AreBoth}
use Rattle.qroot2.proofs.callers.Numerals.{numeral_is, numeral_value, numeral_injective}
use Rattle.std.proofs.lemmas.List.{take_all, take_rest, drop_more, take-append-drop}
use Rattle.qroot2.proofs.callers.Splits.{lacks_append, lacks_not, split_unique, lacks_numeral, digits_at}

pub none_long : (r : Bool) (n : ℕ) → r ≡ (n == 0) → r ≡ true → n ≡ 0
none_long r n e f = grind (arith, nat_tests)

pub some_long : (r : Bool) (n : ℕ) → r ≡ (n == 0) → r ≡ false → 0 < n
some_long r n e f = grind (arith, nat_tests)

pub no_numeral : (bytes : List ℕ) → length bytes ≡ 0 → (n : ℕ) → numeral n ≡ bytes → ⊥
no_numeral bytes h n e = omega (arith, (numeral_is n).some, ap length e)

pub no_zeros : (bytes : List ℕ) → get_or bytes 0 0 ≡ 48 → 1 < length bytes → (n : ℕ) → numeral n ≡ bytes → ⊥
no_zeros bytes h l n e = omega (arith, (numeral_is n).lead (ap (λ ds. get_or ds 0 0) e ∙ h), ap length e)

pub numeral_read : (o : Option ℕ) (bytes : List ℕ) → 0 < length bytes → ((get_or bytes 0 0 ≡ 48) × (length bytes ≤ 1)) ⊎ (get_or bytes 0 0 ≢ 48)
    → MatchOption o (¬ AllDigits bytes) (λ v. AllDigits bytes × (v ≡ capped_size (value_on 0 bytes)))
    → MatchOption o ((n : ℕ) → numeral n ≡ bytes → ⊥) (λ v. (n : ℕ) × (numeral n ≡ bytes) × (v ≡ capped_size n))
numeral_read None bytes p h m = λ n e. m (subst AllDigits e (numeral_is n).digits)
numeral_read (Some v) bytes p h m = (value_on 0 bytes, numeral_value bytes (record { digits = m.0; some = p; lead = λ e. elim h [ inl x ↦ omega (arith, x.1) | inr n ↦ absurd (n e) ] }), m.1)

pub signed_some : (z : ℤ) → 0 < length (signed_text z)
signed_some (pos n) = (numeral_is n).some
signed_some (negsuc n) = omega arith

-- what stands behind the first byte, as the code cuts it
abbrev pub rest : List ℕ → List ℕ
rest bytes = take (length bytes - 1) (drop 1 bytes)

rest_is : (x : ℕ) (xs : List ℕ) → rest (x ∷ xs) ≡ xs
rest_is x xs = ap (λ n. take n xs) (less_one (length xs)) ∙ take_all (length xs) xs (omega arith)
  where
    less_one : (n : ℕ) → suc n - 1 ≡ n
    less_one n = omega arith

first_digit : (n : ℕ) → (48 ≤ get_or (numeral n) 0 0) × (get_or (numeral n) 0 0 ≤ 57)
first_digit n = digits_at (numeral n) 0 (numeral_is n).digits (numeral_is n).some

pub signed_injective : (y z : ℤ) → signed_text y ≡ signed_text z → y ≡ z
signed_injective (pos m) (pos n) e = ap pos (numeral_injective m n e)
signed_injective (pos m) (negsuc n) e = absurd (omega (arith, (first_digit m).0, ap (λ ds. get_or ds 0 0) e))
signed_injective (negsuc m) (pos n) e = absurd (omega (arith, (first_digit n).0, ap (λ ds. get_or ds 0 0) e))
signed_injective (negsuc m) (negsuc n) e = ap negsuc (let f : suc m ≡ suc n = numeral_injective (suc m) (suc n) (cc) in omega (arith, f))

capped_within : (n : ℕ) → capped_size n ≤ 2 ^ 48 + 1
capped_within n = omega arith

held_size : (size n : ℕ) → size ≡ capped_size n → cast_signed w64 size ≡ pos (capped_size n)
held_size size n e = to_z_pos w64 size (omega (arith, e)) ∙ ap pos e

turned_size : (size n : ℕ) → size ≡ capped_size n → cast_signed w64 (cast_unsigned w64 (pos 0 -ℤ cast_signed w64 size)) ≡ neg_ℤ (pos (capped_size n))
turned_size size n e = rw (held_size size n e) (to_z-of_z w64 (pos 0 -ℤ pos (capped_size n)) (fits_signed_from_abs w64 _ (omega (arith, ints))) ∙ omega (arith, ints))

pub signed_plain : (bytes : List ℕ) (size : ℕ) → ((n : ℕ) × (numeral n ≡ bytes) × (size ≡ capped_size n)) → (z : ℤ) × (signed_text z ≡ bytes) × (cast_signed w64 size ≡ capped z)
signed_plain bytes size h = (pos h.0, h.1, held_size size h.0 h.2)

-- behind a `-` stands the size, which is not 0
pub signed_minus : (bytes : List ℕ) → get_or bytes 0 0 ≡ 45 → (z : ℤ) → signed_text z ≡ bytes → (m : ℕ) × (numeral (suc m) ≡ rest bytes) × (z ≡ negsuc m)
signed_minus bytes h (pos n) e = absurd (omega (arith, (first_digit n).0, ap (λ ds. get_or ds 0 0) e))
signed_minus bytes h (negsuc n) e = (n, sym (rest_is 45 (numeral (suc n))) ∙ ap rest e, refl)

pub signed_minus_none : (bytes : List ℕ) → get_or bytes 0 0 ≡ 45 → ((n : ℕ) → numeral n ≡ rest bytes → ⊥) → (z : ℤ) → signed_text z ≡ bytes → ⊥
signed_minus_none bytes h none z e = (let m = signed_minus bytes h z e in none (suc m.0) m.1)

pub signed_minus_zero : (bytes : List ℕ) (size : ℕ) → get_or bytes 0 0 ≡ 45 → ((n : ℕ) × (numeral n ≡ rest bytes) × (size ≡ capped_size n)) → size ≡ 0 → (z : ℤ) → signed_text z ≡ bytes → ⊥
signed_minus_zero bytes size h s o z e =
    let m = signed_minus bytes h z e in
    let same : suc m.0 ≡ s.0 = numeral_injective (suc m.0) s.0 (m.1 ∙ sym s.1) in
    omega (arith, s.2, o, same)

pub signed_minus_some : (bytes : List ℕ) (size : ℕ) → 0 < length bytes → get_or bytes 0 0 ≡ 45 → ((n : ℕ) × (numeral n ≡ rest bytes) × (size ≡ capped_size n)) → (size ≡ 0 → ⊥)
    → (z : ℤ) × (signed_text z ≡ bytes) × (cast_signed w64 (cast_unsigned w64 (pos 0 -ℤ cast_signed w64 size)) ≡ capped z)
signed_minus_some [] size p h s o = absurd (omega arith)
signed_minus_some (x ∷ xs) size p h s o = made s.0 s.1 s.2
  where
    made : (n : ℕ) → numeral n ≡ rest (x ∷ xs) → size ≡ capped_size n → (z : ℤ) × (signed_text z ≡ x ∷ xs) × (cast_signed w64 (cast_unsigned w64 (pos 0 -ℤ cast_signed w64 size)) ≡ capped z)
    made zero e f = absurd (o (omega (arith, f)))
    made (suc m) e f = (negsuc m, ap (λ ds. 45 ∷ ds) (e ∙ rest_is x xs) ∙ ap (λ y. y ∷ xs) (sym h), turned_size size (suc m) f)

-- a kept number is 0 only where the number is
capped_zero : (z : ℤ) → capped z ≡ pos 0 → z ≡ pos 0
capped_zero (pos zero) e = refl
capped_zero (pos (suc n)) e = absurd (let f : capped_size (suc n) ≡ 0 = omega (arith, ints, e) in omega (arith, f))
capped_zero (negsuc n) e = absurd (let f : capped_size (suc n) ≡ 0 = omega (arith, ints, e) in omega (arith, f))

pub capped_abs : (z : ℤ) → unsigned_abs (capped z) ≡ capped_size (unsigned_abs z)
capped_abs (pos n) = refl
capped_abs (negsuc n) = neg_abs (capped_size (suc n))
  where
    neg_abs : (n : ℕ) → unsigned_abs (neg_ℤ (pos n)) ≡ n
    neg_abs zero = refl
    neg_abs (suc n) = refl

bits_zero : (a : ℤ) → unsigned_abs a ≤ 2 ^ 49 → cast_unsigned w64 a ≡ 0 → a ≡ pos 0
bits_zero (pos n) h e = ap pos e
bits_zero (negsuc n) h e = absurd (omega (arith, e))

-- the test of a signed number against 0
pub tested_zero : (a z : ℤ) → a ≡ capped z → cast_unsigned w64 a ≡ 0 → z ≡ pos 0
tested_zero a z e t = capped_zero z (sym e ∙ bits_zero a (omega (arith, ap unsigned_abs e, capped_abs z, capped_within (unsigned_abs z))) t)

pub tested_some : (a z : ℤ) → a ≡ capped z → (cast_unsigned w64 a ≡ 0 → ⊥) → z ≢ pos 0
tested_some a z e t f = t (ap (cast_unsigned w64) (e ∙ ap capped f))

pub summands_none : (whole root : List ℕ) (u : ℤ) (size : ℕ) → ((a : ℤ) × (signed_text a ≡ whole) × (u ≡ capped a)) → ((n : ℕ) × (numeral n ≡ root) × (size ≡ capped_size n))
    → (cast_unsigned w64 u ≡ 0) ⊎ (size ≡ 0) → (a : ℤ) (n : ℕ) → AreSummands a n whole root → ⊥
summands_none whole root u size s t (inl o) a n h = h.whole_some (signed_injective a s.0 (h.whole_text ∙ sym s.1) ∙ tested_zero u s.0 s.2 o)
summands_none whole root u size s t (inr o) a n h = let same : n ≡ t.0 = numeral_injective n t.0 (h.root_text ∙ sym t.1) in omega (arith, h.root_some, t.2, o, same)

-- Two summands on either side of a sign, one number, and nothing else.
pub both_plus : (a : ℤ) (n : ℕ) → a ≢ pos 0 → both_text a (pos n) ≡ signed_text a ++ 43 ∷ numeral n
both_plus (pos zero) n h = absurd (h refl)
both_plus (pos (suc m)) n h = refl
both_plus (negsuc m) n h = refl

both_minus : (a : ℤ) (m : ℕ) → a ≢ pos 0 → both_text a (negsuc m) ≡ signed_text a ++ 45 ∷ numeral (suc m)
both_minus (pos zero) m h = absurd (h refl)
both_minus (pos (suc n)) m h = refl
both_minus (negsuc n) m h = refl

-- a signed number's text holds no other byte than digits behind its first
pub signed_lacks : (c : ℕ) (z : ℤ) → c ≢ 45 → (c < 48) ⊎ (57 < c) → Lacks c (signed_text z)
signed_lacks c (pos n) h k = lacks_numeral c n k
signed_lacks c (negsuc n) h k = ((λ e. h (sym e)), lacks_numeral c (suc n) k)

not_zero : (n : ℕ) → 0 < n → pos n ≢ pos 0
not_zero zero p e = omega arith
not_zero (suc n) p e = absurd (cc)

pub plus_found : (whole root bytes : List ℕ) (a : ℤ) (n : ℕ) → bytes ≡ whole ++ 43 ∷ root → AreSummands a n whole root → AreBoth a (pos n) bytes
plus_found whole root bytes a n e h = record { some = not_zero n h.root_some; text = both_plus a n h.whole_some ∙ rw (h.whole_text, h.root_text) (sym e) }

pub plus_none : (whole root bytes : List ℕ) → Lacks 43 whole → bytes ≡ whole ++ 43 ∷ root → ((a : ℤ) (n : ℕ) → AreSummands a n whole root → ⊥) → (a b : ℤ) → AreBoth a b bytes → ⊥
plus_none whole root bytes l e none a b h = told a b h.some (h.text ∙ e)
  where
    pair : (a : ℤ) (n : ℕ) → a ≢ pos 0 → signed_text a ++ 43 ∷ numeral (suc n) ≡ whole ++ 43 ∷ root → ⊥
    pair a n o e =
        let s = split_unique 43 (signed_text a) whole (numeral (suc n)) root (signed_lacks 43 a (λ f. omega arith) (inl (omega arith))) l e in
        none a (suc n) (record { whole_some = o; root_some = omega arith; whole_text = s.0; root_text = s.1 })

    lone : (z : ℤ) → signed_text z ≡ whole ++ 43 ∷ root → ⊥
    lone z e = lacks_not 43 whole root (signed_text z) (signed_lacks 43 z (λ f. omega arith) (inl (omega arith))) (sym e)

    below : (a : ℤ) (n : ℕ) → signed_text a ++ 45 ∷ numeral (suc n) ≡ whole ++ 43 ∷ root → ⊥
    below a n e = lacks_not 43 whole root (signed_text a ++ 45 ∷ numeral (suc n)) (lacks_append 43 (signed_text a) (45 ∷ numeral (suc n)) (signed_lacks 43 a (λ f. omega arith) (inl (omega arith))) ((λ f. omega arith), lacks_numeral 43 (suc n) (inl (omega arith)))) (sym e)

    told : (a b : ℤ) → b ≢ pos 0 → both_text a b ≡ whole ++ 43 ∷ root → ⊥
    told (pos zero) b o t = lone b t
    told (pos (suc m)) (pos zero) o t = o refl
    told (pos (suc m)) (pos (suc n)) o t = pair (pos (suc m)) n (not_zero (suc m) (omega arith)) t
    told (pos (suc m)) (negsuc n) o t = below (pos (suc m)) n t
    told (negsuc m) (pos zero) o t = o refl
    told (negsuc m) (pos (suc n)) o t = pair (negsuc m) n (λ f. absurd (cc)) t
    told (negsuc m) (negsuc n) o t = below (negsuc m) n t

-- a signed text is a first byte and digits
pub headed : (z : ℤ) → (x : ℕ) × (ds : List ℕ) × (signed_text z ≡ x ∷ ds) × Lacks 45 ds
headed (pos n) = of (numeral n) (lacks_numeral 45 n (inl (omega arith))) (numeral_is n).some
  where
    of : (ds : List ℕ) → Lacks 45 ds → 0 < length ds → (x : ℕ) × (es : List ℕ) × (ds ≡ x ∷ es) × Lacks 45 es
    of [] l p = absurd (omega arith)
    of (d ∷ ds) l p = (d, ds, refl, l.1)
headed (negsuc n) = (45, numeral (suc n), refl, lacks_numeral 45 (suc n) (inl (omega arith)))

pub minus_found : (whole root bytes : List ℕ) (a : ℤ) (n : ℕ) → bytes ≡ whole ++ 45 ∷ root → AreSummands a n whole root → AreBoth a (neg_ℤ (pos n)) bytes
minus_found whole root bytes a zero e h = absurd (omega (arith, h.root_some))
minus_found whole root bytes a (suc n) e h = record { some = λ f. absurd (cc); text = both_minus a n h.whole_some ∙ rw (h.whole_text, h.root_text) (sym e) }

-- with a second sign `-` behind the first byte, and no `+`
pub minus_none : (x : ℕ) (tail root bytes : List ℕ) → Lacks 43 bytes → Lacks 45 tail → bytes ≡ (x ∷ tail) ++ 45 ∷ root → ((a : ℤ) (n : ℕ) → AreSummands a n (x ∷ tail) root → ⊥) → (a b : ℤ) → AreBoth a b bytes → ⊥
minus_none x tail root bytes plus l e none a b h = told a b h.some h.text
  where
    pair : (a : ℤ) (n : ℕ) → a ≢ pos 0 → signed_text a ++ 45 ∷ numeral (suc n) ≡ bytes → ⊥
    pair a n o t =
        let s = headed a in
        let f : s.0 ∷ (s.1 ++ 45 ∷ numeral (suc n)) ≡ x ∷ (tail ++ 45 ∷ root) = ap (λ ds. ds ++ 45 ∷ numeral (suc n)) (sym s.2) ∙ t ∙ e in
        let first : s.0 ≡ x = ap (λ ds. get_or ds 0 0) f in
        let u = split_unique 45 s.1 tail (numeral (suc n)) root s.3 l (ap (drop 1) f) in
        none a (suc n) (record { whole_some = o; root_some = omega arith; whole_text = s.2 ∙ ap (λ ds. s.0 ∷ ds) u.0 ∙ ap (λ y. y ∷ tail) first; root_text = u.1 })

    lone : (z : ℤ) → signed_text z ≡ bytes → ⊥
    lone z t = (let s = headed z in lacks_not 45 tail root s.1 s.3 (sym (ap (drop 1) (sym s.2 ∙ t ∙ e))))

    above : (a : ℤ) (n : ℕ) → signed_text a ++ 43 ∷ numeral (suc n) ≡ bytes → ⊥
    above a n t = lacks_not 43 (signed_text a) (numeral (suc n)) bytes plus t

    told : (a b : ℤ) → b ≢ pos 0 → both_text a b ≡ bytes → ⊥
    told (pos zero) b o t = lone b t
    told (pos (suc m)) (pos zero) o t = o refl
    told (pos (suc m)) (pos (suc n)) o t = above (pos (suc m)) n t
    told (pos (suc m)) (negsuc n) o t = pair (pos (suc m)) n (not_zero (suc m) (omega arith)) t
    told (negsuc m) (pos zero) o t = o refl
    told (negsuc m) (pos (suc n)) o t = above (negsuc m) n t
    told (negsuc m) (negsuc n) o t = pair (negsuc m) n (λ f. absurd (cc)) t

-- with no sign behind the first byte
pub alone_none : (bytes : List ℕ) → Lacks 43 bytes → Lacks 45 (drop 1 bytes) → ((z : ℤ) → z ≢ pos 0 → signed_text z ≡ bytes → ⊥) → (a b : ℤ) → AreBoth a b bytes → ⊥
alone_none bytes plus l none a b h = told a b h.some h.text
  where
    above : (a : ℤ) (n : ℕ) → signed_text a ++ 43 ∷ numeral (suc n) ≡ bytes → ⊥
    above a n t = lacks_not 43 (signed_text a) (numeral (suc n)) bytes plus t

    below : (a : ℤ) (n : ℕ) → signed_text a ++ 45 ∷ numeral (suc n) ≡ bytes → ⊥
    below a n t = (let s = headed a in lacks_not 45 s.1 (numeral (suc n)) (drop 1 bytes) l (ap (drop 1) (ap (λ ds. ds ++ 45 ∷ numeral (suc n)) (sym s.2) ∙ t)))

    told : (a b : ℤ) → b ≢ pos 0 → both_text a b ≡ bytes → ⊥
    told (pos zero) b o t = none b o t
    told (pos (suc m)) (pos zero) o t = o refl
    told (pos (suc m)) (pos (suc n)) o t = above (pos (suc m)) n t
    told (pos (suc m)) (negsuc n) o t = below (pos (suc m)) n t
    told (negsuc m) (pos zero) o t = o refl
    told (negsuc m) (pos (suc n)) o t = above (negsuc m) n t
    told (negsuc m) (negsuc n) o t = below (negsuc m) n t

pub alone_found : (bytes : List ℕ) (b : ℤ) → b ≢ pos 0 → signed_text b ≡ bytes → AreBoth (pos 0) b bytes
alone_found bytes b o t = record { some = o; text = t }

both_some : (a b : ℤ) → b ≢ pos 0 → 0 < length (both_text a b)
both_some (pos zero) b o = signed_some b
both_some (pos (suc m)) b o = omega (arith, signed_some (pos (suc m)), length-append (signed_text (pos (suc m))) (summand_text b))
both_some (negsuc m) b o = omega (arith, signed_some (negsuc m), length-append (signed_text (negsuc m)) (summand_text b))

pub empty_none : (bytes : List ℕ) → length bytes ≡ 0 → (a b : ℤ) → AreBoth a b bytes → ⊥
empty_none bytes l a b h = omega (arith, both_some a b h.some, ap length h.text, l)

-- the place of the second sign
pub cut_at : (bytes : List ℕ) (i : ℕ) → 0 < length bytes → i < length (rest bytes) → get_or (rest bytes) i 0 ≡ 45 → bytes ≡ take (i + 1) bytes ++ 45 ∷ drop (i + 2) bytes
cut_at [] i p h e = absurd (omega arith)
cut_at (x ∷ xs) i p h e =
    let within : i < length xs = subst (λ (ds : List ℕ). i < length ds) (rest_is x xs) h in
    let sign : get_or xs i 0 ≡ 45 = ap (λ ds. get_or ds i 0) (sym (rest_is x xs)) ∙ e in
    let next : i + 1 ≡ suc i = omega arith in
    let second : i + 2 ≡ suc (suc i) = omega arith in
    rw (next, second) (ap (λ ds. x ∷ ds) (sym (take-append-drop i xs) ∙ ap (λ ds. take i xs ++ ds) (drop_more xs i 0 within ∙ ap (λ y. y ∷ drop (i + 1) xs) sign ∙ ap (λ k. 45 ∷ drop k xs) next)))

pub front_is : (bytes : List ℕ) (i : ℕ) → 0 < length bytes → take (i + 1) bytes ≡ get_or bytes 0 0 ∷ take i (rest bytes)
front_is [] i p = absurd (omega arith)
front_is (x ∷ xs) i p = (let next : i + 1 ≡ suc i = omega arith in ap (λ k. take k (x ∷ xs)) next ∙ ap (λ ds. x ∷ take i ds) (sym (rest_is x xs)))

pub rest_drop : (bytes : List ℕ) → 0 < length bytes → rest bytes ≡ drop 1 bytes
rest_drop [] p = absurd (omega arith)
rest_drop (x ∷ xs) p = rest_is x xs

-- what stands behind the second sign, as the code cuts it
abbrev pub behind : List ℕ → ℕ → List ℕ
behind bytes i = take (length bytes - (i + 2)) (drop (i + 2) bytes)

-- What the parts with a second sign `-`, or none, answer.
pub minus_read_none : (bytes : List ℕ) (i : ℕ) → 0 < length bytes → Lacks 43 bytes → i < length (rest bytes) → get_or (rest bytes) i 0 ≡ 45 → Lacks 45 (take i (rest bytes))
    → ((a : ℤ) (n : ℕ) → AreSummands a n (take (i + 1) bytes) (behind bytes i) → ⊥) → (a b : ℤ) → AreBoth a b bytes → ⊥
minus_read_none bytes i p plus h e l none =
    minus_none (get_or bytes 0 0) (take i (rest bytes)) (drop (i + 2) bytes) bytes plus l (cut_at bytes i p h e ∙ ap (λ ds. ds ++ 45 ∷ drop (i + 2) bytes) (front_is bytes i p))
    (λ a n s. none a n (subst (λ (ds : List ℕ). AreSummands a n ds (behind bytes i)) (sym (front_is bytes i p)) (subst (λ (ds : List ℕ). AreSummands a n (get_or bytes 0 0 ∷ take i (rest bytes)) ds) (sym (take_rest bytes (i + 2))) s)))

pub minus_read_some : (bytes : List ℕ) (i : ℕ) (a : ℤ) (n : ℕ) → 0 < length bytes → i < length (rest bytes) → get_or (rest bytes) i 0 ≡ 45
    → AreSummands a n (take (i + 1) bytes) (behind bytes i) → AreBoth a (neg_ℤ (pos n)) bytes
minus_read_some bytes i a n p h e s = minus_found (take (i + 1) bytes) (drop (i + 2) bytes) bytes a n (cut_at bytes i p h e) (subst (λ (ds : List ℕ). AreSummands a n (take (i + 1) bytes) ds) (take_rest bytes (i + 2)) s)

pub alone_read_none : (bytes : List ℕ) → 0 < length bytes → Lacks 43 bytes → Lacks 45 (rest bytes) → ((z : ℤ) → z ≢ pos 0 → signed_text z ≡ bytes → ⊥) → (a b : ℤ) → AreBoth a b bytes → ⊥
alone_read_none bytes p plus l none = alone_none bytes plus (subst (Lacks 45) (rest_drop bytes p) l) none

pub zero_only : (bytes : List ℕ) (u : ℤ) → ((z : ℤ) × (signed_text z ≡ bytes) × (u ≡ capped z)) → cast_unsigned w64 u ≡ 0 → (z : ℤ) → z ≢ pos 0 → signed_text z ≡ bytes → ⊥
zero_only bytes u s t z o e = o (signed_injective z s.0 (e ∙ sym s.1) ∙ tested_zero u s.0 s.2 t)
