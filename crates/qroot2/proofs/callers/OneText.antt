-- A text is that of one triple, and what reading answers follows from the triple that has it.
use Rattle.std.proofs.Common.{◌≡◌, ℕ, zero, suc, ◌+◌, ◌<◌, ◌≤◌, ◌^◌, List, [], ◌∷◌, ◌++◌, get_or, drop, arith, refl, sym, subst, ap, ◌∙◌, inl, inr}
use Rattle.std.specs.Prelude.{ℤ, pos, negsuc, neg_ℤ, unsigned_abs, Result, Ok, Err, MatchResult}
use Rattle.std.proofs.lemmas.List.{append-nil}
use Rattle.exact.specs.Number.{ExactNumber, IsCanonical, IsLowest, IsRepresentable, Same, den}
use Rattle.exact.proofs.Unique.{cancel, triple, unique_lowest}
use Rattle.exact.proofs.Told.{same_itself}
use Rattle.qroot2.specs.declared.text.NumText.{NumText}
use Rattle.qroot2.specs.declared.text.NumText.TheVariants as answer
use Rattle.qroot2.specs.Text.{numeral, signed_text, both_text, numerator_text, denominator_text, number_text, IsWithinLimits, Reads}
use Rattle.qroot2.specs.Digits.{Lacks, capped, capped_size}
use Rattle.qroot2.proofs.callers.Numerals.{numeral_injective}
use Rattle.qroot2.proofs.callers.Splits.{lacks_append, lacks_not, split_unique, lacks_numeral}
use Rattle.qroot2.proofs.callers.Reading.{signed_injective, headed, capped_abs, signed_lacks}
use Rattle.qroot2.proofs.ReadingParts.{both_lacks, numerator_lacks}
use Rattle.qroot2.proofs.callers.Held.{through, through_64, held_128, held_64}
use Rattle.qroot2.proofs.callers.Answered.{given}

-- the three shapes of a text of two parts
data Shape (a b : ℤ) (ds : List ℕ) : Type 0 where
  alone : a ≡ pos 0 → ds ≡ signed_text b → Shape a b ds
  plus_sign : (n : ℕ) → b ≡ pos n → ds ≡ signed_text a ++ 43 ∷ numeral n → Shape a b ds
  minus_sign : (n : ℕ) → b ≡ negsuc n → ds ≡ signed_text a ++ 45 ∷ numeral (suc n) → Shape a b ds

shape : (a b : ℤ) → Shape a b (both_text a b)
shape (pos zero) b = Shape.alone refl refl
shape (pos (suc m)) (pos n) = Shape.plus_sign n refl refl
shape (pos (suc m)) (negsuc n) = Shape.minus_sign n refl refl
shape (negsuc m) (pos n) = Shape.plus_sign n refl refl
shape (negsuc m) (negsuc n) = Shape.minus_sign n refl refl

no_plus : (z : ℤ) → Lacks 43 (signed_text z)
no_plus z = signed_lacks 43 z (λ f. omega arith) (inl (omega arith))

no_plus_below : (a : ℤ) (n : ℕ) → Lacks 43 (signed_text a ++ 45 ∷ numeral n)
no_plus_below a n = lacks_append 43 (signed_text a) (45 ∷ numeral n) (no_plus a) ((λ f. omega arith), lacks_numeral 43 n (inl (omega arith)))

-- a second sign `-` is not in one number's text
one_sign : (z a : ℤ) (n : ℕ) → signed_text z ≡ signed_text a ++ 45 ∷ numeral n → ⊥
one_sign z a n e =
    let s = headed z in
    let t = headed a in
    lacks_not 45 t.1 (numeral n) s.1 s.3 (sym (ap (drop 1) (sym s.2 ∙ e ∙ ap (λ ds. ds ++ 45 ∷ numeral n) t.2)))

same_below : (a a' : ℤ) (n n' : ℕ) → signed_text a ++ 45 ∷ numeral (suc n) ≡ signed_text a' ++ 45 ∷ numeral (suc n') → (a ≡ a') × (n ≡ n')
same_below a a' n n' e =
    let s = headed a in
    let t = headed a' in
    let f : s.0 ∷ (s.1 ++ 45 ∷ numeral (suc n)) ≡ t.0 ∷ (t.1 ++ 45 ∷ numeral (suc n')) = ap (λ ds. ds ++ 45 ∷ numeral (suc n)) (sym s.2) ∙ e ∙ ap (λ ds. ds ++ 45 ∷ numeral (suc n')) t.2 in
    let first : s.0 ≡ t.0 = ap (λ ds. get_or ds 0 0) f in
    let u = split_unique 45 s.1 t.1 (numeral (suc n)) (numeral (suc n')) s.3 t.3 (ap (drop 1) f) in
    let more : suc n ≡ suc n' = numeral_injective (suc n) (suc n') u.1 in
    (signed_injective a a' (s.2 ∙ ap (λ ds. s.0 ∷ ds) u.0 ∙ ap (λ y. y ∷ t.1) first ∙ sym t.2), omega (arith, more))

by_shapes : (a b a' b' : ℤ) (ds : List ℕ) → Shape a b ds → Shape a' b' ds → (a ≡ a') × (b ≡ b')
by_shapes a b a' b' ds (Shape.alone p e) (Shape.alone q f) = (p ∙ sym q, signed_injective b b' (sym e ∙ f))
by_shapes a b a' b' ds (Shape.alone p e) (Shape.plus_sign n q f) = absurd (lacks_not 43 (signed_text a') (numeral n) (signed_text b) (no_plus b) (sym f ∙ e))
by_shapes a b a' b' ds (Shape.alone p e) (Shape.minus_sign n q f) = absurd (one_sign b a' (suc n) (sym e ∙ f))
by_shapes a b a' b' ds (Shape.plus_sign m p e) (Shape.alone q f) = absurd (lacks_not 43 (signed_text a) (numeral m) (signed_text b') (no_plus b') (sym e ∙ f))
by_shapes a b a' b' ds (Shape.plus_sign m p e) (Shape.plus_sign n q f) =
    let s = split_unique 43 (signed_text a) (signed_text a') (numeral m) (numeral n) (no_plus a) (no_plus a') (sym e ∙ f) in
    (signed_injective a a' s.0, p ∙ ap pos (numeral_injective m n s.1) ∙ sym q)
by_shapes a b a' b' ds (Shape.plus_sign m p e) (Shape.minus_sign n q f) = absurd (lacks_not 43 (signed_text a) (numeral m) (signed_text a' ++ 45 ∷ numeral (suc n)) (no_plus_below a' (suc n)) (sym e ∙ f))
by_shapes a b a' b' ds (Shape.minus_sign m p e) (Shape.alone q f) = absurd (one_sign b' a (suc m) (sym f ∙ e))
by_shapes a b a' b' ds (Shape.minus_sign m p e) (Shape.plus_sign n q f) = absurd (lacks_not 43 (signed_text a') (numeral n) (signed_text a ++ 45 ∷ numeral (suc m)) (no_plus_below a (suc m)) (sym f ∙ e))
by_shapes a b a' b' ds (Shape.minus_sign m p e) (Shape.minus_sign n q f) = (let s = same_below a a' m n (sym e ∙ f) in (s.0, p ∙ ap negsuc s.1 ∙ sym q))

both_injective : (a b a' b' : ℤ) → both_text a b ≡ both_text a' b' → (a ≡ a') × (b ≡ b')
both_injective a b a' b' e = by_shapes a b a' b' (both_text a b) (shape a b) (subst (λ ds. Shape a' b' ds) (sym e) (shape a' b'))

-- with the letter r or without it
data Letter (a b : ℤ) (ds : List ℕ) : Type 0 where
  whole_only : b ≡ pos 0 → ds ≡ signed_text a → Letter a b ds
  with_root : ds ≡ both_text a b ++ 114 ∷ [] → Letter a b ds

letter : (a b : ℤ) → Letter a b (numerator_text a b)
letter a (pos zero) = Letter.whole_only refl refl
letter a (pos (suc n)) = Letter.with_root refl
letter a (negsuc n) = Letter.with_root refl

no_letter : (z : ℤ) → Lacks 114 (signed_text z)
no_letter z = signed_lacks 114 z (λ f. omega arith) (inr (omega arith))

no_letter_both : (a b : ℤ) → Lacks 114 (both_text a b)
no_letter_both a b = both_lacks 114 a b (λ f. omega arith) (λ f. omega arith) (inr (omega arith))

by_letters : (a b a' b' : ℤ) (ds : List ℕ) → Letter a b ds → Letter a' b' ds → (a ≡ a') × (b ≡ b')
by_letters a b a' b' ds (Letter.whole_only p e) (Letter.whole_only q f) = (signed_injective a a' (sym e ∙ f), p ∙ sym q)
by_letters a b a' b' ds (Letter.whole_only p e) (Letter.with_root f) = absurd (lacks_not 114 (both_text a' b') [] (signed_text a) (no_letter a) (sym f ∙ e))
by_letters a b a' b' ds (Letter.with_root e) (Letter.whole_only q f) = absurd (lacks_not 114 (both_text a b) [] (signed_text a') (no_letter a') (sym e ∙ f))
by_letters a b a' b' ds (Letter.with_root e) (Letter.with_root f) = both_injective a b a' b' (split_unique 114 (both_text a b) (both_text a' b') [] [] (no_letter_both a b) (no_letter_both a' b') (sym e ∙ f)).0

numerator_injective : (a b a' b' : ℤ) → numerator_text a b ≡ numerator_text a' b' → (a ≡ a') × (b ≡ b')
numerator_injective a b a' b' e = by_letters a b a' b' (numerator_text a b) (letter a b) (subst (λ ds. Letter a' b' ds) (sym e) (letter a' b'))

over : (a b a' b' : ℤ) (d d' : ℕ) → 0 < d → 0 < d' → numerator_text a b ++ denominator_text d ≡ numerator_text a' b' ++ denominator_text d' → (a ≡ a') × (b ≡ b') × (d ≡ d')
over a b a' b' zero d' p q e = absurd (omega arith)
over a b a' b' (suc d) zero p q e = absurd (omega arith)
over a b a' b' (suc zero) (suc zero) p q e = (let s = numerator_injective a b a' b' (sym (append-nil _) ∙ e ∙ append-nil _) in (s.0, s.1, refl))
over a b a' b' (suc zero) (suc (suc d')) p q e = absurd (lacks_not 47 (numerator_text a' b') (numeral (suc (suc d'))) (numerator_text a b) (numerator_lacks a b) (sym (sym (append-nil (numerator_text a b)) ∙ e)))
over a b a' b' (suc (suc d)) (suc zero) p q e = absurd (lacks_not 47 (numerator_text a b) (numeral (suc (suc d))) (numerator_text a' b') (numerator_lacks a' b') (e ∙ append-nil (numerator_text a' b')))
over a b a' b' (suc (suc d)) (suc (suc d')) p q e =
    let s = split_unique 47 (numerator_text a b) (numerator_text a' b') (numeral (suc (suc d))) (numeral (suc (suc d'))) (numerator_lacks a b) (numerator_lacks a' b') e in
    let t = numerator_injective a b a' b' s.0 in
    (t.0, t.1, numeral_injective (suc (suc d)) (suc (suc d')) s.1)

-- a text is that of one triple
pub text_injective : (x y : ExactNumber) → 0 < x.d → 0 < y.d → number_text x ≡ number_text y → x ≡ y
text_injective x y p q e = (let s = over x.a x.b y.a y.b x.d y.d p q e in triple _ _ _ _ _ _ s.0 s.1 s.2)

-- the triple that was handed to `Num::new`
pub given_text : (ra rb rd a b : ℤ) (d : ℕ) → unsigned_abs a ≤ 2 ^ 48 → unsigned_abs b ≤ 2 ^ 48 → d ≤ 2 ^ 20 → ra ≡ through_64 a → rb ≡ through_64 b → rd ≡ pos d → given ra rb rd ≡ record { a = a; b = b; d = d }
given_text ra rb rd a b d h k l e f g = triple _ _ _ _ _ _
    (ap through (e ∙ held_64 a (omega arith)) ∙ held_128 a (omega arith))
    (ap through (f ∙ held_64 b (omega arith)) ∙ held_128 b (omega arith))
    (ap (λ z. unsigned_abs (through z)) g ∙ ap unsigned_abs (held_128 (pos d) (omega arith)))

-- a canonical number is the triple itself where the denominators are equal
pub same_denominator : (n t : ExactNumber) → 0 < t.d → Same n t → n.d ≡ t.d → n ≡ t
same_denominator n t p s e =
    let dn : den n ≡ t.d = omega (arith, e) in
    let dt : den t ≡ t.d = omega (arith, p) in
    triple _ _ _ _ _ _ (cancel n.a t.a t.d p (rw (dn, dt) at s.a)) (cancel n.b t.b t.d p (rw (dn, dt) at s.b)) e

pub not_lowest : (n t : ExactNumber) → IsCanonical n → 0 < t.d → Same n t → (n.d ≡ t.d → ⊥) → IsLowest t → ⊥
not_lowest n t c p s o l = o (ap (λ (x : ExactNumber). x.d) (unique_lowest n t c.positive c.lowest p l s))

pub not_held : (t : ExactNumber) → 0 < t.d → unsigned_abs t.a ≤ 2 ^ 48 → unsigned_abs t.b ≤ 2 ^ 48 → t.d ≤ 2 ^ 20 → (IsRepresentable t → ⊥) → IsLowest t → ⊥
not_held t p a b d none l = none (t, same_itself t, record { positive = p; lowest = l; a = a; b = b; d = d })

-- a kept size within the limit is the size
within : (z u : ℤ) → u ≡ capped z → unsigned_abs u ≤ 2 ^ 48 → u ≡ z
within (pos n) u e h = e ∙ ap pos (let f : capped_size n ≤ 2 ^ 48 = omega (arith, h, ap unsigned_abs e) in omega (arith, f))
within (negsuc n) u e h = e ∙ ap (λ (m : ℕ). neg_ℤ (pos m)) (let f : capped_size (suc n) ≤ 2 ^ 48 = omega (arith, h, ap unsigned_abs e, capped_abs (negsuc n)) in let g : capped_size (suc n) ≡ suc n = omega (arith, f) in g)

-- the program's test of a size against the cap
pub tested : (u z : ℤ) (size : ℕ) → u ≡ capped z → size ≡ unsigned_abs (through_64 u) → size < 2 ^ 48 + 1 → unsigned_abs u ≤ 2 ^ 48
tested u z size e s h =
    let small : unsigned_abs u ≤ 2 ^ 62 = omega (arith, ap unsigned_abs e, capped_abs z) in
    omega (arith, s, ap unsigned_abs (held_64 u small), h)

pub read_lowest : (o : Result ExactNumber NumText) (bytes : List ℕ) (a b : ℤ) (d : ℕ) (x : ExactNumber) → 0 < x.d → number_text x ≡ bytes → a ≡ capped x.a → b ≡ capped x.b → d ≡ capped_size x.d
    → unsigned_abs a ≤ 2 ^ 48 → unsigned_abs b ≤ 2 ^ 48 → d ≤ 2 ^ 20
    → MatchResult o (λ n. (n ≡ record { a = a; b = b; d = d }) × IsCanonical n) (λ e. (e ≡ answer.Syntax) × (¬ IsLowest (record { a = a; b = b; d = d })))
    → Reads bytes o
read_lowest o bytes a b d x p t ea eb ed ha hb hd m = told o m
  where
    same : (let y : ExactNumber = record { a = a; b = b; d = d } in y) ≡ x
    same = triple _ _ _ _ _ _ (within x.a a ea ha) (within x.b b eb hb) (omega (arith, ed, hd))

    limits : IsWithinLimits x
    limits = subst IsWithinLimits same (record { a = ha; b = hb; d = hd })

    told : (o : Result ExactNumber NumText) → MatchResult o (λ n. (n ≡ record { a = a; b = b; d = d }) × IsCanonical n) (λ e. (e ≡ answer.Syntax) × (¬ IsLowest (record { a = a; b = b; d = d }))) → Reads bytes o
    told (Ok n) m = (m.1, ap number_text (m.0 ∙ same) ∙ t)
    told (Err e) m = subst (λ (f : NumText). Reads bytes (Err f)) (sym m.0) (λ y q u. let one : x ≡ y = text_injective x y p q (t ∙ sym u) in subst (λ (z : ExactNumber). IsWithinLimits z × (¬ IsLowest z)) one (limits, subst (λ (z : ExactNumber). IsLowest z → ⊥) same m.1))
