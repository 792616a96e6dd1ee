-- Bytes are read as one number, and as one point, where a number's text is its own.
use Rattle.std.proofs.Common.{◌≡◌, ◌≢◌, ℕ, zero, suc, ◌+◌, ◌<◌, ◌/◌, ◌%◌, Bool, true, false, List, [], ◌∷◌, ◌++◌, Result, Ok, Err, refl, sym, ap, subst, ◌∙◌, ◌⊎◌, inl, inr, arith}
use Rattle.std.specs.Prelude.{ℤ, pos, negsuc, nat_lt}
use Rattle.exact.specs.Number.{ExactNumber, IsCanonical}
use Rattle.exact.specs.Plane.{ExactPoint}
use Rattle.qroot2.specs.Text.{numeral_by, numeral, signed_text, summand_text, both_text, numerator_text, denominator_text, number_text, IsWithinLimits, Reads}
use Rattle.qroot2.specs.Digits.{Lacks}
use Rattle.qroot2.specs.declared.text.NumText.{NumText}
use Rattle.qroot2.specs.declared.text.NumText.TheVariants.{Syntax, Range}
use Rattle.plane.specs.PointReads.{ReadsPoint}
use Rattle.chains.proofs.callers.Elements.{same_heads, same_tails}
use Rattle.pattern.proofs.callers.LineText.{canonical_within}

-- a text is that of one number
abbrev pub HasOneNumber : Type 0
HasOneNumber = (x y : ExactNumber) → 0 < x.d → 0 < y.d → number_text x ≡ number_text y → x ≡ y

-- no comma is in the text of a number
lacks_both : (xs ys : List ℕ) → Lacks 44 xs → Lacks 44 ys → Lacks 44 (xs ++ ys)
lacks_both [] ys h k = k
lacks_both (x ∷ xs) ys h k = (h.0, lacks_both xs ys h.1 k)

digit_no_comma : (n : ℕ) → 48 + n ≢ 44
digit_no_comma n e = omega arith

numeral_by_lacks : (fuel n : ℕ) → Lacks 44 (numeral_by fuel n)
unfolding numeral_by
numeral_by_lacks zero n = tt
numeral_by_lacks (suc fuel) n = by (nat_lt n 10) (numeral_by_lacks fuel (n / 10))
  where
    by : (v : Bool) → Lacks 44 (numeral_by fuel (n / 10)) → Lacks 44 (elim v [ true ↦ (48 + n) ∷ [] | false ↦ numeral_by fuel (n / 10) ++ (48 + n % 10) ∷ [] ])
    by true h = (digit_no_comma n, tt)
    by false h = lacks_both (numeral_by fuel (n / 10)) ((48 + n % 10) ∷ []) h (digit_no_comma (n % 10), tt)

numeral_lacks : (n : ℕ) → Lacks 44 (numeral n)
unfolding numeral
numeral_lacks n = numeral_by_lacks (suc n) n

signed_lacks : (z : ℤ) → Lacks 44 (signed_text z)
signed_lacks (pos n) = numeral_lacks n
signed_lacks (negsuc n) = ((λ e. omega arith), numeral_lacks (suc n))

summand_lacks : (z : ℤ) → Lacks 44 (summand_text z)
summand_lacks (pos n) = ((λ e. omega arith), numeral_lacks n)
summand_lacks (negsuc n) = ((λ e. omega arith), numeral_lacks (suc n))

both_lacks : (a b : ℤ) → Lacks 44 (both_text a b)
both_lacks (pos zero) b = signed_lacks b
both_lacks (pos (suc n)) b = lacks_both (signed_text (pos (suc n))) (summand_text b) (signed_lacks (pos (suc n))) (summand_lacks b)
both_lacks (negsuc n) b = lacks_both (signed_text (negsuc n)) (summand_text b) (signed_lacks (negsuc n)) (summand_lacks b)

root_lacks : (a b : ℤ) → Lacks 44 (both_text a b ++ 114 ∷ [])
root_lacks a b = lacks_both (both_text a b) (114 ∷ []) (both_lacks a b) ((λ e. omega arith), tt)

numerator_lacks : (a b : ℤ) → Lacks 44 (numerator_text a b)
numerator_lacks a (pos zero) = signed_lacks a
numerator_lacks a (pos (suc n)) = root_lacks a (pos (suc n))
numerator_lacks a (negsuc n) = root_lacks a (negsuc n)

denominator_lacks : (d : ℕ) → Lacks 44 (denominator_text d)
denominator_lacks zero = tt
denominator_lacks (suc zero) = tt
denominator_lacks (suc (suc n)) = ((λ e. omega arith), numeral_lacks (suc (suc n)))

number_lacks : (x : ExactNumber) → Lacks 44 (number_text x)
number_lacks x = lacks_both (numerator_text x.a x.b) (denominator_text x.d) (numerator_lacks x.a x.b) (denominator_lacks x.d)

-- bytes with a comma have one first comma
lacks_not : (xs ys bytes : List ℕ) → xs ++ 44 ∷ ys ≡ bytes → Lacks 44 bytes → ⊥
lacks_not [] ys [] e h = cc
lacks_not [] ys (b ∷ bytes) e h = h.0 (sym (same_heads e))
lacks_not (x ∷ xs) ys [] e h = cc
lacks_not (x ∷ xs) ys (b ∷ bytes) e h = lacks_not xs ys bytes (same_tails e) h.1

one_comma : (xs ys zs bs : List ℕ) → Lacks 44 xs → Lacks 44 ys → xs ++ 44 ∷ zs ≡ ys ++ 44 ∷ bs → (xs ≡ ys) × (zs ≡ bs)
one_comma [] [] zs bs h k e = (refl, same_tails e)
one_comma [] (y ∷ ys) zs bs h k e = absurd (k.0 (sym (same_heads e)))
one_comma (x ∷ xs) [] zs bs h k e = absurd (h.0 (same_heads e))
one_comma (x ∷ xs) (y ∷ ys) zs bs h k e =
    let r = one_comma xs ys zs bs h.1 k.1 (same_tails e) in
    let p = same_heads e in
    let q = r.0 in
    ((λ i. p i ∷ q i), r.1)

-- one answer of reading a number
number_not : HasOneNumber → (bytes : List ℕ) (n : ExactNumber) (why : NumText) → Reads bytes (Ok n) → Reads bytes (Err why) → ⊥
number_not one bytes n Syntax h k = (k n h.0.positive h.1).1 h.0.lowest
number_not one bytes n Range h k =
    let e = one n k.0 h.0.positive k.1 (h.1 ∙ sym k.2) in
    k.3 (subst IsWithinLimits e (canonical_within n h.0))

two_whys : (bytes : List ℕ) → Reads bytes (Err Syntax) → Reads bytes (Err Range) → ⊥
two_whys bytes h k = k.3 (h k.0 k.1 k.2).0

one_why : (bytes : List ℕ) (why other : NumText) → Reads bytes (Err why) → Reads bytes (Err other) → why ≡ other
one_why bytes Syntax Syntax h k = refl
one_why bytes Syntax Range h k = absurd (two_whys bytes h k)
one_why bytes Range Syntax h k = absurd (two_whys bytes k h)
one_why bytes Range Range h k = refl

-- one answer of reading a point
same_point : (p q : ExactPoint) → p.x ≡ q.x → p.y ≡ q.y → p ≡ q
same_point p q e f = λ i. record { x = e i; y = f i }

two_points : HasOneNumber → (bytes : List ℕ) (p q : ExactPoint) → ReadsPoint bytes (Ok p) → ReadsPoint bytes (Ok q) → p ≡ q
two_points one bytes p q h k =
    let c = one_comma (number_text p.x) (number_text q.x) (number_text p.y) (number_text q.y) (number_lacks p.x) (number_lacks q.x) (h.1 ∙ sym k.1) in
    same_point p q (one p.x q.x h.0.0.positive k.0.0.positive c.0) (one p.y q.y h.0.1.positive k.0.1.positive c.1)

abbrev IsRefused : List ℕ → List ℕ → NumText → Type 0
IsRefused front back why = Reads front (Err why) ⊎ ((x : ExactNumber) × Reads front (Ok x) × Reads back (Err why))

parts_not : HasOneNumber → (front back : List ℕ) (x y : ExactNumber) (why : NumText) → Reads front (Ok x) → Reads back (Ok y) → IsRefused front back why → ⊥
parts_not one front back x y why h k r = elim r [
  | inl f ↦ number_not one front x why h f
  | inr g ↦ number_not one back y why k g.2
]

point_not : HasOneNumber → (bytes : List ℕ) (p : ExactPoint) (why : NumText) → ReadsPoint bytes (Ok p) → ReadsPoint bytes (Err why) → ⊥
point_not one bytes p why h k = elim k [
  | inl l ↦ lacks_not (number_text p.x) (number_text p.y) bytes h.1 l.0
  | inr m ↦ (let c = one_comma (number_text p.x) m.0 (number_text p.y) m.1 (number_lacks p.x) m.2.first (h.1 ∙ m.2.whole) in
      parts_not one m.0 m.1 p.x p.y why (h.0.0, c.0) (h.0.1, c.1) m.3)
]

one_refusal : HasOneNumber → (front back : List ℕ) (why other : NumText) → IsRefused front back why → IsRefused front back other → why ≡ other
one_refusal one front back why other r s = elim r [
  | inl f ↦ elim s [ inl g ↦ one_why front why other f g | inr g ↦ absurd (number_not one front g.0 why g.1 f) ]
  | inr f ↦ elim s [ inl g ↦ absurd (number_not one front f.0 other f.1 g) | inr g ↦ one_why back why other f.2 g.2 ]
]

two_refusals : HasOneNumber → (bytes : List ℕ) (why other : NumText) → ReadsPoint bytes (Err why) → ReadsPoint bytes (Err other) → why ≡ other
two_refusals one bytes why other h k = elim h [
  | inl l ↦ elim k [ inl m ↦ l.1 ∙ sym m.1 | inr m ↦ absurd (lacks_not m.0 m.1 bytes (sym m.2.whole) l.0) ]
  | inr l ↦ elim k [
    | inl m ↦ absurd (lacks_not l.0 l.1 bytes (sym l.2.whole) m.0)
    | inr m ↦ (let c = one_comma l.0 m.0 l.1 m.1 l.2.first m.2.first (sym l.2.whole ∙ m.2.whole) in
        one_refusal one m.0 m.1 why other (let P : List ℕ → List ℕ → Type 0 = λ front back. IsRefused front back why in
        subst (λ front. P front m.1) c.0 (subst (λ back. P l.0 back) c.1 l.3)) m.3)
  ]
]

pub one_point : HasOneNumber → (bytes : List ℕ) (r s : Result ExactPoint NumText) → ReadsPoint bytes r → ReadsPoint bytes s → r ≡ s
one_point one bytes (Ok p) (Ok q) h k = ap Ok (two_points one bytes p q h k)
one_point one bytes (Ok p) (Err why) h k = absurd (point_not one bytes p why h k)
one_point one bytes (Err why) (Ok q) h k = absurd (point_not one bytes q why k h)
one_point one bytes (Err why) (Err other) h k = ap Err (two_refusals one bytes why other h k)
