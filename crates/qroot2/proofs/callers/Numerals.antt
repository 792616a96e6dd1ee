-- Digit strings: what each is worth, and that each number has one.
use Rattle.std.proofs.Common.{◌≡◌, ◌≢◌, ℕ, zero, suc, ◌+◌, ◌-◌, ◌*◌, ◌/◌, ◌%◌, ◌<◌, ◌≤◌, List, [], ◌∷◌, ◌++◌, length, get_or, Bool, true, false, arith, refl, sym, subst, ap, ◌∙◌, inl, inr, append_assoc}
use Rattle.std.specs.Prelude.{nat_lt}
use Rattle.std.proofs.lemmas.Nat.{div-add-mod'}
use Rattle.std.proofs.lemmas.List.{append-nil, length_push}
use Rattle.std.proofs.lemmas.Bool.{cases_lt}
use Rattle.std.proofs.lemmas.Bool.Decides.{nat_tests}
use Rattle.qroot2.specs.Text.{numeral_by, numeral}
use Rattle.qroot2.specs.Digits.{AllDigits, IsNumeral, value_on}

pub value_push : (v : ℕ) (ds : List ℕ) (c : ℕ) → value_on v (ds ++ c ∷ []) ≡ 10 * value_on v ds + (c - 48)
value_push v [] c = refl
value_push v (d ∷ ds) c = value_push (10 * v + (d - 48)) ds c

pub digits_push : (ds : List ℕ) (c : ℕ) → AllDigits ds → 48 ≤ c → c ≤ 57 → AllDigits (ds ++ c ∷ [])
digits_push [] c a l h = (l, h, tt)
digits_push (d ∷ ds) c a l h = (a.0, a.1, digits_push ds c a.2 l h)

less : (n : ℕ) → n < 10 → nat_lt n 10 ≡ true
less n h = grind (arith, nat_tests)

more : (n : ℕ) → 10 ≤ n → nat_lt n 10 ≡ false
more n h = grind (arith, nat_tests)

pub by_small : (f n : ℕ) → n < 10 → numeral_by (suc f) n ≡ (48 + n) ∷ []
unfolding numeral_by
by_small f n h = subst (λ (b : Bool). let ds : List ℕ = elim b as (λ _. List ℕ) [ true ↦ (48 + n) ∷ [] | false ↦ numeral_by f (n / 10) ++ (48 + n % 10) ∷ [] ] in ds ≡ (48 + n) ∷ []) (sym (less n h)) refl

pub by_more : (f n : ℕ) → 10 ≤ n → numeral_by (suc f) n ≡ numeral_by f (n / 10) ++ (48 + n % 10) ∷ []
unfolding numeral_by
by_more f n h = subst (λ (b : Bool). let ds : List ℕ = elim b as (λ _. List ℕ) [ true ↦ (48 + n) ∷ [] | false ↦ numeral_by f (n / 10) ++ (48 + n % 10) ∷ [] ] in ds ≡ numeral_by f (n / 10) ++ (48 + n % 10) ∷ []) (sym (more n h)) refl

-- any fuel above the number is enough
by_enough : (f g n : ℕ) → n < f → n < g → numeral_by f n ≡ numeral_by g n
by_enough zero g n p q = absurd (omega arith)
by_enough (suc f) zero n p q = absurd (omega arith)
by_enough (suc f) (suc g) n p q = elim (cases_lt n 10) [
  | inl h ↦ by_small f n h ∙ sym (by_small g n h)
  | inr h ↦ by_more f n h ∙ ap (λ ds. ds ++ (48 + n % 10) ∷ []) (by_enough f g (n / 10) (omega arith) (omega arith)) ∙ sym (by_more g n h)
]

pub numeral_small : (n : ℕ) → n < 10 → numeral n ≡ (48 + n) ∷ []
unfolding numeral
numeral_small n h = by_small n n h

pub numeral_more : (n : ℕ) → 10 ≤ n → numeral n ≡ numeral (n / 10) ++ (48 + n % 10) ∷ []
unfolding numeral
numeral_more n h = by_more n n h ∙ ap (λ ds. ds ++ (48 + n % 10) ∷ []) (by_enough n (suc (n / 10)) (n / 10) (omega arith) (omega arith))

-- a digit more
pub numeral_digit : (v d : ℕ) → 0 < v → d < 10 → numeral (10 * v + d) ≡ numeral v ++ (48 + d) ∷ []
numeral_digit v d p h =
    let q : (10 * v + d) / 10 ≡ v = omega arith in
    let r : (10 * v + d) % 10 ≡ d = omega arith in
    numeral_more (10 * v + d) (omega arith) ∙ rw (q, r) refl

pub numeral_on : (v : ℕ) (ds : List ℕ) → 0 < v → AllDigits ds → numeral (value_on v ds) ≡ numeral v ++ ds
numeral_on v [] p a = sym (append-nil (numeral v))
numeral_on v (c ∷ cs) p a =
    let back : 48 + (c - 48) ≡ c = omega arith in
    numeral_on (10 * v + (c - 48)) cs (omega arith) a.2
    ∙ ap (λ ds. ds ++ cs) (numeral_digit v (c - 48) p (omega arith) ∙ ap (λ x. numeral v ++ x ∷ []) back)
    ∙ append_assoc (numeral v) (c ∷ []) cs

-- what is a digit string is that of its value
pub numeral_value : (ds : List ℕ) → IsNumeral ds → numeral (value_on 0 ds) ≡ ds
numeral_value [] h = absurd (omega (arith, h.some))
numeral_value (c ∷ cs) h = elim (cases_lt 48 c) [
  | inl g ↦ (let back : 48 + (c - 48) ≡ c = omega arith in
      ap (λ v. numeral (value_on v cs)) (none c) ∙ numeral_on (c - 48) cs (omega arith) h.digits.2 ∙ ap (λ ds. ds ++ cs) (numeral_small (c - 48) (omega (arith, h.digits.1)) ∙ ap (λ x. x ∷ []) back))
  | inr g ↦ (let e : c ≡ 48 = omega (arith, h.digits.0) in alone c cs e (h.lead e))
]
  where
    none : (c : ℕ) → 10 * 0 + (c - 48) ≡ c - 48
    none c = omega arith

    alone : (c : ℕ) (cs : List ℕ) → c ≡ 48 → suc (length cs) ≡ 1 → numeral (value_on 0 (c ∷ cs)) ≡ c ∷ cs
    alone c [] e l = subst (λ (x : ℕ). numeral (value_on 0 (x ∷ [])) ≡ x ∷ []) (sym e) (numeral_small 0 (omega arith))
    alone c (d ∷ ds) e l = absurd (omega arith)

-- all that is to be known of a number's digits, by fuel
record Shows (n : ℕ) (ds : List ℕ) : Type 0 where
  digits : AllDigits ds
  some : 0 < length ds
  value : value_on 0 ds ≡ n
  lead : 0 < n → get_or ds 0 0 ≢ 48
  alone : n ≡ 0 → length ds ≡ 1

shows_small : (n : ℕ) → n < 10 → Shows n ((48 + n) ∷ [])
shows_small n h = record { digits = (omega arith, omega arith, tt); some = omega arith; value = omega arith; lead = λ p e. omega arith; alone = λ e. refl }

first_push : (ds : List ℕ) (c : ℕ) → 0 < length ds → get_or (ds ++ c ∷ []) 0 0 ≡ get_or ds 0 0
first_push [] c h = absurd (omega arith)
first_push (d ∷ ds) c h = refl

shows_push : (n : ℕ) (ds : List ℕ) → 10 ≤ n → Shows (n / 10) ds → Shows n (ds ++ (48 + n % 10) ∷ [])
shows_push n ds h s =
    record {
      digits = digits_push ds (48 + n % 10) s.digits (omega arith) (omega arith);
      some = omega (arith, length_push ds (48 + n % 10));
      value = value_push 0 ds (48 + n % 10) ∙ whole (value_on 0 ds) n s.value;
      lead = λ p e. s.lead (omega arith) (sym (first_push ds (48 + n % 10) s.some) ∙ e);
      alone = λ e. absurd (omega arith);
    }
  where
    whole : (v n : ℕ) → v ≡ n / 10 → 10 * v + (48 + n % 10 - 48) ≡ n
    whole v n e = omega (arith, div-add-mod' n 10)

shows_by : (f n : ℕ) → n < f → Shows n (numeral_by f n)
shows_by zero n p = absurd (omega arith)
shows_by (suc f) n p = elim (cases_lt n 10) [
  | inl h ↦ subst (λ ds. Shows n ds) (sym (by_small f n h)) (shows_small n h)
  | inr h ↦ subst (λ ds. Shows n ds) (sym (by_more f n h)) (shows_push n (numeral_by f (n / 10)) h (shows_by f (n / 10) (omega arith)))
]

shows : (n : ℕ) → Shows n (numeral n)
unfolding numeral
shows n = shows_by (suc n) n (omega arith)

pub value_numeral : (n : ℕ) → value_on 0 (numeral n) ≡ n
value_numeral n = (shows n).value

pub numeral_is : (n : ℕ) → IsNumeral (numeral n)
numeral_is n = record { digits = (shows n).digits; some = (shows n).some; lead = λ e. elim (cases_lt 0 n) [ inl p ↦ absurd ((shows n).lead p e) | inr z ↦ (shows n).alone (omega arith) ] }

pub numeral_injective : (m n : ℕ) → numeral m ≡ numeral n → m ≡ n
numeral_injective m n e = sym (value_numeral m) ∙ ap (λ ds. value_on 0 ds) e ∙ value_numeral n
