-- What digits are worth, with a cap and with zeros behind them.
use Rattle.std.proofs.Common.{◌≡◌, ℕ, zero, suc, ◌+◌, ◌-◌, ◌*◌, ◌/◌, ◌<◌, ◌≤◌, ◌^◌, inl, inr, Bool, true, false, List, [], ◌∷◌, ◌++◌, length, take, drop, min, refl, sym, subst, ap, ◌∙◌, arith, length-append}
use Rattle.std.specs.Prelude.{ℤ, pos, negsuc, ◌+ℤ◌, ◌-ℤ◌}
use Rattle.std.proofs.lemmas.Nat.{div-mul-add}
use Rattle.std.proofs.lemmas.Int.{ints}
use Rattle.std.proofs.lemmas.List.{take-append-drop, length-drop, take_all}
use Rattle.std.proofs.Math.Nat.{pow-succ', mul-le-mul_right, mul-le-mul_left}
use Rattle.std.proofs.lemmas.Bool.{cases_lt}
use Rattle.qroot2.specs.Digits.{AllDigits, value_on}
use Rattle.qroot2.proofs.callers.Splits.{digits_append}
use Rattle.decimals.specs.Decimal.{scaled, signed, cap}
use Rattle.decimals.specs.Cutting.{wanted_of}

pub ten_more : (k : ℕ) → 10 ^ suc k ≡ 10 * 10 ^ k
ten_more k = pow-succ' 10 k

pub value_append : (v : ℕ) (xs ys : List ℕ) → value_on v (xs ++ ys) ≡ value_on (value_on v xs) ys
value_append v [] ys = refl
value_append v (x ∷ xs) ys = value_append (10 * v + (x - 48)) xs ys

-- a value before the digits
pub value_behind : (v : ℕ) (ds : List ℕ) → value_on v ds ≡ v * 10 ^ length ds + value_on 0 ds
value_behind v [] = omega arith
value_behind v (d ∷ ds) =
    let a = value_behind (10 * v + (d - 48)) ds in
    let b = value_behind (10 * 0 + (d - 48)) ds in
    let t = ten_more (length ds) in
    a ∙ rw t (rw b (split v (d - 48) (10 ^ length ds) (value_on 0 ds)))
  where
    split : (v d t r : ℕ) → (10 * v + d) * t + r ≡ v * (10 * t) + ((10 * 0 + d) * t + r)
    split v d t r = omega arith

pub value_small : (ds : List ℕ) → AllDigits ds → value_on 0 ds < 10 ^ length ds
value_small [] a = omega arith
value_small (d ∷ ds) a =
    let b = value_behind (10 * 0 + (d - 48)) ds in
    let t = ten_more (length ds) in
    let s = value_small ds a.2 in
    rw t (rw b (small (d - 48) (10 ^ length ds) (value_on 0 ds) (let h = a.1 in omega arith) s))
  where
    small : (d t r : ℕ) → d < 10 → r < t → (10 * 0 + d) * t + r < 10 * t
    small d t r h s = (let m : d * t ≤ 9 * t = mul-le-mul_right t (let q : d ≤ 9 = omega arith in q) in omega (arith, m))

-- kept at the cap
pub capped_more : (v w d : ℕ) → v ≡ min w cap → min (10 * v + d) cap ≡ min (10 * w + d) cap
capped_more v w d e = rw e (omega arith)

pub ten_push : (s k : ℕ) → 10 * (s * 10 ^ k) ≡ s * 10 ^ (k + 1)
ten_push s k = moved s (10 ^ k) ∙ ap (λ t. s * t) (sym (ten_more k) ∙ ap (λ n. 10 ^ n) (let e : suc k ≡ k + 1 = omega arith in e))
  where
    moved : (s t : ℕ) → 10 * (s * t) ≡ s * (10 * t)
    moved s t = omega arith

pub capped_ten : (v s k : ℕ) → v ≡ min (s * 10 ^ k) cap → min (10 * v) cap ≡ min (s * 10 ^ (k + 1)) cap
capped_ten v s k e = grown v (s * 10 ^ k) e ∙ ap (λ t. min t cap) (ten_push s k)
  where
    grown : (v w : ℕ) → v ≡ min w cap → min (10 * v) cap ≡ min (10 * w) cap
    grown v w e = rw e (omega arith)

pow_grows : (i k : ℕ) → 10 ^ i ≤ 10 ^ (i + k)
pow_grows i zero = (let e : i + zero ≡ i = omega arith in rw e (omega arith))
pow_grows i (suc k) =
    let e : i + suc k ≡ suc (i + k) = omega arith in
    let t = ten_more (i + k) in
    let h = pow_grows i k in
    rw e (rw t (omega (arith, h)))

-- past 31 zeros each value but 0 is past the cap
past : (s t u : ℕ) → cap ≤ t → t ≤ u → min (s * t) cap ≡ min (s * u) cap
past zero t u h k = ap (λ n. min n cap) (let e : 0 * t ≡ 0 * u = omega arith in e)
past (suc s) t u h k =
    let a : suc s * t ≡ t + s * t = omega arith in
    let b : suc s * u ≡ u + s * u = omega arith in
    let p : min (suc s * t) cap ≡ cap = omega (arith, a, h) in
    let q : min (suc s * u) cap ≡ cap = omega (arith, b, h, k) in
    p ∙ sym q

pub enough_zeros : (v s zeros i end : ℕ) → v ≡ min (s * 10 ^ i) cap → end ≡ min zeros 31 → end ≤ i → i ≤ end → v ≡ min (s * 10 ^ zeros) cap
enough_zeros v s zeros i end e m n l = elim (cases_lt 31 zeros) [
  | inr h ↦ (let f : i ≡ zeros = omega arith in e ∙ ap (λ k. min (s * 10 ^ k) cap) f)
  | inl h ↦ (let f : i ≡ 31 = omega arith in
      let g : zeros ≡ 31 + (zeros - 31) = omega arith in
      e ∙ ap (λ k. min (s * 10 ^ k) cap) f ∙ past s (10 ^ 31) (10 ^ (31 + (zeros - 31))) (let d : cap ≤ 10 ^ 31 = omega arith in d) (pow_grows 31 (zeros - 31)) ∙ ap (λ k. min (s * 10 ^ k) cap) (sym g))
]

pub capped_on : (v w : ℕ) (ds : List ℕ) → min v cap ≡ min w cap → min (value_on v ds) cap ≡ min (value_on w ds) cap
capped_on v w [] e = e
capped_on v w (d ∷ ds) e = capped_on (10 * v + (d - 48)) (10 * w + (d - 48)) ds (more v w (d - 48) e)
  where
    more : (v w d : ℕ) → min v cap ≡ min w cap → min (10 * v + d) cap ≡ min (10 * w + d) cap
    more v w d e = omega (arith, e)

capped_times : (x t : ℕ) → 1 ≤ t → min (min x cap * t) cap ≡ min (x * t) cap
capped_times x t h = elim (cases_lt cap x) [
  | inr l ↦ (let e : min x cap ≡ x = omega arith in rw e refl)
  | inl g ↦ (let e : min x cap ≡ cap = omega arith in
      let a : cap * 1 ≤ cap * t = mul-le-mul_left cap h in
      let b : x * 1 ≤ x * t = mul-le-mul_left x h in
      let p : min (cap * t) cap ≡ cap = omega (arith, a) in
      let q : min (x * t) cap ≡ cap = omega (arith, b, g) in
      rw e (p ∙ sym q))
]

pub take_append : (n : ℕ) (xs ys : List ℕ) → take n (xs ++ ys) ≡ take n xs ++ take (n - length xs) ys
take_append zero xs ys = (let z : 0 - length xs ≡ 0 = omega arith in rw z refl)
take_append (suc n) [] ys = (let z : suc n - 0 ≡ suc n = omega arith in ap (λ k. take k ys) (sym z))
take_append (suc n) (x ∷ xs) ys = (let z : n - length xs ≡ suc n - suc (length xs) = omega arith in ap (λ zs. x ∷ zs) (take_append n xs ys ∙ ap (λ k. take n xs ++ take k ys) z))

pow_some : (k : ℕ) → 1 ≤ 10 ^ k
pow_some k = (let e : 0 + k ≡ k = omega arith in subst (λ n. 1 ≤ 10 ^ n) e (pow_grows 0 k))

-- without the last m digits
pub value_front : (ds : List ℕ) (m : ℕ) → AllDigits ds → value_on 0 (take (length ds - m) ds) ≡ value_on 0 ds / 10 ^ m
value_front ds m a = elim (cases_lt (length ds) m) [
  | inr h ↦ (let n : ℕ = length ds - m in
      let front : List ℕ = take n ds in
      let back : List ℕ = drop n ds in
      let l : length back ≡ m = length-drop n ds ∙ omega arith in
      let e : value_on 0 ds ≡ value_on 0 front * 10 ^ m + value_on 0 back =
      ap (value_on 0) (sym (take-append-drop n ds)) ∙ value_append 0 front back ∙ value_behind (value_on 0 front) back ∙ ap (λ k. value_on 0 front * 10 ^ k + value_on 0 back) l in
      let s : value_on 0 back < 10 ^ m = subst (λ k. value_on 0 back < 10 ^ k) l (value_small back (digits_drop n ds a)) in
      sym (ap (λ v. v / 10 ^ m) e ∙ div-mul-add (value_on 0 front) (10 ^ m) (value_on 0 back) s))
  | inl h ↦ (let z : length ds - m ≡ 0 = omega arith in
      let g : m ≡ length ds + (m - length ds) = omega arith in
      let p : 10 ^ length ds ≤ 10 ^ m = subst (λ k. 10 ^ length ds ≤ 10 ^ k) (sym g) (pow_grows (length ds) (m - length ds)) in
      let s : value_on 0 ds < 10 ^ m = (let v = value_small ds a in omega (arith, v, p)) in
      ap (λ k. value_on 0 (take k ds)) z ∙ sym (ap (λ n. n / 10 ^ m) (nothing (10 ^ m) (value_on 0 ds)) ∙ div-mul-add 0 (10 ^ m) (value_on 0 ds) s))
]
  where
    nothing : (t r : ℕ) → r ≡ 0 * t + r
    nothing t r = omega arith

    digits_drop : (n : ℕ) (ds : List ℕ) → AllDigits ds → AllDigits (drop n ds)
    digits_drop zero ds a = a
    digits_drop (suc n) [] a = tt
    digits_drop (suc n) (d ∷ ds) a = digits_drop n ds a.2

-- w digits of so many are those of a value shifted by k digits
abbrev IsShift : ℕ → ℤ → ℕ → Type 0
IsShift long (pos k) w = w ≡ long + k
IsShift long (negsuc k) w = w ≡ long - suc k

shift_of : (before behind : ℕ) (minus : Bool) (size : ℕ) (k : ℤ) → k ≡ (signed minus size +ℤ pos 12) -ℤ pos behind → IsShift (before + behind) k (wanted_of before minus size)
shift_of before behind false size (pos k) e = omega (arith, ints)
shift_of before behind false size (negsuc k) e = omega (arith, ints)
shift_of before behind true zero (pos k) e = omega (arith, ints)
shift_of before behind true zero (negsuc k) e = omega (arith, ints)
shift_of before behind true (suc size) (pos k) e = omega (arith, ints)
shift_of before behind true (suc size) (negsuc k) e = omega (arith, ints)

value_shifted : (ds : List ℕ) (k : ℤ) (w : ℕ) → AllDigits ds → IsShift (length ds) k w → value_on 0 (take w ds) * 10 ^ (w - length ds) ≡ scaled (value_on 0 ds) k
value_shifted ds (pos k) w a e =
    let l : w - length ds ≡ k = omega arith in
    let t : take w ds ≡ ds = take_all w ds (omega arith) in
    rw (l, t) refl
value_shifted ds (negsuc k) w a e =
    let l : w - length ds ≡ 0 = omega arith in
    ap (λ n. value_on 0 (take w ds) * 10 ^ n) l ∙ (once (value_on 0 (take w ds)) ∙ ap (λ n. value_on 0 (take n ds)) e ∙ value_front ds (suc k) a)
  where
    once : (n : ℕ) → n * 10 ^ 0 ≡ n
    once n = omega arith

-- what the digits are worth that count units of 10^-12 and above
pub size_of : (before behind : List ℕ) (minus : Bool) (size w more first second : ℕ) → AllDigits before → AllDigits behind → w ≡ wanted_of (length before) minus size → more ≡ w - length before
    → first ≡ min (value_on 0 (take w before)) cap → second ≡ min (value_on first (take more behind)) cap
    → min (second * 10 ^ (more - length behind)) cap ≡ min (scaled (value_on 0 (before ++ behind)) ((signed minus size +ℤ pos 12) -ℤ pos (length behind))) cap
size_of before behind minus size w more first second a b e m f s =
    let ds : List ℕ = before ++ behind in
    let l : length ds ≡ length before + length behind = length-append before behind in
    let v : value_on (value_on 0 (take w before)) (take more behind) ≡ value_on 0 (take w ds) =
    sym (ap (value_on 0) (take_append w before behind ∙ ap (λ n. take w before ++ take n behind) (sym m)) ∙ value_append 0 (take w before) (take more behind)) in
    let t : second ≡ min (value_on 0 (take w ds)) cap = s ∙ capped_on first (value_on 0 (take w before)) (take more behind) (let g : min first cap ≡ min (value_on 0 (take w before)) cap = omega (arith, f) in g) ∙ ap (λ n. min n cap) v in
    let n : more - length behind ≡ w - length ds = omega arith in
    let h : IsShift (length ds) ((signed minus size +ℤ pos 12) -ℤ pos (length behind)) w =
    subst (λ k. IsShift k ((signed minus size +ℤ pos 12) -ℤ pos (length behind)) w) (sym l)
    (subst (IsShift (length before + length behind) ((signed minus size +ℤ pos 12) -ℤ pos (length behind))) (sym e) (shift_of (length before) (length behind) minus size _ refl)) in
    rw (t, n) (capped_times (value_on 0 (take w ds)) (10 ^ (w - length ds)) (pow_some (w - length ds)))
    ∙ ap (λ k. min k cap) (value_shifted ds _ w (digits_append before behind a b) h)

pub digits_take : (n : ℕ) (ds : List ℕ) → AllDigits ds → AllDigits (take n ds)
digits_take zero ds a = tt
digits_take (suc n) [] a = tt
digits_take (suc n) (d ∷ ds) a = (a.0, a.1, digits_take n ds a.2)
