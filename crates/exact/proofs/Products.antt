-- The product of two numbers above zero is above zero.
use Rattle.std.proofs.Common.{◌≡◌, ℕ, zero, suc, ◌+◌, ◌-◌, ◌*◌, ◌<◌, arith, sym, ◌∙◌, inl, inr}
use Rattle.std.specs.Prelude.{ℤ, pos, negsuc, neg_ℤ, ◌+ℤ◌, ◌*ℤ◌}
use Rattle.std.proofs.lemmas.Int.{ints}
use Rattle.exact.specs.Number.{Positive}
use Rattle.exact.proofs.Ring.{is_add, is_neg, is_lit, is_atom, is_mul, is_eq}
use Rattle.exact.proofs.Root.{side}
use Rattle.exact.proofs.Positive.{moved, positive_sum, scaled, exclusive, zero_not, from_high, from_low}

-- √2 times a number above zero
pub root_times : (a b : ℤ) → Positive a b → Positive (pos 2 *ℤ b) a
root_times (pos p) (pos q) h = elim h [
  | inl x ↦ inl (omega (arith, ints), omega (arith, ints), omega (arith, ints, x.2))
  | inr y ↦ elim y [ inl x ↦ absurd (omega (arith, ints, x.1)) | inr x ↦ absurd (omega (arith, ints, x.0)) ]
]
root_times (pos p) (negsuc q) h = elim h [
  | inl x ↦ absurd (omega (arith, ints, x.1))
  | inr y ↦ elim y [ inl x ↦ from_low (2 * suc q) p (omega arith) (let big : 2 * (suc q * suc q) < p * p = omega (arith, ints, x.2) in omega (arith, big)) | inr x ↦ absurd (omega (arith, ints, x.0)) ]
]
root_times (negsuc p) (pos q) h = elim h [
  | inl x ↦ absurd (omega (arith, ints, x.0))
  | inr y ↦ elim y [ inl x ↦ absurd (omega (arith, ints, x.0)) | inr x ↦ from_high (2 * q) (suc p) (omega arith) (let big : suc p * suc p < 2 * (q * q) = omega (arith, ints, x.2) in omega (arith, big)) ]
]
root_times (negsuc p) (negsuc q) h = elim h [
  | inl x ↦ absurd (omega (arith, ints, x.0))
  | inr y ↦ elim y [ inl x ↦ absurd (omega (arith, ints, x.0)) | inr x ↦ absurd (omega (arith, ints, x.1)) ]
]

-- the parts of a product
abbrev pub whole_part : ℤ → ℤ → ℤ → ℤ → ℤ
whole_part a b c d = a *ℤ c +ℤ pos 2 *ℤ (b *ℤ d)

abbrev pub root_part : ℤ → ℤ → ℤ → ℤ → ℤ
root_part a b c d = a *ℤ d +ℤ b *ℤ c

-- by p + q √2 with p and q not below zero
whole_times : (p q : ℕ) (c d : ℤ) → 0 < p + q → Positive c d → Positive (whole_part (pos p) (pos q) c d) (root_part (pos p) (pos q) c d)
whole_times zero zero c d h k = absurd (omega arith)
whole_times zero (suc q) c d h k =
    let C = is_atom c in let D = is_atom d in let Q = is_lit (suc q) in let O = is_lit 0 in let two = is_lit 2 in
    moved _ _ _ _
    (is_eq (is_add (is_mul O C) (is_mul two (is_mul Q D))) (is_mul (is_mul two D) Q) (omega arith))
    (is_eq (is_add (is_mul O D) (is_mul Q C)) (is_mul C Q) (omega arith))
    (scaled (pos 2 *ℤ d) c (suc q) (omega arith) (root_times c d k))
whole_times (suc p) zero c d h k =
    let C = is_atom c in let D = is_atom d in let P = is_lit (suc p) in let O = is_lit 0 in let two = is_lit 2 in
    moved _ _ _ _
    (is_eq (is_add (is_mul P C) (is_mul two (is_mul O D))) (is_mul C P) (omega arith))
    (is_eq (is_add (is_mul P D) (is_mul O C)) (is_mul D P) (omega arith))
    (scaled c d (suc p) (omega arith) k)
whole_times (suc p) (suc q) c d h k =
    let C = is_atom c in let D = is_atom d in let P = is_lit (suc p) in let Q = is_lit (suc q) in let two = is_lit 2 in
    moved _ _ _ _
    (is_eq (is_add (is_mul P C) (is_mul two (is_mul Q D))) (is_add (is_mul C P) (is_mul (is_mul two D) Q)) (omega arith))
    (is_eq (is_add (is_mul P D) (is_mul Q C)) (is_add (is_mul D P) (is_mul C Q)) (omega arith))
    (positive_sum (c *ℤ pos (suc p)) (d *ℤ pos (suc p)) ((pos 2 *ℤ d) *ℤ pos (suc q)) (c *ℤ pos (suc q)) (scaled c d (suc p) (omega arith) k) (scaled (pos 2 *ℤ d) c (suc q) (omega arith) (root_times c d k)))

regroup_whole : (e f a b c d : ℤ) → whole_part e f (whole_part a b c d) (root_part a b c d) ≡ whole_part (whole_part e f a b) (root_part e f a b) c d
regroup_whole e f a b c d =
    let E = is_atom e in let F = is_atom f in let A = is_atom a in let B = is_atom b in let C = is_atom c in let D = is_atom d in let two = is_lit 2 in
    is_eq (is_add (is_mul E (is_add (is_mul A C) (is_mul two (is_mul B D)))) (is_mul two (is_mul F (is_add (is_mul A D) (is_mul B C)))))
    (is_add (is_mul (is_add (is_mul E A) (is_mul two (is_mul F B))) C) (is_mul two (is_mul (is_add (is_mul E B) (is_mul F A)) D)))
    (omega arith)

regroup_root : (e f a b c d : ℤ) → root_part e f (whole_part a b c d) (root_part a b c d) ≡ root_part (whole_part e f a b) (root_part e f a b) c d
regroup_root e f a b c d =
    let E = is_atom e in let F = is_atom f in let A = is_atom a in let B = is_atom b in let C = is_atom c in let D = is_atom d in let two = is_lit 2 in
    is_eq (is_add (is_mul E (is_add (is_mul A D) (is_mul B C))) (is_mul F (is_add (is_mul A C) (is_mul two (is_mul B D)))))
    (is_add (is_mul (is_add (is_mul E A) (is_mul two (is_mul F B))) D) (is_mul (is_add (is_mul E B) (is_mul F A)) C))
    (omega arith)

-- n times y, and a product with a negative
by_whole : (n : ℕ) (c d : ℤ) → (whole_part (pos n) (pos 0) c d ≡ c *ℤ pos n) × (root_part (pos n) (pos 0) c d ≡ d *ℤ pos n)
by_whole n c d =
    let C = is_atom c in let D = is_atom d in let N = is_lit n in let O = is_lit 0 in
    (is_eq (is_add (is_mul N C) (is_mul (is_lit 2) (is_mul O D))) (is_mul C N) (omega arith), is_eq (is_add (is_mul N D) (is_mul O C)) (is_mul D N) (omega arith))

turned_whole : (e f u v : ℤ) → whole_part e f (neg_ℤ u) (neg_ℤ v) ≡ neg_ℤ (whole_part e f u v)
turned_whole e f u v =
    let E = is_atom e in let F = is_atom f in let U = is_atom u in let V = is_atom v in
    is_eq (is_add (is_mul E (is_neg U)) (is_mul (is_lit 2) (is_mul F (is_neg V)))) (is_neg (is_add (is_mul E U) (is_mul (is_lit 2) (is_mul F V)))) (omega arith)

turned_root : (e f u v : ℤ) → root_part e f (neg_ℤ u) (neg_ℤ v) ≡ neg_ℤ (root_part e f u v)
turned_root e f u v =
    let E = is_atom e in let F = is_atom f in let U = is_atom u in let V = is_atom v in
    is_eq (is_add (is_mul E (is_neg V)) (is_mul F (is_neg U))) (is_neg (is_add (is_mul E V) (is_mul F U))) (omega arith)

none_whole : (e f : ℤ) → whole_part e f (pos 0) (pos 0) ≡ pos 0
none_whole e f = is_eq (is_add (is_mul (is_atom e) (is_lit 0)) (is_mul (is_lit 2) (is_mul (is_atom f) (is_lit 0)))) (is_lit 0) (omega arith)

none_root : (e f : ℤ) → root_part e f (pos 0) (pos 0) ≡ pos 0
none_root e f = is_eq (is_add (is_mul (is_atom e) (is_lit 0)) (is_mul (is_atom f) (is_lit 0))) (is_lit 0) (omega arith)

-- e + f √2 times a + b √2 is the whole number n above zero, and e + f √2 keeps what is above zero
by_conjugate : (a b e f c d : ℤ) (n : ℕ) → 0 < n → whole_part e f a b ≡ pos n → root_part e f a b ≡ pos 0 → ((u v : ℤ) → Positive u v → Positive (whole_part e f u v) (root_part e f u v)) → Positive c d → Positive (whole_part a b c d) (root_part a b c d)
by_conjugate a b e f c d n p g h keeps k = elim (side (whole_part a b c d) (root_part a b c d)) [
  | inl ok ↦ ok
  | inr s ↦ elim s [
    | inl z ↦ absurd (zero_not (moved (pos 0) (whole_part e f (whole_part a b c d) (root_part a b c d)) (pos 0) (root_part e f (whole_part a b c d) (root_part a b c d)) (sym (rw (z.0, z.1) (none_whole e f))) (sym (rw (z.0, z.1) (none_root e f))) whole))
    | inr low ↦ absurd (exclusive _ _ whole (moved _ _ _ _ (sym (turned_whole e f (whole_part a b c d) (root_part a b c d))) (sym (turned_root e f (whole_part a b c d) (root_part a b c d))) (keeps _ _ low)))
  ]
]
  where
    whole : Positive (whole_part e f (whole_part a b c d) (root_part a b c d)) (root_part e f (whole_part a b c d) (root_part a b c d))
    whole = moved _ _ _ _ (regroup_whole e f a b c d ∙ rw (g, h) (by_whole n c d).0) (regroup_root e f a b c d ∙ rw (g, h) (by_whole n c d).1) (scaled c d n p k)

pub positive_product : (a b c d : ℤ) → Positive a b → Positive c d → Positive (whole_part a b c d) (root_part a b c d)
positive_product (pos p) (pos q) c d h k = whole_times p q c d (elim h [
  | inl x ↦ omega (arith, ints, x.2)
  | inr y ↦ elim y [ inl x ↦ absurd (omega (arith, ints, x.1)) | inr x ↦ absurd (omega (arith, ints, x.0)) ]
]) k
positive_product (pos p) (negsuc s) c d h k = elim h [
  | inl x ↦ absurd (omega (arith, ints, x.1))
  | inr y ↦ elim y [
    | inl x ↦ (let big : 2 * (suc s * suc s) < p * p = omega (arith, ints, x.2) in by_conjugate (pos p) (negsuc s) (pos p) (pos (suc s)) c d (p * p - 2 * (suc s * suc s)) (omega arith) (omega (arith, ints)) (omega (arith, ints)) (λ u v a. whole_times p (suc s) u v (omega arith) a) k)
    | inr x ↦ absurd (omega (arith, ints, x.0))
  ]
]
positive_product (negsuc r) (pos q) c d h k = elim h [
  | inl x ↦ absurd (omega (arith, ints, x.0))
  | inr y ↦ elim y [
    | inl x ↦ absurd (omega (arith, ints, x.0))
    | inr x ↦ (let big : suc r * suc r < 2 * (q * q) = omega (arith, ints, x.2) in by_conjugate (negsuc r) (pos q) (pos (suc r)) (pos q) c d (2 * (q * q) - suc r * suc r) (omega arith) (omega (arith, ints)) (omega (arith, ints)) (λ u v a. whole_times (suc r) q u v (omega arith) a) k)
  ]
]
positive_product (negsuc r) (negsuc s) c d h k = elim h [
  | inl x ↦ absurd (omega (arith, ints, x.0))
  | inr y ↦ elim y [ inl x ↦ absurd (omega (arith, ints, x.0)) | inr x ↦ absurd (omega (arith, ints, x.1)) ]
]
