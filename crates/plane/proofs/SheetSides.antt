-- Numbers against the ends of a length, and segments against the border, as the tests read them.
use Rattle.std.proofs.Common.{◌≡◌, ℕ, ◌*◌, ◌<◌, sym, ap, subst, ◌∙◌, ◌⊎◌, inl, inr, arith, Bool, IsTrue}
use Rattle.std.specs.Prelude.{◌↔◌, ℤ, pos, neg_ℤ, ◌-ℤ◌, ◌*ℤ◌}
use Rattle.std.proofs.lemmas.Int.{ints}
use Rattle.exact.specs.Number.{ExactNumber, AtMost, Positive, whole, den}
use Rattle.exact.specs.Plane.{ExactPoint, ExactSegment, IsSegment}
use Rattle.exact.proofs.Ring.{is_sub, is_neg, is_lit, is_atom, is_mul, is_eq, over_one}
use Rattle.sheet.specs.Sheet.{ExactSheet, IsSheet, OnBorder}
use Rattle.plane.specs.Corners.{AreOnSide}
use Rattle.plane.proofs.callers.Sides.{on_one_side}

zero_at_most : (x : ExactNumber) → (((x.a ≡ pos 0) × (x.b ≡ pos 0)) ⊎ Positive x.a x.b) ↔ AtMost (whole 0) x
zero_at_most x = (
  λ h. elim h [ inl z ↦ inl (record { a = none x.a (den x) z.0; b = none x.b (den x) z.1 }) | inr p ↦ inr (rw (over_one x.a (den x), over_one x.b (den x)) p) ],
  λ h. elim h [ inl s ↦ inl (back x.a (den x) s.a, back x.b (den x) s.b) | inr l ↦ inr (rw (over_one x.a (den x), over_one x.b (den x)) at l) ],
)
  where
    none : (a : ℤ) (n : ℕ) → a ≡ pos 0 → pos 0 *ℤ pos n ≡ a *ℤ pos 1
    none a n e = rw e (is_eq (is_mul (is_lit 0) (is_lit n)) (is_mul (is_lit 0) (is_lit 1)) (omega arith))

    back : (a : ℤ) (n : ℕ) → pos 0 *ℤ pos n ≡ a *ℤ pos 1 → a ≡ pos 0
    back a n e = is_eq (is_atom a) (is_mul (is_atom a) (is_lit 1)) (omega arith) ∙ sym e ∙ is_eq (is_mul (is_lit 0) (is_lit n)) (is_lit 0) (omega arith)

at_most_whole : (x : ExactNumber) (n : ℕ) → 0 < x.d → (((pos (n * x.d) -ℤ x.a ≡ pos 0) × (neg_ℤ x.b ≡ pos 0)) ⊎ Positive (pos (n * x.d) -ℤ x.a) (neg_ℤ x.b)) ↔ AtMost x (whole n)
at_most_whole x n p = rw e (
  λ h. elim h [ inl z ↦ inl (record { a = same x.a (den x) z.0; b = none x.b (den x) z.1 }) | inr l ↦ inr (rw (first x.a (den x), second x.b (den x)) l) ],
  λ h. elim h [ inl s ↦ inl (back x.a (den x) s.a, gone x.b (den x) s.b) | inr l ↦ inr (rw (first x.a (den x), second x.b (den x)) at l) ],
)
  where
    e : n * x.d ≡ n * den x
    e = (let d : x.d ≡ den x = omega (arith, p) in ap (λ (k : ℕ). n * k) d)

    first : (a : ℤ) (k : ℕ) → pos n *ℤ pos k -ℤ a *ℤ pos 1 ≡ pos (n * k) -ℤ a
    first a k = is_eq (is_sub (is_mul (is_lit n) (is_lit k)) (is_mul (is_atom a) (is_lit 1))) (is_sub (is_lit (n * k)) (is_atom a)) (omega arith)

    second : (b : ℤ) (k : ℕ) → pos 0 *ℤ pos k -ℤ b *ℤ pos 1 ≡ neg_ℤ b
    second b k = is_eq (is_sub (is_mul (is_lit 0) (is_lit k)) (is_mul (is_atom b) (is_lit 1))) (is_neg (is_atom b)) (omega arith)

    same : (a : ℤ) (k : ℕ) → pos (n * k) -ℤ a ≡ pos 0 → a *ℤ pos 1 ≡ pos n *ℤ pos k
    same a k z = is_eq (is_mul (is_atom a) (is_lit 1)) (is_atom a) (omega arith) ∙ (let f : a ≡ pos (n * k) = omega (arith, ints, z) in f) ∙ is_eq (is_lit (n * k)) (is_mul (is_lit n) (is_lit k)) (omega arith)

    none : (b : ℤ) (k : ℕ) → neg_ℤ b ≡ pos 0 → b *ℤ pos 1 ≡ pos 0 *ℤ pos k
    none b k z = is_eq (is_mul (is_atom b) (is_lit 1)) (is_atom b) (omega arith) ∙ (let f : b ≡ pos 0 = omega (arith, ints, z) in f) ∙ is_eq (is_lit 0) (is_mul (is_lit 0) (is_lit k)) (omega arith)

    back : (a : ℤ) (k : ℕ) → a *ℤ pos 1 ≡ pos n *ℤ pos k → pos (n * k) -ℤ a ≡ pos 0
    back a k s = (let f : a ≡ pos (n * k) = is_eq (is_atom a) (is_mul (is_atom a) (is_lit 1)) (omega arith) ∙ s ∙ is_eq (is_mul (is_lit n) (is_lit k)) (is_lit (n * k)) (omega arith) in omega (arith, ints, f))

    gone : (b : ℤ) (k : ℕ) → b *ℤ pos 1 ≡ pos 0 *ℤ pos k → neg_ℤ b ≡ pos 0
    gone b k s = (let f : b ≡ pos 0 = is_eq (is_atom b) (is_mul (is_atom b) (is_lit 1)) (omega arith) ∙ s ∙ is_eq (is_mul (is_lit 0) (is_lit k)) (is_lit 0) (omega arith) in omega (arith, ints, f))

pub border_told : (sheet : ExactSheet) (s : ExactSegment) (p q : ExactPoint) (b : Bool) → IsSheet sheet → IsSegment s → p ≡ s.p → q ≡ s.q → IsTrue b ↔ AreOnSide sheet p q → IsTrue b ↔ OnBorder sheet s
border_told sheet s p q b good i e f h = joined (subst (λ z. IsTrue b ↔ AreOnSide sheet s.p z) f (subst (λ z. IsTrue b ↔ AreOnSide sheet z q) e h)) (on_one_side sheet s good i)
  where
    joined : {A B C : Type 0} → A ↔ B → B ↔ C → A ↔ C
    joined f g = (λ a. g.0 (f.0 a), λ c. f.1 (g.1 c))

-- tests of a number against 0 and n
pub least_told : (x : ExactNumber) (a b : ℤ) (t : Bool) → a ≡ x.a → b ≡ x.b → IsTrue t ↔ (((a ≡ pos 0) × (b ≡ pos 0)) ⊎ Positive a b) → IsTrue t ↔ AtMost (whole 0) x
least_told x a b t e f h = (let k = zero_at_most x in let g = rw (e, f) at h in (λ s. k.0 (g.0 s), λ m. g.1 (k.1 m)))

pub most_told : (x : ExactNumber) (n : ℕ) (a b : ℤ) (t : Bool) → 0 < x.d → a ≡ pos (n * x.d) -ℤ x.a → b ≡ neg_ℤ x.b → IsTrue t ↔ (((a ≡ pos 0) × (b ≡ pos 0)) ⊎ Positive a b) → IsTrue t ↔ AtMost x (whole n)
most_told x n a b t p e f h = (let k = at_most_whole x n p in let g = rw (e, f) at h in (λ s. k.0 (g.0 s), λ m. g.1 (k.1 m)))
