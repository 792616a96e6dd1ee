-- Tests of the code for zero and for equal numbers.
use Rattle.std.proofs.Common.{◌≡◌, ℕ, ◌≤◌, ◌^◌, Bool, true, false, IsTrue, arith, refl, sym, ap, subst, ◌∙◌, eqb, int_eq}
use Rattle.std.specs.Prelude.{ℤ, pos, negsuc, unsigned_abs, ◌↔◌, ◌&&◌}
use Rattle.std.specs.Int.{cast_unsigned, w128}
use Rattle.std.proofs.lemmas.Bool.{eqb-true, eq-eqb}
use Rattle.std.proofs.lemmas.Int.{ints}
use Rattle.exact.specs.Number.{ExactNumber, Same, IsCanonical}
use Rattle.exact.specs.Plane.{ExactPoint, vector}
use Rattle.exact.proofs.Unique.{unique, triple}
use Rattle.qroot2.specs.Wide.{Pair}
use Rattle.geometry.specs.Root.{Root, count}
use Rattle.geometry.specs.Gap.{cross, gx, gy}
use Rattle.geometry.proofs.RootRing.{both}
use Rattle.plane.specs.Ways.{root, offset_of, IsAlong}

zero_bits : (z : ℤ) → unsigned_abs z ≤ 2 ^ 120 → cast_unsigned w128 z ≡ 0 → z ≡ pos 0
zero_bits (pos n) h e = ap pos e
zero_bits (negsuc n) h e = absurd (omega (arith, ints, h, e))

-- the first part is zero, and the second is tested
pub along_told : (off : Pair) (k : ℕ) (x y : Root) (a b : ℤ) → root off ≡ offset_of k x y → a ≡ off.a → b ≡ off.b → unsigned_abs a ≤ 2 ^ 120 → unsigned_abs b ≤ 2 ^ 120
    → cast_unsigned w128 a ≡ 0 → IsTrue (eqb (cast_unsigned w128 b) 0) ↔ IsAlong k x y
unfolding count
along_told off k x y a b e f g h i z = (
  λ t. sym e ∙ both (root off) _ (sym f ∙ zero_bits a h z) (sym g ∙ zero_bits b i (eqb-true _ 0 t)),
  λ s. eq-eqb (cast_unsigned w128 b) 0 (ap (cast_unsigned w128) (g ∙ ap (λ (r : Root). r.b) (e ∙ s))),
)

-- the first part is not zero
pub not_along : (off : Pair) (k : ℕ) (x y : Root) (a : ℤ) → root off ≡ offset_of k x y → a ≡ off.a → (cast_unsigned w128 a ≡ 0 → ⊥) → IsTrue (eqb (cast_unsigned w128 a) 0) ↔ IsAlong k x y
unfolding count
not_along off k x y a e f n = (λ t. absurd (n (eqb-true _ 0 t)), λ s. absurd (n (ap (cast_unsigned w128) (f ∙ ap (λ (r : Root). r.a) (e ∙ s)))))

pub offset_cross : (k : ℕ) (p r : ExactPoint) (x y : Root) → x ≡ gx p r → y ≡ gy p r → offset_of k x y ≡ cross (vector k) p r
unfolding cross
offset_cross k p r x y e f = rw (e, f) refl

-- the fields of two numbers are equal
pub fields_told : (x y : ExactNumber) (b : Bool) → b ≡ (int_eq x.a y.a && (int_eq x.b y.b && eqb x.d y.d)) → IsTrue b ↔ (x ≡ y)
fields_told x y b e = (
  λ t. triple x.a y.a x.b y.b x.d y.d (first x.a y.a _ (sym e ∙ t)) (first x.b y.b _ (rest _ _ (sym e ∙ t))) (eqb-true x.d y.d (rest _ _ (rest _ _ (sym e ∙ t)))),
  λ s. e ∙ itself x y s,
)
  where
    rest : (a b : Bool) → (a && b) ≡ true → b ≡ true
    rest true b h = h
    rest false b h = absurd (cc)

    first : (a b : ℤ) (r : Bool) → (int_eq a b && r) ≡ true → a ≡ b
    first a b r h = grind (arith, ints)

    one : (a : ℤ) → int_eq a a ≡ true
    one a = grind (arith, ints)

    itself : (x y : ExactNumber) → x ≡ y → (int_eq x.a y.a && (int_eq x.b y.b && eqb x.d y.d)) ≡ true
    itself x y e = subst (λ z. (int_eq x.a z.a && (int_eq x.b z.b && eqb x.d z.d)) ≡ true) e (rw (one x.a, one x.b) (eq-eqb x.d x.d refl))

pub same_told : (x y : ExactNumber) (b : Bool) → IsCanonical x → IsCanonical y → IsTrue b ↔ (x ≡ y) → IsTrue b ↔ Same x y
same_told x y b p q f = (λ t. subst (λ z. Same x z) (f.0 t) (record { a = refl; b = refl }), λ s. f.1 (unique x y p q s))
