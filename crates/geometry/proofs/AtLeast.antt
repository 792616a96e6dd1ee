-- Numbers that are at least zero, and sums of them.
use Rattle.std.proofs.Common.{◌≡◌, [], ◌∷◌, refl, sym, ap, subst, ◌∙◌, ◌⊎◌, inl, inr}
use Rattle.geometry.specs.Root.{Root, plus, times, minus, count, Above}
use Rattle.geometry.proofs.RootRing.{plus_zero}
use Rattle.geometry.proofs.Solve.{at, add, mul, opp, solve, zero_plus, none}
use Rattle.geometry.proofs.Domain.{above_plus, above_times, above_not_minus, above_not_zero}
use Rattle.geometry.proofs.Gap.{above_right, out_right, in_right}

-- above zero, or zero
abbrev pub AtLeast : Root → Type 0
AtLeast x = Above x ⊎ (x ≡ count 0)

pub not_below_zero : (f : Root) → f ≡ count 0 → ¬ Above (minus f)
not_below_zero f e h = above_not_zero (subst Above (ap minus e ∙ solve [] (opp none) none refl) h)

pub not_above_zero : (f : Root) → f ≡ count 0 → ¬ Above f
not_above_zero f e h = above_not_zero (subst Above e h)

pub least_plus : (x y : Root) → AtLeast x → AtLeast y → AtLeast (plus x y)
least_plus x y (inl a) (inl b) = inl (above_plus x y a b)
least_plus x y (inl a) (inr b) = inl (subst Above (sym (ap (plus x) b ∙ plus_zero x)) a)
least_plus x y (inr a) k = subst AtLeast (sym (ap (λ z. plus z y) a ∙ zero_plus y)) k

pub least_times : (x w : Root) → Above w → AtLeast x → AtLeast (times x w)
least_times x w h (inl a) = inl (above_times x w a h)
least_times x w h (inr e) = inr (in_right x w e)

pub least_right : (x w : Root) → Above w → AtLeast (times x w) → AtLeast x
least_right x w h (inl a) = inl (above_right x w h a)
least_right x w h (inr e) = inr (out_right x w h e)

pub not_below : (x : Root) → AtLeast x → ¬ Above (minus x)
not_below x (inl a) b = above_not_minus x a b
not_below x (inr e) b = not_below_zero x e b

-- x is y and d, but for factors above zero
pub record Weighed (x y d : Root) : Type 0 where
  pub A : Root
  pub B : Root
  pub C : Root
  pub a : Above A
  pub b : Above B
  pub c : Above C
  pub sum : times x A ≡ plus (times y B) (times d C)

-- the sum of both is above zero where one is, and the other at least zero
pub up_first : (x y d : Root) → Weighed x y d → Above y → AtLeast d → Above x
up_first x y d w h k = above_right x w.A w.a (subst Above (sym w.sum) (elim k [
  | inl p ↦ above_plus (times y w.B) (times d w.C) (above_times y w.B h w.b) (above_times d w.C p w.c)
  | inr z ↦ subst Above (sym (ap (plus (times y w.B)) (in_right d w.C z) ∙ plus_zero (times y w.B))) (above_times y w.B h w.b)
]))

pub up_second : (x y d : Root) → Weighed x y d → AtLeast y → Above d → Above x
up_second x y d w h k = above_right x w.A w.a (subst Above (sym w.sum) (elim h [
  | inl p ↦ above_plus (times y w.B) (times d w.C) (above_times y w.B p w.b) (above_times d w.C k w.c)
  | inr z ↦ subst Above (sym (ap (λ t. plus t (times d w.C)) (in_right y w.B z) ∙ zero_plus (times d w.C))) (above_times d w.C k w.c)
]))

pub up_both : (x y d : Root) → Weighed x y d → AtLeast y → AtLeast d → AtLeast x
up_both x y d w h k = elim h [
  | inl p ↦ inl (up_first x y d w p k)
  | inr z ↦ elim k [
    | inl q ↦ inl (up_second x y d w (inr z) q)
    | inr n ↦ inr (out_right x w.A w.a (w.sum ∙ ap (λ t. plus t (times d w.C)) (in_right y w.B z) ∙ ap (plus (count 0)) (in_right d w.C n) ∙ plus_zero (count 0)))
  ]
]

-- the other way round
pub turned : (x y d : Root) → Weighed x y d → Weighed y x (minus d)
turned x y d w = record {
  A = w.B;
  B = w.A;
  C = w.C;
  a = w.b;
  b = w.a;
  c = w.c;
  sum =
      solve (times y w.B ∷ d ∷ w.C ∷ []) (at 0) (add (add (at 0) (mul (at 1) (at 2))) (mul (opp (at 1)) (at 2))) refl
      ∙ ap (λ t. plus t (times (minus d) w.C)) (sym w.sum);
}
