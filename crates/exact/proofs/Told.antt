-- What the comparison of values tells, and that the order is strict and of values alone.
use Rattle.std.proofs.Common.{◌≡◌, refl, sym, ◌∙◌, inl, inr}
use Rattle.std.specs.Prelude.{Option, Some, IfSome}
use Rattle.std.specs.declared.cmp.Ordering.{Ordering}
use Rattle.std.specs.declared.cmp.Ordering.TheVariants as o
use Rattle.exact.specs.Number.{ExactNumber, Less, Same}
use Rattle.exact.specs.Order.{real_cmp, IsAnswer, Tells}
use Rattle.exact.proofs.Unique.{same_trans}
use Rattle.exact.proofs.Order.{linear, real_less, real_equal, real_greater, same_turned, less_moved, above_moved}

pub less_not_same : (x y : ExactNumber) → Less x y → Same x y → ⊥
less_not_same x y h s = let e = real_less x y h in let f = real_equal x y s in absurd (cc)

pub less_not_back : (x y : ExactNumber) → Less x y → Less y x → ⊥
less_not_back x y h k = let e = real_less x y h in let f = real_greater x y k in absurd (cc)

pub same_itself : (x : ExactNumber) → Same x x
same_itself x = record { a = refl; b = refl }

pub same_on : (x y z : ExactNumber) → Same x y → Same y z → Same x z
same_on x y z s t = same_trans y x z (same_turned x y s) t

pub less_values : (x y z w : ExactNumber) → Same x y → Same z w → Less x z → Less y w
less_values x y z w s t h = above_moved z w y t (less_moved x y z s h)

answered : (x y : ExactNumber) (other : Ordering) → IsAnswer other x y → other ≡ real_cmp x y
answered x y o.Less h = sym (real_less x y h)
answered x y o.Equal h = sym (real_equal x y h)
answered x y o.Greater h = sym (real_greater x y h)

pub tells : (x y : ExactNumber) → Tells (real_cmp x y) x y
tells x y = elim (linear x y) [
  | inl h ↦ rw (real_less x y h) (record { holds = h; alone = λ other a. answered x y other a ∙ real_less x y h })
  | inr k ↦ elim k [
    | inl s ↦ rw (real_equal x y s) (record { holds = s; alone = λ other a. answered x y other a ∙ real_equal x y s })
    | inr h ↦ rw (real_greater x y h) (record { holds = h; alone = λ other a. answered x y other a ∙ real_greater x y h })
  ]
]

-- what is said of a number that may be there
pub some_tells : (P : ExactNumber → Type 0) (o : Option ExactNumber) (x : ExactNumber) → o ≡ Some x → IfSome o P → P x
some_tells P o x e h = rw e at h
