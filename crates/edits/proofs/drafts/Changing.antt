-- What a delta between two lists of creases tells of them.
use Rattle.std.proofs.Common.{◌≡◌, List, [], ◌∷◌, refl, subst, inl, inr, arith}
use Rattle.std.specs.Prelude.{Contains}
use Rattle.sheet.specs.Pattern.{ExactCrease}
use Rattle.creases.specs.Creases.{Ascends}
use Rattle.creases.proofs.callers.Members.{has_or_not, same_list}
use Rattle.pattern.specs.Deltas.{IsWithout}

pub none_in : (f : ExactCrease) → ¬ Contains [] f
none_in f h = absurd (omega (arith, h.1))

all_in : (xs ys : List ExactCrease) → IsWithout xs ys [] → (f : ExactCrease) → Contains xs f → Contains ys f
all_in xs ys h f m = elim (has_or_not ys f) [ inl k ↦ k | inr n ↦ absurd (none_in f ((h.members f).1 (m, n))) ]

-- nothing leaves and nothing comes: the lists are one
pub unchanged : (old new removed added : List ExactCrease) → Ascends old → Ascends new → IsWithout old new removed → IsWithout new old added → removed ≡ [] → added ≡ [] → new ≡ old
unchanged old new removed added a b h k e f =
    same_list new old b a (all_in new old (subst (λ zs. IsWithout new old zs) f k)) (all_in old new (subst (λ zs. IsWithout old new zs) e h))

pub empty : (xs : List ExactCrease) → ((f : ExactCrease) → ¬ Contains xs f) → xs ≡ []
empty [] h = refl
empty (x ∷ xs) h = absurd (h x (0, omega (arith), refl))

-- a list has nothing that it has not
pub nothing_without : (xs ys only : List ExactCrease) → xs ≡ ys → IsWithout xs ys only → only ≡ []
nothing_without xs ys only e h = empty only (λ f m. (let k = (h.members f).0 m in k.1 (subst (λ zs. Contains zs f) e k.0)))
