-- What a ray meets of sides and creases, one after another.
use Rattle.std.proofs.Common.{◌≡◌, ℕ, ◌+◌, ◌<◌, ◌≤◌, List, [], ◌∷◌, ◌++◌, length, get_or, take, refl, sym, subst, ◌∙◌, ap, inl, inr, arith}
use Rattle.std.specs.Prelude.{Contains}
use Rattle.std.proofs.lemmas.List.{take_more, take_all}
use Rattle.std.proofs.lemmas.List.Elements.{Contains-append_left, Contains-append_right, Contains-push_cases}
use Rattle.exact.specs.Plane.{ExactPoint, ExactSegment}
use Rattle.sheet.specs.Sheet.{sides}
use Rattle.sheet.specs.Pattern.{ExactCrease, ExactPattern}
use Rattle.edits.specs.Drafts.{with_creases}
use Rattle.edits.specs.SidesAndCreases.{IsSideOrCrease}
use Rattle.edits.specs.Sights.{Sees, AreBoth}
use Rattle.edits.specs.declared.sight.Sight.{Sight}
use Rattle.edits.proofs.extensions.OneSegment.{IsIt}
use Rattle.edits.proofs.extensions.Together.{Or, both_see, see_as}

last : {X : Type 0} (xs : List X) (x : X) → Contains (xs ++ x ∷ []) x
last xs x = Contains-append_right xs (x ∷ []) x (0, omega arith, refl)

see_pushed : (start : ExactPoint) (k : ℕ) (xs : List ExactSegment) (s : ExactSegment) (x y z : Sight) → k < 16 → Sees start k (Contains xs) x → Sees start k (IsIt s) y → AreBoth k x y z → Sees start k (Contains (xs ++ s ∷ [])) z
see_pushed start k xs s x y z small h l b = see_as start k (Or (Contains xs) (IsIt s)) (Contains (xs ++ s ∷ [])) z
    (λ t o. elim o [ inl c ↦ Contains-append_left xs (s ∷ []) t c | inr e ↦ subst (Contains (xs ++ s ∷ [])) (sym e) (last xs s) ])
    (λ t c. elim (Contains-push_cases xs s t c) [ inl d ↦ inl d | inr e ↦ inr (sym e) ])
    (both_see start k (Contains xs) (IsIt s) x y z small h l b)

-- one more of a list
pub see_more : (start : ExactPoint) (k : ℕ) (xs : List ExactSegment) (i : ℕ) (s : ExactSegment) (x y z : Sight) → k < 16 → i < length xs → s ≡ get_or xs i s → Sees start k (Contains (take i xs)) x → Sees start k (IsIt s) y → AreBoth k x y z → Sees start k (Contains (take (i + 1) xs)) z
see_more start k xs i s x y z small within e h l b = subst (λ (ys : List ExactSegment). Sees start k (Contains ys) z) (ap (λ t. take i xs ++ t ∷ []) e ∙ sym (take_more xs i s within)) (see_pushed start k (take i xs) s x y z small h l b)

pub see_all : (start : ExactPoint) (k : ℕ) (xs : List ExactSegment) (i : ℕ) (x : Sight) → length xs ≤ i → Sees start k (Contains (take i xs)) x → Sees start k (Contains xs) x
see_all start k xs i x n h = subst (λ (ys : List ExactSegment). Sees start k (Contains ys) x) (take_all i xs n) h

-- no crease yet
pub see_sides : (pattern : ExactPattern) (start : ExactPoint) (k : ℕ) (x : Sight) → Sees start k (Contains (sides pattern.sheet)) x → Sees start k (IsSideOrCrease (with_creases pattern [])) x
see_sides pattern start k x h = see_as start k (Contains (sides pattern.sheet)) (IsSideOrCrease (with_creases pattern [])) x (λ s c. inl c) (λ s o. elim o [ inl c ↦ c | inr n ↦ absurd (none n.1) ]) h
  where
    none : {f : ExactCrease} → Contains [] f → ⊥
    none c = omega (arith, c.1)

-- one more crease
pub see_crease : (pattern : ExactPattern) (start : ExactPoint) (k : ℕ) (creases : List ExactCrease) (f : ExactCrease) (x y z : Sight) → k < 16 → Sees start k (IsSideOrCrease (with_creases pattern creases)) x → Sees start k (IsIt f.seg) y → AreBoth k x y z → Sees start k (IsSideOrCrease (with_creases pattern (creases ++ f ∷ []))) z
see_crease pattern start k creases f x y z small h l b = see_as start k (Or (IsSideOrCrease (with_creases pattern creases)) (IsIt f.seg)) (IsSideOrCrease (with_creases pattern (creases ++ f ∷ []))) z into from
    (both_see start k (IsSideOrCrease (with_creases pattern creases)) (IsIt f.seg) x y z small h l b)
  where
    into : (t : ExactSegment) → Or (IsSideOrCrease (with_creases pattern creases)) (IsIt f.seg) t → IsSideOrCrease (with_creases pattern (creases ++ f ∷ [])) t
    into t (inl (inl c)) = inl c
    into t (inl (inr g)) = inr (g.0, Contains-append_left creases (f ∷ []) g.0 g.1, g.2)
    into t (inr e) = inr (f, last creases f, sym e)

    from : (t : ExactSegment) → IsSideOrCrease (with_creases pattern (creases ++ f ∷ [])) t → Or (IsSideOrCrease (with_creases pattern creases)) (IsIt f.seg) t
    from t (inl c) = inl (inl c)
    from t (inr g) = elim (Contains-push_cases creases f g.0 g.1) [
      | inl c ↦ inl (inr (g.0, c, g.2))
      | inr e ↦ inr (sym g.2 ∙ ap (λ (h : ExactCrease). h.seg) (sym e))
    ]
