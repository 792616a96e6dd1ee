-- Whether a side or a crease runs along a ray, tested one after another.
use Rattle.std.proofs.Common.{◌≡◌, ℕ, ◌+◌, ◌<◌, ◌≤◌, List, [], ◌∷◌, ◌++◌, length, get_or, take, refl, sym, subst, ◌∙◌, ap, inl, inr, arith}
use Rattle.std.specs.Prelude.{Contains}
use Rattle.std.proofs.lemmas.List.{take_more, take_all}
use Rattle.std.proofs.lemmas.List.Elements.{Contains-append_right, Contains-push_cases}
use Rattle.exact.specs.Plane.{ExactPoint, ExactSegment}
use Rattle.sheet.specs.Pattern.{ExactCrease}
use Rattle.geometry.specs.Rays.{RunsAlong}
use Rattle.edits.specs.SidesAndCreases.{IsCrease}

-- none of these runs along the ray
abbrev pub None : (ExactSegment → Type 0) → ExactPoint → ℕ → Type 0
None P start k = (s : ExactSegment) → P s → ¬ RunsAlong start k s

pub none_more : (start : ExactPoint) (k : ℕ) (xs : List ExactSegment) (i : ℕ) (s : ExactSegment) → i < length xs → s ≡ get_or xs i s → None (Contains (take i xs)) start k → ¬ RunsAlong start k s → None (Contains (take (i + 1) xs)) start k
none_more start k xs i s within e none n t c = elim (Contains-push_cases (take i xs) (get_or xs i s) t (subst (λ (ys : List ExactSegment). Contains ys t) (take_more xs i s within) c)) [
  | inl d ↦ none t d
  | inr f ↦ (λ runs. n (subst (RunsAlong start k) (sym (e ∙ f)) runs))
]

pub none_of_all : (start : ExactPoint) (k : ℕ) (xs : List ExactSegment) (i : ℕ) → length xs ≤ i → None (Contains (take i xs)) start k → None (Contains xs) start k
none_of_all start k xs i n none = subst (λ (ys : List ExactSegment). None (Contains ys) start k) (take_all i xs n) none

pub some_here : (start : ExactPoint) (k : ℕ) (xs : List ExactSegment) (i : ℕ) (s : ExactSegment) → i < length xs → s ≡ get_or xs i s → RunsAlong start k s → (t : ExactSegment) × Contains xs t × RunsAlong start k t
some_here start k xs i s within e runs = (s, (i, within, sym e), runs)

pub no_crease : (start : ExactPoint) (k : ℕ) → None (IsCrease []) start k
no_crease start k s c = absurd (omega (arith, c.1.1))

pub none_pushed : (start : ExactPoint) (k : ℕ) (creases : List ExactCrease) (f : ExactCrease) → None (IsCrease creases) start k → ¬ RunsAlong start k f.seg → None (IsCrease (creases ++ f ∷ [])) start k
none_pushed start k creases f none n s c = elim (Contains-push_cases creases f c.0 c.1) [
  | inl d ↦ none s (c.0, d, c.2)
  | inr e ↦ (λ runs. n (subst (RunsAlong start k) (sym (ap (λ (g : ExactCrease). g.seg) e ∙ c.2)) runs))
]

pub some_crease : (start : ExactPoint) (k : ℕ) (whole done rest next : List ExactCrease) (f : ExactCrease) → done ++ rest ≡ whole → rest ≡ f ∷ next → RunsAlong start k f.seg → (s : ExactSegment) × IsCrease whole s × RunsAlong start k s
some_crease start k whole done rest next f e g runs = (f.seg, (f, subst (λ (xs : List ExactCrease). Contains xs f) (ap (λ (xs : List ExactCrease). done ++ xs) (sym g) ∙ e) (Contains-append_right done (f ∷ next) f (0, omega arith, refl)), refl), runs)
