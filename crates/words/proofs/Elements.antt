-- Lists and their elements.
use Rattle.std.proofs.Common.{◌≡◌, ◌≢◌, ◌-◌, inl, inr, subst, length, get_or, take, drop, map, ◌≤◌, ℕ, List, [], ◌∷◌, refl, sym, ap, ◌∙◌, arith}
use Rattle.std.specs.Prelude.{Contains}
use Rattle.std.proofs.lemmas.List.{take_all}
use Rattle.chains.proofs.callers.Elements.{head_has, tail_has, has_cases}

abbrev pub head : List (List ℕ) → List ℕ
head [] = []
head (w ∷ ws) = w

abbrev pub tail : List (List ℕ) → List (List ℕ)
tail [] = []
tail (w ∷ ws) = ws

-- a list of one element or more, cut behind the first
pub cut_list : {A : Type 0} (f : A → List ℕ) (words : List A) (x : A) (word : List ℕ) → 1 ≤ length words
    → x ≡ get_or words 0 x → word ≡ f x → map f words ≡ word ∷ map f (take (length words - 1) (drop 1 words))
cut_list f [] x word l e w = absurd (omega arith)
cut_list f (y ∷ ys) x word l e w =
    ap (λ t. t ∷ map f ys) (ap f (sym e) ∙ sym w) ∙ ap (λ t. word ∷ map f t) (sym (take_all (length (y ∷ ys) - 1) ys (omega arith)))

pub no_element : {A : Type 0} (f : A → List ℕ) (xs : List A) → map f xs ≡ [] → length xs ≡ 0
no_element f [] e = refl
no_element f (x ∷ xs) e = absurd cc

pub has_behind : {A : Type 0} (xs rest : List A) (x y : A) → xs ≡ x ∷ rest → Contains rest y → Contains xs y
has_behind xs rest x y e h = subst (λ l. Contains l y) (sym e) (tail_has x y rest h)

pub not_first : {A : Type 0} (xs rest : List A) (x y : A) → xs ≡ x ∷ rest → x ≢ y → Contains xs y → Contains rest y
not_first xs rest x y e n h =
    elim (has_cases x y rest (subst (λ l. Contains l y) e h)) [ inl f ↦ absurd (n f) | inr f ↦ f ]
