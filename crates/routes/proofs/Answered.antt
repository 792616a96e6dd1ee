-- Answers that take memory, told in other words, and the parts of a text.
use Rattle.std.proofs.Common.{◌≡◌, ◌∙◌, ◌-◌, ◌≤◌, ℕ, refl, sym, ap, List, [], ◌∷◌, Option, Some, None, unwrap_or, arith, length, take, drop}
use Rattle.std.specs.Prelude.{IfOk, MatchOption, Result, Ok, Err, slice_index_or, codes}
use Rattle.std.proofs.lemmas.List.{take_all}
use Rattle.serde_json.specs.Data.{Data, unsigned, number, string}
use Rattle.serde_json.specs.Find.{get}
use Rattle.routes.specs.Edits.{GivesRev, Says}

pub mapped : {A E : Type 0} (items : A → List ℕ) (P Q : List ℕ → Type 0) → ((t : List ℕ) → P t → Q t) → ((t : List ℕ) → Q t → P t) → (r : Result (Option A) E)
    → IfOk r (λ o. MatchOption o ((t : List ℕ) → ¬ P t) (λ a. P (items a))) → IfOk r (λ o. MatchOption o ((t : List ℕ) → ¬ Q t) (λ a. Q (items a)))
mapped items P Q f g (Ok None) h = λ t q. h t (g t q)
mapped items P Q f g (Ok (Some a)) h = f (items a) h
mapped items P Q f g (Err e) h = tt

-- the first elements of a text
pub head_tail : (text : List ℕ) → 1 ≤ length text → text ≡ slice_index_or text 0 0 ∷ take (length text - 1) (drop 1 text)
head_tail [] l = absurd (omega (arith, l))
head_tail (x ∷ xs) l = ap (λ t. x ∷ t) (sym (take_all (length (x ∷ xs) - 1) xs (omega arith)))

pub two_heads : (text : List ℕ) → 2 ≤ length text → text ≡ slice_index_or text 0 0 ∷ slice_index_or text 1 0 ∷ take (length text - 2) (drop 2 text)
two_heads [] l = absurd (omega (arith, l))
two_heads (x ∷ []) l = absurd (omega (arith, l))
two_heads (x ∷ y ∷ xs) l = ap (λ t. x ∷ y ∷ t) (sym (take_all (length (x ∷ y ∷ xs) - 2) xs (omega arith)))

-- a text is one value
pub same_value : (d e : Data) → Some d ≡ Some e → d ≡ e
same_value d e h = ap (λ o. unwrap_or o d) h

-- an object says one thing
same_command : (c d : List ℕ) → Some (string c) ≡ Some (string d) → c ≡ d
same_command c d e = cc

same_rev : (m : Option Data) (r s : Option ℕ) → GivesRev m r → GivesRev m s → r ≡ s
same_rev m None None f g = refl
same_rev m None (Some s) f g = absurd (let e = sym f ∙ g.0 in cc)
same_rev m (Some r) None f g = absurd (let e = sym f.0 ∙ g in cc)
same_rev m (Some r) (Some s) f g = ap (λ n. Some n) (number_of (sym f.0 ∙ g.0)) where
  number_of : Some (number (unsigned r)) ≡ Some (number (unsigned s)) → r ≡ s
  number_of e = cc

pub one_says : (value : Data) (c d : List ℕ) (r s : Option ℕ) → Says value c r → Says value d s → (c ≡ d) × (r ≡ s)
one_says value c d r s f g = (same_command c d (sym f.commands ∙ g.commands), same_rev (get (codes "rev") value) r s f.gives g.gives)

-- an answer that gives nothing
pub none_of : {A : Type 0} (items : A → List ℕ) (P : List ℕ → Type 0) (o : Option A) → o ≡ None → MatchOption o ((t : List ℕ) → ¬ P t) (λ a. P (items a)) → (t : List ℕ) → ¬ P t
none_of items P None e h = h
none_of items P (Some a) e h = absurd (let f = e in cc)
