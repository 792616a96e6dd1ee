-- The numbers of arguments.
use Rattle.std.proofs.Common.{◌≡◌, ◌≢◌, ℕ, ◌<◌, ◌≤◌, ◌^◌, List, Option, Some, None, refl, sym, subst, ◌∙◌, inl, inr, arith}
use Rattle.std.specs.Prelude.{AllPairs, Contains, decimal}
use Rattle.std.proofs.lemmas.Fmt.{decimal_injective}
use Rattle.std.proofs.lemmas.List.Elements.{All-contains}
use Rattle.words.specs.Grammar.{Given, giving, IsTextOf, IsNumberOf}
use Rattle.words.specs.Texts.{NumberFrom}
use Rattle.words.specs.declared.argument.Argument.{Argument}
use Rattle.words.proofs.GivenLists.{one_value}

abbrev pub AreOnce : List Given → Type 0
AreOnce given = AllPairs (λ g h. g.argument ≢ h.argument) given

-- a number that is read from the text of an argument is its number
pub number_of : (given : List Given) (a : Argument) (most usual n : ℕ) (text : Option (List ℕ)) → IsTextOf given a text
    → NumberFrom most usual text (Some n) → IsNumberOf given a most usual n
number_of given a most usual n None t h = inr (t, h)
number_of given a most usual n (Some text) t h =
    inl (subst (λ x. Contains given (giving a x)) (sym h.0) t, h.1, h.2)

-- and the number of an argument is read from its text
pub number_from : (given : List Given) (a : Argument) (most usual n : ℕ) (text : Option (List ℕ)) → AreOnce given
    → IsTextOf given a text → IsNumberOf given a most usual n → NumberFrom most usual text (Some n)
number_from given a most usual n None o t (inl i) = absurd (All-contains (λ g. a ≢ g.argument) given (giving a (decimal n)) t i.0 refl)
number_from given a most usual n None o t (inr i) = i.1
number_from given a most usual n (Some text) o t (inl i) = (one_value given a (decimal n) text o i.0 t, i.1, i.2)
number_from given a most usual n (Some text) o t (inr i) = absurd (All-contains (λ g. a ≢ g.argument) given (giving a text) i.0 t refl)

-- a text spells one number
pub one_from : (most usual n m : ℕ) (text : Option (List ℕ)) → most < 2 ^ 64 → NumberFrom most usual text (Some n)
    → NumberFrom most usual text (Some m) → n ≡ m
one_from most usual n m None l x y = x ∙ sym y
one_from most usual n m (Some text) l x y =
    let p = x.2 in
    let q = y.2 in
    decimal_injective n m (omega (arith, l, p)) (omega (arith, l, q)) (x.0 ∙ sym y.0)

pub none_from : (most usual n : ℕ) (text : Option (List ℕ)) → NumberFrom most usual text None
    → NumberFrom most usual text (Some n) → ⊥
none_from most usual n None h x = h
none_from most usual n (Some text) h x = h n x.1 x.2 x.0

pub one_number : (given : List Given) (a : Argument) (most usual n m : ℕ) → AreOnce given → most < 2 ^ 64
    → IsNumberOf given a most usual n → IsNumberOf given a most usual m → n ≡ m
one_number given a most usual n m o l (inl x) (inl y) =
    let p = x.2 in
    let q = y.2 in
    decimal_injective n m (omega (arith, l, p)) (omega (arith, l, q)) (one_value given a (decimal n) (decimal m) o x.0 y.0)
one_number given a most usual n m o l (inl x) (inr y) = absurd (All-contains (λ g. a ≢ g.argument) given (giving a (decimal n)) y.0 x.0 refl)
one_number given a most usual n m o l (inr x) (inl y) = absurd (All-contains (λ g. a ≢ g.argument) given (giving a (decimal m)) x.0 y.0 refl)
one_number given a most usual n m o l (inr x) (inr y) = x.1 ∙ sym y.1

pub in_range : (most usual n : ℕ) (text : Option (List ℕ)) → 1 ≤ usual → usual ≤ most → NumberFrom most usual text (Some n)
    → (1 ≤ n) × (n ≤ most)
in_range most usual n None l m h = (omega (arith, h, l), omega (arith, h, m))
in_range most usual n (Some text) l m h = (h.1, h.2)
