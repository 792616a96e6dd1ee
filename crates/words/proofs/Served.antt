-- What `clap` finds for each command.
use Rattle.std.proofs.Common.{◌≡◌, ◌∙◌, ◌==◌, ◌<◌, ◌≤◌, ◌^◌, ℕ, Bool, true, false, cond, refl, sym, ap, subst, codes, List, [], ◌∷◌, Option, Some, fold, length, get_or, arith, lit<}
use Rattle.std.proofs.lemmas.Fmt.{decimal_is_IsNumeral, decimal_nonempty}
use Rattle.std.proofs.lemmas.Str.Parse.{digit_at}
use Rattle.std.specs.Prelude.{All, decimal}
use Rattle.std.proofs.lemmas.List.Elements.{All-nil, All-cons, All-head, All-tail}
use Rattle.clap.specs.Words.{Rule, Row, first_of, matches_of}
use Rattle.clap.specs.Walk.{with_default, has_row}
use Rattle.clap.proofs.OnLiterals.{clap_on_literals}
use Rattle.words.specs.Grammar.{IsTextOf, IsValue}
use Rattle.words.specs.Words.{check_arguments, script_arguments, serve_arguments, AreForGenerate}
use Rattle.words.specs.Texts.{SpellsUpTo, SpellGenerate, AreTwo}
use Rattle.words.specs.Apps.{name_of, check_app, script_app, serve_app, generate_app}
use Rattle.words.specs.declared.argument.Argument.{Argument}
use Rattle.words.specs.declared.argument.Argument.TheVariants as argument
use Rattle.words.proofs.Spelled.{GivenBy}
use Rattle.words.proofs.Walks.{ruled, placed}
use Rattle.words.proofs.Serving.{IsServed, Serves, text_found, not_hyphen}

same_if : {A : Type 0} (b : Bool) (x : A) → cond b x x ≡ x
same_if true x = refl
same_if false x = refl

abbrev HasNoDefault : Rule → Type 0
HasNoDefault r = (rows : List Row) → with_default rows r ≡ rows

no_defaults : (c : List Rule) → All HasNoDefault c → (rows : List Row) → fold with_default rows c ≡ rows
no_defaults [] n rows = refl
no_defaults (r ∷ c) n rows =
    ap (λ x. fold with_default x c) (All-head HasNoDefault r c n rows) ∙ no_defaults c (All-tail HasNoDefault r c n) rows

option_default : (n : List ℕ) → HasNoDefault (ruled n)
option_default n rows = same_if (has_row n rows) rows

word_default : (n : List ℕ) → HasNoDefault (placed n)
word_default n rows = same_if (has_row n rows) rows

abbrev check_rules : List Rule
check_rules = ruled (codes "d") ∷ ruled (codes "k") ∷ ruled (codes "tol") ∷ ruled (codes "w") ∷ ruled (codes "h") ∷ []

check_serves : Serves check_rules check_arguments
check_serves = record {
  served = All-cons (IsServed check_rules) argument.D (argument.K ∷ argument.Tol ∷ argument.W ∷ argument.H ∷ []) (refl, refl)
      (All-cons (IsServed check_rules) argument.K (argument.Tol ∷ argument.W ∷ argument.H ∷ []) (refl, refl)
      (All-cons (IsServed check_rules) argument.Tol (argument.W ∷ argument.H ∷ []) (refl, refl)
      (All-cons (IsServed check_rules) argument.W (argument.H ∷ []) (refl, refl)
      (All-cons (IsServed check_rules) argument.H [] (refl, refl)
      (All-nil (IsServed check_rules))))));
  defaults = no_defaults check_rules
      (All-cons HasNoDefault (ruled (codes "d")) ((ruled (codes "k")) ∷ (ruled (codes "tol")) ∷ (ruled (codes "w")) ∷ (ruled (codes "h")) ∷ []) (option_default (codes "d"))
      (All-cons HasNoDefault (ruled (codes "k")) ((ruled (codes "tol")) ∷ (ruled (codes "w")) ∷ (ruled (codes "h")) ∷ []) (option_default (codes "k"))
      (All-cons HasNoDefault (ruled (codes "tol")) ((ruled (codes "w")) ∷ (ruled (codes "h")) ∷ []) (option_default (codes "tol"))
      (All-cons HasNoDefault (ruled (codes "w")) ((ruled (codes "h")) ∷ []) (option_default (codes "w"))
      (All-cons HasNoDefault (ruled (codes "h")) [] (option_default (codes "h"))
      (All-nil HasNoDefault))))));
}

pub check_found : (words : List (List ℕ)) (a : Argument) (text : Option (List ℕ))
    → text ≡ first_of (name_of a) (matches_of check_app words) → GivenBy check_arguments words a text
check_found words a text e given g =
    subst (IsTextOf given a) (sym e) (text_found check_rules check_arguments given words a check_serves g)

abbrev script_rules : List Rule
script_rules = ruled (codes "keep") ∷ []

script_serves : Serves script_rules script_arguments
script_serves = record {
  served = All-cons (IsServed script_rules) argument.Keep [] (refl, refl)
      (All-nil (IsServed script_rules));
  defaults = no_defaults script_rules
      (All-cons HasNoDefault (ruled (codes "keep")) [] (option_default (codes "keep"))
      (All-nil HasNoDefault));
}

pub script_found : (words : List (List ℕ)) (a : Argument) (text : Option (List ℕ))
    → text ≡ first_of (name_of a) (matches_of script_app words) → GivenBy script_arguments words a text
script_found words a text e given g =
    subst (IsTextOf given a) (sym e) (text_found script_rules script_arguments given words a script_serves g)

abbrev serve_rules : List Rule
serve_rules = placed (codes "port") ∷ ruled (codes "connections") ∷ ruled (codes "keep") ∷ []

serve_serves : Serves serve_rules serve_arguments
serve_serves = record {
  served = All-cons (IsServed serve_rules) argument.Port (argument.Connections ∷ argument.Keep ∷ []) (refl, refl)
      (All-cons (IsServed serve_rules) argument.Connections (argument.Keep ∷ []) (refl, refl)
      (All-cons (IsServed serve_rules) argument.Keep [] (refl, refl)
      (All-nil (IsServed serve_rules))));
  defaults = no_defaults serve_rules
      (All-cons HasNoDefault (placed (codes "port")) ((ruled (codes "connections")) ∷ (ruled (codes "keep")) ∷ []) (word_default (codes "port"))
      (All-cons HasNoDefault (ruled (codes "connections")) ((ruled (codes "keep")) ∷ []) (option_default (codes "connections"))
      (All-cons HasNoDefault (ruled (codes "keep")) [] (option_default (codes "keep"))
      (All-nil HasNoDefault))));
}

pub serve_found : (words : List (List ℕ)) (a : Argument) (text : Option (List ℕ))
    → text ≡ first_of (name_of a) (matches_of serve_app words) → GivenBy serve_arguments words a text
serve_found words a text e given g =
    subst (IsTextOf given a) (sym e) (text_found serve_rules serve_arguments given words a serve_serves g)

-- the two words of `generate`
first_word : (x y : ℕ) (xs ys : List ℕ) → (x == 45) ≡ false → (y == 45) ≡ false
    → first_of (codes "seed") (matches_of generate_app ((x ∷ xs) ∷ (y ∷ ys) ∷ [])) ≡ Some (x ∷ xs)
unfolding clap_on_literals
first_word x y xs ys h k = simp (h, k) refl

second_word : (x y : ℕ) (xs ys : List ℕ) → (x == 45) ≡ false → (y == 45) ≡ false
    → first_of (codes "count") (matches_of generate_app ((x ∷ xs) ∷ (y ∷ ys) ∷ [])) ≡ Some (y ∷ ys)
unfolding clap_on_literals
second_word x y xs ys h k = simp (h, k) refl

seed_found : (v w : List ℕ) → IsValue v → IsValue w → first_of (codes "seed") (matches_of generate_app (v ∷ w ∷ [])) ≡ Some v
seed_found [] w p q = absurd p
seed_found (x ∷ xs) [] p q = absurd q
seed_found (x ∷ xs) (y ∷ ys) p q = first_word x y xs ys (not_hyphen x p) (not_hyphen y q)

count_found : (v w : List ℕ) → IsValue v → IsValue w → first_of (codes "count") (matches_of generate_app (v ∷ w ∷ [])) ≡ Some w
count_found [] w p q = absurd p
count_found (x ∷ xs) [] p q = absurd q
count_found (x ∷ xs) (y ∷ ys) p q = second_word x y xs ys (not_hyphen x p) (not_hyphen y q)

-- the text of a number is a value
digit_first : (bytes : List ℕ) → 0 < length bytes → 48 ≤ get_or bytes 0 0 → IsValue bytes
digit_first [] l k = absurd (omega arith)
digit_first (b ∷ bs) l k = λ e. omega (arith, k, e)

value_decimal : (n : ℕ) → n < 2 ^ 64 → IsValue (decimal n)
value_decimal n h =
    let d = decimal_is_IsNumeral n h in
    digit_first (decimal n) (decimal_nonempty n h) (digit_at (decimal n) 0 d.0.1 (decimal_nonempty n h)).0

count_fits : (n : ℕ) → n ≤ 100000 → n < 2 ^ 64
count_fits n h = (let f : 100000 < 2 ^ 64 = lit< tt in omega (arith, h, f))

pub generate_are_two : (words : List (List ℕ)) (s n : ℕ) → AreForGenerate words s n → AreTwo words
generate_are_two words s n a =
    subst AreTwo (sym a.are) (value_decimal s a.seed_fits, value_decimal n (count_fits n a.count_small))

pub generate_given : (words : List (List ℕ)) (seed count : Option (List ℕ)) (s n : ℕ) → AreTwo words
    → seed ≡ first_of (codes "seed") (matches_of generate_app words)
    → count ≡ first_of (codes "count") (matches_of generate_app words)
    → SpellGenerate seed count s n → AreForGenerate words s n
generate_given [] seed count s n t e f g = absurd t
generate_given (v ∷ []) seed count s n t e f g = absurd t
generate_given (v ∷ w ∷ []) seed count s n t e f g =
    let a = subst (λ x. SpellsUpTo 18446744073709551615 x s) (e ∙ seed_found v w t.0 t.1) g.at_seed in
    let b = subst (λ x. SpellsUpTo 100000 x n) (f ∙ count_found v w t.0 t.1) g.at_count in
    let top : 18446744073709551615 < 2 ^ 64 = lit< tt in
    let p = a.0 in
    record {
      are = ap (λ x. x ∷ w ∷ []) (sym a.1) ∙ ap (λ x. decimal s ∷ x ∷ []) (sym b.1);
      seed_fits = omega (arith, p, top);
      count_small = b.0;
    }
generate_given (v ∷ w ∷ u ∷ words) seed count s n t e f g = absurd t

pub generate_spelled : (words : List (List ℕ)) (seed count : Option (List ℕ)) (s n : ℕ)
    → seed ≡ first_of (codes "seed") (matches_of generate_app words)
    → count ≡ first_of (codes "count") (matches_of generate_app words)
    → AreForGenerate words s n → SpellGenerate seed count s n
generate_spelled words seed count s n e f a =
    let p = value_decimal s a.seed_fits in
    let q = value_decimal n (count_fits n a.count_small) in
    let top : 2 ^ 64 ≡ 18446744073709551616 = refl in
    let l = a.seed_fits in
    record {
      at_seed = subst (λ x. SpellsUpTo 18446744073709551615 x s) (sym (e ∙ ap (λ ws. first_of (codes "seed") (matches_of generate_app ws)) a.are ∙ seed_found (decimal s) (decimal n) p q)) (omega (arith, l, top), refl);
      at_count = subst (λ x. SpellsUpTo 100000 x n) (sym (f ∙ ap (λ ws. first_of (codes "count") (matches_of generate_app ws)) a.are ∙ count_found (decimal s) (decimal n) p q)) (a.count_small, refl);
    }
