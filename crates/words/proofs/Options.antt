-- Words as names of options and as values.
use Rattle.std.proofs.Common.{◌≡◌, ◌==◌, ◌<◌, ◌+◌, ℕ, suc, Bool, true, false, cond, length, get_or, List, ◌∷◌, ◌++◌, Option, Some, None, refl, sym, ap, subst, ◌∙◌, arith, codes}
use Rattle.std.proofs.lemmas.Option.{same_Some}
use Rattle.std.specs.Prelude.{nat_lt}
use Rattle.std.specs.Str.{bytes_eq}
use Rattle.std.specs.List.{before_first, after_first, position_or_len}
use Rattle.std.proofs.lemmas.List.Sums.{split_at_first, passes_at_first}
use Rattle.std.proofs.lemmas.Bool.{eqb-true, ltb-true, lt-ltb}
use Rattle.std.proofs.lemmas.List.{length-append}
use Rattle.words.specs.Grammar.{option_word, IsValue}
use Rattle.words.specs.FirstGiven.{cut_at_equals}
use Rattle.words.specs.declared.argument.Argument.{Argument}
use Rattle.words.specs.declared.argument.Argument.TheVariants as argument

-- an option by its name
by_name : List ℕ → Argument
by_name name =
    cond (bytes_eq name (codes "--d")) argument.D
    (cond (bytes_eq name (codes "--k")) argument.K
    (cond (bytes_eq name (codes "--tol")) argument.Tol
    (cond (bytes_eq name (codes "--w")) argument.W
    (cond (bytes_eq name (codes "--h")) argument.H
    (cond (bytes_eq name (codes "--connections")) argument.Connections argument.Keep)))))

by_word : Option (List ℕ) → Argument
by_word None = argument.Port
by_word (Some name) = by_name name

back : (a : Argument) → by_word (option_word a) ≡ a
unfolding by_name by_word
back argument.Port = refl
back argument.D = refl
back argument.K = refl
back argument.Tol = refl
back argument.W = refl
back argument.H = refl
back argument.Connections = refl
back argument.Keep = refl

-- the word of an option tells it
pub same_argument : (a b : Argument) → option_word a ≡ option_word b → a ≡ b
same_argument a b e = sym (back a) ∙ ap by_word e ∙ back b

-- the name of an option is no value, and nothing that begins with it is
pub no_value : (a : Argument) (name more : List ℕ) → option_word a ≡ Some name → ¬ IsValue (name ++ more)
no_value argument.Port name more e v = absurd cc
no_value argument.D name more e v = subst (λ n. IsValue (n ++ more)) (sym (same_Some _ _ e)) v refl
no_value argument.K name more e v = subst (λ n. IsValue (n ++ more)) (sym (same_Some _ _ e)) v refl
no_value argument.Tol name more e v = subst (λ n. IsValue (n ++ more)) (sym (same_Some _ _ e)) v refl
no_value argument.W name more e v = subst (λ n. IsValue (n ++ more)) (sym (same_Some _ _ e)) v refl
no_value argument.H name more e v = subst (λ n. IsValue (n ++ more)) (sym (same_Some _ _ e)) v refl
no_value argument.Connections name more e v = subst (λ n. IsValue (n ++ more)) (sym (same_Some _ _ e)) v refl
no_value argument.Keep name more e v = subst (λ n. IsValue (n ++ more)) (sym (same_Some _ _ e)) v refl

-- how the name of an option is cut, alone and with a value
pub record IsCut (name : List ℕ) : Type 0 where
  pub alone : cut_at_equals name ≡ (name, None)
  pub joined : (v : List ℕ) → cut_at_equals (name ++ (codes "=" ++ v)) ≡ (name, Some v)

pub joined_at : (name v : List ℕ) → position_or_len (λ b. b == 61) (name ++ (codes "=" ++ v)) ≡ length name
    → before_first (λ b. b == 61) (name ++ (codes "=" ++ v)) ≡ name
    → after_first (λ b. b == 61) (name ++ (codes "=" ++ v)) ≡ v
    → cut_at_equals (name ++ (codes "=" ++ v)) ≡ (name, Some v)
joined_at name v at before after =
    let n : length (name ++ (codes "=" ++ v)) ≡ length name + suc (length v) = length-append name (codes "=" ++ v) in
    let l : position_or_len (λ b. b == 61) (name ++ (codes "=" ++ v)) < length (name ++ (codes "=" ++ v)) = omega (arith, at, n) in
    rw (lt-ltb _ _ l) (ap (λ x. (x, Some (after_first (λ b. b == 61) (name ++ (codes "=" ++ v))))) before ∙ ap (λ x. (name, Some x)) after)

pub name_cut : (a : Argument) (name : List ℕ) → option_word a ≡ Some name → IsCut name
name_cut argument.Port name e = absurd cc
name_cut argument.D name e = subst IsCut (same_Some _ _ e) (record { alone = refl; joined = λ v. joined_at (codes "--d") v refl refl refl })
name_cut argument.K name e = subst IsCut (same_Some _ _ e) (record { alone = refl; joined = λ v. joined_at (codes "--k") v refl refl refl })
name_cut argument.Tol name e = subst IsCut (same_Some _ _ e) (record { alone = refl; joined = λ v. joined_at (codes "--tol") v refl refl refl })
name_cut argument.W name e = subst IsCut (same_Some _ _ e) (record { alone = refl; joined = λ v. joined_at (codes "--w") v refl refl refl })
name_cut argument.H name e = subst IsCut (same_Some _ _ e) (record { alone = refl; joined = λ v. joined_at (codes "--h") v refl refl refl })
name_cut argument.Connections name e = subst IsCut (same_Some _ _ e) (record { alone = refl; joined = λ v. joined_at (codes "--connections") v refl refl refl })
name_cut argument.Keep name e = subst IsCut (same_Some _ _ e) (record { alone = refl; joined = λ v. joined_at (codes "--keep") v refl refl refl })

-- the parts of a word, joined again, are the word
abbrev pub Joins : List ℕ × Option (List ℕ) → List ℕ → Type 0
Joins (name, None) word = word ≡ name
Joins (name, Some v) word = word ≡ name ++ (codes "=" ++ v)

split : (word : List ℕ) → position_or_len (λ b. b == 61) word < length word
    → word ≡ before_first (λ b. b == 61) word ++ (codes "=" ++ after_first (λ b. b == 61) word)
split word l =
    let e = eqb-true (get_or word (position_or_len (λ b. b == 61) word) 0) 61 (passes_at_first (λ b. b == 61) word 0 l) in
    split_at_first (λ b. b == 61) word 0 l
    ∙ ap (λ b. before_first (λ b. b == 61) word ++ (b ∷ after_first (λ b. b == 61) word)) e

pub joins : (word : List ℕ) → Joins (cut_at_equals word) word
joins word = pick (nat_lt (position_or_len (λ b. b == 61) word) (length word)) refl where
  pick : (t : Bool) → nat_lt (position_or_len (λ b. b == 61) word) (length word) ≡ t → Joins (cut_at_equals word) word
  pick true e = rw e (split word (ltb-true _ _ e))
  pick false e = rw e refl
