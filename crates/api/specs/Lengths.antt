-- The fields of a head that speak of the body (RFC 9112, section 6).
use Rattle.std.specs.Prelude.{◌≡◌, ℕ, ◌≤◌, List, [], ◌∷◌, length, take, map, filter, Bool, All, Contains}
use Rattle.std.specs.Prelude.{codes}
use Rattle.std.specs.Str.{str_eq_ignore_ascii_case}
use Rattle.std.specs.Str.Parse.{IsNumeral, digits_value}

-- a body has at most so many bytes
abbrev pub body_limit : ℕ
body_limit = 4194304

-- names of fields are compared without regard to the case of ASCII letters
abbrev pub is_named : List ℕ → List ℕ × List ℕ → Bool
is_named name field = str_eq_ignore_ascii_case field.0 name

-- the values of all fields of this name
abbrev pub values : List ℕ → List (List ℕ × List ℕ) → List (List ℕ)
values name fields = map (λ field. field.1) (filter (is_named name) fields)

abbrev pub codings : List (List ℕ × List ℕ) → List (List ℕ)
codings fields = values (codes "transfer-encoding") fields

abbrev pub lengths : List (List ℕ × List ℕ) → List (List ℕ)
lengths fields = values (codes "content-length") fields

-- each is a digit string, where leading zeros are allowed, and no two differ
pub record AreLengths (texts : List (List ℕ)) : Type 0 where
  pub numerals : All (IsNumeral 10) texts
  pub same : (a b : List ℕ) → Contains texts a → Contains texts b → a ≡ b

-- at most twenty digits, and a number within the limit
pub record IsSmall (digits : List ℕ) : Type 0 where
  pub few : length digits ≤ 20
  pub small : digits_value 10 digits ≤ body_limit

-- the length that the fields give; without one there is no body
abbrev pub body_length : List (List ℕ) → ℕ
body_length [] = 0
body_length (digits ∷ more) = digits_value 10 digits

-- the body that so many bytes behind the head are
abbrev pub body : List (List ℕ × List ℕ) → List ℕ → List ℕ
body fields behind = take (body_length (lengths fields)) behind
