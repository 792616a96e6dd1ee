-- The values of the fields of a name, and what holds of them with one more.
use Rattle.std.proofs.Common.{◌≡◌, ◌≢◌, ◌∙◌, ℕ, ◌+◌, ◌^◌, ◌≤◌, ◌<◌, Bool, true, cond, List, [], ◌∷◌, ◌++◌, length, take, drop, map, get_or, take-append-drop, sym, ap, refl, arith}
use Rattle.std.specs.Prelude.{All, Contains, filter}
use Rattle.std.specs.Str.Parse.{IsNumeral, AllDigits, digits_value}
use Rattle.std.specs.Int.{IsInRange}
use Rattle.std.proofs.lemmas.List.{map-append, map_more}
use Rattle.std.proofs.lemmas.List.Elements.{All-push, All-weaker, All-contains, All-contains_itself, Contains-append_left, Contains-push, filter-append}
use Rattle.std.proofs.lemmas.Str.Parse.{IsNumeralModel, numerals_by_value, tells_by_index, digits_value_short}
use Rattle.vocabulary.proofs.callers.Digits.{by_value}
use Rattle.httparse.specs.Spans.{header_bytes}
use Rattle.httparse.specs.declared.spans.HeaderSpan.{HeaderSpan}
use Rattle.api.specs.Lengths.{is_named, values, AreLengths}
use Rattle.api.specs.Fields.{pairs}

pub such_field : (name : List ℕ) (fields : List (List ℕ × List ℕ)) (field : List ℕ × List ℕ) → is_named name field ≡ true
    → values name (fields ++ field ∷ []) ≡ values name fields ++ field.1 ∷ []
such_field name fields field e =
    ap (λ fs. map (λ f. f.1) fs) (filter-append (is_named name) fields (field ∷ []) ∙ ap (λ fs. filter (is_named name) fields ++ fs) (alone (is_named name field) e))
    ∙ map-append (λ f. f.1) (filter (is_named name) fields) (field ∷ []) where
      alone : (b : Bool) → b ≡ true → cond b (field ∷ []) [] ≡ field ∷ []
      alone b h = ap (λ x. cond x (field ∷ []) []) h

all_left : (P : List ℕ → Type 0) (xs ys : List (List ℕ)) → All P (xs ++ ys) → All P xs
all_left P xs ys all = All-weaker (Contains xs) P (λ x c. All-contains P (xs ++ ys) x all (Contains-append_left xs ys x c)) xs (All-contains_itself xs)

pub wrong_more : (texts more : List (List ℕ)) → ¬ AreLengths texts → ¬ AreLengths (texts ++ more)
wrong_more texts more wrong are = wrong (record {
  numerals = all_left (IsNumeral 10) texts more are.numerals;
  same = λ a b x y. are.same a b (Contains-append_left texts more a x) (Contains-append_left texts more b y);
})

pub differ : (texts : List (List ℕ)) (digits value : List ℕ) → texts ≢ [] → All (λ text. text ≡ digits) texts → digits ≢ value
    → ¬ AreLengths (texts ++ value ∷ [])
differ [] digits value some all other are = some refl
differ (text ∷ texts) digits value some all other are =
    let first : Contains (text ∷ texts) text = (0, (let n : length (text ∷ texts) ≡ length texts + 1 = omega arith in omega arith), refl) in
    other (sym (All-contains (λ t. t ≡ digits) (text ∷ texts) text all first)
    ∙ are.same text value (Contains-append_left (text ∷ texts) (value ∷ []) text first) (Contains-push (text ∷ texts) value))

pub not_nil : (texts : List (List ℕ)) (value : List ℕ) → texts ++ value ∷ [] ≢ []
not_nil [] value e = cc
not_nil (text ∷ texts) value e = cc

pub same_more : (texts : List (List ℕ)) (digits value : List ℕ) → digits ≡ value → All (λ text. text ≡ digits) texts
    → All (λ text. text ≡ digits) (texts ++ value ∷ [])
same_more texts digits value e all = All-push (λ text. text ≡ digits) texts value all (sym e)

-- the pairs of one field more
pub pairs_more : (bytes : List ℕ) (fields : List HeaderSpan) (i : ℕ) (d : HeaderSpan) → i < length fields
    → pairs bytes (take (i + 1) fields) ≡ pairs bytes (take i fields) ++ header_bytes bytes (get_or fields i d) ∷ []
pairs_more bytes fields i d l = map_more (header_bytes bytes) fields i d l

-- digits, each for itself
pub by_index : IsNumeralModel (λ ds. (i : ℕ) → i < length ds → IsInRange 48 57 (get_or ds i 0)) (digits_value 10)
by_index = numerals_by_value (λ ds. (i : ℕ) → i < length ds → IsInRange 48 57 (get_or ds i 0)) tells_by_index

pub below : (digits : List ℕ) → AllDigits 10 digits → length digits ≤ 20 → digits_value 10 digits < 10 ^ 20
below digits all few = digits_value_short by_value digits 20 all few

values_append : (name : List ℕ) (xs ys : List (List ℕ × List ℕ)) → values name (xs ++ ys) ≡ values name xs ++ values name ys
values_append name xs ys =
    ap (λ fs. map (λ f. f.1) fs) (filter-append (is_named name) xs ys) ∙ map-append (λ f. f.1) (filter (is_named name) xs) (filter (is_named name) ys)

front_empty : (xs ys : List (List ℕ)) → xs ++ ys ≡ [] → xs ≡ []
front_empty [] ys e = refl
front_empty (x ∷ xs) ys e = cc

pub found_one : (name bytes : List ℕ) (fields : List HeaderSpan) (i : ℕ) (d : HeaderSpan) → i < length fields
    → is_named name (header_bytes bytes (get_or fields i d)) ≡ true → values name (pairs bytes fields) ≢ []
found_one name bytes fields i d l e empty =
    let cut : pairs bytes fields ≡ pairs bytes (take (i + 1) fields) ++ pairs bytes (drop (i + 1) fields)
    = ap (pairs bytes) (sym (take-append-drop (i + 1) fields)) ∙ map-append (header_bytes bytes) (take (i + 1) fields) (drop (i + 1) fields) in
    let first : values name (pairs bytes (take (i + 1) fields)) ≡ values name (pairs bytes (take i fields)) ++ (header_bytes bytes (get_or fields i d)).1 ∷ []
    = ap (values name) (pairs_more bytes fields i d l) ∙ such_field name (pairs bytes (take i fields)) (header_bytes bytes (get_or fields i d)) e in
    not_nil (values name (pairs bytes (take i fields))) _
    (sym first ∙ front_empty (values name (pairs bytes (take (i + 1) fields))) (values name (pairs bytes (drop (i + 1) fields)))
    (sym (values_append name (pairs bytes (take (i + 1) fields)) (pairs bytes (drop (i + 1) fields))) ∙ sym (ap (values name) cut) ∙ empty))
