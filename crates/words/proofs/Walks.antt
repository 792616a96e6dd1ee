-- What `clap` holds after words of the grammar.
use Rattle.std.proofs.Common.{◌≡◌, ◌∙◌, ◌==◌, ◌&&◌, ◌||◌, ◌++◌, ◌<◌, ℕ, Bool, true, false, cond, refl, sym, ap, List, [], ◌∷◌, Some, None, take, map, length, arith, inl, inr, ◌⊎◌, append-nil}
use Rattle.std.specs.Prelude.{nat_lt}
use Rattle.std.specs.List.{list_any, before_first, position_or_len}
use Rattle.std.specs.Str.{bytes_eq}
use Rattle.std.proofs.lemmas.Slice.Eq.{bytes_eq-Decides}
use Rattle.std.proofs.lemmas.Bool.{lt-ltb, le-ltb}
use Rattle.std.proofs.Math.Seq.{take-length}
use Rattle.clap.specs.Words.{Text, Rule, Row}
use Rattle.clap.specs.Simple.{filled, with_index}
use Rattle.clap.specs.Lexer.{name_and_value, long_of}
use Rattle.clap.specs.Walk.{Held, Walk, idle, option, walked, settled_rows, settled, used, arg_by_id, arg_by_long, arg_by_index, reading_by, at_row, with_values, is_pending, more_values}
use Rattle.clap.specs.Walk.{Waiting}
use Rattle.clap.specs.declared.parser.matches.ValueSource.TheVariants.{CommandLine}
use Rattle.words.specs.FirstGiven.{cut_at_equals}
use Rattle.words.specs.Apps.{option_rule, word_rule}

-- a name and its value
abbrev pub Use : Type 0
Use = Text × Text

-- an option and a word as the command builds them
abbrev pub ruled : Text → Rule
ruled n = filled (option_rule n)

abbrev pub placed : Text → Rule
placed p = with_index 1 (filled (word_rule p))

-- the rows of the values
abbrev pub row_for : Use → Row
row_for u = record { id = u.0; values = u.1 ∷ []; count = None; source = Some CommandLine; reading = reading_by (ruled u.0) }

abbrev pub rows_for : List Use → List Row
rows_for uses = map row_for uses

abbrev pub is_used : Text → List Use → Bool
is_used name uses = list_any (λ u. bytes_eq u.0 name) uses

first_of_or : (a b : Bool) → a || b ≡ false → a ≡ false
first_of_or true b h = h
first_of_or false b h = refl

second_of_or : (a b : Bool) → a || b ≡ false → b ≡ false
second_of_or true b h = absurd (let e = h in cc)
second_of_or false b h = h

same_bytes : (n : Text) → bytes_eq n n ≡ true
same_bytes n = (bytes_eq-Decides n n).1 refl

more_rows : (uses : List Use) (u : Use) → rows_for (uses ++ u ∷ []) ≡ rows_for uses ++ row_for u ∷ []
more_rows [] u = refl
more_rows (t ∷ uses) u = ap (λ rs. row_for t ∷ rs) (more_rows uses u)

-- a name that was not used has no row
no_row : (n : Text) (change : Row → List Row) (missing : List Row) (uses : List Use) → is_used n uses ≡ false → at_row n change missing (rows_for uses) ≡ rows_for uses ++ missing
no_row n change missing [] h = refl
no_row n change missing (u ∷ uses) h =
    let here : bytes_eq u.0 n ≡ false = first_of_or _ _ h in
    ap (λ b. cond b (change (row_for u) ++ rows_for uses) (row_for u ∷ at_row n change missing (rows_for uses))) here
    ∙ ap (λ rs. row_for u ∷ rs) (no_row n change missing uses (second_of_or _ _ h))

pub used_once : (n v : Text) (uses : List Use) → is_used n uses ≡ false → used (ruled n) (v ∷ []) (rows_for uses) ≡ rows_for (uses ++ (n, v) ∷ [])
used_once n v uses h =
    ap (with_values n (reading_by (ruled n)) CommandLine (v ∷ [])) (no_row n (λ _. []) [] uses h ∙ append-nil (rows_for uses))
    ∙ no_row n (more_values CommandLine (v ∷ [])) _ uses h ∙ sym (more_rows uses (n, v))

pub placed_once : (n v : Text) (uses : List Use) → is_used n uses ≡ false → used (placed n) (v ∷ []) (rows_for uses) ≡ rows_for (uses ++ (n, v) ∷ [])
placed_once n v uses h =
    ap (with_values n (reading_by (ruled n)) CommandLine (v ∷ [])) (no_row n (λ _. []) [] uses h ∙ append-nil (rows_for uses))
    ∙ no_row n (more_values CommandLine (v ∷ [])) _ uses h ∙ sym (more_rows uses (n, v))

-- the name and the value of a word, as `clap` and as the grammar cut it
cut_there : (p : ℕ → Bool) (xs : Text) → ((list_any p xs ≡ true) × (position_or_len p xs < length xs)) ⊎ ((list_any p xs ≡ false) × (position_or_len p xs ≡ length xs))
cut_there p [] = inr (refl, refl)
cut_there p (x ∷ xs) = pick (p x) refl (cut_there p xs) where
  pick : (b : Bool) → p x ≡ b → ((list_any p xs ≡ true) × (position_or_len p xs < length xs)) ⊎ ((list_any p xs ≡ false) × (position_or_len p xs ≡ length xs))
      → ((list_any p (x ∷ xs) ≡ true) × (position_or_len p (x ∷ xs) < length (x ∷ xs))) ⊎ ((list_any p (x ∷ xs) ≡ false) × (position_or_len p (x ∷ xs) ≡ length (x ∷ xs)))
  pick true e rest = inl (rw e refl, rw e (omega arith))
  pick false e (inl (a, l)) = inl (rw e a, rw e (omega arith))
  pick false e (inr (a, l)) = inr (rw e a, rw e (omega arith))

pub named_cut : (rest : Text) → name_and_value rest ≡ cut_at_equals rest
named_cut rest = elim (cut_there (λ b. b == 61) rest) [
  | inl h ↦ let t : nat_lt (position_or_len (λ b. b == 61) rest) (length rest) ≡ true = lt-ltb _ _ h.1 in rw (h.0, t) refl
  | inr h ↦
      let t : nat_lt (position_or_len (λ b. b == 61) rest) (length rest) ≡ false = le-ltb _ _ (omega arith) in
      let all : before_first (λ b. b == 61) rest ≡ rest = ap (λ n. take n rest) h.1 ∙ take-length rest in
      rw (h.0, t) (ap (λ x. (x, None)) all)
]

pub used_after : (p v : Text) (uses : List Use) → is_used p (uses ++ (p, v) ∷ []) ≡ true
used_after p v [] = rw (same_bytes p) refl
used_after p v (t ∷ uses) = rw (used_after p v uses) (any_true (bytes_eq t.0 p)) where
  any_true : (b : Bool) → b || true ≡ true
  any_true true = refl
  any_true false = refl

pub unused_more : (n : Text) (uses : List Use) (u : Use) → is_used n uses ≡ false → bytes_eq u.0 n ≡ false
    → is_used n (uses ++ u ∷ []) ≡ false
unused_more n [] u h e = rw e refl
unused_more n (t ∷ uses) u h e =
    let a : bytes_eq t.0 n ≡ false = first_of_or _ _ h in
    let b : is_used n (uses ++ u ∷ []) ≡ false = unused_more n uses u (second_of_or _ _ h) e in
    rw (a, b) refl

pub unused_before : (p : Text) (uses : List Use) (u : Use) → is_used p (uses ++ u ∷ []) ≡ false → is_used p uses ≡ false
unused_before p [] u h = refl
unused_before p (t ∷ uses) u h =
    let a : bytes_eq t.0 p ≡ false = first_of_or _ _ h in
    let b : is_used p (uses ++ u ∷ []) ≡ false = second_of_or _ _ h in
    let d : is_used p uses ≡ false = unused_before p uses u b in
    rw (a, d) refl

-- between two values `clap` waits for nothing
abbrev pub at : Held → Waiting → ℕ → Walk
at h w p = record { held = h; waiting = w; position = p; is_trailing = false; stopped = None }

module _ (c : List Rule) where
  -- the value of an option that waits
  pub value_walked : (n : Text) (x : ℕ) (xs : Text) (h : Held) (k : ℕ) → (x == 45) ≡ false → arg_by_id c n ≡ Some (ruled n) → h.pending ≡ Some (n, [])
      → walked c [] (at h (option n) k) (x ∷ xs) ≡ at (record h { pending = Some (n, (x ∷ xs) ∷ []) }) idle k
  unfolding walked
  value_walked n x xs h k e known is = simp (e, known, is, same_bytes n) refl

  -- an option with its value in one word
  pub joined_walked : (word n v : Text) (h : Held) (k : ℕ) → long_of word ≡ Some (n, Some v) → bytes_eq word (45 ∷ 45 ∷ []) ≡ false → arg_by_long c n ≡ Some (ruled n)
      → walked c [] (at h idle k) word ≡ at (record h { rows = used (ruled n) (v ∷ []) (settled_rows c h.pending h.rows); pending = None }) idle k
  unfolding walked
  joined_walked word n v h k is not_dashes known = simp (is, not_dashes, known) refl

  -- an option whose value comes
  pub opened_walked : (word n : Text) (h : Held) (k : ℕ) → long_of word ≡ Some (n, None) → bytes_eq word (45 ∷ 45 ∷ []) ≡ false → arg_by_long c n ≡ Some (ruled n)
      → walked c [] (at h idle k) word ≡ at (record h { rows = settled_rows c h.pending h.rows; pending = Some (n, []) }) (option n) k
  unfolding walked
  opened_walked word n h k is not_dashes known = simp (is, not_dashes, known) refl

  -- the positional word
  pub placed_walked : (p : Text) (x : ℕ) (xs : Text) (h : Held) → (x == 45) ≡ false → arg_by_index c 1 ≡ Some (placed p)
      → walked c [] (at h idle 1) (x ∷ xs) ≡ at (record h { rows = settled_rows c h.pending h.rows; pending = Some (p, (x ∷ xs) ∷ []) }) idle 2
  unfolding walked
  placed_walked p x xs h e known = simp (e, known, same_if (is_pending (placed p) h.pending) h (settled c h)) refl where
    same_if : (b : Bool) (g i : Held) → cond (b && false) g i ≡ i
    same_if true g i = refl
    same_if false g i = refl
