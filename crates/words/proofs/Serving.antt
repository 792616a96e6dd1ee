-- What `clap` finds for words that give values.
use Rattle.std.proofs.Common.{◌≡◌, ◌≢◌, ◌∙◌, ◌==◌, ◌++◌, ℕ, Bool, true, false, cond, refl, sym, ap, subst, codes, List, [], ◌∷◌, Option, Some, None, map, fold, inl, inr, append-nil}
use Rattle.std.proofs.lemmas.Option.{same_Some}
use Rattle.std.specs.Prelude.{All, AllPairs, Contains}
use Rattle.std.specs.Str.{bytes_eq}
use Rattle.std.proofs.lemmas.Slice.Eq.{bytes_eq-Decides}
use Rattle.std.proofs.lemmas.Bool.{eqb-true}
use Rattle.std.proofs.lemmas.List.Sums.{fold-append}
use Rattle.std.proofs.lemmas.List.Elements.{All-nil, All-cons, All-head, All-tail, All-contains}
use Rattle.chains.proofs.callers.Elements.{head_has, tail_has}
use Rattle.clap.specs.Words.{Rule, Row, first_of}
use Rattle.clap.specs.Lexer.{long_of}
use Rattle.clap.specs.Walk.{Held, Walk, idle, walked, walk_from, nothing_held, settled_rows, used, with_default, arg_by_id, arg_by_long, arg_by_index, rows_after}
use Rattle.words.specs.Grammar.{option_word, IsValue, Given, giving, AreFor, AreWritten, Gives, IsTextOf}
use Rattle.words.specs.Apps.{name_of}
use Rattle.words.specs.declared.argument.Argument.{Argument}
use Rattle.words.specs.declared.argument.Argument.TheVariants as argument
use Rattle.words.proofs.Options.{same_argument, joined_at}
use Rattle.words.proofs.GivenLists.{first_apart, others_once}
use Rattle.words.proofs.Walks.{Use, ruled, placed, rows_for, is_used, used_once, placed_once, named_cut, used_after, unused_more, unused_before, at, value_walked, joined_walked, opened_walked, placed_walked}

-- arguments by their names
by_letters : List ℕ → Argument
by_letters name =
    cond (bytes_eq name (codes "port")) argument.Port
    (cond (bytes_eq name (codes "d")) argument.D
    (cond (bytes_eq name (codes "k")) argument.K
    (cond (bytes_eq name (codes "tol")) argument.Tol
    (cond (bytes_eq name (codes "w")) argument.W
    (cond (bytes_eq name (codes "h")) argument.H
    (cond (bytes_eq name (codes "connections")) argument.Connections argument.Keep))))))

named_back : (a : Argument) → by_letters (name_of a) ≡ a
unfolding by_letters
named_back argument.Port = refl
named_back argument.D = refl
named_back argument.K = refl
named_back argument.Tol = refl
named_back argument.W = refl
named_back argument.H = refl
named_back argument.Connections = refl
named_back argument.Keep = refl

same_name : (a b : Argument) → bytes_eq (name_of a) (name_of b) ≡ true → a ≡ b
same_name a b e = sym (named_back a) ∙ ap by_letters ((bytes_eq-Decides (name_of a) (name_of b)).0 e) ∙ named_back b

other_name : (a b : Argument) → a ≢ b → bytes_eq (name_of a) (name_of b) ≡ false
other_name a b n = pick (bytes_eq (name_of a) (name_of b)) refl where
  pick : (t : Bool) → bytes_eq (name_of a) (name_of b) ≡ t → bytes_eq (name_of a) (name_of b) ≡ false
  pick false e = e
  pick true e = absurd (n (same_name a b e))

-- how the name of an option is read, alone and with a value
pub record IsLong (a : Argument) (name : List ℕ) : Type 0 where
  pub alone : long_of name ≡ Some (name_of a, None)
  pub joined : (v : List ℕ) → long_of (name ++ (codes "=" ++ v)) ≡ Some (name_of a, Some v)
  pub plain : bytes_eq name (45 ∷ 45 ∷ []) ≡ false
  pub plain_joined : (v : List ℕ) → bytes_eq (name ++ (codes "=" ++ v)) (45 ∷ 45 ∷ []) ≡ false

pub not_hyphen : (x : ℕ) → x ≢ 45 → (x == 45) ≡ false
not_hyphen x n = pick (x == 45) refl where
  pick : (t : Bool) → (x == 45) ≡ t → (x == 45) ≡ false
  pick false e = e
  pick true e = absurd (n (eqb-true x 45 e))

is_long : (a : Argument) (name : List ℕ) → option_word a ≡ Some name → IsLong a name
is_long argument.Port name e = absurd cc
is_long argument.D name e = subst (IsLong argument.D) (same_Some _ _ e) (record {
  alone = refl;
  joined = λ v. ap Some (named_cut (codes "d=" ++ v) ∙ joined_at (codes "d") v refl refl refl);
  plain = refl;
  plain_joined = λ v. refl;
})
is_long argument.K name e = subst (IsLong argument.K) (same_Some _ _ e) (record {
  alone = refl;
  joined = λ v. ap Some (named_cut (codes "k=" ++ v) ∙ joined_at (codes "k") v refl refl refl);
  plain = refl;
  plain_joined = λ v. refl;
})
is_long argument.Tol name e = subst (IsLong argument.Tol) (same_Some _ _ e) (record {
  alone = refl;
  joined = λ v. ap Some (named_cut (codes "tol=" ++ v) ∙ joined_at (codes "tol") v refl refl refl);
  plain = refl;
  plain_joined = λ v. refl;
})
is_long argument.W name e = subst (IsLong argument.W) (same_Some _ _ e) (record {
  alone = refl;
  joined = λ v. ap Some (named_cut (codes "w=" ++ v) ∙ joined_at (codes "w") v refl refl refl);
  plain = refl;
  plain_joined = λ v. refl;
})
is_long argument.H name e = subst (IsLong argument.H) (same_Some _ _ e) (record {
  alone = refl;
  joined = λ v. ap Some (named_cut (codes "h=" ++ v) ∙ joined_at (codes "h") v refl refl refl);
  plain = refl;
  plain_joined = λ v. refl;
})
is_long argument.Connections name e = subst (IsLong argument.Connections) (same_Some _ _ e) (record {
  alone = refl;
  joined = λ v. ap Some (named_cut (codes "connections=" ++ v) ∙ joined_at (codes "connections") v refl refl refl);
  plain = refl;
  plain_joined = λ v. refl;
})
is_long argument.Keep name e = subst (IsLong argument.Keep) (same_Some _ _ e) (record {
  alone = refl;
  joined = λ v. ap Some (named_cut (codes "keep=" ++ v) ∙ joined_at (codes "keep") v refl refl refl);
  plain = refl;
  plain_joined = λ v. refl;
})

-- what the rules of a command have for an argument
abbrev pub ServedAs : List Rule → Argument → Option (List ℕ) → Type 0
ServedAs c a None = (arg_by_index c 1 ≡ Some (placed (name_of a))) × (arg_by_id c (name_of a) ≡ Some (placed (name_of a)))
ServedAs c a (Some word) = (arg_by_long c (name_of a) ≡ Some (ruled (name_of a))) × (arg_by_id c (name_of a) ≡ Some (ruled (name_of a)))

abbrev pub IsServed : List Rule → Argument → Type 0
IsServed c a = ServedAs c a (option_word a)

pub record Serves (c : List Rule) (arguments : List Argument) : Type 0 where
  pub served : All (IsServed c) arguments
  pub defaults : (rows : List Row) → fold with_default rows c ≡ rows

abbrev use_of : Given → Use
use_of g = (name_of g.argument, g.value)

-- none of the arguments has a value yet
abbrev AreUnused : List Use → List Given → Type 0
AreUnused done given = All (λ g. is_used (name_of g.argument) done ≡ false) given

module _ (c : List Rule) where
  -- between two values: the rows of those before, and the place of the first word without a name
  abbrev Agrees : List Use → Walk → Type 0
  Agrees done w =
      (h : Held) × (k : ℕ) × (w ≡ at h idle k) × (settled_rows c h.pending h.rows ≡ rows_for done)
      × (is_used (codes "port") done ≡ false → k ≡ 1)

  still_first : (done : List Use) (u : Use) (k : ℕ) → (is_used (codes "port") done ≡ false → k ≡ 1)
      → is_used (codes "port") (done ++ u ∷ []) ≡ false → k ≡ 1
  still_first done u k f e = f (unused_before (codes "port") done u e)

  -- the value of an argument without a name
  placed_step : (done : List Use) (a : Argument) (v : List ℕ) (h : Held) (k : ℕ) → a ≡ argument.Port
      → settled_rows c h.pending h.rows ≡ rows_for done → (is_used (codes "port") done ≡ false → k ≡ 1) → IsValue v
      → (arg_by_index c 1 ≡ Some (placed (name_of a))) × (arg_by_id c (name_of a) ≡ Some (placed (name_of a)))
      → is_used (name_of a) done ≡ false → Agrees (done ++ (name_of a, v) ∷ []) (walked c [] (at h idle k) v)
  placed_step done a [] h k port holds first value s unused = absurd value
  placed_step done a (x ∷ xs) h k port holds first value s unused =
      let e : (x == 45) ≡ false = not_hyphen x value in
      let is_first : k ≡ 1 = first (subst (λ b. is_used (name_of b) done ≡ false) port unused) in (
        record h { rows = settled_rows c h.pending h.rows; pending = Some (name_of a, (x ∷ xs) ∷ []) },
        2,
        ap (λ i. walked c [] (at h idle i) (x ∷ xs)) is_first ∙ placed_walked c (name_of a) x xs h e s.0,
        rw (s.1, holds) (placed_once (name_of a) (x ∷ xs) done unused),
        λ n. absurd (let y = sym (subst (λ b. is_used (codes "port") (done ++ (name_of b, x ∷ xs) ∷ []) ≡ true) (sym port) (used_after (codes "port") (x ∷ xs) done)) ∙ n in cc),
      )

  -- an option and its value behind it
  apart_step : (done : List Use) (a : Argument) (name v : List ℕ) (h : Held) (k : ℕ) → IsLong a name
      → settled_rows c h.pending h.rows ≡ rows_for done → (is_used (codes "port") done ≡ false → k ≡ 1) → IsValue v
      → (arg_by_long c (name_of a) ≡ Some (ruled (name_of a))) × (arg_by_id c (name_of a) ≡ Some (ruled (name_of a)))
      → is_used (name_of a) done ≡ false
      → Agrees (done ++ (name_of a, v) ∷ []) (walked c [] (walked c [] (at h idle k) name) v)
  apart_step done a name [] h k l holds first value s unused = absurd value
  apart_step done a name (x ∷ xs) h k l holds first value s unused =
      let e : (x == 45) ≡ false = not_hyphen x value in
      let open_h : Held = record h { rows = settled_rows c h.pending h.rows; pending = Some (name_of a, []) } in (
        record open_h { pending = Some (name_of a, (x ∷ xs) ∷ []) },
        k,
        ap (λ w. walked c [] w (x ∷ xs)) (opened_walked c name (name_of a) h k l.alone l.plain s.0)
            ∙ value_walked c (name_of a) x xs open_h k e s.1 refl,
        rw (s.1, holds) (used_once (name_of a) (x ∷ xs) done unused),
        still_first done (name_of a, x ∷ xs) k first,
      )

  -- an option with its value in one word
  joined_step : (done : List Use) (a : Argument) (name v : List ℕ) (h : Held) (k : ℕ) → IsLong a name
      → settled_rows c h.pending h.rows ≡ rows_for done → (is_used (codes "port") done ≡ false → k ≡ 1)
      → (arg_by_long c (name_of a) ≡ Some (ruled (name_of a))) × (arg_by_id c (name_of a) ≡ Some (ruled (name_of a)))
      → is_used (name_of a) done ≡ false
      → Agrees (done ++ (name_of a, v) ∷ []) (walked c [] (at h idle k) (name ++ (codes "=" ++ v)))
  joined_step done a name v h k l holds first s unused = (
    record h { rows = used (ruled (name_of a)) (v ∷ []) (settled_rows c h.pending h.rows); pending = None },
    k,
    joined_walked c (name ++ (codes "=" ++ v)) (name_of a) v h k (l.joined v) (l.plain_joined v) s.0,
    ap (used (ruled (name_of a)) (v ∷ [])) holds ∙ used_once (name_of a) v done unused,
    still_first done (name_of a, v) k first,
  )

  -- the words of one value
  step : (done : List Use) (g : Given) (own : List (List ℕ)) (w : Walk) → Agrees done w → (o : Option (List ℕ))
      → option_word g.argument ≡ o → AreFor o g.value own → IsValue g.value → ServedAs c g.argument o
      → is_used (name_of g.argument) done ≡ false → Agrees (done ++ use_of g ∷ []) (fold (walked c []) w own)
  step done g own w (h, k, is, holds, first) None n e value s unused =
      subst (λ x. Agrees (done ++ use_of g ∷ []) (fold (walked c []) x own)) (sym is)
      (subst (λ x. Agrees (done ++ use_of g ∷ []) (fold (walked c []) (at h idle k) x)) (sym e)
      (placed_step done g.argument g.value h k (same_argument g.argument argument.Port n) holds first value s unused))
  step done g own w (h, k, is, holds, first) (Some name) n (inl e) value s unused =
      subst (λ x. Agrees (done ++ use_of g ∷ []) (fold (walked c []) x own)) (sym is)
      (subst (λ x. Agrees (done ++ use_of g ∷ []) (fold (walked c []) (at h idle k) x)) (sym e)
      (apart_step done g.argument name g.value h k (is_long g.argument name n) holds first value s unused))
  step done g own w (h, k, is, holds, first) (Some name) n (inr e) value s unused =
      subst (λ x. Agrees (done ++ use_of g ∷ []) (fold (walked c []) x own)) (sym is)
      (subst (λ x. Agrees (done ++ use_of g ∷ []) (fold (walked c []) (at h idle k) x)) (sym e)
      (joined_step done g.argument name g.value h k (is_long g.argument name n) holds first s unused))

  -- the values behind are unused still
  unused_still : (done : List Use) (g : Given) (given : List Given) → All (λ h. g.argument ≢ h.argument) given
      → AreUnused done given → AreUnused (done ++ use_of g ∷ []) given
  unused_still done g [] n u = All-nil (λ h. is_used (name_of h.argument) (done ++ use_of g ∷ []) ≡ false)
  unused_still done g (h ∷ given) n u =
      All-cons (λ h. is_used (name_of h.argument) (done ++ use_of g ∷ []) ≡ false) h given
      (unused_more (name_of h.argument) done (use_of g) (All-head (λ h. is_used (name_of h.argument) done ≡ false) h given u) (other_name g.argument h.argument (All-head (λ h. g.argument ≢ h.argument) h given n)))
      (unused_still done g given (All-tail (λ h. g.argument ≢ h.argument) h given n) (All-tail (λ h. is_used (name_of h.argument) done ≡ false) h given u))

  one_behind : (done : List Use) (u : Use) (more : List Use) → (done ++ u ∷ []) ++ more ≡ done ++ (u ∷ more)
  one_behind [] u more = refl
  one_behind (t ∷ done) u more = ap (λ x. t ∷ x) (one_behind done u more)

  all_walked : (done : List Use) (given : List Given) (words : List (List ℕ)) (w : Walk) → Agrees done w
      → AreWritten given words → All (λ g. IsValue g.value) given → All (λ g. IsServed c g.argument) given
      → AllPairs (λ g h. g.argument ≢ h.argument) given → AreUnused done given
      → Agrees (done ++ map use_of given) (fold (walked c []) w words)
  all_walked done [] words w a e values served once unused =
      subst (λ x. Agrees (done ++ []) (fold (walked c []) w x)) (sym e) (subst (λ x. Agrees x w) (sym (append-nil done)) a)
  all_walked done (g ∷ given) words w a (own, rest, e, f, more) values served once unused =
      let one = step done g own w a (option_word g.argument) refl f (All-head (λ g. IsValue g.value) g given values) (All-head (λ g. IsServed c g.argument) g given served) (All-head (λ h. is_used (name_of h.argument) done ≡ false) g given unused) in
      let others = all_walked (done ++ use_of g ∷ []) given rest (fold (walked c []) w own) one more (All-tail (λ g. IsValue g.value) g given values) (All-tail (λ g. IsServed c g.argument) g given served) (others_once g given once) (unused_still done g given (first_apart g given once) (All-tail (λ h. is_used (name_of h.argument) done ≡ false) g given unused)) in
      subst (λ x. Agrees (done ++ map use_of (g ∷ given)) (fold (walked c []) w x)) (sym e)
      (subst (Agrees (done ++ map use_of (g ∷ given))) (sym (fold-append (walked c []) w own rest))
      (subst (λ x. Agrees x (fold (walked c []) (fold (walked c []) w own) rest)) (one_behind done (use_of g) (map use_of given)) others))

  all_served : (arguments : List Argument) (given : List Given) → All (IsServed c) arguments
      → All (λ g. Contains arguments g.argument) given → All (λ g. IsServed c g.argument) given
  all_served arguments [] s k = All-nil (λ g. IsServed c g.argument)
  all_served arguments (g ∷ given) s k =
      All-cons (λ g. IsServed c g.argument) g given
      (All-contains (IsServed c) arguments g.argument s (All-head (λ g. Contains arguments g.argument) g given k))
      (all_served arguments given s (All-tail (λ g. Contains arguments g.argument) g given k))

  none_used : (given : List Given) → AreUnused [] given
  none_used [] = All-nil (λ g. is_used (name_of g.argument) [] ≡ false)
  none_used (g ∷ given) = All-cons (λ g. is_used (name_of g.argument) [] ≡ false) g given refl (none_used given)

  -- the rows that `clap` finds are those of the values
  rows_found : (arguments : List Argument) (given : List Given) (words : List (List ℕ)) → Serves c arguments
      → Gives arguments given words → rows_after c [] words ≡ rows_for (map use_of given)
  rows_found arguments given words s g =
      let a = all_walked [] given words (walk_from nothing_held) (nothing_held, 1, refl, refl, λ e. refl) g.written g.values (all_served arguments given s.served g.known) g.once (none_used given) in
      ap (λ x. fold with_default (settled_rows c x.held.pending x.held.rows) c) a.2 ∙ s.defaults (settled_rows c a.0.pending a.0.rows) ∙ a.3

-- the text of a row is the value of its argument
text_there : (given : List Given) (a : Argument) → IsTextOf given a (first_of (name_of a) (rows_for (map use_of given)))
text_there [] a = All-nil (λ g. a ≢ g.argument)
text_there (g ∷ given) a = pick (bytes_eq (name_of g.argument) (name_of a)) refl (text_there given a) where
  behind : (r : Option (List ℕ)) → g.argument ≢ a → IsTextOf given a r → IsTextOf (g ∷ given) a r
  behind None n t = All-cons (λ h. a ≢ h.argument) g given (λ e. n (sym e)) t
  behind (Some v) n t = tail_has g (giving a v) given t

  pick : (t : Bool) → bytes_eq (name_of g.argument) (name_of a) ≡ t
      → IsTextOf given a (first_of (name_of a) (rows_for (map use_of given)))
      → IsTextOf (g ∷ given) a (first_of (name_of a) (rows_for (map use_of (g ∷ given))))
  pick true e rest =
      let r : first_of (name_of a) (rows_for (map use_of (g ∷ given))) ≡ Some g.value = rw e refl in
      subst (IsTextOf (g ∷ given) a) (sym r) (head_has g (giving a g.value) given (ap (λ x. giving x g.value) (same_name g.argument a e)))
  pick false e rest =
      let r : first_of (name_of a) (rows_for (map use_of (g ∷ given))) ≡ first_of (name_of a) (rows_for (map use_of given)) = rw e refl in
      let n : g.argument ≢ a = λ f. (let y : true ≡ false = sym ((bytes_eq-Decides (name_of g.argument) (name_of a)).1 (ap name_of f)) ∙ e in cc) in
      subst (IsTextOf (g ∷ given) a) (sym r) (behind (first_of (name_of a) (rows_for (map use_of given))) n rest)

-- what `clap` finds for an argument is its value
pub text_found : (c : List Rule) (arguments : List Argument) (given : List Given) (words : List (List ℕ)) (a : Argument)
    → Serves c arguments → Gives arguments given words → IsTextOf given a (first_of (name_of a) (rows_after c [] words))
text_found c arguments given words a s g =
    subst (λ r. IsTextOf given a (first_of (name_of a) r)) (sym (rows_found c arguments given words s g)) (text_there given a)
