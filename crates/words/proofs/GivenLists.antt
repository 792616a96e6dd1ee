-- The values that words give: words give one list of them.
use Rattle.std.proofs.Common.{◌≡◌, ◌≢◌, ℕ, suc, List, [], ◌∷◌, ◌++◌, append-nil, refl, sym, ap, subst, ◌∙◌, ◌⊎◌, inl, inr, arith}
use Rattle.std.specs.Prelude.{All, AllPairs, Contains, Option, Some, None, codes}
use Rattle.std.proofs.lemmas.List.Elements.{All-nil, All-cons, All-head, All-tail, All-contains}
use Rattle.std.proofs.lemmas.List.Kept.{AllPairs-cons}
use Rattle.chains.proofs.callers.Elements.{head_has, tail_has, has_cases, has_none}
use Rattle.words.specs.Grammar.{option_word, IsValue, Given, giving, AreFor, AreWritten, LeavesOut, IsTextOf}
use Rattle.words.specs.FirstGiven.{cut_at_equals, IsFound, IsFirst, HasNoFirst, GiveTo}
use Rattle.words.specs.declared.argument.Argument.{Argument}
use Rattle.words.proofs.Elements.{head, tail}
use Rattle.words.proofs.Options.{same_argument, no_value, name_cut, Joins, joins}

-- How the first word gives a value: it is the value of the argument without a name, or names an option whose value is
-- found behind it.
abbrev pub IsAlone : List ℕ → List (List ℕ) → Given → List (List ℕ) → Type 0
IsAlone word later g behind = (option_word g.argument ≡ None) × (word ≡ g.value) × (later ≡ behind)

abbrev pub IsOption : List ℕ → List (List ℕ) → Given → List (List ℕ) → Type 0
IsOption word later g behind =
    (option_word g.argument ≡ Some (cut_at_equals word).0) × IsFound (cut_at_equals word).1 later g.value behind × (¬ IsValue word)

abbrev pub Opens : List ℕ → List (List ℕ) → Given → List (List ℕ) → Type 0
Opens word later g behind = IsAlone word later g behind ⊎ IsOption word later g behind

opens_by : (word : List ℕ) (later own behind : List (List ℕ)) (g : Given) (o : Option (List ℕ)) → option_word g.argument ≡ o
    → word ∷ later ≡ own ++ behind → AreFor o g.value own → Opens word later g behind
opens_by word later own behind g None n e a =
    let f = e ∙ ap (λ t. t ++ behind) a in
    inl (n, ap head f, ap tail f)
opens_by word later own behind g (Some name) n e (inl a) =
    let f = e ∙ ap (λ t. t ++ behind) a in
    let w = ap head f in
    let c = ap cut_at_equals w ∙ (name_cut g.argument name n).alone in
    inr (
      n ∙ ap (λ x. Some x.0) (sym c),
      subst (λ x. IsFound x later g.value behind) (sym (ap (λ x. x.1) c)) (ap tail f),
      λ v. no_value g.argument name [] n (subst IsValue (w ∙ sym (append-nil name)) v),
    )
opens_by word later own behind g (Some name) n e (inr a) =
    let f = e ∙ ap (λ t. t ++ behind) a in
    let w = ap head f in
    let c = ap cut_at_equals w ∙ (name_cut g.argument name n).joined g.value in
    inr (
      n ∙ ap (λ x. Some x.0) (sym c),
      subst (λ x. IsFound x later g.value behind) (sym (ap (λ x. x.1) c)) (refl, sym (ap tail f)),
      λ v. no_value g.argument name (codes "=" ++ g.value) n (subst IsValue w v),
    )

pub opens : (word : List ℕ) (later behind : List (List ℕ)) (g : Given) → IsFirst (word ∷ later) g behind
    → Opens word later g behind
opens word later behind g f = opens_by word later f.own behind g (option_word g.argument) refl f.whole f.written

-- a word that names an option and has its value
begins_by : (word : List ℕ) (later behind : List (List ℕ)) (a : Argument) (v name : List ℕ) (own : Option (List ℕ))
    → Joins (name, own) word → option_word a ≡ Some name → IsFound own later v behind → IsValue v
    → IsFirst (word ∷ later) (giving a v) behind
begins_by word later behind a v name None j n f r = record {
  own = name ∷ v ∷ [];
  whole = ap (λ w. w ∷ later) j ∙ ap (λ t. name ∷ t) f;
  written = subst (λ o. AreFor o v (name ∷ v ∷ [])) (sym n) (inl refl);
  value = r;
}
begins_by word later behind a v name (Some own) j n f r = record {
  own = (name ++ (codes "=" ++ v)) ∷ [];
  whole = ap (λ w. w ∷ later) (j ∙ ap (λ t. name ++ (codes "=" ++ t)) (sym f.0)) ∙ ap (λ t. (name ++ (codes "=" ++ v)) ∷ t) (sym f.1);
  written = subst (λ o. AreFor o v ((name ++ (codes "=" ++ v)) ∷ [])) (sym n) (inr refl);
  value = r;
}

pub begins : (word : List ℕ) (later behind : List (List ℕ)) (a : Argument) (v : List ℕ)
    → option_word a ≡ Some (cut_at_equals word).0 → IsFound (cut_at_equals word).1 later v behind → IsValue v
    → IsFirst (word ∷ later) (giving a v) behind
begins word later behind a v n f r =
    begins_by word later behind a v (cut_at_equals word).0 (cut_at_equals word).1 (joins word) n f r

pub none_first : (g : Given) (behind : List (List ℕ)) → IsFirst [] g behind → ⊥
none_first g behind f = by (option_word g.argument) f.written where
  by : (o : Option (List ℕ)) → AreFor o g.value f.own → ⊥
  by None w = absurd (let e = f.whole ∙ ap (λ t. t ++ behind) w in cc)
  by (Some name) (inl w) = absurd (let e = f.whole ∙ ap (λ t. t ++ behind) w in cc)
  by (Some name) (inr w) = absurd (let e = f.whole ∙ ap (λ t. t ++ behind) w in cc)

-- one value, and the words behind it
pub one_found : (own : Option (List ℕ)) (v w : List ℕ) (later behind other : List (List ℕ)) → IsFound own later v behind
    → IsFound own later w other → (v ≡ w) × (behind ≡ other)
one_found None v w later behind other a b = let e = sym a ∙ b in (ap head e, ap tail e)
one_found (Some own) v w later behind other a b = (a.0 ∙ sym b.0, a.1 ∙ sym b.1)

same_given : (g h : Given) → g.argument ≡ h.argument → g.value ≡ h.value → g ≡ h
same_given g h a b = ap (λ x. giving x g.value) a ∙ ap (λ x. giving h.argument x) b

one_opening : (word : List ℕ) (later behind other : List (List ℕ)) (g h : Given) → IsValue g.value → IsValue h.value
    → Opens word later g behind → Opens word later h other → (g ≡ h) × (behind ≡ other)
one_opening word later behind other g h v w (inl a) (inl b) =
    (same_given g h (same_argument g.argument h.argument (a.0 ∙ sym b.0)) (sym a.1 ∙ b.1), sym a.2 ∙ b.2)
one_opening word later behind other g h v w (inl a) (inr b) = absurd (b.2 (subst IsValue (sym a.1) v))
one_opening word later behind other g h v w (inr a) (inl b) = absurd (a.2 (subst IsValue (sym b.1) w))
one_opening word later behind other g h v w (inr a) (inr b) =
    let f = one_found (cut_at_equals word).1 g.value h.value later behind other a.1 b.1 in
    (same_given g h (same_argument g.argument h.argument (a.0 ∙ sym b.0)) f.0, f.1)

-- words give one value first
pub one_first : (words behind other : List (List ℕ)) (g h : Given) → IsFirst words g behind
    → IsFirst words h other → (g ≡ h) × (behind ≡ other)
one_first [] behind other g h f e = absurd (none_first g behind f)
one_first (word ∷ later) behind other g h f e =
    one_opening word later behind other g h f.value e.value (opens word later behind g f) (opens word later other h e)

-- the first of some values, and the others
pub record HasRest (words : List (List ℕ)) (g : Given) (given : List Given) : Type 0 where
  pub behind : List (List ℕ)
  pub first : IsFirst words g behind
  pub written : AreWritten given behind

pub take_first : (words : List (List ℕ)) (g : Given) (given : List Given)
    → AreWritten (g ∷ given) words → IsValue g.value → HasRest words g given
take_first words g given a r = record {
  behind = a.1;
  first = record { own = a.0; whole = a.2; written = a.3; value = r };
  written = a.4;
}

pub with_first : (words behind : List (List ℕ)) (g : Given) (given : List Given)
    → IsFirst words g behind → AreWritten given behind → AreWritten (g ∷ given) words
with_first words behind g given f a = (f.own, behind, f.whole, f.written, a)

abbrev pub AreValues : List Given → Type 0
AreValues given = All (λ g. IsValue g.value) given

-- what is left of the values behind the first
pub record IsLeft (words behind : List (List ℕ)) (g : Given) (given : List Given) : Type 0 where
  pub others : List Given
  pub are : given ≡ g ∷ others
  pub written : AreWritten others behind
  pub values : AreValues others

pub left_of : (words behind : List (List ℕ)) (g : Given) (given : List Given) → IsFirst words g behind
    → AreWritten given words → AreValues given → IsLeft words behind g given
left_of words behind g [] f a r = absurd (none_first g behind (subst (λ w. IsFirst w g behind) a f))
left_of words behind g (h ∷ hs) f a r =
    let t = take_first words h hs a (All-head (λ g. IsValue g.value) h hs r) in
    let e = one_first words behind t.behind g h f t.first in
    record {
      others = hs;
      are = ap (λ x. x ∷ hs) (sym e.0);
      written = subst (AreWritten hs) (sym e.1) t.written;
      values = All-tail (λ g. IsValue g.value) h hs r;
    }

-- words that give no value first give none
pub none_left : (words : List (List ℕ)) (given : List Given) → HasNoFirst words → AreWritten given words
    → AreValues given → given ≡ []
none_left words [] n a r = refl
none_left words (h ∷ hs) n a r =
    let t = take_first words h hs a (All-head (λ g. IsValue g.value) h hs r) in absurd (n h t.behind t.first)

-- words give one list of values
pub one_list : (words : List (List ℕ)) (given other : List Given) → AreWritten given words → AreWritten other words
    → AreValues given → AreValues other → given ≡ other
one_list words [] [] a b r q = refl
one_list words [] (h ∷ hs) a b r q =
    let t = take_first words h hs b (All-head (λ g. IsValue g.value) h hs q) in
    absurd (none_first h t.behind (subst (λ w. IsFirst w h t.behind) a t.first))
one_list words (g ∷ gs) other a b r q =
    let t = take_first words g gs a (All-head (λ g. IsValue g.value) g gs r) in
    let l = left_of words t.behind g other t.first b q in
    ap (λ xs. g ∷ xs) (one_list t.behind gs l.others t.written l.written (All-tail (λ g. IsValue g.value) g gs r) l.values) ∙ sym l.are

pub first_apart : (g : Given) (others : List Given) → AllPairs (λ g h. g.argument ≢ h.argument) (g ∷ others)
    → LeavesOut others g.argument
first_apart g others o i d within = o 0 (suc i) d (omega arith) (omega arith)

pub others_once : (g : Given) (others : List Given) → AllPairs (λ g h. g.argument ≢ h.argument) (g ∷ others)
    → AllPairs (λ g h. g.argument ≢ h.argument) others
others_once g others o i j d lt within = o (suc i) (suc j) d (omega arith) (omega arith)

-- an argument that is given a value once has one value
pub one_value : (given : List Given) (a : Argument) (v w : List ℕ) → AllPairs (λ g h. g.argument ≢ h.argument) given
    → Contains given (giving a v) → Contains given (giving a w) → v ≡ w
one_value [] a v w o b c = absurd (has_none (giving a v) b)
one_value (g ∷ others) a v w o b c =
    elim (has_cases g (giving a v) others b) [
      | inl e ↦ elim (has_cases g (giving a w) others c) [
        | inl f ↦ ap (λ x. x.value) (sym e ∙ f)
        | inr d ↦ absurd (All-contains (λ t. g.argument ≢ t.argument) others (giving a w) (first_apart g others o) d (ap (λ x. x.argument) e))
      ]
      | inr d ↦ elim (has_cases g (giving a w) others c) [
        | inl f ↦ absurd (All-contains (λ t. g.argument ≢ t.argument) others (giving a v) (first_apart g others o) d (ap (λ x. x.argument) f))
        | inr h ↦ one_value others a v w (others_once g others o) d h
      ]
    ]

pub one_text : (given : List Given) (a : Argument) (v w : Option (List ℕ)) → AllPairs (λ g h. g.argument ≢ h.argument) given
    → IsTextOf given a v → IsTextOf given a w → v ≡ w
one_text given a None None o x y = refl
one_text given a None (Some w) o x y = absurd (All-contains (λ g. a ≢ g.argument) given (giving a w) x y refl)
one_text given a (Some v) None o x y = absurd (All-contains (λ g. a ≢ g.argument) given (giving a v) y x refl)
one_text given a (Some v) (Some w) o x y = ap Some (one_value given a v w o x y)

-- values that are given once, and one before them
pub one_more : (arguments : List Argument) (words behind : List (List ℕ)) (g : Given) (t : GiveTo arguments behind)
    → IsFirst words g behind → Contains arguments g.argument → LeavesOut t.0 g.argument → GiveTo arguments words
one_more arguments words behind g (given, r) f k l = (
  g ∷ given,
  record {
    written = with_first words behind g given f r.written;
    values = All-cons (λ g. IsValue g.value) g given f.value r.values;
    known = All-cons (λ g. Contains arguments g.argument) g given k r.known;
    once = AllPairs-cons (λ g h. g.argument ≢ h.argument) g given l r.once;
  },
)

-- the values behind the first
pub record AreBehind (arguments : List Argument) (behind : List (List ℕ)) (g : Given) : Type 0 where
  pub give : GiveTo arguments behind
  pub known : Contains arguments g.argument
  pub without : LeavesOut give.0 g.argument

pub behind_first : (arguments : List Argument) (words behind : List (List ℕ)) (g : Given) → IsFirst words g behind
    → GiveTo arguments words → AreBehind arguments behind g
behind_first arguments words behind g f (given, r) =
    let l = left_of words behind g given f r.written r.values in
    let o = subst (AllPairs (λ g h. g.argument ≢ h.argument)) l.are r.once in
    let k = subst (All (λ g. Contains arguments g.argument)) l.are r.known in
    record {
      give = (
        l.others,
        record {
          written = l.written;
          values = l.values;
          known = All-tail (λ g. Contains arguments g.argument) g l.others k;
          once = others_once g l.others o;
        },
      );
      known = All-head (λ g. Contains arguments g.argument) g l.others k;
      without = first_apart g l.others o;
    }

pub none_given : (arguments : List Argument) (words : List (List ℕ)) → HasNoFirst words → GiveTo arguments words → words ≡ []
none_given arguments words n (given, r) =
    subst (λ x. AreWritten x words) (none_left words given n r.written r.values) r.written

-- values up to some words, none of which is for the argument
pub record HasPassed (given : List Given) (a : Argument) (rest : List (List ℕ)) : Type 0 where
  pub left : List Given
  pub written : AreWritten left rest
  pub values : AreValues left
  pub within : (g : Given) → Contains left g → Contains given g
  pub without : LeavesOut left a → LeavesOut given a

pub none_passed : (given : List Given) (a : Argument) (words : List (List ℕ)) → AreWritten given words
    → AreValues given → HasPassed given a words
none_passed given a words w r = record { left = given; written = w; values = r; within = λ g c. c; without = λ l. l }

pub pass : (given : List Given) (a : Argument) (words behind : List (List ℕ)) (g : Given)
    → IsFirst words g behind → a ≢ g.argument → HasPassed given a words → HasPassed given a behind
pass given a words behind g f n h =
    let l = left_of words behind g h.left f h.written h.values in
    record {
      left = l.others;
      written = l.written;
      values = l.values;
      within = λ t c. h.within t (subst (λ x. Contains x t) (sym l.are) (tail_has g t l.others c));
      without = λ o. h.without (subst (λ x. LeavesOut x a) (sym l.are) (All-cons (λ t. a ≢ t.argument) g l.others n o));
    }

pub found : (given : List Given) (a : Argument) (words behind : List (List ℕ)) (g : Given)
    → IsFirst words g behind → g.argument ≡ a → HasPassed given a words → Contains given (giving a g.value)
found given a words behind g f e h =
    let l = left_of words behind g h.left f h.written h.values in
    subst (λ x. Contains given (giving x g.value)) e (h.within g (subst (λ x. Contains x g) (sym l.are) (head_has g g l.others refl)))

pub not_found : (given : List Given) (a : Argument) (words : List (List ℕ)) → HasNoFirst words → HasPassed given a words
    → LeavesOut given a
not_found given a words n h =
    h.without (subst (λ x. LeavesOut x a) (sym (none_left words h.left n h.written h.values)) (All-nil (λ t. a ≢ t.argument)))

-- the same as the parts of the word are read
pub begins_so : (word : List ℕ) (later behind : List (List ℕ)) (a : Argument) (v name : List ℕ) (own : Option (List ℕ))
    → name ≡ (cut_at_equals word).0 → own ≡ (cut_at_equals word).1 → option_word a ≡ Some name → IsFound own later v behind
    → IsValue v → IsFirst (word ∷ later) (giving a v) behind
begins_so word later behind a v name own e o n f r =
    begins word later behind a v (n ∙ ap Some e) (subst (λ x. IsFound x later v behind) o f) r

pub no_found : (word : List ℕ) (later : List (List ℕ)) (own : Option (List ℕ)) → ¬ IsValue word
    → own ≡ (cut_at_equals word).1 → ((v : List ℕ) (behind : List (List ℕ)) → ¬ IsFound own later v behind)
    → HasNoFirst (word ∷ later)
no_found word later own v e n g behind f =
    elim (opens word later behind g f) [
      | inl a ↦ v (subst IsValue (sym a.1) f.value)
      | inr a ↦ n g.value behind (subst (λ o. IsFound o later g.value behind) (sym e) a.1)
    ]

pub left_out : (given : List Given) (a : Argument) (v : Option (List ℕ)) → LeavesOut given a → IsTextOf given a v → v ≡ None
left_out given a None l t = refl
left_out given a (Some v) l t = absurd (All-contains (λ g. a ≢ g.argument) given (giving a v) l t refl)
