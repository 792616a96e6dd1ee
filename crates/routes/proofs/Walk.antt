-- What a path has to look like for rows to match it. The keys are numbers, as in the lemmas of `matchit`.
use Rattle.std.proofs.Common.{◌≡◌, ◌≢◌, ◌∙◌, ◌==◌, ◌&&◌, ◌++◌, ◌-◌, ◌+◌, ◌<◌, ℕ, Bool, true, false, cond, refl, sym, ap, subst, List, [], ◌∷◌, Option, Some, None, suc, length, take, drop, ltb, nat_eq, arith, inl, inr, ◌⊎◌, append-nil, length-append, get_or}
use Rattle.std.proofs.lemmas.Option.{same_Some}
use Rattle.std.specs.List.{starts_with, ends_with}
use Rattle.std.specs.Cmp.Lexicographic.{pointwise, bytes_decides}
use Rattle.std.proofs.lemmas.Bool.{eqb-true, lt-ltb}
use Rattle.std.proofs.lemmas.Bool.Decides.{nat_tests}
use Rattle.std.proofs.lemmas.List.{take-append-drop, drop_at}
use Rattle.matchit.specs.Rows.{Rows, Seen, prepend, ends, rows_of, param_token, catch_all_token}
use Rattle.matchit.specs.Level.{IsText, AreSuffixes, AllSegment}
use Rattle.matchit.specs.Seek.{seek, first, step, param_step, after_param, or_else, has_slash, segment, cuts, longest_from, longest_suffix}
use Rattle.matchit.proofs.SeekLemmas.{own-append, own-prepend, step-append, step-hit, step-miss, prepend-nil, or_else-none, seek-empty, first-prefix, param_step-empty}
use Rattle.matchit.proofs.ParamLemmas.{after_param-end, after_param-stop, after_param-kid}
use Rattle.matchit.proofs.LongestLemmas.{longest-kid}
use Rattle.routes.specs.Routes.{IsPart}
use Rattle.routes.proofs.Cuts.{part_is}

abbrev Text : Type 0
Text = List ℕ

kept : {A : Type 0} (b : Bool) (x : Option A) (y : A) → cond b x None ≡ Some y → (b ≡ true) × (x ≡ Some y)
kept true x y h = (refl, h)
kept false x y h = absurd (let e = h in cc)

pub either : (a b : Option ℕ) (r : ℕ) → or_else a b ≡ Some r → (a ≡ Some r) ⊎ (b ≡ Some r)
either (Some k) b r h = inl h
either None b r h = inr h

-- ---- rows that all begin with a text

pub after_prefix : (w : Text) (t : Rows) (path : Text) (r : ℕ) → IsText w → first (prepend w t) path ≡ Some r → (rest : Text) × (path ≡ w ++ rest) × (first t rest ≡ Some r)
after_prefix w t path r text h =
    let both = kept (starts_with nat_eq path w) _ r (sym (first-prefix w t path text) ∙ h) in
    let begins : w ≡ take (length w) path = (bytes_decides w (take (length w) path)).0 both.0 in
    (drop (length w) path, sym (take-append-drop (length w) path) ∙ ap (λ x. x ++ drop (length w) path) (sym begins), both.1)

-- a path that begins with the text that all rows begin with
pub with_prefix : (w : Text) (t : Rows) (rest : Text) → IsText w → first (prepend w t) (w ++ rest) ≡ first t rest
with_prefix w t rest text =
    let starts : starts_with nat_eq (w ++ rest) w ≡ true = (bytes_decides w (take (length w) (w ++ rest))).1 (sym (take_front w rest)) in
    first-prefix w t (w ++ rest) text ∙ ap (λ v. cond v (first t (drop (length w) (w ++ rest))) None) starts ∙ ap (first t) (drop_at w rest (length w) refl)
  where
    take_front : (a b : Text) → take (length a) (a ++ b) ≡ a
    take_front [] b = refl
    take_front (x ∷ a) b = ap (λ t. x ∷ t) (take_front a b)

-- one route
abbrev pub leaf : ℕ → Rows
leaf k = ([], k) ∷ []

-- ---- a route that ends here, beside others

pub ended : (rest : Rows) (k b : ℕ) (p : Text) → seek 0 (rest ++ leaf k) (b ∷ p) ≡ seek 0 rest (b ∷ p)
unfolding seek
ended rest k b p = simp (step-append, append-nil) refl

pub leaf_is : (k : ℕ) (path : Text) (r : ℕ) → seek 0 (leaf k) path ≡ Some r → (path ≡ []) × (k ≡ r)
unfolding seek
leaf_is k [] r h = (refl, same_Some _ _ h)
leaf_is k (b ∷ p) r h = absurd (let e = sym (ended [] k b p ∙ seek-empty 0 (b ∷ p)) ∙ h in cc)

pub word_is : (w : Text) (k : ℕ) (path : Text) (r : ℕ) → IsText w → seek 0 (prepend w (leaf k)) path ≡ Some r → (path ≡ w) × (k ≡ r)
word_is w k path r text h =
    let a = after_prefix w (leaf k) path r text h in
    let b = leaf_is k a.0 r a.2 in
    (a.1 ∙ ap (λ x. w ++ x) b.0 ∙ append-nil w, b.1)

-- ---- rows that begin with a byte, beside rows that do not

lit : (t : Rows) (b : ℕ) (p : Text) → step param_token t ≡ [] → step catch_all_token t ≡ [] → seek 0 t (b ∷ p) ≡ seek 0 (step b t) p
unfolding seek
lit t b p sp sc = simp (sp, sc, param_step-empty (b ∷ p), seek-empty ((param_step {K = ℕ} [] (b ∷ p)).0 - 1) p, or_else-none) refl

pub split : (x : ℕ) (w : Text) (a t : Rows) → x < 256 → step x t ≡ [] → step param_token t ≡ [] → step catch_all_token t ≡ []
    → (path : Text) → seek 0 (prepend (x ∷ w) a ++ t) path ≡ or_else (seek 0 (prepend (x ∷ w) a) path) (seek 0 t path)
unfolding seek
split x w a t small sx sp sc [] = own-append (prepend (x ∷ w) a) t
split x w a t small sx sp sc (b ∷ p) =
    lit (prepend (x ∷ w) a ++ t) b p (step-append param_token (prepend (x ∷ w) a) t ∙ none_of_both param_token (λ e. omega arith) sp) (step-append catch_all_token (prepend (x ∷ w) a) t ∙ none_of_both catch_all_token (λ e. omega arith) sc)
    ∙ ap (λ q. seek 0 q p) (step-append b (prepend (x ∷ w) a) t) ∙ by (x == b) refl
    ∙ ap (λ o. or_else o (seek 0 (step b t) p)) (sym (lit (prepend (x ∷ w) a) b p (step-miss param_token x w a (λ e. omega arith)) (step-miss catch_all_token x w a (λ e. omega arith))))
    ∙ ap (or_else (seek 0 (prepend (x ∷ w) a) (b ∷ p))) (sym (lit t b p sp sc))
  where
    none_of_both : (c : ℕ) → x ≢ c → step c t ≡ [] → step c (prepend (x ∷ w) a) ++ step c t ≡ []
    none_of_both c n e = rw (step-miss c x w a n, e) refl

    by : (v : Bool) → (x == b) ≡ v → seek 0 (step b (prepend (x ∷ w) a) ++ step b t) p ≡ or_else (seek 0 (step b (prepend (x ∷ w) a)) p) (seek 0 (step b t) p)
    by true e =
        let same : x ≡ b = eqb-true x b e in
        let none : step b t ≡ [] = ap (λ y. step y t) (sym same) ∙ sx in
        rw (none, append-nil (step b (prepend (x ∷ w) a)), seek-empty 0 p, or_else-none) refl
    by false e =
        let n : x ≢ b = λ q. grind (arith, nat_tests) in
        rw (step-miss b x w a n, seek-empty 0 p) refl

-- ---- a parameter

differ : (a b : ℕ) → a < b → a ≢ b
differ a b h e = omega arith

param_first : (t : Rows) (b : ℕ) (p : Text) → b < 256 → seek 0 (prepend (256 ∷ []) t) (b ∷ p) ≡ after_param t (b ∷ p)
unfolding seek
param_first t b p small =
    let n : 256 ≢ b = λ e. omega arith in
    let m = differ 256 257 (omega arith) in
    simp (step-miss b 256 [] t n, step-hit 256 [] t, prepend-nil t, step-miss 257 256 [] t m, seek-empty 0 p, or_else-none) refl

segment_at : (name tail : Text) → has_slash name ≡ false → segment (name ++ (47 ∷ tail)) ≡ name ++ (47 ∷ [])
segment_at [] tail h = refl
segment_at (x ∷ name) tail h = pick (x == 47) refl h (segment_at name tail) where
  pick : (b : Bool) → (x == 47) ≡ b → cond b true (has_slash name) ≡ false → (has_slash name ≡ false → segment (name ++ (47 ∷ tail)) ≡ name ++ (47 ∷ [])) → cond (x == 47) (x ∷ []) (x ∷ segment (name ++ (47 ∷ tail))) ≡ x ∷ (name ++ (47 ∷ []))
  pick true e g rest = absurd (let f = g in cc)
  pick false e g rest = rw e (ap (λ t. x ∷ t) (rest g))

segment_whole : (path : Text) → has_slash path ≡ false → segment path ≡ path
segment_whole [] h = refl
segment_whole (x ∷ path) h = pick (x == 47) refl h (segment_whole path) where
  pick : (b : Bool) → (x == 47) ≡ b → cond b true (has_slash path) ≡ false → (has_slash path ≡ false → segment path ≡ path) → cond (x == 47) (x ∷ []) (x ∷ segment path) ≡ x ∷ path
  pick true e g rest = absurd (let f = g in cc)
  pick false e g rest = rw e (ap (λ t. x ∷ t) (rest g))

has_at : (name tail : Text) → has_slash (name ++ (47 ∷ tail)) ≡ true
has_at [] tail = refl
has_at (x ∷ name) tail = pick (x == 47) (has_at name tail) where
  pick : (b : Bool) → has_slash (name ++ (47 ∷ tail)) ≡ true → cond b true (has_slash (name ++ (47 ∷ tail))) ≡ true
  pick true h = refl
  pick false h = h

-- a path has no slash, or is cut at the first
abbrev IsCut : Text → Type 0
IsCut path = (has_slash path ≡ false) ⊎ ((name : Text) × (tail : Text) × (path ≡ name ++ (47 ∷ tail)) × (has_slash name ≡ false))

cut_path : (path : Text) → IsCut path
cut_path [] = inl refl
cut_path (x ∷ p) = pick (x == 47) refl (cut_path p) where
  pick : (b : Bool) → (x == 47) ≡ b → IsCut p → IsCut (x ∷ p)
  pick true e rest = inr ([], p, ap (λ y. y ∷ p) (eqb-true x 47 e), refl)
  pick false e (inl a) = inl (rw e a)
  pick false e (inr (name, tail, is, none)) = inr (x ∷ name, tail, ap (λ t. x ∷ t) is, rw e none)

slash_last : (a : Text) → has_slash (a ++ (47 ∷ [])) ≡ true
slash_last [] = refl
slash_last (x ∷ a) = pick (x == 47) (slash_last a) where
  pick : (b : Bool) → has_slash (a ++ (47 ∷ [])) ≡ true → cond b true (has_slash (a ++ (47 ∷ []))) ≡ true
  pick true h = refl
  pick false h = h

not_last : (path : Text) → has_slash path ≡ false → ends_with nat_eq path (47 ∷ []) ≡ false
not_last path h = pick (ends_with nat_eq path (47 ∷ [])) refl where
  pick : (b : Bool) → ends_with nat_eq path (47 ∷ []) ≡ b → ends_with nat_eq path (47 ∷ []) ≡ false
  pick false e = e
  pick true e =
      let d : (47 ∷ []) ≡ drop (length path - 1) path = (bytes_decides _ _).0 e in
      let t : take (length path - 1) path ++ (47 ∷ []) ≡ path = ap (λ x. take (length path - 1) path ++ x) d ∙ take-append-drop (length path - 1) path in
      let yes : has_slash path ≡ true = ap has_slash (sym t) ∙ slash_last (take (length path - 1) path) in
      absurd (let f = sym h ∙ yes in cc)

and_false : (a : Bool) → a && false ≡ false
and_false true = refl
and_false false = refl

-- the rows that go on after a parameter and a slash
abbrev pub slash_kid : Rows → Seen
slash_kid t = record { prefix = 47 ∷ []; tails = t; height = 0 }

all_segments : (t : Rows) → AllSegment (47 ∷ []) (prepend (47 ∷ []) t)
all_segments [] = tt
all_segments ((x, k) ∷ t) = (refl, all_segments t)

kid_right : (t : Rows) → 0 < length (prepend (47 ∷ []) t) → AreSuffixes (slash_kid t ∷ [])
kid_right t some = (record { some_prefix = omega arith; some_rows = some; all_segment = all_segments t }, tt, tt)

longest_is : (t : Rows) (seg : Text) (b : Bool) → 0 < length (prepend (47 ∷ []) t) → cuts seg (47 ∷ []) ≡ b → longest_suffix seg (rows_of (slash_kid t ∷ [])) ≡ cond b (47 ∷ []) []
longest_is t seg b some e =
    ap (longest_from seg []) (append-nil (prepend (47 ∷ []) t)) ∙ longest-kid seg [] (47 ∷ []) (prepend (47 ∷ []) t) (all_segments t) some ∙ ap (λ v. cond v (47 ∷ []) []) e

-- a last part, as long as the path has no slash
pub last_part : (k b : ℕ) (p : Text) → b < 256 → has_slash (b ∷ p) ≡ false → seek 0 (prepend (256 ∷ []) (leaf k)) (b ∷ p) ≡ Some k
last_part k b p small h = param_first (leaf k) b p small ∙ after_param-end [] (Some k) b p tt refl h

pub taken_last : (k : ℕ) (path : Text) (r : ℕ) → IsText path → seek 0 (prepend (256 ∷ []) (leaf k)) path ≡ Some r → IsPart path × (k ≡ r)
unfolding seek
taken_last k [] r text h = absurd (let e = sym (own-prepend 256 [] (leaf k)) ∙ h in cc)
taken_last k (b ∷ p) r text h = elim (cut_path (b ∷ p)) [
  | inl c ↦ (part_is b p c, same_Some _ _ (sym (last_part k b p text.0 c) ∙ h))
  | inr c ↦
      let has : has_slash (b ∷ p) ≡ true = ap has_slash c.2 ∙ has_at c.0 c.1 in
      let there : after_param (rows_of [] ++ ends (Some k)) (b ∷ p) ≡ Some r = sym (param_first (leaf k) b p text.0) ∙ h in
      absurd (let e = sym (after_param-stop [] (Some k) b p refl has) ∙ there in cc)
]

-- rows of a part alone, or with a slash and more behind it
abbrev pub part_rows : Rows → Option ℕ → Rows
part_rows t v = prepend (256 ∷ []) (rows_of (slash_kid t ∷ []) ++ ends v)

-- the part is all that is left
pub part_alone : (t : Rows) (v : Option ℕ) (b : ℕ) (p : Text) → 0 < length (prepend (47 ∷ []) t) → b < 256 → has_slash (b ∷ p) ≡ false → seek 0 (part_rows t v) (b ∷ p) ≡ v
part_alone t v b p some small none =
    let no : cuts (segment (b ∷ p)) (47 ∷ []) ≡ false = ap (λ x. cuts x (47 ∷ [])) (segment_whole (b ∷ p) none) ∙ ap (λ x. ltb 1 (length (b ∷ p)) && x) (not_last (b ∷ p) none) ∙ and_false (ltb 1 (length (b ∷ p))) in
    param_first (rows_of (slash_kid t ∷ []) ++ ends v) b p small ∙ after_param-end (slash_kid t ∷ []) v b p (kid_right t some) (longest_is t (segment (b ∷ p)) false some no) none

-- no part stands before the slash
pub part_missing : (t : Rows) (v : Option ℕ) (tail : Text) → 0 < length (prepend (47 ∷ []) t) → seek 0 (part_rows t v) (47 ∷ tail) ≡ None
part_missing t v tail some =
    param_first (rows_of (slash_kid t ∷ []) ++ ends v) 47 tail (omega arith) ∙ after_param-stop (slash_kid t ∷ []) v 47 tail (longest_is t (segment (47 ∷ tail)) false some refl) refl

-- a slash and more stand behind the part
pub part_followed : (t : Rows) (v : Option ℕ) (x : ℕ) (n tail : Text) → 0 < length (prepend (47 ∷ []) t) → x < 256 → has_slash (x ∷ n) ≡ false → seek 0 (part_rows t v) ((x ∷ n) ++ (47 ∷ tail)) ≡ first t tail
part_followed t v x n tail some small none =
    let p : Text = n ++ (47 ∷ tail) in
    let seg : segment (x ∷ p) ≡ (x ∷ n) ++ (47 ∷ []) = segment_at (x ∷ n) tail none in
    let len : length ((x ∷ n) ++ (47 ∷ [])) ≡ length (x ∷ n) + 1 = length-append (x ∷ n) (47 ∷ []) in
    let less : length ((x ∷ n) ++ (47 ∷ [])) - 1 ≡ length (x ∷ n) = omega arith in
    let long : ltb 1 (length ((x ∷ n) ++ (47 ∷ []))) ≡ true = lt-ltb _ _ (omega arith) in
    let last : ends_with nat_eq ((x ∷ n) ++ (47 ∷ [])) (47 ∷ []) ≡ true = ap (pointwise nat_eq (47 ∷ [])) (drop_at (x ∷ n) (47 ∷ []) (length ((x ∷ n) ++ (47 ∷ [])) - 1) (sym less)) in
    let yes : cuts (segment (x ∷ p)) (47 ∷ []) ≡ true = ap (λ y. cuts y (47 ∷ [])) seg ∙ ap (λ y. y && ends_with nat_eq ((x ∷ n) ++ (47 ∷ [])) (47 ∷ [])) long ∙ last in
    let longest : (47 ∷ []) ≡ longest_suffix (segment (x ∷ p)) (rows_of (slash_kid t ∷ [])) = sym (longest_is t (segment (x ∷ p)) true some yes) in
    let on : after_param (rows_of (slash_kid t ∷ []) ++ ends v) (x ∷ p) ≡ first (prepend (47 ∷ []) t) (drop (length (segment (x ∷ p)) - 1) (x ∷ p)) = after_param-kid (slash_kid t ∷ []) 0 (slash_kid t) v x p (kid_right t some) (omega arith) longest in
    let rest : drop (length (segment (x ∷ p)) - 1) (x ∷ p) ≡ 47 ∷ tail = ap (λ y. drop (length y - 1) (x ∷ p)) seg ∙ drop_at (x ∷ n) (47 ∷ tail) (length ((x ∷ n) ++ (47 ∷ [])) - 1) (sym less) in
    param_first (rows_of (slash_kid t ∷ []) ++ ends v) x p small ∙ on ∙ ap (first (prepend (47 ∷ []) t)) rest ∙ with_prefix (47 ∷ []) t tail (omega arith, tt)

pub taken : (t : Rows) (v : Option ℕ) (path : Text) (r : ℕ) → 0 < length (prepend (47 ∷ []) t) → IsText path
    → seek 0 (part_rows t v) path ≡ Some r
    → (IsPart path × (v ≡ Some r)) ⊎ ((name : Text) × (tail : Text) × IsPart name × (path ≡ name ++ (47 ∷ tail)) × (first t tail ≡ Some r))
unfolding seek
taken t v [] r some text h = absurd (let e = sym (own-prepend 256 [] (rows_of (slash_kid t ∷ []) ++ ends v)) ∙ h in cc)
taken t v (b ∷ p) r some text h = pick (cut_path (b ∷ p)) where
  pick : IsCut (b ∷ p) → (IsPart (b ∷ p) × (v ≡ Some r)) ⊎ ((name : Text) × (tail : Text) × IsPart name × ((b ∷ p) ≡ name ++ (47 ∷ tail)) × (first t tail ≡ Some r))
  pick (inl none) = inl (part_is b p none, sym (part_alone t v b p some text.0 none) ∙ h)
  pick (inr ([], tail, is, none)) = absurd (let e = sym (part_missing t v tail some) ∙ ap (seek 0 (part_rows t v)) (sym is) ∙ h in cc)
  pick (inr (x ∷ n, tail, is, none)) =
      let same : x ≡ b = first_byte is in
      inr (x ∷ n, tail, part_is x n none, is, sym (part_followed t v x n tail some (subst (λ y. y < 256) (sym same) text.0) none) ∙ ap (seek 0 (part_rows t v)) (sym is) ∙ h)
    where
      first_byte : (b ∷ p) ≡ (x ∷ n) ++ (47 ∷ tail) → x ≡ b
      first_byte e = cc

pub text_after : (a b : Text) → IsText (a ++ b) → IsText b
text_after [] b h = h
text_after (x ∷ a) b h = text_after a b h.1

pub all_text : (path : Text) → ((i : ℕ) → get_or path i 0 < 256) → IsText path
all_text [] h = tt
all_text (x ∷ path) h = (h 0, all_text path (λ i. h (suc i)))
