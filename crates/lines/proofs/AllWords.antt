-- The words that the bytes of a line give from the front on are all of its words, and a line has one list of them.
use Rattle.std.proofs.Common.{◌≡◌, ◌≢◌, ℕ, zero, suc, ◌+◌, ◌<◌, ◌≤◌, Bool, true, false, List, [], ◌∷◌, ◌++◌, length, take, drop, refl, sym, ap, subst, ◌∙◌, inl, inr, arith, append_assoc, length-append, length-drop, cond, not}
use Rattle.std.specs.Prelude.{All, AllPairs, Contains}
use Rattle.std.proofs.lemmas.List.{take-append-drop, length-take-le}
use Rattle.std.proofs.lemmas.List.Elements.{All-nil, All-cons, All-head, All-weaker}
use Rattle.std.proofs.lemmas.List.Kept.{AllPairs-cons}
use Rattle.lines.specs.Words.{Word, IsBlank, EndsBlank, BeginsBlank}
use Rattle.lines.specs.Taking.{is_blank, words_from}
use Rattle.chains.proofs.callers.Elements.{head_has, tail_has, has_cases, has_none, same_heads, same_tails}
use Rattle.lines.proofs.WordsFrom.{end_of, take_more, blank_step, first_word, nothing_from}
use Rattle.lines.proofs.Solid.{IsNoBlank, IsSolid, blank_yes, solid_front, solid_by, blank_back, blank_by, same_run, behind, ends_more, ends_after, ends_tail}

-- one word is before another, or behind some bytes
abbrev pub Earlier : Word → Word → Type 0
Earlier v w = v.column < w.column

abbrev pub IsAbove : ℕ → Word → Type 0
IsAbove k w = k < w.column

-- a word of bytes that stand behind k others
pub record IsWordAt (k : ℕ) (bytes : List ℕ) (word : Word) : Type 0 where
  pub front : List ℕ
  pub back : List ℕ
  pub whole : bytes ≡ front ++ (word.text ++ back)
  pub column : word.column ≡ k + length front + 1
  pub some : word.text ≢ []
  pub solid : IsSolid word.text
  pub left : EndsBlank front
  pub right : BeginsBlank back

pub record AreWordsAt (k : ℕ) (bytes : List ℕ) (words : List Word) : Type 0 where
  pub ascend : AllPairs Earlier words
  pub above : All (IsAbove k) words
  pub found : (w : Word) → Contains words w → IsWordAt k bytes w
  pub all : (w : Word) → IsWordAt k bytes w → Contains words w

-- no bytes, no words
no_front : (text back : List ℕ) → [] ≡ text ++ back → text ≡ []
no_front [] back e = refl
no_front (c ∷ text) back e = absurd cc

no_text : (front text back : List ℕ) → [] ≡ front ++ (text ++ back) → text ≡ []
no_text [] text back e = no_front text back e
no_text (c ∷ front) text back e = absurd cc

none_at : (k : ℕ) → AreWordsAt k [] []
none_at k = record {
  ascend = λ i j d p q. absurd (omega arith);
  above = All-nil (IsAbove k);
  found = λ w c. absurd (has_none w c);
  all = λ w h. absurd (h.some (no_text h.front w.text h.back h.whole));
}

-- a blank in front
starts_blank : (text back bs : List ℕ) (b : ℕ) → b ∷ bs ≡ text ++ back → IsBlank b → text ≢ []
    → IsSolid text → ⊥
starts_blank [] back bs b e h n s = n refl
starts_blank (c ∷ text) back bs b e h n s = All-head IsNoBlank c text s (subst IsBlank (same_heads e) h)

behind_blank : (k b : ℕ) (bs : List ℕ) (w : Word) (front back : List ℕ) → IsBlank b
    → b ∷ bs ≡ front ++ (w.text ++ back) → w.column ≡ k + length front + 1
    → w.text ≢ [] → IsSolid w.text → EndsBlank front → BeginsBlank back → IsWordAt (k + 1) bs w
behind_blank k b bs w [] back h e c n s l r = absurd (starts_blank w.text back bs b e h n s)
behind_blank k b bs w (d ∷ front) back h e c n s l r = record {
  front = front;
  back = back;
  whole = same_tails e;
  column = omega arith;
  some = n;
  solid = s;
  left = ends_tail d front l;
  right = r;
}

with_blank : (k b : ℕ) (bs : List ℕ) (w : Word) → IsBlank b → IsWordAt (k + 1) bs w → IsWordAt k (b ∷ bs) w
with_blank k b bs w h v = record {
  front = b ∷ v.front;
  back = v.back;
  whole = ap (λ xs. b ∷ xs) v.whole;
  column = (let c = v.column in omega arith);
  some = v.some;
  solid = v.solid;
  left = ends_after b v.front h v.left;
  right = v.right;
}

blank_at : (k b : ℕ) (bs : List ℕ) (ws : List Word) → IsBlank b → AreWordsAt (k + 1) bs ws
    → AreWordsAt k (b ∷ bs) ws
blank_at k b bs ws h a = record {
  ascend = a.ascend;
  above = All-weaker (IsAbove (k + 1)) (IsAbove k) (λ w p. omega arith) ws a.above;
  found = λ w c. with_blank k b bs w h (a.found w c);
  all = λ w v. a.all w (behind_blank k b bs w v.front v.back h v.whole v.column v.some v.solid v.left v.right);
}

-- a word in front
abbrev word_at : ℕ → List ℕ → Word
word_at k text = record { column = k + 1; text = text }

not_at_once : (after text back : List ℕ) → after ≡ text ++ back → BeginsBlank after → text ≢ []
    → IsSolid text → ⊥
not_at_once [] text back e h n s = n (no_front text back e)
not_at_once (b ∷ after) text back e h n s = starts_blank text back after b e h n s

some_gap : (gap after text back : List ℕ) → after ≡ gap ++ (text ++ back) → BeginsBlank after → text ≢ []
    → IsSolid text → gap ≢ []
some_gap gap after text back e h n s none =
    not_at_once after text back (subst (λ xs. after ≡ xs ++ (text ++ back)) none e) h n s

with_word : (k n : ℕ) (text after : List ℕ) (w : Word) → length text ≡ n → BeginsBlank after
    → IsWordAt (k + n) after w → IsWordAt k (text ++ after) w
with_word k n text after w l r v = record {
  front = text ++ v.front;
  back = v.back;
  whole = ap (λ xs. text ++ xs) v.whole ∙ sym (append_assoc text v.front (w.text ++ v.back));
  column = (let c = v.column in let m = length-append text v.front in omega arith);
  some = v.some;
  solid = v.solid;
  left = ends_more text v.front v.left (some_gap v.front after w.text v.back v.whole r v.some v.solid);
  right = v.right;
}

the_word : (k : ℕ) (text after : List ℕ) → text ≢ [] → IsSolid text → BeginsBlank after
    → IsWordAt k (text ++ after) (word_at k text)
the_word k text after n s r = record {
  front = [];
  back = after;
  whole = refl;
  column = omega arith;
  some = n;
  solid = s;
  left = tt;
  right = r;
}

found_at : (k n : ℕ) (text after : List ℕ) (ws : List Word) (w : Word) → length text ≡ n → text ≢ []
    → IsSolid text → BeginsBlank after → AreWordsAt (k + n) after ws
    → Contains (word_at k text ∷ ws) w → IsWordAt k (text ++ after) w
found_at k n text after ws w l some s r a c = elim (has_cases (word_at k text) w ws c) [
  | inl e ↦ subst (λ (v : Word). IsWordAt k (text ++ after) v) e (the_word k text after some s r)
  | inr h ↦ with_word k n text after w l r (a.found w h)
]

all_by_front : (k n : ℕ) (text after : List ℕ) (ws : List Word) (w : Word) (front back : List ℕ)
    → length text ≡ n → IsSolid text → BeginsBlank after → AreWordsAt (k + n) after ws
    → text ++ after ≡ front ++ (w.text ++ back) → w.column ≡ k + length front + 1 → w.text ≢ []
    → IsSolid w.text → EndsBlank front → BeginsBlank back
    → Contains (word_at k text ∷ ws) w
all_by_front k n text after ws w [] back l s r a e c some solid left right =
    let t : text ≡ w.text = same_run text w.text after back e s solid r right in
    let p : k + 1 ≡ w.column = omega arith in
    head_has (word_at k text) w ws (λ i. record { column = p i; text = t i })
all_by_front k n text after ws w (d ∷ front) back l s r a e c some solid left right =
    let b = behind text after (d ∷ front) (w.text ++ back) e s left (λ h. cc) in
    let m = ap length b.front_is in
    let m2 = length-append text b.gap in
    tail_has (word_at k text) w ws (a.all w (record {
      front = b.gap;
      back = back;
      whole = b.after_is;
      column = omega arith;
      some = some;
      solid = solid;
      left = b.ends;
      right = right;
    }))

word_in_front : (k n : ℕ) (text after : List ℕ) (ws : List Word) → length text ≡ n → 0 < n → text ≢ []
    → IsSolid text → BeginsBlank after → AreWordsAt (k + n) after ws
    → AreWordsAt k (text ++ after) (word_at k text ∷ ws)
word_in_front k n text after ws l more some s r a = record {
  ascend = AllPairs-cons Earlier (word_at k text) ws (All-weaker (IsAbove (k + n)) (Earlier (word_at k text)) (λ w p. omega arith) ws a.above) a.ascend;
  above = All-cons (IsAbove k) (word_at k text) ws (omega arith) (All-weaker (IsAbove (k + n)) (IsAbove k) (λ w p. omega arith) ws a.above);
  found = λ w c. found_at k n text after ws w l some s r a c;
  all = λ w v. all_by_front k n text after ws w v.front v.back l s r a v.whole v.column v.some v.solid v.left v.right;
}

end_by : (b : ℕ) (bs : List ℕ) (v : Bool) → end_of bs ≤ length bs
    → cond (not v) (1 + end_of bs) 0 ≤ length (b ∷ bs)
end_by b bs true h = omega arith
end_by b bs false h = omega arith

end_within : (bytes : List ℕ) → end_of bytes ≤ length bytes
end_within [] = omega arith
end_within (b ∷ bs) = end_by b bs (is_blank b) (end_within bs)

solid_at : (b : ℕ) (bs : List ℕ) (k f : ℕ) → is_blank b ≡ false → length bs ≤ f
    → ((more : List ℕ) (j : ℕ) → length more ≤ f → AreWordsAt j more (words_from j more))
    → AreWordsAt k (b ∷ bs) (words_from k (b ∷ bs))
solid_at b bs k f e l rest =
    let n : ℕ = 1 + end_of bs in
    let text : List ℕ = take n (b ∷ bs) in
    let after : List ℕ = drop n (b ∷ bs) in
    let within = end_within bs in
    let t : text ≡ b ∷ take (end_of bs) bs = take_more (end_of bs) b bs in
    let some : text ≢ [] = λ h. cc in
    let long : length text ≡ n = length-take-le n (b ∷ bs) (omega arith) in
    let d = length-drop n (b ∷ bs) in
    let short : length after ≤ f = omega arith in
    let h : AreWordsAt k (text ++ after) (word_at k text ∷ words_from (k + n) after) =
    word_in_front k n text after (words_from (k + n) after) long (omega arith) some (solid_by b bs false e (solid_front bs)) (blank_by b bs false e (blank_back bs)) (rest after (k + n) short) in
    subst (λ ws. AreWordsAt k (b ∷ bs) ws) (sym (first_word b bs k e))
    (subst (λ xs. AreWordsAt k xs (word_at k text ∷ words_from (k + n) after)) (take-append-drop n (b ∷ bs)) h)

by_first : (b : ℕ) (bs : List ℕ) (k f : ℕ) (v : Bool) → is_blank b ≡ v → length bs ≤ f
    → ((more : List ℕ) (j : ℕ) → length more ≤ f → AreWordsAt j more (words_from j more))
    → AreWordsAt k (b ∷ bs) (words_from k (b ∷ bs))
by_first b bs k f true e l rest = subst (λ ws. AreWordsAt k (b ∷ bs) ws) (sym (blank_step b bs k e)) (blank_at k b bs (words_from (k + 1) bs) (blank_yes b e) (rest bs (k + 1) l))
by_first b bs k f false e l rest = solid_at b bs k f e l rest

nothing_at : (k : ℕ) → AreWordsAt k [] (words_from k [])
nothing_at k = subst (λ ws. AreWordsAt k [] ws) (sym (nothing_from k)) (none_at k)

pub all_at : (f : ℕ) (bytes : List ℕ) (k : ℕ) → length bytes ≤ f → AreWordsAt k bytes (words_from k bytes)
all_at zero [] k l = nothing_at k
all_at zero (b ∷ bs) k l = absurd (omega arith)
all_at (suc f) [] k l = nothing_at k
all_at (suc f) (b ∷ bs) k l = by_first b bs k f (is_blank b) refl (omega arith) (λ more j m. all_at f more j m)
