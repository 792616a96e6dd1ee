-- Bytes without a blank, and what stands beside them.
use Rattle.std.proofs.Common.{◌≡◌, ◌≢◌, ℕ, ◌+◌, Bool, true, false, cond, not, List, [], ◌∷◌, ◌++◌, take, drop, refl, sym, subst, inl, inr, arith}
use Rattle.std.specs.Prelude.{All}
use Rattle.std.proofs.lemmas.Bool.Decides.{nat_tests}
use Rattle.std.proofs.lemmas.List.Elements.{All-nil, All-cons, All-head, All-tail, All-same}
use Rattle.lines.specs.Words.{IsBlank, EndsBlank, BeginsBlank}
use Rattle.lines.specs.Taking.{is_blank}
use Rattle.chains.proofs.callers.Elements.{same_heads, same_tails}
use Rattle.lines.proofs.WordsFrom.{end_of, drop_more, take_more}

abbrev pub IsNoBlank : ℕ → Type 0
IsNoBlank b = ¬ IsBlank b

abbrev pub IsSolid : List ℕ → Type 0
IsSolid bytes = All IsNoBlank bytes

pub blank_no : (b : ℕ) → is_blank b ≡ false → IsNoBlank b
blank_no b e h = elim h [
  | inl p ↦ (let k : is_blank 32 ≡ false = subst (λ n. is_blank n ≡ false) p e in cc)
  | inr p ↦ (let k : is_blank 9 ≡ false = subst (λ n. is_blank n ≡ false) p e in cc)
]

pub blank_yes : (b : ℕ) → is_blank b ≡ true → IsBlank b
blank_yes b e = grind (arith, nat_tests)

-- up to the first blank no byte is one, and what follows begins with it
pub solid_by : (b : ℕ) (bs : List ℕ) (v : Bool) → is_blank b ≡ v → IsSolid (take (end_of bs) bs)
    → IsSolid (take (cond (not v) (1 + end_of bs) 0) (b ∷ bs))
solid_by b bs true e h = All-nil IsNoBlank
solid_by b bs false e h = All-same IsNoBlank (take (1 + end_of bs) (b ∷ bs)) (b ∷ take (end_of bs) bs) (take_more (end_of bs) b bs) (All-cons IsNoBlank b (take (end_of bs) bs) (blank_no b e) h)

pub solid_front : (bytes : List ℕ) → IsSolid (take (end_of bytes) bytes)
solid_front [] = All-nil IsNoBlank
solid_front (b ∷ bs) = solid_by b bs (is_blank b) refl (solid_front bs)

pub blank_by : (b : ℕ) (bs : List ℕ) (v : Bool) → is_blank b ≡ v → BeginsBlank (drop (end_of bs) bs)
    → BeginsBlank (drop (cond (not v) (1 + end_of bs) 0) (b ∷ bs))
blank_by b bs true e h = blank_yes b e
blank_by b bs false e h = subst BeginsBlank (sym (drop_more (end_of bs) b bs)) h

pub blank_back : (bytes : List ℕ) → BeginsBlank (drop (end_of bytes) bytes)
blank_back [] = tt
blank_back (b ∷ bs) = blank_by b bs (is_blank b) refl (blank_back bs)

begins_not : (b : ℕ) (bs : List ℕ) (xs : List ℕ) → xs ≡ b ∷ bs → BeginsBlank xs → IsNoBlank b → ⊥
begins_not b bs xs e h n = n (let k : BeginsBlank (b ∷ bs) = subst BeginsBlank e h in k)

-- two words at one place are one
pub same_run : (text other after rest : List ℕ) → text ++ after ≡ other ++ rest → IsSolid text
    → IsSolid other → BeginsBlank after → BeginsBlank rest → text ≡ other
same_run [] [] after rest e s t a r = refl
same_run [] (c ∷ other) after rest e s t a r = absurd (begins_not c (other ++ rest) after e a (All-head IsNoBlank c other t))
same_run (b ∷ text) [] after rest e s t a r = absurd (begins_not b (text ++ after) rest (sym e) r (All-head IsNoBlank b text s))
same_run (b ∷ text) (c ∷ other) after rest e s t a r =
    let p = same_heads e in
    let q = same_run text other after rest (same_tails e) (All-tail IsNoBlank b text s) (All-tail IsNoBlank c other t) a r in
    λ i. p i ∷ q i

-- what stands in front of a later word
pub record Behind (text after front rest : List ℕ) : Type 0 where
  pub gap : List ℕ
  pub front_is : front ≡ text ++ gap
  pub after_is : after ≡ gap ++ rest
  pub ends : EndsBlank gap

behind_more : (b c : ℕ) (text after front rest : List ℕ) → b ≡ c → Behind text after front rest
    → Behind (b ∷ text) after (c ∷ front) rest
behind_more b c text after front rest e h = record { gap = h.gap; front_is = (let p = sym e in let q = h.front_is in λ i. p i ∷ q i); after_is = h.after_is; ends = h.ends }

pub behind : (text after front rest : List ℕ) → text ++ after ≡ front ++ rest → IsSolid text
    → EndsBlank front → front ≢ [] → Behind text after front rest
behind [] after front rest e s h n = record { gap = front; front_is = refl; after_is = e; ends = h }
behind (b ∷ text) after [] rest e s h n = absurd (n refl)
behind (b ∷ text) after (c ∷ []) rest e s h n = absurd (All-head IsNoBlank b text s (subst IsBlank (sym (same_heads e)) h))
behind (b ∷ text) after (c ∷ d ∷ front) rest e s h n = behind_more b c text after (d ∷ front) rest (same_heads e) (behind text after (d ∷ front) rest (same_tails e) (All-tail IsNoBlank b text s) h (λ k. cc))

-- a gap in front of more bytes
pub ends_more : (text gap : List ℕ) → EndsBlank gap → gap ≢ [] → EndsBlank (text ++ gap)
ends_more [] gap h n = h
ends_more (b ∷ []) [] h n = absurd (n refl)
ends_more (b ∷ []) (c ∷ gap) h n = h
ends_more (b ∷ d ∷ text) gap h n = ends_more (d ∷ text) gap h n

-- a blank in front
pub ends_after : (b : ℕ) (front : List ℕ) → IsBlank b → EndsBlank front → EndsBlank (b ∷ front)
ends_after b [] h k = h
ends_after b (c ∷ front) h k = k

pub ends_tail : (b : ℕ) (front : List ℕ) → EndsBlank (b ∷ front) → EndsBlank front
ends_tail b [] h = tt
ends_tail b (c ∷ front) h = h
