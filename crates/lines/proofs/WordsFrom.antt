-- What the first word of bytes is, by the first byte that is no blank and the first blank behind it.
use Rattle.std.proofs.Common.{◌≡◌, ℕ, suc, ◌+◌, ◌-◌, ◌≤◌, Bool, true, false, cond, not, List, [], ◌∷◌, length, take, drop, refl, sym, ap, ◌∙◌, arith}
use Rattle.std.specs.List.{position_or_len}
use Rattle.lines.specs.Words.{Word}
use Rattle.lines.specs.Taking.{is_blank, is_apart, with_byte, words_from}

abbrev pub is_solid : ℕ → Bool
is_solid b = not (is_blank b)

-- how many blanks are in front, and how many bytes before the first blank
abbrev pub gap_of : List ℕ → ℕ
gap_of bytes = position_or_len is_solid bytes

abbrev pub end_of : List ℕ → ℕ
end_of bytes = position_or_len is_blank bytes

pub drop_more : (n b : ℕ) (bs : List ℕ) → drop (1 + n) (b ∷ bs) ≡ drop n bs
drop_more n b bs = let e : 1 + n ≡ suc n = omega arith in ap (λ m. drop m (b ∷ bs)) e

pub take_more : (n b : ℕ) (bs : List ℕ) → take (1 + n) (b ∷ bs) ≡ b ∷ take n bs
take_more n b bs = let e : 1 + n ≡ suc n = omega arith in ap (λ m. take m (b ∷ bs)) e

same_from : {at to : ℕ} {bytes others : List ℕ} → at ≡ to → bytes ≡ others
    → words_from at bytes ≡ words_from to others
same_from p q = λ i. words_from (p i) (q i)

pub blank_step : (b : ℕ) (bs : List ℕ) (at : ℕ) → is_blank b ≡ true
    → words_from at (b ∷ bs) ≡ words_from (at + 1) bs
unfolding words_from
blank_step b bs at e = ap (λ (v : Bool). cond v (words_from (at + 1) bs) (cond (is_apart bs) (record { column = at + 1; text = b ∷ [] } ∷ words_from (at + 1) bs) (with_byte b (words_from (at + 1) bs)))) e

solid_step : (b : ℕ) (bs : List ℕ) (at : ℕ) → is_blank b ≡ false
    → words_from at (b ∷ bs) ≡ cond (is_apart bs) (record { column = at + 1; text = b ∷ [] } ∷ words_from (at + 1) bs) (with_byte b (words_from (at + 1) bs))
unfolding words_from
solid_step b bs at e = ap (λ (v : Bool). cond v (words_from (at + 1) bs) (cond (is_apart bs) (record { column = at + 1; text = b ∷ [] } ∷ words_from (at + 1) bs) (with_byte b (words_from (at + 1) bs)))) e

pub nothing_from : (at : ℕ) → words_from at [] ≡ []
unfolding words_from
nothing_from at = refl

skip_by : (b : ℕ) (bs : List ℕ) (at : ℕ) (v : Bool) → is_blank b ≡ v
    → words_from (at + 1) bs ≡ words_from (at + 1 + gap_of bs) (drop (gap_of bs) bs)
    → words_from at (b ∷ bs) ≡ words_from (at + cond (not (not v)) (1 + gap_of bs) 0) (drop (cond (not (not v)) (1 + gap_of bs) 0) (b ∷ bs))
skip_by b bs at true e more =
    let p : at + 1 + gap_of bs ≡ at + (1 + gap_of bs) = omega arith in
    blank_step b bs at e ∙ more ∙ same_from p (sym (drop_more (gap_of bs) b bs))
skip_by b bs at false e more = (let p : at ≡ at + 0 = omega arith in ap (λ k. words_from k (b ∷ bs)) p)

-- blanks in front do not matter
pub skip : (bytes : List ℕ) (at : ℕ)
    → words_from at bytes ≡ words_from (at + gap_of bytes) (drop (gap_of bytes) bytes)
skip [] at = nothing_from at ∙ sym (nothing_from (at + 0))
skip (b ∷ bs) at = skip_by b bs at (is_blank b) refl (skip bs (at + 1))

none_by : (b : ℕ) (bs : List ℕ) (at : ℕ) (v : Bool) → is_blank b ≡ v
    → suc (length bs) ≤ cond (not (not v)) (1 + gap_of bs) 0
    → (length bs ≤ gap_of bs → words_from (at + 1) bs ≡ []) → words_from at (b ∷ bs) ≡ []
none_by b bs at true e h more = blank_step b bs at e ∙ more (omega arith)
none_by b bs at false e h more = absurd (omega arith)

-- only blanks, no words
pub none_from : (bytes : List ℕ) (at : ℕ) → length bytes ≤ gap_of bytes → words_from at bytes ≡ []
none_from [] at h = nothing_from at
none_from (b ∷ bs) at h = none_by b bs at (is_blank b) refl h (λ k. none_from bs (at + 1) k)

-- the first n bytes are the first word
abbrev pub first_of : ℕ → ℕ → List ℕ → List Word
first_of at n bytes = record { column = at + 1; text = take n bytes } ∷ words_from (at + n) (drop n bytes)

grown : (b : ℕ) (bs : List ℕ) (at m : ℕ) → with_byte b (first_of (at + 1) m bs) ≡ first_of at (1 + m) (b ∷ bs)
grown b bs at m =
    let p : at + 1 + 1 - 1 ≡ at + 1 = omega arith in
    let q : b ∷ take m bs ≡ take (1 + m) (b ∷ bs) = sym (take_more m b bs) in
    let s : at + 1 + m ≡ at + (1 + m) = omega arith in
    let r : words_from (at + 1 + m) (drop m bs) ≡ words_from (at + (1 + m)) (drop (1 + m) (b ∷ bs)) = same_from s (sym (drop_more m b bs)) in
    λ i. record { column = p i; text = q i } ∷ r i

mutual_step : (b c : ℕ) (cs : List ℕ) (at : ℕ) (v : Bool) → is_blank c ≡ v
    → (is_blank c ≡ false → words_from (at + 1) (c ∷ cs) ≡ first_of (at + 1) (1 + end_of cs) (c ∷ cs))
    → cond v (record { column = at + 1; text = b ∷ [] } ∷ words_from (at + 1) (c ∷ cs)) (with_byte b (words_from (at + 1) (c ∷ cs)))
    ≡ first_of at (1 + cond (not v) (1 + end_of cs) 0) (b ∷ c ∷ cs)
mutual_step b c cs at true e more = refl
mutual_step b c cs at false e more = ap (with_byte b) (more e) ∙ grown b (c ∷ cs) at (1 + end_of cs)

-- a byte that is no blank begins a word up to the first blank
pub first_word : (b : ℕ) (bs : List ℕ) (at : ℕ) → is_blank b ≡ false
    → words_from at (b ∷ bs) ≡ first_of at (1 + end_of bs) (b ∷ bs)
first_word b [] at e = solid_step b [] at e
first_word b (c ∷ cs) at e = solid_step b (c ∷ cs) at e ∙ mutual_step b c cs at (is_blank c) refl (λ h. first_word c cs (at + 1) h)
