-- Taking the first word of bytes.
use Rattle.std.proofs.Common.{◌≡◌, ◌≢◌, ℕ, ◌+◌, ◌<◌, ◌≤◌, Bool, true, false, cond, not, List, [], ◌∷◌, length, take, drop, Option, Some, None, refl, sym, ap, subst, ◌∙◌, arith, length-drop}
use Rattle.std.specs.Prelude.{position, unwrap_or, nat_lt, is_some, IsTrue, ◌↔◌}
use Rattle.std.specs.List.{position_or_len}
use Rattle.std.proofs.lemmas.Bool.{false≢true}
use Rattle.lines.specs.Words.{Left, before}
use Rattle.lines.specs.Taking.{is_blank, words_from, left_of}
use Rattle.chains.proofs.callers.Elements.{below_no, placed, unplaced}
use Rattle.lines.proofs.WordsFrom.{is_solid, gap_of, end_of, drop_more, skip, none_from, first_of, first_word}

place_or : (b : Bool) (n l : ℕ) → nat_lt n l ≡ b → n ≤ l → unwrap_or (cond b (Some n) None) l ≡ n
place_or true n l e h = refl
place_or false n l e h = (let k = below_no n l e in omega arith)

within_by : (p : ℕ → Bool) (b : ℕ) (bs : List ℕ) (v : Bool) → position_or_len p bs ≤ length bs
    → cond v (1 + position_or_len p bs) 0 ≤ length (b ∷ bs)
within_by p b bs true h = omega arith
within_by p b bs false h = omega arith

within : (p : ℕ → Bool) (bytes : List ℕ) → position_or_len p bytes ≤ length bytes
within p [] = omega arith
within p (b ∷ bs) = within_by p b bs (not (p b)) (within p bs)

place_or_end : (p : ℕ → Bool) (bytes : List ℕ)
    → unwrap_or (position p bytes) (length bytes) ≡ position_or_len p bytes
place_or_end p bytes = place_or (nat_lt (position_or_len p bytes) (length bytes)) (position_or_len p bytes) (length bytes) refl (within p bytes)

-- no word is left
pub next_none : (at : ℕ) (bytes : List ℕ) → position is_solid bytes ≡ None → words_from at bytes ≡ []
next_none at bytes e = none_from bytes at (unplaced is_solid bytes e)

-- behind the blanks in front is a byte that is none
record Starts (bytes : List ℕ) : Type 0 where
  pub first : ℕ
  pub rest : List ℕ
  pub is : bytes ≡ first ∷ rest
  pub solid : is_blank first ≡ false

starts_by : (b : ℕ) (bs : List ℕ) (v : Bool) → is_blank b ≡ v
    → cond (not (not v)) (1 + gap_of bs) 0 < length (b ∷ bs)
    → (gap_of bs < length bs → Starts (drop (gap_of bs) bs))
    → Starts (drop (cond (not (not v)) (1 + gap_of bs) 0) (b ∷ bs))
starts_by b bs true e l more = subst Starts (sym (drop_more (gap_of bs) b bs)) (more (omega arith))
starts_by b bs false e l more = record { first = b; rest = bs; is = refl; solid = e }

starts : (bytes : List ℕ) → gap_of bytes < length bytes → Starts (drop (gap_of bytes) bytes)
starts [] l = absurd (omega arith)
starts (b ∷ bs) l = starts_by b bs (is_blank b) refl l (λ k. starts bs k)

-- bytes that begin with a word
begun : (at : ℕ) (bytes : List ℕ) → Starts bytes → words_from at bytes ≡ first_of at (end_of bytes) bytes
begun at bytes s =
    let n : ℕ = 1 + end_of s.rest in
    let e : end_of bytes ≡ n = ap end_of s.is ∙ ap (λ (v : Bool). cond (not v) (1 + end_of s.rest) 0) s.solid in
    ap (λ xs. words_from at xs) s.is ∙ first_word s.first s.rest at s.solid ∙ (λ i. first_of at (sym e i) (sym s.is i))

taken : (at : ℕ) (bytes : List ℕ) → gap_of bytes < length bytes
    → (let gap = gap_of bytes in let rest = drop gap bytes in let end = end_of rest in
    left_of at bytes ≡ before (record { column = at + gap + 1; text = take end rest }) (left_of (at + gap + end) (drop end rest)))
taken at bytes l =
    let gap : ℕ = gap_of bytes in
    let rest : List ℕ = drop gap bytes in
    let end : ℕ = end_of rest in
    let w : words_from at bytes ≡ record { column = at + gap + 1; text = take end rest } ∷ words_from (at + gap + end) (drop end rest) = skip bytes at ∙ begun (at + gap) rest (starts bytes l) in
    let a = within is_blank rest in
    let b = length-drop gap bytes in
    let c = length-drop end rest in
    let m : at + length bytes + 1 ≡ at + gap + end + length (drop end rest) + 1 = omega arith in
    λ i. record { words = w i; missing = m i }

-- the first word, by the places that were found
pub next_some : (at gap end : ℕ) (bytes rest word new : List ℕ) → position is_solid bytes ≡ Some gap
    → rest ≡ drop gap bytes
    → end ≡ unwrap_or (position is_blank rest) (length rest) → word ≡ take end rest → new ≡ drop end rest
    → left_of at bytes ≡ before (record { column = at + gap + 1; text = word }) (left_of (at + gap + end) new)
next_some at gap end bytes rest word new p r e w n =
    let h = placed is_solid bytes gap p in
    let g : gap_of bytes ≡ gap = h.1 in
    let r2 : drop (gap_of bytes) bytes ≡ rest = ap (λ k. drop k bytes) g ∙ sym r in
    let e2 : end_of (drop (gap_of bytes) bytes) ≡ end = ap end_of r2 ∙ sym (place_or_end is_blank rest) ∙ sym e in
    let w2 : take (end_of (drop (gap_of bytes) bytes)) (drop (gap_of bytes) bytes) ≡ word = (λ i. take (e2 i) (r2 i)) ∙ sym w in
    let n2 : drop (end_of (drop (gap_of bytes) bytes)) (drop (gap_of bytes) bytes) ≡ new = (λ i. drop (e2 i) (r2 i)) ∙ sym n in
    taken at bytes h.0 ∙ (λ i. before (record { column = at + g i + 1; text = w2 i }) (left_of (at + g i + e2 i) (n2 i)))

-- some word is left
pub next_left : (at gap : ℕ) (bytes : List ℕ) → position is_solid bytes ≡ Some gap → words_from at bytes ≢ []
next_left at gap bytes p =
    let h = placed is_solid bytes gap p in
    let e = taken at bytes h.0 in
    let q : (left_of at bytes).words ≢ [] = λ k. (let f = ap (λ (s : Left). s.words) e in cc) in
    q

-- whether no word is left
pub empty_iff : (at : ℕ) (bytes : List ℕ) (place : Option ℕ) (answer : Bool)
    → place ≡ position is_solid bytes → is_some place ≡ not answer
    → IsTrue answer ↔ (words_from at bytes ≡ [])
empty_iff at bytes None true p a = ((λ _. next_none at bytes (sym p)), (λ _. refl))
empty_iff at bytes None false p a = absurd (false≢true a)
empty_iff at bytes (Some gap) true p a = absurd (false≢true (sym a))
empty_iff at bytes (Some gap) false p a = ((λ t. absurd (false≢true t)), (λ e. absurd (next_left at gap bytes (sym p) e)))
