-- The first word of a command ends where its bytes end it.
use Rattle.std.proofs.Common.{◌≡◌, ◌∙◌, ◌++◌, ◌≤◌, ℕ, suc, take, drop, length, Bool, true, false, refl, sym, ap, subst, List, [], ◌∷◌, ◌⊎◌, inl, inr, arith, cond, append-nil, ◌==◌, ◌||◌}
use Rattle.std.specs.Prelude.{All}
use Rattle.std.specs.List.{list_any, position_or_len}
use Rattle.std.proofs.lemmas.List.Elements.{All-nil, All-cons, All-head, All-tail}
use Rattle.std.proofs.lemmas.List.{take_all}
use Rattle.std.proofs.lemmas.List.Recursion.{is_position_or_len}
use Rattle.std.proofs.lemmas.Bool.{eqb-true}
use Rattle.chains.proofs.callers.Elements.{same_heads, same_tails}
use Rattle.routes.specs.Edits.{IsEnd, EndsWord, IsChange}
use Rattle.routes.specs.FirstWords.{IsFirstWord, is_end}
use Rattle.vocabulary.specs.Verbs.{verb_text}
use Rattle.vocabulary.specs.declared.verb.Verb.{Verb}
use Rattle.vocabulary.specs.declared.verb.Verb.TheVariants as verb

abbrev Text : Type 0
Text = List ℕ

end_found : (b : ℕ) → IsEnd b → is_end b ≡ true
end_found b e = elim e [
  | inl x ↦ elim x [ inl y ↦ rw y refl | inr y ↦ rw y refl ]
  | inr x ↦ elim x [ inl y ↦ rw y refl | inr y ↦ rw y refl ]
]

solid : (word : Text) → list_any is_end word ≡ false → All (λ b. ¬ IsEnd b) word
solid [] h = All-nil (λ b. ¬ IsEnd b)
solid (b ∷ word) h = pick (is_end b) refl h (solid word) where
  pick : (v : Bool) → is_end b ≡ v → (v || list_any is_end word) ≡ false → (list_any is_end word ≡ false → All (λ b. ¬ IsEnd b) word) → All (λ b. ¬ IsEnd b) (b ∷ word)
  pick true e g rest = absurd (let f = g in cc)
  pick false e g rest = All-cons (λ b. ¬ IsEnd b) b word (λ k. let f = sym e ∙ end_found b k in absurd cc) (rest g)

no_end : (v : Verb) → list_any is_end (verb_text v) ≡ false
no_end verb.New = refl
no_end verb.List = refl
no_end verb.Show = refl
no_end verb.Faults = refl
no_end verb.Vertex = refl
no_end verb.Pattern = refl
no_end verb.Cp = refl
no_end verb.Fold = refl
no_end verb.Draw = refl
no_end verb.Erase = refl
no_end verb.Recolour = refl
no_end verb.Flip = refl
no_end verb.Extend = refl
no_end verb.Bisect = refl
no_end verb.Mirror = refl
no_end verb.RabbitEar = refl
no_end verb.Import = refl
no_end verb.Undo = refl
no_end verb.Redo = refl

-- a text is cut in one way where its first word ends
one_word : (xs ys bs cs : Text) → All (λ b. ¬ IsEnd b) xs → All (λ b. ¬ IsEnd b) ys → EndsWord bs → EndsWord cs → xs ++ bs ≡ ys ++ cs → (xs ≡ ys) × (bs ≡ cs)
one_word [] [] bs cs h k f g e = (refl, e)
one_word [] (y ∷ ys) [] cs h k f g e = absurd (let z = e in cc)
one_word [] (y ∷ ys) (b ∷ bs) cs h k f g e = absurd (All-head (λ b. ¬ IsEnd b) y ys k (subst IsEnd (same_heads e) f))
one_word (x ∷ xs) [] bs [] h k f g e = absurd (let z = e in cc)
one_word (x ∷ xs) [] bs (c ∷ cs) h k f g e = absurd (All-head (λ b. ¬ IsEnd b) x xs h (subst IsEnd (sym (same_heads e)) g))
one_word (x ∷ xs) (y ∷ ys) bs cs h k f g e =
    let r = one_word xs ys bs cs (All-tail (λ b. ¬ IsEnd b) x xs h) (All-tail (λ b. ¬ IsEnd b) y ys k) f g (same_tails e) in
    (ap (λ z. z ∷ xs) (same_heads e) ∙ ap (λ z. y ∷ z) r.0, r.1)

-- the word of a command that changes a project is its first word
pub change_word : (command word behind after : Text) (v : Verb) → IsFirstWord command word behind → IsChange command v after → (word ≡ verb_text v) × (behind ≡ after)
change_word command word behind after v f c =
    one_word word (verb_text v) behind after f.solid (solid (verb_text v) (no_end v)) f.ends c.ends (sym f.whole ∙ c.whole)

-- where the first word ends
end_told : (b : ℕ) → is_end b ≡ true → IsEnd b
end_told b h = first (b == 32) refl h where
  last : (p : Bool) → (b == 13) ≡ p → (p || (b == 10)) ≡ true → (b ≡ 13) ⊎ (b ≡ 10)
  last true e g = inl (eqb-true b 13 e)
  last false e g = inr (eqb-true b 10 g)

  next : (p : Bool) → (b == 9) ≡ p → (p || ((b == 13) || (b == 10))) ≡ true → IsEnd b
  next true e g = inl (inr (eqb-true b 9 e))
  next false e g = inr (last (b == 13) refl g)

  first : (p : Bool) → (b == 32) ≡ p → (p || ((b == 9) || ((b == 13) || (b == 10)))) ≡ true → IsEnd b
  first true e g = inl (inl (eqb-true b 32 e))
  first false e g = next (b == 9) refl g

abbrev word_len : Text → ℕ
word_len [] = 0
word_len (b ∷ text) = cond (is_end b) 0 (suc (word_len text))

word_len_is : (text : Text) → word_len text ≡ position_or_len is_end text
word_len_is text = is_position_or_len word_len is_end refl (λ x xs. ap (cond (is_end x) 0) (omega arith)) text

cut_at : (text : Text) → IsFirstWord text (take (word_len text) text) (drop (word_len text) text)
cut_at [] = record { whole = refl; solid = All-nil (λ b. ¬ IsEnd b); ends = tt }
cut_at (b ∷ text) = pick (is_end b) refl (cut_at text) where
  pick : (p : Bool) → is_end b ≡ p → IsFirstWord text (take (word_len text) text) (drop (word_len text) text)
      → IsFirstWord (b ∷ text) (take (cond p 0 (suc (word_len text))) (b ∷ text)) (drop (cond p 0 (suc (word_len text))) (b ∷ text))
  pick true e f = record { whole = refl; solid = All-nil (λ b. ¬ IsEnd b); ends = end_told b e }
  pick false e f = record {
    whole = ap (λ t. b ∷ t) f.whole;
    solid = All-cons (λ b. ¬ IsEnd b) b (take (word_len text) text) (λ k. let g = sym e ∙ end_found b k in absurd cc) f.solid;
    ends = f.ends;
  }

pub first_word_at : (text : Text) (n : ℕ) → position_or_len is_end text ≡ n → IsFirstWord text (take n text) (drop n text)
first_word_at text n e = subst (λ k. IsFirstWord text (take k text) (drop k text)) (word_len_is text ∙ e) (cut_at text)

-- no byte ends the word
pub first_word_all : (text : Text) → length text ≤ position_or_len is_end text → IsFirstWord text text []
first_word_all text l = whole_word text (cut_at text) (subst (λ k. length text ≤ k) (sym (word_len_is text)) l)
  where
    whole_word : (text : Text) → IsFirstWord text (take (word_len text) text) (drop (word_len text) text) → length text ≤ word_len text → IsFirstWord text text []
    whole_word text f h = record { whole = sym (append-nil text); solid = subst (All (λ b. ¬ IsEnd b)) (take_all (word_len text) text h) f.solid; ends = tt }

-- a command is a change in one way
pub one_change : (command behind after : Text) (v w : Verb) → IsChange command v behind → IsChange command w after → (verb_text v ≡ verb_text w) × (behind ≡ after)
one_change command behind after v w f g =
    one_word (verb_text v) (verb_text w) behind after (solid (verb_text v) (no_end v)) (solid (verb_text w) (no_end w)) f.ends g.ends (sym f.whole ∙ g.whole)
