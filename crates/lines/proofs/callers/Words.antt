-- The words that are taken from the front on are all words of a line, and a line has one list of them.
use Rattle.std.proofs.Common.{◌≡◌, ℕ, suc, ◌<◌, List, [], ◌∷◌, length, refl, sym, ap, subst, ◌∙◌, inl, inr, arith}
use Rattle.std.specs.Prelude.{AllPairs, Contains}
use Rattle.lines.specs.Words.{Word, AreWords}
use Rattle.lines.specs.Taking.{words_from}
use Rattle.lines.proofs.AllWords.{Earlier, all_at}
use Rattle.chains.proofs.callers.Elements.{head_has, tail_has, has_cases, has_none}

-- the words that are taken from the front on are all words of the line
pub all_words : (line : List ℕ) → AreWords line (words_from 0 line)
all_words line =
    let a = all_at (length line) line 0 (omega arith) in
    record {
      ascend = a.ascend;
      all = λ w. (
        λ c. (let v = a.found w c in let p = v.column in record { before = v.front; after = v.back; whole = v.whole; column = omega arith; some = v.some; solid = v.solid; left = v.left; right = v.right }),
        λ v. a.all w (let p = v.column in record { front = v.before; back = v.after; whole = v.whole; column = omega arith; some = v.some; solid = v.solid; left = v.left; right = v.right }),
      );
    }

-- ascending lists with the same words are one list
first_before : (w v : Word) (ws : List Word) → AllPairs Earlier (w ∷ ws) → Contains ws v → w.column < v.column
first_before w v ws a c =
    let l = c.1 in
    subst (λ (u : Word). w.column < u.column) c.2 (a 0 (suc c.0) v (omega arith) (omega arith))

later_pairs : (w : Word) (ws : List Word) → AllPairs Earlier (w ∷ ws) → AllPairs Earlier ws
later_pairs w ws a = λ i j d l m. a (suc i) (suc j) d (omega arith) (omega arith)

same_first_word : (w v : Word) (ws vs : List Word) → AllPairs Earlier (w ∷ ws) → AllPairs Earlier (v ∷ vs)
    → Contains (v ∷ vs) w → Contains (w ∷ ws) v → w ≡ v
same_first_word w v ws vs a b c d = elim (has_cases v w vs c) [
  | inl e ↦ sym e
  | inr h ↦ elim (has_cases w v ws d) [
    | inl e ↦ e
    | inr k ↦ (let p = first_before w v ws a k in let q = first_before v w vs b h in absurd (omega arith))
  ]
]

in_rest : (w v u : Word) (ws vs : List Word) → w ≡ v → AllPairs Earlier (w ∷ ws) → Contains ws u
    → Contains (v ∷ vs) u → Contains vs u
in_rest w v u ws vs e a h c = elim (has_cases v u vs c) [
  | inl p ↦ (let l = first_before w u ws a h in let m : w.column ≡ u.column = ap (λ (x : Word). x.column) (e ∙ p) in absurd (omega arith))
  | inr k ↦ k
]

same_words : (ws vs : List Word) → AllPairs Earlier ws → AllPairs Earlier vs
    → ((u : Word) → Contains ws u → Contains vs u) → ((u : Word) → Contains vs u → Contains ws u) → ws ≡ vs
same_words [] [] a b f g = refl
same_words [] (v ∷ vs) a b f g = absurd (has_none v (g v (head_has v v vs refl)))
same_words (w ∷ ws) [] a b f g = absurd (has_none w (f w (head_has w w ws refl)))
same_words (w ∷ ws) (v ∷ vs) a b f g =
    let e = same_first_word w v ws vs a b (f w (head_has w w ws refl)) (g v (head_has v v vs refl)) in
    let r = same_words ws vs (later_pairs w ws a) (later_pairs v vs b)
    (λ u h. in_rest w v u ws vs e a h (f u (tail_has w u ws h)))
    (λ u h. in_rest v w u vs ws (sym e) b h (g u (tail_has v u vs h))) in
    λ i. e i ∷ r i

pub one_list : (line : List ℕ) (ws vs : List Word) → AreWords line ws → AreWords line vs → ws ≡ vs
one_list line ws vs a b = same_words ws vs a.ascend b.ascend (λ u h. (b.all u).1 ((a.all u).0 h)) (λ u h. (a.all u).1 ((b.all u).0 h))
