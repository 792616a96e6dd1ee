-- One text after another is added to a block.
use Rattle.std.proofs.Common.{◌≡◌, ℕ, ◌+◌, ◌<◌, List, [], ◌∷◌, ◌++◌, length, take, drop, get_or, sym, ap, subst, ◌∙◌}
use Rattle.std.specs.Prelude.{Option, Some, None, flat_map, Result, Ok, Err, IsErr}
use Rattle.std.proofs.lemmas.List.{append-nil, append_assoc, take_more, take-append-drop}
use Rattle.std.proofs.lemmas.List.Concat.{flat_map-append}
use Rattle.std.proofs.lemmas.Bool.{false≢true}
use Rattle.ports.specs.Streams.{Puts}
use Rattle.commands.specs.Blocks.{Added, Broken, Adds}

-- the parts of two additions
two : (b s t p q rest last : List ℕ) → p ++ rest ≡ b ++ s → q ++ last ≡ rest ++ t → (p ++ q) ++ last ≡ b ++ (s ++ t)
two b s t p q rest last e f =
    append_assoc p q last ∙ ap (λ xs. p ++ xs) f ∙ sym (append_assoc p rest t) ∙ ap (λ xs. xs ++ t) e ∙ append_assoc b s t

pub added_more : (h : Option (List ℕ)) (b : List ℕ) (k : Option (List ℕ)) (c : List ℕ) (l : Option (List ℕ)) (d s t : List ℕ)
    → Added h b k c s → Added k c l d t → Added h b l d (s ++ t)
added_more None b None c None d s t x y = tt
added_more None b None c (Some new) d s t x y = y
added_more None b (Some k) c l d s t x y = absurd x
added_more (Some h) b None c l d s t x y = absurd x
added_more (Some h) b (Some k) c None d s t x y = y
added_more (Some h) b (Some k) c (Some l) d s t x y =
    (x.0 ++ y.0, y.1 ∙ ap (λ xs. xs ++ y.0) x.1 ∙ append_assoc h x.0 y.0, two b s t x.0 y.0 c d x.2 y.2)

pub broken_later : (h : Option (List ℕ)) (b : List ℕ) (k : Option (List ℕ)) (c : List ℕ) (l : Option (List ℕ)) (s t : List ℕ)
    → Added h b k c s → Broken k c l t → Broken h b l (s ++ t)
broken_later None b None c None s t x y = tt
broken_later None b None c (Some new) s t x y = y
broken_later None b (Some k) c l s t x y = absurd x
broken_later (Some h) b None c l s t x y = absurd x
broken_later (Some h) b (Some k) c None s t x y = y
broken_later (Some h) b (Some k) c (Some l) s t x y =
    let rest = y.1.0 in
    (x.0 ++ y.0, (rest, sym (two b s t x.0 y.0 c rest x.2 (sym y.1.1))), y.2 ∙ ap (λ xs. xs ++ y.0) x.1 ∙ append_assoc h x.0 y.0)

pub broken_more : (h : Option (List ℕ)) (b : List ℕ) (l : Option (List ℕ)) (s t : List ℕ) → Broken h b l s → Broken h b l (s ++ t)
broken_more None b None s t y = tt
broken_more None b (Some new) s t y = y
broken_more (Some h) b None s t y = y
broken_more (Some h) b (Some l) s t y =
    (y.0, (y.1.0 ++ t, sym (append_assoc b s t) ∙ ap (λ xs. xs ++ t) y.1.1 ∙ append_assoc y.0 y.1.0 t), y.2)

-- an addition and then another, which may fail
pub adds_more : {T E : Type 0} (h : Option (List ℕ)) (b : List ℕ) (k : Option (List ℕ)) (c : List ℕ) (l : Option (List ℕ)) (d s t : List ℕ) (r : Result T E)
    → Added h b k c s → Adds k c l d t r → Adds h b l d (s ++ t) r
adds_more h b k c l d s t (Ok x) p q = added_more h b k c l d s t p q
adds_more h b k c l d s t (Err e) p q = broken_later h b k c l s t p q

module _ {A : Type 0} (text : A → List ℕ) (items : List A) (i : ℕ) (e : A) (l : i < length items) where
  pub so_far : flat_map text (take (i + 1) items) ≡ flat_map text (take i items) ++ text (get_or items i e)
  so_far =
      ap (λ xs. flat_map text xs) (take_more items i e l)
      ∙ flat_map-append text (take i items) (get_or items i e ∷ [])
      ∙ ap (λ xs. flat_map text (take i items) ++ xs) (append-nil (text (get_or items i e)))

  pub in_all : flat_map text items ≡ (flat_map text (take i items) ++ text (get_or items i e)) ++ flat_map text (drop (i + 1) items)
  in_all =
      ap (λ xs. flat_map text xs) (sym (take-append-drop (i + 1) items))
      ∙ flat_map-append text (take (i + 1) items) (drop (i + 1) items)
      ∙ ap (λ xs. xs ++ flat_map text (drop (i + 1) items)) so_far

-- a fault at the next of several
module _ {A : Type 0} (text : A → List ℕ) where
  pub broken_in : {T E : Type 0} (h : Option (List ℕ)) (b : List ℕ) (k : Option (List ℕ)) (c : List ℕ) (l : Option (List ℕ)) (d : List ℕ) (items : List A) (i : ℕ) (e : A) (r : Result T E)
      → i < length items → Added h b k c (flat_map text (take i items)) → Broken k c l (text (get_or items i e)) → IsErr r → Adds h b l d (flat_map text items) r
  broken_in h b k c l d items i e (Ok x) within p q r = absurd (false≢true r)
  broken_in h b k c l d items i e (Err x) within p q r =
      subst (λ t. Broken h b l t) (sym (in_all text items i e within))
      (broken_more h b l (flat_map text (take i items) ++ text (get_or items i e)) _ (broken_later h b k c l _ _ p q))

  pub broken_item : {T E : Type 0} (h : Option (List ℕ)) (b : List ℕ) (k : Option (List ℕ)) (c : List ℕ) (l : Option (List ℕ)) (d : List ℕ) (items : List A) (i : ℕ) (item : A) (r : Result T E)
      → i < length items → item ≡ get_or items i item → Added h b k c (flat_map text (take i items)) → Broken k c l (text item) → IsErr r → Adds h b l d (flat_map text items) r
  broken_item h b k c l d items i item r within is p q e =
      broken_in h b k c l d items i item r within p (subst (λ x. Broken k c l (text x)) is q) e

-- the rest of a text is put
pub puts_last : {T E : Type 0} (h k : Option (List ℕ)) (c : List ℕ) (l : Option (List ℕ)) (t : List ℕ) (r : Result T E) → Added h [] k c t → Puts k l c r → Puts h l t r
puts_last None None c None t r p q = tt
puts_last None None c (Some l) t r p q = q
puts_last None (Some k) c l t r p q = absurd p
puts_last (Some h) None c l t r p q = absurd p
puts_last (Some h) (Some k) c None t r p q = q
puts_last (Some h) (Some k) c (Some l) t (Ok x) p q =
    q ∙ ap (λ xs. xs ++ c) p.1 ∙ append_assoc h p.0 c ∙ ap (λ xs. h ++ xs) p.2
puts_last (Some h) (Some k) c (Some l) t (Err e) p q =
    let rest = q.1.0 in
    (p.0 ++ q.0, (rest, sym p.2 ∙ ap (λ xs. p.0 ++ xs) q.1.1 ∙ sym (append_assoc p.0 q.0 rest)), q.2 ∙ ap (λ xs. xs ++ q.0) p.1 ∙ append_assoc h p.0 q.0)

-- a fault ends a text early
pub adds_cut : {T E : Type 0} (h : Option (List ℕ)) (b : List ℕ) (l : Option (List ℕ)) (d s t : List ℕ) (r : Result T E)
    → Broken h b l s → IsErr r → Adds h b l d (s ++ t) r
adds_cut h b l d s t (Ok x) p q = absurd (false≢true q)
adds_cut h b l d s t (Err x) p q = broken_more h b l s t p

-- a fault ends it in its second part
pub adds_cut_later : {T E : Type 0} (h : Option (List ℕ)) (b : List ℕ) (k : Option (List ℕ)) (c : List ℕ) (l : Option (List ℕ)) (d s t u : List ℕ) (r : Result T E)
    → Added h b k c s → Broken k c l t → IsErr r → Adds h b l d (s ++ (t ++ u)) r
adds_cut_later h b k c l d s t u (Ok x) p q e = absurd (false≢true e)
adds_cut_later h b k c l d s t u (Err x) p q e = broken_later h b k c l s (t ++ u) p (broken_more k c l t u q)

-- the same text, said otherwise
pub adds_same : {T E : Type 0} (h : Option (List ℕ)) (b : List ℕ) (l : Option (List ℕ)) (d s t : List ℕ) (r : Result T E) → s ≡ t → Adds h b l d s r → Adds h b l d t r
adds_same h b l d s t r e p = subst (λ x. Adds h b l d x r) e p
