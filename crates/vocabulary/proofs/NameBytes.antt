-- The bytes of a name, one after another.
use Rattle.std.proofs.Common.{◌≡◌, ℕ, ◌+◌, ◌<◌, List, [], ◌∷◌, ◌++◌, length, get_or, take, sym, ap, ◌∙◌, inl, inr, arith}
use Rattle.std.proofs.lemmas.List.{take_more}
use Rattle.vocabulary.specs.Names.{IsNameByte}

pub is_ascii : (b : ℕ) → IsNameByte b → b < 128
is_ascii b h = elim h [
  | inl l ↦ omega (arith, l.1)
  | inr r ↦ elim r [ inl d ↦ omega (arith, d.1) | inr s ↦ elim s [ inl u ↦ omega (arith, u) | inr m ↦ omega (arith, m) ] ]
]

pub one_more : (bytes : List ℕ) (i : ℕ) (old new : List ℕ) → i < length bytes → old ≡ take i bytes → new ≡ old ++ get_or bytes i 0 ∷ [] → new ≡ take (i + 1) bytes
one_more bytes i old new l h k = k ∙ ap (λ (xs : List ℕ). xs ++ get_or bytes i 0 ∷ []) h ∙ sym (take_more bytes i 0 l)
