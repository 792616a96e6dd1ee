-- A list cut at the first place of a byte, and that there is one way to cut it.
use Rattle.std.proofs.Common.{◌≡◌, ℕ, suc, ◌<◌, ◌+◌, List, [], ◌∷◌, ◌++◌, take, drop, length, get_or, cond, true, false, Bool, refl, sym, ap, ◌∙◌, arith, add-one, length-take, drop-cons, ltb}
use Rattle.std.specs.Prelude.{Contains, position, ◌==◌, Some, None}
use Rattle.std.specs.List.{position_or_len}
use Rattle.std.proofs.lemmas.List.{take-append-drop, get_or-take, get_or_default}
use Rattle.std.proofs.lemmas.List.Quantifiers.{position-Some}
use Rattle.std.proofs.lemmas.List.Sums.{fails_before_first}
use Rattle.std.proofs.lemmas.Bool.{eqb-true, eqb-false, ltb-false}
use Rattle.pattern.specs.Splitting.{SplitsAt}
use Rattle.chains.proofs.callers.Elements.{no_place}

-- at the first place of a byte
pub split_at : (bytes : List ℕ) (at i : ℕ) → position (λ b. b == at) bytes ≡ Some i → SplitsAt bytes at (take i bytes) (drop (i + 1) bytes)
split_at bytes at i e =
    let found = position-Some (λ b. b == at) bytes i 0 e in
    let byte : get_or bytes i 0 ≡ at = eqb-true (get_or bytes i 0) at found.1 in
    record {
      joined = sym (take-append-drop i bytes) ∙ ap (λ t. take i bytes ++ t) (drop-cons bytes i 0 found.0 ∙ ap (λ b. b ∷ drop (suc i) bytes) byte ∙ ap (λ n. at ∷ drop n bytes) (sym (add-one i)));
      first = λ c.
          let short : c.0 < i = omega (arith, c.1, length-take i bytes) in
          let there : get_or bytes c.0 at ≡ at = sym (get_or-take i bytes c.0 at short) ∙ c.2 in
          eqb-false (get_or bytes c.0 0) at (found.2 c.0 short) (get_or_default bytes c.0 0 at (omega (arith, found.0, short)) ∙ there);
    }

pub never : (bytes : List ℕ) (at : ℕ) → position (λ b. b == at) bytes ≡ None → ¬ Contains bytes at
never bytes at e c =
    let end : ltb (position_or_len (λ b. b == at) bytes) (length bytes) ≡ false = no_place (ltb (position_or_len (λ b. b == at) bytes) (length bytes)) (position_or_len (λ b. b == at) bytes) e in
    let short : c.0 < position_or_len (λ b. b == at) bytes = omega (arith, c.1, ltb-false, end) in
    eqb-false (get_or bytes c.0 at) at (fails_before_first (λ b. b == at) bytes c.0 at short) c.2

-- a list is cut in one way
pub one_split : (at : ℕ) (a b c d : List ℕ) → ¬ Contains a at → ¬ Contains c at → a ++ at ∷ b ≡ c ++ at ∷ d → (a ≡ c) × (b ≡ d)
one_split at [] b [] d m n e = (refl, cc)
one_split at [] b (x ∷ c) d m n e = absurd (n (0, omega arith, cc))
one_split at (x ∷ a) b [] d m n e = absurd (m (0, omega arith, cc))
one_split at (x ∷ a) b (y ∷ c) d m n e =
    let rest = one_split at a b c d (λ h. m (suc h.0, omega (arith, h.1), h.2)) (λ h. n (suc h.0, omega (arith, h.1), h.2)) (cc) in
    (cc, rest.1)
