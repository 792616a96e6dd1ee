-- A text with escapes has one value.
use Rattle.std.proofs.Common.{◌≡◌, ◌≢◌, ◌∙◌, ◌++◌, ◌+◌, ◌*◌, ℕ, refl, sym, ap, subst, List, [], ◌∷◌, inl, inr, arith, append_assoc, append-nil}
use Rattle.chains.proofs.callers.Elements.{same_heads, same_tails}
use Rattle.routes.specs.Queries.{IsHexDigit, IsHexPair, IsEscape, IsFirstByte, Unescapes}

one_digit : (digit a b : ℕ) → IsHexDigit digit a → IsHexDigit digit b → a ≡ b
one_digit digit a b f g = elim f [
  | inl x ↦ elim g [
    | inl y ↦ omega (arith, x.0, y.0)
    | inr y ↦ elim y.2 [ inl z ↦ absurd (omega (arith, x.0, x.1, y.0, z)) | inr z ↦ absurd (omega (arith, x.0, x.1, y.0, z)) ]
  ]
  | inr x ↦ elim x.2 [
    | inl w ↦ elim g [
      | inl y ↦ absurd (omega (arith, w, x.0, y.0, y.1))
      | inr y ↦ elim y.2 [ inl z ↦ omega (arith, w, z) | inr z ↦ absurd (omega (arith, w, x.0, x.1, y.0, y.1, z)) ]
    ]
    | inr w ↦ elim g [
      | inl y ↦ absurd (omega (arith, w, x.0, y.0, y.1))
      | inr y ↦ elim y.2 [ inl z ↦ absurd (omega (arith, w, x.0, x.1, y.0, y.1, z)) | inr z ↦ omega (arith, w, z) ]
    ]
  ]
]

pub one_pair : (first second b c : ℕ) → IsHexPair first second b → IsHexPair first second c → b ≡ c
one_pair first second b c f g =
    let high : f.high ≡ g.high = one_digit first f.high g.high f.is_first g.is_first in
    let low : f.low ≡ g.low = one_digit second f.low g.low f.is_second g.is_second in
    f.valued ∙ ap (λ h. 16 * h + f.low) high ∙ ap (λ l. 16 * g.high + l) low ∙ sym g.valued

-- how a text goes on behind its first byte
plain_text : (text behind : List ℕ) (byte : ℕ) (f : IsFirstByte text byte behind) → f.unit ≡ byte ∷ [] → text ≡ byte ∷ behind
plain_text text behind byte f e = f.whole ∙ ap (λ u. u ++ behind) e

escape_text : (text behind : List ℕ) (byte : ℕ) (f : IsFirstByte text byte behind) (e : IsEscape f.unit byte) → text ≡ 37 ∷ e.first ∷ e.second ∷ behind
escape_text text behind byte f e = f.whole ∙ ap (λ u. u ++ behind) e.spelled

pub one_first : (text : List ℕ) (b c : ℕ) (xs ys : List ℕ) → IsFirstByte text b xs → IsFirstByte text c ys → (b ≡ c) × (xs ≡ ys)
one_first text b c xs ys f g = elim f.writes [
  | inl p ↦ elim g.writes [
    | inl q ↦ let e : b ∷ xs ≡ c ∷ ys = sym (plain_text text xs b f p.0) ∙ plain_text text ys c g q.0 in (same_heads e, same_tails e)
    | inr q ↦ let e : b ∷ xs ≡ 37 ∷ q.first ∷ q.second ∷ ys = sym (plain_text text xs b f p.0) ∙ escape_text text ys c g q in absurd (p.1 (same_heads e))
  ]
  | inr p ↦ elim g.writes [
    | inl q ↦ let e : c ∷ ys ≡ 37 ∷ p.first ∷ p.second ∷ xs = sym (plain_text text ys c g q.0) ∙ escape_text text xs b f p in absurd (q.1 (same_heads e))
    | inr q ↦
        let e : 37 ∷ p.first ∷ p.second ∷ xs ≡ 37 ∷ q.first ∷ q.second ∷ ys = sym (escape_text text xs b f p) ∙ escape_text text ys c g q in
        let first : p.first ≡ q.first = same_heads (same_tails e) in
        let second : p.second ≡ q.second = same_heads (same_tails (same_tails e)) in
        let pair : IsHexPair p.first p.second c = subst (λ x. IsHexPair x p.second c) (sym first) (subst (λ y. IsHexPair q.first y c) (sym second) q.pair) in
        (one_pair p.first p.second b c p.pair pair, same_tails (same_tails (same_tails e)))
  ]
]

-- no byte comes first in nothing
pub no_first : (b : ℕ) (xs : List ℕ) → IsFirstByte [] b xs → ⊥
no_first b xs f = elim f.writes [
  | inl p ↦ absurd (let e = plain_text [] xs b f p.0 in cc)
  | inr p ↦ absurd (let e = escape_text [] xs b f p in cc)
]

pub one_value : (text v w : List ℕ) → Unescapes text v → Unescapes text w → v ≡ w
one_value text [] [] f g = refl
one_value text [] (c ∷ w) f g = absurd (no_first c g.0 (subst (λ t. IsFirstByte t c g.0) f g.1))
one_value text (b ∷ v) [] f g = absurd (no_first b f.0 (subst (λ t. IsFirstByte t b f.0) g f.1))
one_value text (b ∷ v) (c ∷ w) f g =
    let one = one_first text b c f.0 g.0 f.1 g.1 in
    let rest = one_value f.0 v w f.2 (subst (λ t. Unescapes t w) (sym one.1) g.2) in
    ap (λ x. x ∷ v) one.0 ∙ ap (λ t. c ∷ t) rest

-- the bytes so far, and what is left of the text: the values of the text are these bytes and a value of what is left
pub record IsTaken (text done rest : List ℕ) : Type 0 where
  pub onward : (later : List ℕ) → Unescapes rest later → Unescapes text (done ++ later)
  pub back : (value : List ℕ) → Unescapes text value → (later : List ℕ) × (value ≡ done ++ later) × Unescapes rest later

pub one_taken : (text done rest behind : List ℕ) (b : ℕ) → IsTaken text done rest → IsFirstByte rest b behind → IsTaken text (done ++ b ∷ []) behind
one_taken text done rest behind b t f = record {
  onward = λ later u. subst (Unescapes text) (sym (append_assoc done (b ∷ []) later)) (t.onward (b ∷ later) (behind, f, u));
  back = λ value u. let k = t.back value u in step value k.0 k.1 k.2;
} where
  step : (value later : List ℕ) → value ≡ done ++ later → Unescapes rest later → (more : List ℕ) × (value ≡ (done ++ b ∷ []) ++ more) × Unescapes behind more
  step value [] e u = absurd (no_first b behind (subst (λ t. IsFirstByte t b behind) u f))
  step value (c ∷ more) e u =
      let one = one_first rest b c behind u.0 f u.1 in
      (more, e ∙ ap (λ x. done ++ x ∷ more) (sym one.0) ∙ sym (append_assoc done (b ∷ []) more), subst (λ t. Unescapes t more) (sym one.1) u.2)

-- all is taken
pub all_taken : (text done : List ℕ) → IsTaken text done [] → Unescapes text done
all_taken text done t = subst (Unescapes text) (append-nil done) (t.onward [] refl)

-- nothing more can be taken
pub stuck : (text done rest : List ℕ) → IsTaken text done rest → rest ≢ [] → ((b : ℕ) (behind : List ℕ) → ¬ IsFirstByte rest b behind) → (value : List ℕ) → ¬ Unescapes text value
stuck text done rest t some none value u = let k = t.back value u in ended k.0 k.2 where
  ended : (later : List ℕ) → Unescapes rest later → ⊥
  ended [] e = some e
  ended (c ∷ more) e = none c e.0 e.1

-- what comes first, by the first bytes of a text
pub plain_first : (b : ℕ) (behind : List ℕ) → b ≢ 37 → IsFirstByte (b ∷ behind) b behind
plain_first b behind n = record { unit = b ∷ []; whole = refl; writes = inl (refl, n) }

pub escape_first : (first second b : ℕ) (behind : List ℕ) → IsHexPair first second b → IsFirstByte (37 ∷ first ∷ second ∷ behind) b behind
escape_first first second b behind p = record {
  unit = 37 ∷ first ∷ second ∷ [];
  whole = refl;
  writes = inr (record { first = first; second = second; spelled = refl; pair = p });
}

-- behind a percent sign stand the digits of a byte
pub escaped : (text : List ℕ) (b : ℕ) (behind : List ℕ) → IsFirstByte (37 ∷ text) b behind → (first : ℕ) × (second : ℕ) × (text ≡ first ∷ second ∷ behind) × IsHexPair first second b
escaped text b behind f = elim f.writes [
  | inl p ↦ absurd (p.1 (sym (same_heads (plain_text (37 ∷ text) behind b f p.0))))
  | inr p ↦ (p.first, p.second, same_tails (escape_text (37 ∷ text) behind b f p), p.pair)
]
