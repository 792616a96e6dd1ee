use Rattle.std.proofs.Common.{◌≡◌, refl, ℕ, List, ◌∷◌, sym, subst, ◌∙◌, take, drop, length, ◌-◌}
use Rattle.std.specs.Prelude.{slice_index_or}
use Rattle.routes.specs.Queries.{IsFirstByte, IsHexPair}
use Rattle.routes.proofs.Bytes.{escape_first, escaped}
use Rattle.routes.proofs.Answered.{two_heads}
use Rattle.routes.proofs.query.escaped_byte.Goals as goal

pub returns-in-Some-clause-some : goal.returns-in-Some-clause-some
returns-in-Some-clause-some c =
    let text = c.args.text.now in
    let behind = take (length text - 2) (drop 2 text) in
    subst (λ t. IsFirstByte (37 ∷ t) c.in-Some.byte behind) (sym (two_heads text c.in-len2-up.len_at_least))
    (escape_first (slice_index_or text 0 0) (slice_index_or text 1 0) c.in-Some.byte behind c.in-Some.ensures.some)

same_two : (a b x y : ℕ) (us xs : List ℕ) → a ∷ b ∷ us ≡ x ∷ y ∷ xs → (a ≡ x) × (b ≡ y)
same_two a b x y us xs e = (cc, cc)

pub returns-in-None-clause-none : goal.returns-in-None-clause-none
returns-in-None-clause-none c e byte behind f =
    let text = c.args.text.now in
    let r = escaped text byte behind f in
    let two = same_two r.0 r.1 (slice_index_or text 0 0) (slice_index_or text 1 0) behind (take (length text - 2) (drop 2 text)) (sym r.2 ∙ two_heads text c.in-len2-up.len_at_least) in
    c.in-None.ensures.none refl byte (subst (λ x. IsHexPair x (slice_index_or text 1 0) byte) two.0 (subst (λ y. IsHexPair r.0 y byte) two.1 r.3))
