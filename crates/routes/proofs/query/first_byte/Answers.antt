use Rattle.std.proofs.Common.{◌≡◌, ◌∷◌, ◌-◌, sym, subst, ap, ◌∙◌, take, drop, length}
use Rattle.std.specs.Prelude.{slice_index_or}
use Rattle.routes.specs.Queries.{IsFirstByte}
use Rattle.routes.proofs.Bytes.{plain_first}
use Rattle.routes.proofs.Answered.{head_tail}
use Rattle.routes.proofs.query.first_byte.Goals as goal

pub returns-then-first-eq37-clause-none : goal.returns-then-first-eq37-clause-none
returns-then-first-eq37-clause-none c n byte behind f =
    let text = c.args.text.now in
    let rest = take (length text - 1) (drop 1 text) in
    let whole : text ≡ 37 ∷ rest = head_tail text c.in-len1-up.len_at_least ∙ ap (λ b. b ∷ rest) c.if-first-eq37.true in
    c.escaped_byte.ensures.none n byte behind (subst (λ t. IsFirstByte t byte behind) whole f)

pub returns-else-first-eq37-clause-some : goal.returns-else-first-eq37-clause-some
returns-else-first-eq37-clause-some c =
    let text = c.args.text.now in
    let rest = take (length text - 1) (drop 1 text) in
    subst (λ t. IsFirstByte t (slice_index_or text 0 0) rest) (sym (head_tail text c.in-len1-up.len_at_least)) (plain_first (slice_index_or text 0 0) rest c.if-first-eq37.false)
