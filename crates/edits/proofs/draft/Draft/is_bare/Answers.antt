use Rattle.std.proofs.Common.{◌≡◌, ℕ, List, [], Bool, length, ap, sym, ◌∙◌, eqb, eq-eqb, eqb-true}
use Rattle.std.proofs.lemmas.List.{nil_from_length}
use Rattle.std.specs.Prelude.{◌↔◌, IsTrue}
use Rattle.sheet.specs.Pattern.{ExactCrease}
use Rattle.edits.proofs.drawings.CutAll.{bare_where_empty}
use Rattle.edits.proofs.draft.Draft.is_bare.Goals as goal

told : (b : Bool) (n : ℕ) (xs : List ExactCrease) (P : Type 0) → b ≡ eqb n 0 → length xs ≡ n → (xs ≡ []) ↔ P → IsTrue b ↔ P
told b n xs P e l i = (
  λ t. i.0 (nil_from_length xs (l ∙ eqb-true n 0 (sym e ∙ t))),
  λ p. e ∙ eq-eqb n 0 (sym l ∙ ap length (i.1 p)),
)

pub returns : goal.returns
returns c =
    let list = c.in_ok-overlapped.field-0 in
    told c.is_empty.result list.len list.items _ c.is_empty.ensures (sym list.ok.0) (bare_where_empty c.args.self.now.creases list.items c.args.seg.now c.in_ok-overlapped.ensures.members)
