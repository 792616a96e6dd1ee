use Rattle.std.proofs.Common.{◌≡◌, ℕ, ◌-◌, List, length, take, drop, refl, sym, ap, ◌∙◌}
use Rattle.std.specs.Prelude.{position, unwrap_or}
use Rattle.std.proofs.lemmas.List.{take_rest}
use Rattle.lines.specs.Words.{Left}
use Rattle.lines.specs.Taking.{is_blank}
use Rattle.lines.proofs.Next.{next_none, next_some}
use Rattle.lines.proofs.words.Words.next.Goals as goal

pub returns-in_err-gap-clause-none : goal.returns-in_err-gap-clause-none
returns-in_err-gap-clause-none c = λ _. ap (λ (s : Left). s.words) (sym c.self.view_is) ∙ next_none c.self.inside.at c.self.inside.rest.now (sym c.first_solid.ensures ∙ c.in_err-gap.was)

pub returns-clause-some : goal.returns-clause-some
returns-clause-some c =
    let bytes : List ℕ = c.self.inside.rest.now in
    let gap : ℕ = c.in_ok-gap.gap in
    let rest : List ℕ = take (length bytes - gap) (drop gap bytes) in
    let end : ℕ = c.unwrap_or-end.result in
    let e : end ≡ unwrap_or (position is_blank rest) (length rest) = cc in
    sym c.self.view_is ∙ next_some c.self.inside.at gap end bytes rest (take end rest) (take (length rest - end) (drop end rest))
    (sym c.first_solid.ensures ∙ c.in_ok-gap.was) (take_rest bytes gap) e refl (take_rest rest end)
