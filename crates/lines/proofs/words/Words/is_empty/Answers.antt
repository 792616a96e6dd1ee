use Rattle.std.proofs.Common.{◌≡◌, [], subst}
use Rattle.std.specs.Prelude.{◌↔◌, IsTrue}
use Rattle.lines.specs.Words.{Left}
use Rattle.lines.proofs.Next.{empty_iff}
use Rattle.lines.proofs.words.Words.is_empty.Goals as goal

pub returns : goal.returns
returns c = subst (λ (s : Left). IsTrue c.is_none.result ↔ (s.words ≡ [])) c.self.view_is
    (empty_iff c.self.inside.at c.self.inside.rest.now c.first_solid.result c.is_none.result c.first_solid.ensures c.is_none.ensures)
