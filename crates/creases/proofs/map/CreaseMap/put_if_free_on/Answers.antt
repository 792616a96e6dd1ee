use Rattle.std.proofs.Common.{sym, subst, ◌∙◌, refl}
use Rattle.std.proofs.lemmas.Bool.{true≢false}
use Rattle.sheet.specs.Pattern.{ExactCrease}
use Rattle.creases.specs.Creases.{IsFree}
use Rattle.creases.proofs.map.CreaseMap.put_if_free_on.Goals as goal

pub returns-then-not-is_free_at-clause-free : goal.returns-then-not-is_free_at-clause-free
returns-then-not-is_free_at-clause-free c = (
  λ t. absurd (true≢false (sym t)),
  λ n. sym c.if-not-is_free_at.true ∙ c.is_free_at.ensures.free.1 (subst (λ (f : ExactCrease). IsFree c.args.self.now f.seg) (sym c.crease.view_is) n),
)

pub put_at-requires-clause-free : goal.put_at-requires-clause-free
put_at-requires-clause-free c = subst (λ (f : ExactCrease). IsFree c.args.self.now f.seg) c.crease.view_is (c.is_free_at.ensures.free.0 c.if-not-is_free_at.false)

pub returns-clause-free : goal.returns-clause-free
returns-clause-free c = (λ _. subst (λ (f : ExactCrease). IsFree c.args.self.now f.seg) c.crease.view_is (c.is_free_at.ensures.free.0 c.if-not-is_free_at.false), λ _. refl)
