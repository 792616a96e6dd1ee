use Rattle.std.proofs.Common.{refl, subst}
use Rattle.subdivide.specs.Found.{AreMany}
use Rattle.subdivide.proofs.Noted.{looked, leads_itself}
use Rattle.subdivide.proofs.found.Found.look.Goals as goal

pub returns-then-self-clause-leads : goal.returns-then-self-clause-leads
returns-then-self-clause-leads c = λ lines. leads_itself lines c.args.self.now (λ _. Unit {0}) (λ f k. tt)

pub returns-clause-leads : goal.returns-clause-leads
returns-clause-leads c = λ lines. looked lines c.args.self.now _ c.if-self.false refl refl refl (λ e. subst AreMany c.deref.ensures.value (c.in_ok-self.ensures e))
