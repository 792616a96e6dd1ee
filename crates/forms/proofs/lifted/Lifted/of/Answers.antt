use Rattle.std.proofs.Common.{◌*◌, subst}
use Rattle.forms.specs.Forms.{IsLifted}
use Rattle.forms.proofs.Lifts.{lifted_equal, lifted_product}
use Rattle.forms.proofs.Passed.{size_told}
use Rattle.forms.proofs.lifted.Lifted.of.Goals as goal

pub returns-then-d-e-clause-lifted : goal.returns-then-d-e-clause-lifted
returns-then-d-e-clause-lifted c = subst (λ p. IsLifted p c.scaled.result c.scaled-then-d-e.result c.unsigned_abs-d.result) c.point.view_is
    (lifted_equal _ c.scaled.result c.scaled-then-d-e.result c.unsigned_abs-d.result c.unsigned_abs-e.result c.scaled.ensures.value c.scaled-then-d-e.ensures.value
    (size_told c.unsigned_abs-d.result c.point.inside.x.d c.d.result c.unsigned_abs-d.ensures.value c.d.ensures.value c.d.ensures.canonical.d)
    (size_told c.unsigned_abs-e.result c.point.inside.y.d c.d-2.result c.unsigned_abs-e.ensures.value c.d-2.ensures.value c.d-2.ensures.canonical.d)
    c.if-d-e.true c.d.ensures.canonical.positive c.d-2.ensures.canonical.positive)

pub returns-else-d-e-clause-lifted : goal.returns-else-d-e-clause-lifted
returns-else-d-e-clause-lifted c = subst (λ p. IsLifted p c.scaled-else-d-e.result c.scaled-else-d-e-2.result (c.unsigned_abs-d.result * c.unsigned_abs-e.result)) c.point.view_is
    (lifted_product _ c.scaled-else-d-e.result c.scaled-else-d-e-2.result c.unsigned_abs-d.result c.unsigned_abs-e.result c.scaled-else-d-e.ensures.value c.scaled-else-d-e-2.ensures.value
    (size_told c.unsigned_abs-d.result c.point.inside.x.d c.d.result c.unsigned_abs-d.ensures.value c.d.ensures.value c.d.ensures.canonical.d)
    (size_told c.unsigned_abs-e.result c.point.inside.y.d c.d-2.result c.unsigned_abs-e.ensures.value c.d-2.ensures.value c.d-2.ensures.canonical.d)
    c.d.ensures.canonical.positive c.d-2.ensures.canonical.positive)
