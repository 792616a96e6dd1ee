use Rattle.std.proofs.Common.{refl, sym, subst}
use Rattle.cpfile.specs.CpDrawing.{Fields}
use Rattle.cpfile.specs.CpWords.{AreFields}
use Rattle.cpfile.proofs.Capping.{kept}
use Rattle.cpfile.proofs.fields.values.Goals as goal

pub returns-in_err-x1-clause-none : goal.returns-in_err-x1-clause-none
returns-in_err-x1-clause-none c = λ _ f a. c.in_err-x1.ensures.none refl f.x1 (subst (λ t. AreFields t f) (sym c.five.view_is) a).x1

pub returns-in_err-y1-clause-none : goal.returns-in_err-y1-clause-none
returns-in_err-y1-clause-none c = λ _ f a. c.in_err-y1.ensures.none refl f.y1 (subst (λ t. AreFields t f) (sym c.five.view_is) a).y1

pub returns-in_err-x2-clause-none : goal.returns-in_err-x2-clause-none
returns-in_err-x2-clause-none c = λ _ f a. c.in_err-x2.ensures.none refl f.x2 (subst (λ t. AreFields t f) (sym c.five.view_is) a).x2

pub returns-in_err-y2-clause-none : goal.returns-in_err-y2-clause-none
returns-in_err-y2-clause-none c = λ _ f a. c.in_err-y2.ensures.none refl f.y2 (subst (λ t. AreFields t f) (sym c.five.view_is) a).y2

pub returns-clause-some : goal.returns-clause-some
returns-clause-some c =
    let a = c.in_ok-x1.ensures.some in
    let b = c.in_ok-y1.ensures.some in
    let d = c.in_ok-x2.ensures.some in
    let e = c.in_ok-y2.ensures.some in
    let f : Fields = record { kind = c.in_ok-kind.kind; x1 = a.0; y1 = b.0; x2 = d.0; y2 = e.0 } in (
      f,
      subst (λ t. AreFields t f) c.five.view_is (record { kind = c.in_ok-kind.ensures; x1 = a.1; y1 = b.1; x2 = d.1; y2 = e.1 }),
      record { kind = refl; x1 = kept a.0 c.in_ok-x1.x1 a.2; y1 = kept b.0 c.in_ok-y1.y1 b.2; x2 = kept d.0 c.in_ok-x2.x2 d.2; y2 = kept e.0 c.in_ok-y2.y2 e.2 },
    )
