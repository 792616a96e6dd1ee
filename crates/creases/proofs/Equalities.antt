-- The test of lines for equality tells which are equal.
use Rattle.std.proofs.Common.{◌≡◌, Bool, true, false, IsTrue, refl, sym, ap, ◌∙◌, eqb, int_eq}
use Rattle.std.specs.Prelude.{◌↔◌, ◌&&◌}
use Rattle.std.proofs.lemmas.Bool.{eqb-true, eq-eqb, true≢false}
use Rattle.exact.specs.Number.{ExactNumber}
use Rattle.plane.specs.Support.{ExactLine}
use Rattle.plane.proofs.callers.Zeros.{fields_told}

both_told : (a b : Bool) (P Q : Type 0) → IsTrue a ↔ P → IsTrue b ↔ Q → IsTrue (a && b) ↔ (P × Q)
both_told true b P Q p q = (λ t. (p.0 refl, q.0 t), λ r. q.1 r.1)
both_told false b P Q p q = (λ t. absurd (true≢false (sym t)), λ r. absurd (true≢false (sym (p.1 r.0))))

number_told : (x y : ExactNumber) → IsTrue (int_eq x.a y.a && (int_eq x.b y.b && eqb x.d y.d)) ↔ (x ≡ y)
number_told x y = fields_told x y _ refl

-- lines, by direction and offset
pub line_told : (l m : ExactLine) (b : Bool) → b ≡ (eqb l.dir m.dir && (int_eq l.offset.a m.offset.a && (int_eq l.offset.b m.offset.b && eqb l.offset.d m.offset.d))) → IsTrue b ↔ (l ≡ m)
line_told l m b e =
    let h = both_told (eqb l.dir m.dir) _ (l.dir ≡ m.dir) (l.offset ≡ m.offset) (eqb-true l.dir m.dir, eq-eqb l.dir m.dir) (number_told l.offset m.offset) in (
      λ t. (let r = h.0 (sym e ∙ t) in λ i. record { dir = r.0 i; offset = r.1 i }),
      λ s. e ∙ h.1 (ap (λ (x : ExactLine). x.dir) s, ap (λ (x : ExactLine). x.offset) s),
    )
