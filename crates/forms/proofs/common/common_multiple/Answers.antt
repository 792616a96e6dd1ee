use Rattle.std.proofs.Common.{◌≡◌, ℕ, ap, ◌∙◌, arith}
use Rattle.std.proofs.lemmas.Nat.Gcd.{le_of_dvd, dvd_refl}
use Rattle.exact.specs.Plane.{ExactPoint}
use Rattle.forms.proofs.Small.{own_told, next_common, no_multiple, is_multiple}
use Rattle.forms.proofs.common.common_multiple.Goals as goal
use Rattle.forms.proofs.common.common_multiple.Goals.{else-multiple-x-eq0-via-then-multiple-x-eq0+else-multiple-y-eq0, else-multiple-x-eq0-via-else-multiple-x-eq0}

pub loop-multiple-init : goal.loop-multiple-init
loop-multiple-init c = (c.requires, dvd_refl c.args.d, λ n h. le_of_dvd h.some h.multiple)

pub returns-then-multiple-y-eq0-clause-some : goal.returns-then-multiple-y-eq0-clause-some
returns-then-multiple-y-eq0-clause-some c =
    let x : c.unsigned_abs-x.result ≡ c.args.point.now.x.d = own_told c.unsigned_abs-x.result c.d.result c.point.inside.x c.unsigned_abs-x.ensures.value c.d.ensures.value c.d.ensures.canonical ∙ ap (λ (p : ExactPoint). p.x.d) c.point.view_is in
    let y : c.unsigned_abs-y.result ≡ c.args.point.now.y.d = own_told c.unsigned_abs-y.result c.d-2.result c.point.inside.y c.unsigned_abs-y.ensures.value c.d-2.ensures.value c.d-2.ensures.canonical ∙ ap (λ (p : ExactPoint). p.y.d) c.point.view_is in (
      record {
        some = c.loop-multiple.invariant.0;
        multiple = c.loop-multiple.invariant.1;
        x = is_multiple c.args.point.now.x.d c.unsigned_abs-x.result c.loop-multiple.multiple x c.if-multiple-x-eq0.true;
        y = is_multiple c.args.point.now.y.d c.unsigned_abs-y.result c.loop-multiple.multiple y c.if-multiple-y-eq0.true;
      },
      c.loop-multiple-test.true,
    )

pub overflow_add-multiple : goal.overflow_add-multiple
overflow_add-multiple c = omega (arith, c.loop-multiple-test.true, le_of_dvd c.loop-multiple.invariant.0 c.loop-multiple.invariant.1)

pub loop-multiple-preserved : goal.loop-multiple-preserved
loop-multiple-preserved c =
    let x : c.unsigned_abs-x.result ≡ c.args.point.now.x.d = own_told c.unsigned_abs-x.result c.d.result c.point.inside.x c.unsigned_abs-x.ensures.value c.d.ensures.value c.d.ensures.canonical ∙ ap (λ (p : ExactPoint). p.x.d) c.point.view_is in
    let y : c.unsigned_abs-y.result ≡ c.args.point.now.y.d = own_told c.unsigned_abs-y.result c.d-2.result c.point.inside.y c.unsigned_abs-y.ensures.value c.d-2.ensures.value c.d-2.ensures.canonical ∙ ap (λ (p : ExactPoint). p.y.d) c.point.view_is in
    let m : ℕ = c.loop-multiple.multiple in
    next_common c.args.d c.args.point.now m c.loop-multiple.invariant.0 c.loop-multiple.invariant.1 c.loop-multiple.invariant.2
    (λ h. elim c.else-multiple-x-eq0.branch [
      | else-multiple-x-eq0-via-then-multiple-x-eq0+else-multiple-y-eq0 w ↦ no_multiple c.args.point.now.y.d c.unsigned_abs-y.result m y w.if-multiple-y-eq0.false h.y
      | else-multiple-x-eq0-via-else-multiple-x-eq0 w ↦ no_multiple c.args.point.now.x.d c.unsigned_abs-x.result m x w.if-multiple-x-eq0.false h.x
    ])
