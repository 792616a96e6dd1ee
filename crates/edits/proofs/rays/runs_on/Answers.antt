use Rattle.std.proofs.Common.{◌<◌, eqb-true, sym, ◌∙◌, ◌⊎◌, arith}
use Rattle.geometry.proofs.RunsTold.{runs_told, runs_not}
use Rattle.plane.proofs.callers.Meets.{along_told}
use Rattle.plane.proofs.callers.Told.{fails}
use Rattle.edits.proofs.rays.runs_on.Goals.{then-number, else-number}
use Rattle.edits.proofs.rays.runs_on.Goals as goal

pub returns-then-on : goal.returns-then-on
returns-then-on c = elim c.if-number.branch [
  | then-number w ↦ runs_told c.args.at.now c.args.dir c.dir.result c.args.seg.now c.q.result c.is_before.result c.requires
      (along_told c.args.seg.now c.dir.result c.dir.ensures.segment c.dir.ensures.small c.dir.ensures.leads) (sym c.number.ensures.value ∙ w.if-number.true ∙ c.number-2.ensures.value)
      (w.on.ensures.0 (sym w.value-is ∙ c.if-on.true)) c.q.ensures.value c.is_before.ensures
  | else-number w ↦ absurd (w.if-number.false (eqb-true c.number.result c.number-2.result (sym w.value-is ∙ c.if-on.true)))
]

pub returns-else-on : goal.returns-else-on
returns-else-on c = runs_not c.args.at.now c.args.dir c.dir.result c.args.seg.now c.if-number.value (small c.requires) c.requires
    (along_told c.args.seg.now c.dir.result c.dir.ensures.segment c.dir.ensures.small c.dir.ensures.leads) c.if-on.false
    (λ e on. elim c.if-number.branch [
      | then-number w ↦ fails w.on.ensures (sym w.value-is ∙ c.if-on.false) on
      | else-number w ↦ w.if-number.false (c.number.ensures.value ∙ e ∙ sym c.number-2.ensures.value)
    ])
  where
    small : (c.args.dir < 5) ⊎ (12 < c.args.dir) → c.args.dir < 16
    small h = omega (arith, c.number-2.ensures.small, c.number-2.ensures.value)
