use Rattle.std.proofs.Common.{◌≡◌, List, get_or, sym, subst}
use Rattle.std.specs.Prelude.{Contains}
use Rattle.exact.specs.Plane.{ExactSegment}
use Rattle.sheet.specs.Sheet.{sides}
use Rattle.geometry.specs.Rays.{RunsAlong}
use Rattle.plane.proofs.callers.Told.{fails}
use Rattle.pattern.proofs.callers.Told.{answers_no, answers_yes}
use Rattle.edits.proofs.bisections.AnyAlong.{none_more, none_of_all, some_here}
use Rattle.edits.proofs.bisect.has_side.Goals as goal

pub loop-side-preserved : goal.loop-side-preserved
loop-side-preserved c = (
  c.loop-side.invariant.0,
  none_more c.args.at.now c.args.dir (sides c.args.sheet.now) c.loop-side.side-index c.side-item.result c.loop-side-test.true
      (subst (λ (xs : List ExactSegment). c.side-item.result ≡ get_or xs c.loop-side.side-index c.side-item.result) c.sheet_sides-sides.ensures c.side-item.is)
      c.loop-side.invariant.1 (λ runs. fails c.runs_along.ensures c.if-runs_along.false (subst (RunsAlong c.args.at.now c.args.dir) c.side-item.is runs)),
)

pub returns-then-runs_along : goal.returns-then-runs_along
returns-then-runs_along c = answers_yes ((s : ExactSegment) × Contains (sides c.args.sheet.now) s × RunsAlong c.args.at.now c.args.dir s)
    (some_here c.args.at.now c.args.dir (sides c.args.sheet.now) c.loop-side.side-index c.side-item.result c.loop-side-test.true
    (subst (λ (xs : List ExactSegment). c.side-item.result ≡ get_or xs c.loop-side.side-index c.side-item.result) c.sheet_sides-sides.ensures c.side-item.is)
    (subst (RunsAlong c.args.at.now c.args.dir) (sym c.side-item.is) (c.runs_along.ensures.0 c.if-runs_along.true)))

pub returns : goal.returns
returns c = answers_no ((s : ExactSegment) × Contains (sides c.args.sheet.now) s × RunsAlong c.args.at.now c.args.dir s)
    (λ h. none_of_all c.args.at.now c.args.dir (sides c.args.sheet.now) c.loop-side.side-index c.loop-side-test.false c.loop-side.invariant.1 h.0 h.1 h.2)
