use Rattle.std.proofs.Common.{ℕ, ◌≡◌, ◌<◌, List, get_or, sym, subst}
use Rattle.exact.specs.Plane.{ExactSegment}
use Rattle.sheet.specs.Sheet.{sides}
use Rattle.edits.specs.Sights.{Sees}
use Rattle.edits.proofs.extensions.OneSegment.{IsIt}
use Rattle.edits.proofs.extensions.AllMet.{see_more, see_all}
use Rattle.edits.proofs.extend.sides_met.Goals as goal

pub loop-side-preserved : goal.loop-side-preserved
loop-side-preserved c = (
  c.loop-side.invariant.0,
  see_more c.args.at.now c.args.dir (sides c.args.sheet.now) c.loop-side.side-index c.side-item.result c.loop-side.seen c.met.result c.both-seen.result
      (subst (λ (k : ℕ). k < 16) c.number-number.ensures.value c.number-number.ensures.small) c.loop-side-test.true
      (subst (λ (xs : List ExactSegment). c.side-item.result ≡ get_or xs c.loop-side.side-index c.side-item.result) c.sheet_sides-sides.ensures c.side-item.is)
      c.loop-side.invariant.1 (subst (λ (s : ExactSegment). Sees c.args.at.now c.args.dir (IsIt s) c.met.result) (sym c.side-item.is) c.met.ensures) c.both-seen.ensures,
)

pub returns : goal.returns
returns c = see_all c.args.at.now c.args.dir (sides c.args.sheet.now) c.loop-side.side-index c.loop-side.seen c.loop-side-test.false c.loop-side.invariant.1
