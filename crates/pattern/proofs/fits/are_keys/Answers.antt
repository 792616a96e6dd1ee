use Rattle.std.proofs.Common.{subst, sym}
use Rattle.std.specs.Prelude.{All}
use Rattle.sheet.specs.Sheet.{ExactSheet}
use Rattle.sheet.specs.Pattern.{ExactCrease, IsKey}
use Rattle.pattern.proofs.callers.Told.{all_next, all_tested, one_fails, refuted, answers_no, answers_yes}
use Rattle.pattern.proofs.fits.are_keys.Goals as goal

abbrev HasKey : ExactSheet → ExactCrease → Type 0
HasKey sheet f = IsKey sheet f.seg

pub loop-crease-preserved : goal.loop-crease-preserved
loop-crease-preserved c = all_next (HasKey c.args.sheet.now) c.args.creases.now c.loop-crease.crease-index c.crease-item.result c.loop-crease-test.true c.crease-item.is c.loop-crease.invariant (subst (HasKey c.args.sheet.now) c.crease.view_is (c.is_key.ensures.0 c.if-not-is_key.false))

pub returns-then-not-is_key : goal.returns-then-not-is_key
returns-then-not-is_key c = answers_no (All (HasKey c.args.sheet.now) c.args.creases.now)
    (one_fails (HasKey c.args.sheet.now) c.args.creases.now c.loop-crease.crease-index c.crease-item.result c.loop-crease-test.true c.crease-item.is (λ k. refuted c.is_key.result c.if-not-is_key.true c.is_key.ensures (subst (HasKey c.args.sheet.now) (sym c.crease.view_is) k)))

pub returns : goal.returns
returns c = answers_yes (All (HasKey c.args.sheet.now) c.args.creases.now) (all_tested (HasKey c.args.sheet.now) c.args.creases.now c.loop-crease.crease-index c.loop-crease-test.false c.loop-crease.invariant)
