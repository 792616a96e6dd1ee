use Rattle.std.proofs.Common.{◌+◌, ◌-◌, ◌/◌, ◌<◌, length, sym, arith}
use Rattle.std.specs.Prelude.{Contains}
use Rattle.pattern.proofs.Searching.{places_behind, places_before, places_here, no_place}
use Rattle.pattern.proofs.Parts.{before_moved}
use Rattle.pattern.proofs.callers.Told.{refuted, shown, answers_no}
use Rattle.pattern.proofs.fits.is_among.Goals as goal

pub loop-low-preserved-then-comes_before : goal.loop-low-preserved-then-comes_before
loop-low-preserved-then-comes_before c =
    let i = c.loop-low.low + (c.loop-low.high - c.loop-low.low) / 2 in
    let inside : i < length c.args.creases.now = omega (arith, c.loop-low.invariant.below, c.loop-low-test.true) in
    record {
      below = c.loop-low.invariant.below;
      within = places_behind c.args.creases.now c.args.crease.now c.index-creases-middle.result i c.loop-low.low c.loop-low.high c.requires inside c.index-creases-middle.is (before_moved _ c.index-creases-middle.result _ c.args.crease.now c.one.view_is c.crease.view_is (shown c.comes_before.result c.if-comes_before.true c.comes_before.ensures)) c.loop-low.invariant.within;
    }

pub loop-low-preserved : goal.loop-low-preserved
loop-low-preserved c =
    let i = c.loop-low.low + (c.loop-low.high - c.loop-low.low) / 2 in
    let inside : i < length c.args.creases.now = omega (arith, c.loop-low.invariant.below, c.loop-low-test.true) in
    record {
      below = omega (arith, inside);
      within = places_before c.args.creases.now c.args.crease.now c.index-creases-middle.result i c.loop-low.low c.loop-low.high c.requires inside c.index-creases-middle.is
          (before_moved _ c.args.crease.now _ c.index-creases-middle.result c.crease.view_is c.one.view_is (shown c.comes_before-else-comes_before.result c.if-comes_before-2.true c.comes_before-else-comes_before.ensures)) c.loop-low.invariant.within;
    }

pub returns-else-comes_before-2 : goal.returns-else-comes_before-2
returns-else-comes_before-2 c =
    let i = c.loop-low.low + (c.loop-low.high - c.loop-low.low) / 2 in
    let inside : i < length c.args.creases.now = omega (arith, c.loop-low.invariant.below, c.loop-low-test.true) in
    places_here c.args.creases.now c.args.crease.now c.index-creases-middle.result i c.is_one.result c.requires inside c.index-creases-middle.is
    (λ b. refuted c.comes_before.result c.if-comes_before.false c.comes_before.ensures (before_moved c.index-creases-middle.result _ c.args.crease.now _ (sym c.one.view_is) (sym c.crease.view_is) b))
    (λ b. refuted c.comes_before-else-comes_before.result c.if-comes_before-2.false c.comes_before-else-comes_before.ensures (before_moved c.args.crease.now _ c.index-creases-middle.result _ (sym c.crease.view_is) (sym c.one.view_is) b)) c.is_one.ensures

pub returns : goal.returns
returns c = answers_no (Contains c.args.creases.now c.args.crease.now) (no_place c.args.creases.now c.args.crease.now c.loop-low.low c.loop-low.high c.loop-low-test.false c.loop-low.invariant.within)
