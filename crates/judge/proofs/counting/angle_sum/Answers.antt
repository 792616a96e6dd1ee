use Rattle.std.proofs.Common.{◌≡◌, arith, ap, sym, ◌∙◌, length}
use Rattle.judge.proofs.Sums.{angle_read, sum_below, sum_at_none, sum_at_end, sum_takes_one, sum_leaves_one}
use Rattle.layers.specs.Sectors.{sector_at}
use Rattle.judge.proofs.counting.angle_sum.Goals as goal
use Rattle.judge.proofs.counting.angle_sum.Goals.{then-i-rest, else-i-rest}

pub loop-i-init : goal.loop-i-init
loop-i-init c = record { so_far = sym (sum_at_none c.args.rest c.args.sectors.now); small = omega arith }

pub loop-i-preserved : goal.loop-i-preserved
loop-i-preserved c =
    elim c.if-i-rest.branch [
      | then-i-rest w ↦
          let f = sum_takes_one c.args.rest c.args.sectors.now c.loop-i.i w.if-i-rest.true in
          let a = c.requires.angles c.loop-i.i c.loop-i-test.true in
          let g : c.index-sectors-i.result.angle ≡ (sector_at c.args.sectors.now c.loop-i.i).angle = angle_read c.args.sectors.now c.loop-i.i c.index-sectors-i.result c.loop-i-test.true c.index-sectors-i.is in
          record { so_far = omega arith; small = omega arith }
      | else-i-rest w ↦
          let f = sum_leaves_one c.args.rest c.args.sectors.now c.loop-i.i w.if-i-rest.false in
          record { so_far = omega arith; small = omega arith }
    ]

pub returns : goal.returns
returns c = let e : c.loop-i.i ≡ length c.args.sectors.now = omega arith in c.loop-i.invariant.so_far ∙ ap (λ n. sum_below c.args.rest c.args.sectors.now n) e ∙ sum_at_end c.args.rest c.args.sectors.now
