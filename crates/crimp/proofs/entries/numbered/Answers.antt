use Rattle.std.proofs.Common.{arith, ◌≡◌, ◌∙◌, sym, ap, length, ◌∷◌, [], ◌++◌, ◌+◌, take}
use Rattle.layers.specs.Sectors.{sector_at}
use Rattle.crimp.specs.Cycle.{numbered}
use Rattle.crimp.proofs.Numbers.{numbered_more, numbered_none}
use Rattle.crimp.proofs.entries.numbered.Goals as goal

pub loop-i-init : goal.loop-i-init
loop-i-init c = record { value = c.new-entries.ensures ∙ sym numbered_none; long = ap length c.new-entries.ensures }

pub loop-i-preserved : goal.loop-i-preserved
loop-i-preserved c = let v = c.loop-i.invariant.value in let l = c.loop-i.invariant.long in let p = c.push.ensures.len in
    record {
      value = c.push.ensures.items ∙ ap (λ e. c.loop-i.entries.items ++ e ∷ []) c.entry_of.ensures ∙ ap (λ es. es ++ record { number = c.loop-i.i; mark = (sector_at c.args.sectors.now c.loop-i.i).mark; angle = (sector_at c.args.sectors.now c.loop-i.i).angle } ∷ []) v
          ∙ ap (λ j. numbered 0 (take c.loop-i.i c.args.sectors.now) ++ record { number = j; mark = (sector_at c.args.sectors.now c.loop-i.i).mark; angle = (sector_at c.args.sectors.now c.loop-i.i).angle } ∷ []) (let e : c.loop-i.i ≡ 0 + c.loop-i.i = omega arith in e)
          ∙ sym (numbered_more 0 c.args.sectors.now c.loop-i.i c.loop-i-test.true);
      long = omega arith;
    }
