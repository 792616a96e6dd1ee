use Rattle.std.proofs.Common.{ap, ◌∙◌, eqb, cond, ◌+◌}
use Rattle.layers.specs.LayerOrder.{before}
use Rattle.layers.specs.Sectors.{behind}
use Rattle.crimp.proofs.Steps.{crimp_done}
use Rattle.crimp.proofs.crimping.crimp.Goals as goal

pub returns : goal.returns
returns c = crimp_done _ _ _ _ _ _ _ _ _ _ c.remove-2.ensures.items c.remove.ensures.items c.merge-one.ensures c.as_mut_slice.ensures.value c.as_slice-all.ensures.value
    (c.before-first.ensures.value ∙ ap (λ n. before n c.args.i) c.len-count.ensures.value)
    (c.behind-second.ensures.value ∙ ap (λ n. behind n c.args.i) c.len-count.ensures.value)
    (c.behind_gone.ensures.value ∙ ap (λ n. cond (eqb (c.args.i + 1) n) 0 c.args.i) c.len-count.ensures.value)
