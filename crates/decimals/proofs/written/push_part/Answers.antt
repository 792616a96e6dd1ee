use Rattle.std.proofs.Common.{arith, ◌∙◌}
use Rattle.std.proofs.lemmas.Grind.{common_steps}
use Rattle.decimals.proofs.Digits.{part_written, length_last}
use Rattle.decimals.proofs.written.push_part.Goals as goal

pub returns : goal.returns
returns c =
    let text = c.as_bytes-digits.ensures.value ∙ c.format.ensures.text in
    let e = part_written c.as_bytes-digits.result.now c.args.part text c.requires.part in
    let l = length_last 12 c.args.part in
    let ok = rw e at c.try_extend_from_slice.ensures.ok in
    let fits = rw e at c.try_extend_from_slice.ensures.variant in
    grind (arith, common_steps, ok, fits, l)
