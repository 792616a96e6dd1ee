use Rattle.std.proofs.Common.{rules, ◌<◌, ◌^◌, arith, sym, ◌∙◌}
use Rattle.std.proofs.lemmas.Fmt.{decimal_injective}
use Rattle.words.proofs.number.number.Goals as goal

pub returns-else-number-gt0 : goal.returns-else-number-gt0
returns-else-number-gt0 c = λ n l m e.
    let top : c.args.most < 2 ^ 64 = search rules in
    let small : c.in_ok-number.number < 2 ^ 64 = search rules in
    let k : n < 2 ^ 64 = omega (arith, top, m) in
    let f = decimal_injective n c.in_ok-number.number k small (e ∙ sym c.as_bytes.ensures.value ∙ sym c.in_ok-number.ensures.1) in
    search (rules, f, l)
