use Rattle.std.proofs.Common.{◌≡◌, ◌<◌, ◌^◌, rules, arith, sym, subst}
use Rattle.vocabulary.specs.Numbers.{IsPlain}
use Rattle.vocabulary.proofs.Numbers.{not_plain, parsed, spells}
use Rattle.vocabulary.proofs.number.parsed.Goals as goal

pub returns-then-not-is_plain : goal.returns-then-not-is_plain
returns-then-not-is_plain c = λ n l e.
    let f : c.args.most < 2 ^ 64 = search rules in
    not_plain c.args.text.now n (omega arith) (λ p.
    let q : IsPlain c.as_bytes.result.now = subst IsPlain (sym c.as_bytes.ensures.value) p in
    let t = c.is_plain.ensures.1 q in
    cc) e

pub returns-then-value-most : goal.returns-then-value-most
returns-then-value-most c = (
  c.if-value-most.true,
  spells c.args.text.now c.in-Ok.value c.parse.result (subst IsPlain c.as_bytes.ensures.value (c.is_plain.ensures.0 c.if-not-is_plain.false)) c.in-Ok.is c.parse.ensures.value.0,
)

pub returns-else-value-most : goal.returns-else-value-most
returns-else-value-most c = λ n l e.
    let f : c.args.most < 2 ^ 64 = search rules in
    let k = parsed c.args.text.now n c.parse.result (omega arith) c.parse.ensures.value.0 e in
    let m : n ≡ c.in-Ok.value = cc in
    omega arith

pub returns-in-Err : goal.returns-in-Err
returns-in-Err c = λ n l e.
    let f : c.args.most < 2 ^ 64 = search rules in
    let k = parsed c.args.text.now n c.parse.result (omega arith) c.parse.ensures.value.0 e in
    cc
