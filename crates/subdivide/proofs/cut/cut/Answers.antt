use Rattle.std.proofs.Common.{length, sym, subst}
use Rattle.subdivide.specs.Whole.{IsAllFound}
use Rattle.subdivide.proofs.SweptLines.{are_swept}
use Rattle.subdivide.proofs.SweptAnswer.{swept_is_out, out_answer, swept_full, all_kept}
use Rattle.subdivide.proofs.cut.cut.Goals as goal

pub sweep-requires : goal.sweep-requires
sweep-requires c = are_swept c.requires.0 c.args.lines.now c.requires.1

pub out_of_range-requires : goal.out_of_range-requires
out_of_range-requires c = swept_is_out c.args.lines.now (length c.args.lines.now) c.in_ok-found.found c.in-Some.pair c.in_ok-found.ensures c.in-Some.is

pub returns-in-Some : goal.returns-in-Some
returns-in-Some c = λ pattern a. out_answer pattern c.args.lines.now c.in_ok-found.found c.in-Some.pair c.out_of_range.result c.in_ok-found.ensures a c.in-Some.is c.out_of_range.ensures

pub returns-then-found : goal.returns-then-found
returns-then-found c = λ pattern a. swept_full pattern c.args.lines.now c.in_ok-found.found c.in_ok-found.ensures a c.in_default.is c.if-found.true

pub assemble-requires : goal.assemble-requires
assemble-requires c = (
  c.requires.0,
  subst (λ z. IsAllFound c.requires.0 c.args.lines.now z c.in_ok-found.found.cuts.items) (sym c.deref.ensures.value)
      (all_kept c.requires.0 c.args.lines.now c.in_ok-found.found c.in_ok-found.ensures c.requires.1 c.in_default.is c.if-found.false),
)

pub returns : goal.returns
returns c = λ pattern a. c.assemble.ensures pattern (subst (λ z. IsAllFound pattern c.args.lines.now z c.in_ok-found.found.cuts.items) (sym c.deref.ensures.value)
    (all_kept pattern c.args.lines.now c.in_ok-found.found c.in_ok-found.ensures a c.in_default.is c.if-found.false))
