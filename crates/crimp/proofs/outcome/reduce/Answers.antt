use Rattle.std.proofs.lemmas.Bool.{false≢true}
use Rattle.crimp.proofs.Deciding.{begins, turn, orders, part_of, some_left, no_pair, blocked}
use Rattle.crimp.proofs.outcome.reduce.Goals as goal

pub layer_order-requires-clause-cycle : goal.layer_order-requires-clause-cycle
layer_order-requires-clause-cycle c = begins c.args.sectors.now c.list-list.result.now c.list-list.ensures.value c.list-list.ensures.of_a_star c.requires c.numbered-entries.result.items c.numbered-entries.ensures

pub layer_order-requires-clause-total : goal.layer_order-requires-clause-total
layer_order-requires-clause-total c = turn c.args.sectors.now c.list-list.result.now c.list-list.ensures.value c.list-list.ensures.of_a_star c.requires c.numbered-entries.result.items c.numbered-entries.ensures

pub named_run-requires-clause-part : goal.named_run-requires-clause-part
named_run-requires-clause-part c = part_of c.args.sectors.now c.list-list.result.now c.list-list.ensures.value c.list-list.ensures.of_a_star c.requires c.numbered-entries.result.items c.numbered-entries.ensures
    _ c.in-None.ensures.ends _ c.as_slice.ensures.value

pub named_run-requires-clause-some : goal.named_run-requires-clause-some
named_run-requires-clause-some c = some_left c.args.sectors.now c.list-list.result.now c.list-list.ensures.value c.list-list.ensures.of_a_star c.requires c.numbered-entries.result.items c.numbered-entries.ensures
    _ c.in-None.ensures.ends _ c.as_slice.ensures.value

pub returns-in-Some-clause-order : goal.returns-in-Some-clause-order
returns-in-Some-clause-order c = orders c.args.sectors.now c.list-list.result.now c.list-list.ensures.value c.list-list.ensures.of_a_star c.requires c.numbered-entries.result.items c.numbered-entries.ensures
    c.in-Some.order c.in-Some.ensures.some

pub returns-in-Some-clause-exact : goal.returns-in-Some-clause-exact
returns-in-Some-clause-exact c = (
  λ u. (
    c.in-Some.order,
    orders c.args.sectors.now c.list-list.result.now c.list-list.ensures.value c.list-list.ensures.of_a_star c.requires c.numbered-entries.result.items c.numbered-entries.ensures c.in-Some.order c.in-Some.ensures.some,
  ),
  λ f. tt,
)

pub returns-in-None-clause-exact : goal.returns-in-None-clause-exact
returns-in-None-clause-exact c = (
  λ e. absurd e,
  no_pair c.args.sectors.now c.list-list.result.now c.list-list.ensures.value c.list-list.ensures.of_a_star c.requires c.numbered-entries.result.items c.numbered-entries.ensures
      _ c.in-None.ensures.ends (λ pair. absurd (false≢true (c.in-None.ensures.which.1 pair))),
)

pub returns-in-None-clause-run : goal.returns-in-None-clause-run
returns-in-None-clause-run c = blocked c.args.sectors.now c.list-list.result.now c.list-list.ensures.value c.list-list.ensures.of_a_star c.requires c.numbered-entries.result.items c.numbered-entries.ensures
    _ c.in-None.ensures.ends _ _ c.as_slice.ensures.value c.named_run.ensures
