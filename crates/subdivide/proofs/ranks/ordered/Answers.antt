use Rattle.std.proofs.Common.{rules, length}
use Rattle.subdivide.proofs.Ranked.{numbered_moved, sorted_numbered}
use Rattle.subdivide.proofs.ranks.ordered.Goals as goal

pub returns : goal.returns
returns c = record {
  numbered = numbered_moved c.args.points.now (length c.args.points.now) c.in_ok-list.list.items c.sort_unstable_by.new.self.items c.sort_unstable_by.ensures.permutation c.in_ok-list.ensures;
  ordered = sorted_numbered _ c.sort_unstable_by.ensures.sorted (λ a r q k. search rules);
}
