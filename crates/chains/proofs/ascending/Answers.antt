use Rattle.std.proofs.lemmas.List.Filters.{dedup_is}
use Rattle.chains.proofs.callers.Neighbours.{sorted_ascends, sorted_keeps, sorted_adds_none}
use Rattle.chains.proofs.ascending.Goals as goal

pub returns-clause-ascends : goal.returns-clause-ascends
returns-clause-ascends g c = sorted_ascends g.met.T.Ord.total g.met.T.Ord.matches_eq _ _ c.sort_unstable.ensures.sorted (dedup_is _ _ _ c.dedup.ensures.filtered)

pub returns-clause-keeps : goal.returns-clause-keeps
returns-clause-keeps g c = sorted_keeps g.met.T.Ord.total g.met.T.Ord.matches_eq c.requires.exact _ _ _ c.sort_unstable.ensures.permutation (dedup_is _ _ _ c.dedup.ensures.filtered)

pub returns-clause-adds_none : goal.returns-clause-adds_none
returns-clause-adds_none g c = sorted_adds_none _ _ _ _ c.sort_unstable.ensures.permutation (dedup_is _ _ _ c.dedup.ensures.filtered)
