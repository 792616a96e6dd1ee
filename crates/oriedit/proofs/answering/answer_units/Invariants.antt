use Rattle.std.proofs.Common.{◌≡◌, ◌≤◌, ◌++◌, length}
use Rattle.oriedit.specs.Script.{works}
use Rattle.oriedit.proofs.Feeding.{IsSoFar}
use Rattle.oriedit.proofs.answering.answer_units.Given as goal

abbrev pub invariant-loop-end : goal.invariant-loop-end
invariant-loop-end g l = record {
  so_far : IsSoFar (l.fn.unit.bytes.items ++ l.bytes) l.unit.bytes.items l.unit.wanted l.rest
      (works (g.W.Sink.held l.fn.sink) (g.K.Keeper.tables l.fn.keeper) (g.K.Keeper.faults l.fn.keeper)) (g.K.Keeper.is_clean l.keeper)
      (works (g.W.Sink.held l.sink) (g.K.Keeper.tables l.keeper) (g.K.Keeper.faults l.keeper));
  sink_faults : g.W.Sink.faults l.fn.sink ≤ g.W.Sink.faults l.sink;
  keeper_faults : g.K.Keeper.faults l.fn.keeper ≤ g.K.Keeper.faults l.keeper;
  sink_aside : g.W.Sink.aside l.sink ≡ g.W.Sink.aside l.fn.sink;
  keeper_clean : g.K.Keeper.is_clean l.keeper → g.K.Keeper.is_clean l.fn.keeper;
  keeper_path : g.K.Keeper.keeper_path l.keeper ≡ g.K.Keeper.keeper_path l.fn.keeper;
}

abbrev pub decreases-loop-end : goal.decreases-loop-end
decreases-loop-end g l = length l.rest
