use Rattle.std.proofs.Common.{◌≡◌, ◌≤◌, ◌-◌}
use Rattle.oriedit.specs.Script.{works}
use Rattle.oriedit.specs.Unfinished.{IsUnfinished}
use Rattle.oriedit.proofs.SoFar.{IsRead}
use Rattle.oriedit.proofs.scripting.script.Given as goal

abbrev pub invariant-loop-taken : goal.invariant-loop-taken
invariant-loop-taken g l = record {
  so_far : IsRead (g.S.Source.left l.fn.source) (g.S.Source.left l.source) l.unit.bytes.items l.taken
      (works (g.W.Sink.held l.fn.sink) (g.K.Keeper.tables l.fn.keeper) (g.K.Keeper.faults l.fn.keeper)) (g.K.Keeper.is_clean l.keeper)
      (works (g.W.Sink.held l.sink) (g.K.Keeper.tables l.keeper) (g.K.Keeper.faults l.keeper));
  unfinished : IsUnfinished l.unit.bytes.items l.unit.wanted;
  within : l.taken ≤ 268435456;
  no_fault : g.S.Source.faults l.source ≡ g.S.Source.faults l.fn.source;
  sink_faults : g.W.Sink.faults l.fn.sink ≤ g.W.Sink.faults l.sink;
  keeper_faults : g.K.Keeper.faults l.fn.keeper ≤ g.K.Keeper.faults l.keeper;
  source_aside : g.S.Source.aside l.source ≡ g.S.Source.aside l.fn.source;
  sink_aside : g.W.Sink.aside l.sink ≡ g.W.Sink.aside l.fn.sink;
  keeper_clean : g.K.Keeper.is_clean l.keeper → g.K.Keeper.is_clean l.fn.keeper;
  keeper_path : g.K.Keeper.keeper_path l.keeper ≡ g.K.Keeper.keeper_path l.fn.keeper;
}

abbrev pub decreases-loop-taken : goal.decreases-loop-taken
decreases-loop-taken g l = 268435456 - l.taken
