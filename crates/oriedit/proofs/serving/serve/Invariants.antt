use Rattle.std.proofs.Common.{◌≡◌, ◌≤◌, Some}
use Rattle.oriedit.specs.Connections.{end_side, kept}
use Rattle.oriedit.specs.Serving.{ends_seen}
use Rattle.oriedit.proofs.SomeServed.{IsServing}
use Rattle.oriedit.proofs.serving.serve.Given as goal

abbrev pub invariant-loop-turn : goal.invariant-loop-turn
invariant-loop-turn g l = record {
  so_far : IsServing l._turn
      (ends_seen (λ e. end_side (g.D.End.Source.left e) (g.D.End.Source.faults e) (g.D.End.Sink.held e) (g.D.End.Sink.faults e)) (g.D.Door.ends l.fn.door))
      (kept (g.K.Keeper.tables l.fn.keeper) (g.K.Keeper.faults l.fn.keeper)) (g.K.Keeper.is_clean l.keeper)
      (ends_seen (λ e. end_side (g.D.End.Source.left e) (g.D.End.Source.faults e) (g.D.End.Sink.held e) (g.D.End.Sink.faults e)) (g.D.Door.ends l.door))
      (kept (g.K.Keeper.tables l.keeper) (g.K.Keeper.faults l.keeper));
  port : g.D.Door.door_port l.door ≡ Some l.fn.port;
  door_faults : g.D.Door.door_faults l.fn.door ≤ g.D.Door.door_faults l.door;
  keeper_faults : g.K.Keeper.faults l.fn.keeper ≤ g.K.Keeper.faults l.keeper;
  keeper_clean : g.K.Keeper.is_clean l.keeper → g.K.Keeper.is_clean l.fn.keeper;
  keeper_path : g.K.Keeper.keeper_path l.keeper ≡ g.K.Keeper.keeper_path l.fn.keeper;
}
