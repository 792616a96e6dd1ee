use Rattle.std.proofs.Common.{◌≡◌, ◌≤◌}
use Rattle.std.specs.Prelude.{None}
use Rattle.oriedit.specs.Script.{works}
use Rattle.oriedit.specs.Counting.{IsTallied, IsSmall}
use Rattle.oriedit.proofs.generating.tallied.Given as goal

abbrev pub invariant-loop-n : goal.invariant-loop-n
invariant-loop-n g l = record {
  so_far : IsTallied l.fn.seed l.n l.generator
      (works None (g.K.Keeper.tables l.fn.keeper) (g.K.Keeper.faults l.fn.keeper)) (g.K.Keeper.is_clean l.keeper)
      (works None (g.K.Keeper.tables l.keeper) (g.K.Keeper.faults l.keeper)) l.tally;
  small : IsSmall l.n l.tally;
  keeper_faults : g.K.Keeper.faults l.fn.keeper ≤ g.K.Keeper.faults l.keeper;
  keeper_clean : g.K.Keeper.is_clean l.keeper → g.K.Keeper.is_clean l.fn.keeper;
  keeper_path : g.K.Keeper.keeper_path l.keeper ≡ g.K.Keeper.keeper_path l.fn.keeper;
}
