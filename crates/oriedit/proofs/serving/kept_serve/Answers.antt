use Rattle.std.proofs.Common.{refl}
use Rattle.oriedit.proofs.ToldPath.{then_done}
use Rattle.oriedit.specs.Attaching.{Serves}
use Rattle.oriedit.proofs.serving.kept_serve.Goals as goal

pub returns-in-Ok-clause-serves : goal.returns-in-Ok-clause-serves
returns-in-Ok-clause-serves g c =
    λ left held takes puts. then_done left held takes puts _ _ _ _ _ _ c.args.path.now _ (Serves c.args.port c.args.connections (g.K.Keeper.is_clean c.serve.new.keeper)) (g.K.Keeper.is_clean c.attach.new.self) (g.K.Keeper.is_clean c.serve.new.keeper) _ _ c.serve.ensures.keeper_clean
    c.in-Ok.ensures.told c.in-Ok.ensures.cause.later c.in-Ok.ensures.path
    (record {
      source = record { left = refl; takes = refl };
      sink = record { held = refl; puts = refl };
      path_is = c.serve.ensures.keeper_path;
      ends = c.serve.ensures.serves;
    })
