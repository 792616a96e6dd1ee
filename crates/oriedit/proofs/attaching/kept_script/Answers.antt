use Rattle.std.proofs.Common.{refl}
use Rattle.oriedit.proofs.ToldPath.{then_done}
use Rattle.oriedit.specs.Attaching.{Scripts}
use Rattle.oriedit.proofs.attaching.kept_script.Goals as goal

pub returns-in-Ok-clause-script : goal.returns-in-Ok-clause-script
returns-in-Ok-clause-script g c =
    λ door. then_done _ _ _ _ _ _ _ _ _ _ c.args.path.now door (Scripts (g.K.Keeper.is_clean c.script.new.keeper)) (g.K.Keeper.is_clean c.attach.new.self) (g.K.Keeper.is_clean c.script.new.keeper) _ _ c.script.ensures.keeper_clean
    c.in-Ok.ensures.told c.in-Ok.ensures.cause.later c.in-Ok.ensures.path (c.script.ensures.script, c.script.ensures.keeper_path, refl)
