-- Words of a private contract: why a vertex does not fold flat, once its crimping is stuck.
use Rattle.std.specs.Prelude.{◌≡◌, List}
use Rattle.layers.specs.declared.star.Ray.{Ray}
use Rattle.layers.specs.Star.{mountains, valleys}
use Rattle.crimp.specs.declared.outcome.Run.{Run}
use Rattle.judge.specs.Conditions.{MeetsMaekawa}
use Rattle.judge.specs.declared.verdict.Why.{Why}
use Rattle.judge.specs.declared.verdict.Why.TheVariants as why

-- the cause by the marks of the rays, where the crimping is stuck with this run
abbrev pub IsCauseOf : List Ray → Run → Why → Type 0
IsCauseOf rays run (why.Kawasaki even odd count) = ⊥
IsCauseOf rays run (why.Maekawa m v) = (MeetsMaekawa rays → ⊥) × (m ≡ mountains rays) × (v ≡ valleys rays)
IsCauseOf rays run (why.Blocked r) = MeetsMaekawa rays × (r ≡ run)
