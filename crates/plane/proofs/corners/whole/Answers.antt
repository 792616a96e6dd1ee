use Rattle.std.specs.Prelude.{pos}
use Rattle.exact.specs.Number.{ExactNumber, Same, IsCanonical}
use Rattle.plane.proofs.SidesMade.{wide_is, makes_number, number_is}
use Rattle.plane.proofs.corners.whole.Goals as goal
use Rattle.exact.proofs.Told.{some_tells}

pub unwrap-requires : goal.unwrap-requires
unwrap-requires c = makes_number c.args.n c.new.result _ c.requires (wide_is c.args.n c.from.result c.requires c.from.ensures) c.new.ensures.none

pub returns : goal.returns
returns c = number_is c.args.n c.unwrap.result _ c.requires (wide_is c.args.n c.from.result c.requires c.from.ensures) (some_tells (λ (x : ExactNumber). Same x (record { a = _; b = pos 0; d = 1 }) × IsCanonical x) c.new.result c.unwrap.result c.unwrap.ensures c.new.ensures.some)
