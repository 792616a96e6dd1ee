use Rattle.std.proofs.Common.{refl, inl}
use Rattle.lattice.proofs.Sets.{minus_below}
use Rattle.lattice.proofs.found.with_one.Goals as goal

pub returns-in-Minus : goal.returns-in-Minus
returns-in-Minus c = inl (minus_below c.args.pair c.args.first c.in-Minus.ensures, refl, refl)
