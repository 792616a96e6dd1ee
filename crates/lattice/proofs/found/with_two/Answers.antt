use Rattle.std.proofs.Common.{refl, inl, inr}
use Rattle.lattice.proofs.Sets.{minus_below, plus_below, zero_spot}
use Rattle.lattice.proofs.found.with_two.Goals as goal

pub returns-in-Minus : goal.returns-in-Minus
returns-in-Minus c = inl (minus_below c.args.pair c.args.first c.in-Minus.ensures, refl, refl)

pub returns-in-Zero : goal.returns-in-Zero
returns-in-Zero c = inr (inr (inl (zero_spot c.args.pair c.args.first c.in-Zero.ensures), refl, refl))

pub returns-in-Minus-order : goal.returns-in-Minus-order
returns-in-Minus-order c = inr (inl (plus_below c.args.pair c.args.first c.in-Plus.ensures, minus_below c.args.pair c.args.second c.in-Minus-order.ensures, refl, refl))

pub returns-in-Zero-order : goal.returns-in-Zero-order
returns-in-Zero-order c = inr (inr (inr (inl (zero_spot c.args.pair c.args.second c.in-Zero-order.ensures)), refl, refl))

pub returns-in-Plus-order : goal.returns-in-Plus-order
returns-in-Plus-order c = inr (inr (inr (inr (plus_below c.args.pair c.args.second c.in-Plus-order.ensures)), refl, refl))
