use Rattle.std.proofs.Common.{◌≡◌, ℕ, ◌<◌, true, subst, arith, ◌∙◌}
use Rattle.std.specs.Prelude.{nat_lt, Contains}
use Rattle.std.proofs.lemmas.Bool.Decides.{nat_tests}
use Rattle.plane.proofs.callers.Orders.{point_exact}
use Rattle.subdivide.proofs.found.are_many.Goals as goal

pub ascending-requires : goal.ascending-requires
ascending-requires c = record { exact = point_exact }

above : (n m : ℕ) → n ≡ m → nat_lt 100000 n ≡ true → 100000 < m
above n m e t = grind (arith, nat_tests)

pub returns : goal.returns
returns c = λ e. record {
  some = c.ascending.new.list.items;
  ascends = c.ascending.ensures.ascends;
  within = λ v h. subst (λ z. Contains z v) c.in_ok-some.ensures.items (c.ascending.ensures.adds_none v h);
  many = above c.len.result _ (c.len.ensures ∙ c.ascending.new.list.ok.0) e;
}
