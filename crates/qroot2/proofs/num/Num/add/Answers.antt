use Rattle.std.proofs.Common.{◌≡◌, ◌≤◌, ◌^◌, arith, ap, refl, subst, ◌∙◌}
use Rattle.std.specs.Prelude.{ℤ, unsigned_abs}
use Rattle.exact.specs.Number.{ExactNumber, Same, add}
use Rattle.qroot2.proofs.callers.Held.{held_64, held_scaled, held_plus, both_same}
use Rattle.qroot2.proofs.callers.Answered.{short_sum, short_sum_is, sum_of, sum_is, some_given, none_given, some_same, none_same}
use Rattle.qroot2.proofs.num.Num.add.Goals as goal

pub returns-clause-some : goal.returns-clause-some
returns-clause-some c =
    let x : ExactNumber = record { a = c.self.inside.a; b = c.self.inside.b; d = c.self.inside.d } in
    let y : ExactNumber = record { a = c.other.inside.a; b = c.other.inside.b; d = c.other.inside.d } in
    let a = held_plus c.plus-a.result c.scaled.result c.scaled-2.result _ _ (omega (arith, c.scaled.ensures.bound)) (omega (arith, c.scaled-2.ensures.bound)) c.plus-a.ensures.value (held_scaled _ x.a y.d c.self.invariant.a c.scaled.ensures.value) (held_scaled _ y.a x.d c.other.invariant.a c.scaled-2.ensures.value) in
    let b = held_plus c.plus-b.result c.scaled-3.result c.scaled-4.result _ _ (omega (arith, c.scaled-3.ensures.bound)) (omega (arith, c.scaled-4.ensures.bound)) c.plus-b.ensures.value (held_scaled _ x.b y.d c.self.invariant.b c.scaled-3.ensures.value) (held_scaled _ y.b x.d c.other.invariant.b c.scaled-4.ensures.value) in
    some_given c.new-2.result c.plus-a.result c.plus-b.result c.product.result (sum_of x y) (add c.args.self.now c.args.other.now)
    c.plus-a.ensures.limit c.plus-b.ensures.limit c.product.ensures.bound a b c.product.ensures.value
    (sum_is x y c.self.invariant.positive c.other.invariant.positive ∙ both_same add _ _ _ _ c.self.view_is c.other.view_is) c.new-2.ensures.some

pub returns-clause-none : goal.returns-clause-none
returns-clause-none c =
    let x : ExactNumber = record { a = c.self.inside.a; b = c.self.inside.b; d = c.self.inside.d } in
    let y : ExactNumber = record { a = c.other.inside.a; b = c.other.inside.b; d = c.other.inside.d } in
    let a = held_plus c.plus-a.result c.scaled.result c.scaled-2.result _ _ (omega (arith, c.scaled.ensures.bound)) (omega (arith, c.scaled-2.ensures.bound)) c.plus-a.ensures.value (held_scaled _ x.a y.d c.self.invariant.a c.scaled.ensures.value) (held_scaled _ y.a x.d c.other.invariant.a c.scaled-2.ensures.value) in
    let b = held_plus c.plus-b.result c.scaled-3.result c.scaled-4.result _ _ (omega (arith, c.scaled-3.ensures.bound)) (omega (arith, c.scaled-4.ensures.bound)) c.plus-b.ensures.value (held_scaled _ x.b y.d c.self.invariant.b c.scaled-3.ensures.value) (held_scaled _ y.b x.d c.other.invariant.b c.scaled-4.ensures.value) in
    none_given c.new-2.result c.plus-a.result c.plus-b.result c.product.result (sum_of x y) (add c.args.self.now c.args.other.now)
    c.plus-a.ensures.limit c.plus-b.ensures.limit c.product.ensures.bound a b c.product.ensures.value
    (sum_is x y c.self.invariant.positive c.other.invariant.positive ∙ both_same add _ _ _ _ c.self.view_is c.other.view_is) c.new-2.ensures.none

pub returns-then-self-other : goal.returns-then-self-other
returns-then-self-other c =
    let x : ExactNumber = record { a = c.self.inside.a; b = c.self.inside.b; d = c.self.inside.d } in
    let y : ExactNumber = record { a = c.other.inside.a; b = c.other.inside.b; d = c.other.inside.d } in
    let xa : c.from.result ≡ x.a = c.from.ensures ∙ held_64 x.a (omega (arith, c.self.invariant.a)) in
    let ya : c.from-then-self-other.result ≡ y.a = c.from-then-self-other.ensures ∙ held_64 y.a (omega (arith, c.other.invariant.a)) in
    let xb : c.from-then-self-other-2.result ≡ x.b = c.from-then-self-other-2.ensures ∙ held_64 x.b (omega (arith, c.self.invariant.b)) in
    let yb : c.from-then-self-other-3.result ≡ y.b = c.from-then-self-other-3.ensures ∙ held_64 y.b (omega (arith, c.other.invariant.b)) in
    let a = held_plus c.plus.result _ _ x.a y.a (small _ _ xa c.self.invariant.a) (small _ _ ya c.other.invariant.a) c.plus.ensures.value xa ya in
    let b = held_plus c.plus-then-self-other.result _ _ x.b y.b (small _ _ xb c.self.invariant.b) (small _ _ yb c.other.invariant.b) c.plus-then-self-other.ensures.value xb yb in
    let d : unsigned_abs c.from-then-self-other-4.result ≤ 2 ^ 120 = omega (arith, ap unsigned_abs c.from-then-self-other-4.ensures, c.self.invariant.d) in
    let same = subst (λ (t : ExactNumber). Same (short_sum x y) t) (both_same add _ _ _ _ c.self.view_is c.other.view_is) (short_sum_is x y c.self.invariant.positive c.if-self-other.true) in
    record {
      some = some_same c.new.result (short_sum x y) _ same (some_given c.new.result c.plus.result c.plus-then-self-other.result c.from-then-self-other-4.result (short_sum x y) (short_sum x y) c.plus.ensures.limit c.plus-then-self-other.ensures.limit d a b c.from-then-self-other-4.ensures refl c.new.ensures.some);
      none = none_same c.new.result (short_sum x y) _ same (none_given c.new.result c.plus.result c.plus-then-self-other.result c.from-then-self-other-4.result (short_sum x y) (short_sum x y) c.plus.ensures.limit c.plus-then-self-other.ensures.limit d a b c.from-then-self-other-4.ensures refl c.new.ensures.none);
    }
  where
    small : (r z : ℤ) → r ≡ z → unsigned_abs z ≤ 2 ^ 48 → unsigned_abs r ≤ 2 ^ 120
    small r z e h = rw e (omega arith)
