use Rattle.std.proofs.Common.{arith}
use Rattle.std.specs.Prelude.{◌+ℤ◌, ◌*ℤ◌}
use Rattle.std.specs.Int.{w128}
use Rattle.std.proofs.lemmas.Int.{fits_signed_from_abs}
use Rattle.plane.proofs.Passed.{passed, product_passed, both_products}
use Rattle.plane.proofs.ways.two_products.Goals as goal

pub overflow_add-result : goal.overflow_add-result
overflow_add-result c =
    rw (product_passed c.args.a c.args.c c.ranges.a c.ranges.c (omega arith), product_passed c.args.b c.args.d c.ranges.b c.ranges.d (omega arith))
    (fits_signed_from_abs w128 _ (omega (arith, both_products c.args.a c.args.b c.args.c c.args.d c.requires)))

pub returns-clause-value : goal.returns-clause-value
returns-clause-value c =
    rw (product_passed c.args.a c.args.c c.ranges.a c.ranges.c (omega arith), product_passed c.args.b c.args.d c.ranges.b c.ranges.d (omega arith))
    (passed _ (omega (arith, both_products c.args.a c.args.b c.args.c c.args.d c.requires)))

pub returns-clause-within : goal.returns-clause-within
returns-clause-within c =
    rw (product_passed c.args.a c.args.c c.ranges.a c.ranges.c (omega arith), product_passed c.args.b c.args.d c.ranges.b c.ranges.d (omega arith), passed (c.args.a *ℤ c.args.c +ℤ c.args.b *ℤ c.args.d) (omega (arith, both_products c.args.a c.args.b c.args.c c.args.d c.requires)))
    (both_products c.args.a c.args.b c.args.c c.args.d c.requires)
