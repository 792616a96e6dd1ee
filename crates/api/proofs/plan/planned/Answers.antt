use Rattle.std.proofs.Common.{sym, subst, refl}
use Rattle.api.specs.Lengths.{lengths}
use Rattle.api.specs.Fields.{pairs}
use Rattle.api.specs.Plans.{EndsFailed}
use Rattle.api.proofs.Planning.{are_digits, length_fails}
use Rattle.api.proofs.plan.planned.Goals as goal

pub length_tests-requires : goal.length_tests-requires
length_tests-requires c = are_digits _ c.in-Ok.digits c.in-Ok.ensures.1

pub returns-in-Ok-length_tests : goal.returns-in-Ok-length_tests
returns-in-Ok-length_tests c =
    let p = c.in-Ok-length_tests.ensures (lengths (pairs c.args.head.now.bytes.now c.args.head.now.fields.now)) c.in-Ok.ensures.1 in
    record { found = c.in_ok-route.ensures.0; taken = c.in_ok-route.ensures.1; some = p.0; small = p.1; len = p.2; query = refl }

pub returns-in-Err-length_tests : goal.returns-in-Err-length_tests
returns-in-Err-length_tests c =
    subst (EndsFailed c.args.head.now) (sym c.refused-in-Err-length_tests.ensures)
    (length_fails c.args.head.now c.in_ok-route.route c.in-Err-length_tests.why c.in_ok-route.ensures.0
    (c.in-Err-length_tests.ensures (lengths (pairs c.args.head.now.bytes.now c.args.head.now.fields.now)) c.in-Ok.ensures.1))
