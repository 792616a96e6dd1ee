use Rattle.std.proofs.Common.{refl, subst, sym}
use Rattle.routes.proofs.Bytes.{IsTaken, one_taken, all_taken, stuck}
use Rattle.chains.proofs.callers.Elements.{no_elements, some_elements}
use Rattle.routes.proofs.query.unescape.Goals as goal

pub loop-byte-preserved : goal.loop-byte-preserved
loop-byte-preserved c =
    let text = c.args.text.now in
    let behind = c.in-Some.behind.now in
    subst (λ done. IsTaken text done behind) (sym c.in_ok-push.ensures.items)
    (one_taken text c.loop-byte.value.items c.loop-byte.rest.now behind c.in-Some.byte c.loop-byte.invariant c.in-Some.ensures.some)

pub returns-then-is_empty : goal.returns-then-is_empty
returns-then-is_empty c =
    let text = c.args.text.now in
    let done = c.loop-byte.value.items in
    all_taken text done (subst (λ rest. IsTaken text done rest) (no_elements c.loop-byte.rest.now c.is_empty.result c.is_empty.ensures c.if-is_empty.true) c.loop-byte.invariant)

pub returns-else-is_empty : goal.returns-else-is_empty
returns-else-is_empty c =
    stuck c.args.text.now c.loop-byte.value.items c.loop-byte.rest.now c.loop-byte.invariant
    (some_elements c.loop-byte.rest.now c.is_empty.result c.is_empty.ensures c.if-is_empty.false) (c.in_default.ensures.none refl)
