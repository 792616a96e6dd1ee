use Rattle.std.proofs.Common.{ap, ◌∙◌, refl}
use Rattle.std.specs.Prelude.{unsigned_abs}
use Rattle.std.specs.Int.{w128}
use Rattle.std.proofs.lemmas.Int.{to_z-of_z}
use Rattle.qroot2.specs.Num.{Reduces, signed}
use Rattle.qroot2.proofs.callers.Made.{reduces_same}
use Rattle.qroot2.proofs.InLowestTerms.{in_lowest_terms}
use Rattle.qroot2.proofs.lowest.Lowest.new.Goals as goal

pub invariant_of-result : goal.invariant_of-result
invariant_of-result c =
    let ea = to_z-of_z w128 c.args.a c.ranges.a in
    let eb = to_z-of_z w128 c.args.b c.ranges.b in
    let red : Reduces (unsigned_abs c.args.a) (unsigned_abs c.args.b) c.args.d c.lowest-x.result.0 c.lowest-x.result.1 c.lowest-x.result.2 =
    reduces_same _ _ _ _ _ _ _ _ _ (c.unsigned_abs.ensures.value ∙ ap unsigned_abs ea) (c.unsigned_abs-2.ensures.value ∙ ap unsigned_abs eb) refl c.lowest-x.ensures in
    (in_lowest_terms c.args.a c.args.b c.with_sign.result c.with_sign-2.result c.args.d _ _ _ c.requires.d red c.requires.a c.requires.b (c.with_sign.ensures ∙ ap (λ t. signed t c.lowest-x.result.0) ea) (c.with_sign-2.ensures ∙ ap (λ t. signed t c.lowest-x.result.1) eb)).1

pub returns-clause-value : goal.returns-clause-value
returns-clause-value c =
    let ea = to_z-of_z w128 c.args.a c.ranges.a in
    let eb = to_z-of_z w128 c.args.b c.ranges.b in
    let red : Reduces (unsigned_abs c.args.a) (unsigned_abs c.args.b) c.args.d c.lowest-x.result.0 c.lowest-x.result.1 c.lowest-x.result.2 =
    reduces_same _ _ _ _ _ _ _ _ _ (c.unsigned_abs.ensures.value ∙ ap unsigned_abs ea) (c.unsigned_abs-2.ensures.value ∙ ap unsigned_abs eb) refl c.lowest-x.ensures in
    (in_lowest_terms c.args.a c.args.b c.with_sign.result c.with_sign-2.result c.args.d _ _ _ c.requires.d red c.requires.a c.requires.b (c.with_sign.ensures ∙ ap (λ t. signed t c.lowest-x.result.0) ea) (c.with_sign-2.ensures ∙ ap (λ t. signed t c.lowest-x.result.1) eb)).0

pub returns-clause-lowest : goal.returns-clause-lowest
returns-clause-lowest c =
    let ea = to_z-of_z w128 c.args.a c.ranges.a in
    let eb = to_z-of_z w128 c.args.b c.ranges.b in
    let red : Reduces (unsigned_abs c.args.a) (unsigned_abs c.args.b) c.args.d c.lowest-x.result.0 c.lowest-x.result.1 c.lowest-x.result.2 =
    reduces_same _ _ _ _ _ _ _ _ _ (c.unsigned_abs.ensures.value ∙ ap unsigned_abs ea) (c.unsigned_abs-2.ensures.value ∙ ap unsigned_abs eb) refl c.lowest-x.ensures in
    (in_lowest_terms c.args.a c.args.b c.with_sign.result c.with_sign-2.result c.args.d _ _ _ c.requires.d red c.requires.a c.requires.b (c.with_sign.ensures ∙ ap (λ t. signed t c.lowest-x.result.0) ea) (c.with_sign-2.ensures ∙ ap (λ t. signed t c.lowest-x.result.1) eb)).1
