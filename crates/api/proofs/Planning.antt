-- The tests of a head put together.
use Rattle.std.proofs.Common.{ℕ, List, refl}
use Rattle.std.specs.Prelude.{Err}
use Rattle.routes.specs.declared.route.Route.{Route}
use Rattle.api.specs.declared.bad.BadWhy.{BadWhy}
use Rattle.api.specs.declared.bad.BadWhy.TheVariants as why
use Rattle.api.specs.declared.plan.Head.{Head}
use Rattle.api.specs.declared.plan.Digits.{Digits}
use Rattle.api.specs.declared.plan.Digits.TheVariants.{NoDigits, SomeDigits}
use Rattle.api.specs.Lengths.{lengths}
use Rattle.api.specs.Fields.{pairs}
use Rattle.api.specs.Tests.{IsFound}
use Rattle.api.specs.Stages.{refusal}
use Rattle.api.specs.Plans.{said, AreDigits, IsDigits, EndsFailed, PassesLength}

pub are_digits : (texts : List (List ℕ)) (digits : Digits) → AreDigits texts digits → IsDigits digits
are_digits texts NoDigits h = tt
are_digits texts (SomeDigits digits) h = h.1

pub length_fails : (head : Head) (route : Route) (w : BadWhy) → ((behind : List ℕ) → IsFound (said head behind) route)
    → PassesLength head.method.now (lengths (pairs head.bytes.now head.fields.now)) (Err w) → EndsFailed head (refusal w)
length_fails head route why.NoLength found p = (refl, λ behind. (route, found behind, p, refl))
length_fails head route why.BodySize found p = (refl, λ behind. (route, (found behind, p.0), p.1, refl))
length_fails head route why.Head found p = absurd p
length_fails head route why.HeadSize found p = absurd p
length_fails head route why.Coding found p = absurd p
length_fails head route why.Length found p = absurd p
length_fails head route why.Route found p = absurd p
length_fails head route why.Method found p = absurd p
length_fails head route why.Name found p = absurd p
length_fails head route why.Short found p = absurd p
length_fails head route why.Body found p = absurd p
