use Rattle.std.proofs.Common.{◌≡◌, ◌+◌, List, length, ap, subst, sym, refl, ◌∙◌, arith}
use Rattle.std.specs.Prelude.{Some, slice_get, All, AllPairs}
use Rattle.std.proofs.lemmas.Option.{slice_get_read}
use Rattle.exact.specs.Plane.{ExactPoint, Before, IsPointCanonical}
use Rattle.subdivide.specs.Subdivision.{AreVertices}
use Rattle.judge.proofs.Faults.{AreFaultsBelow, none_below, fault_more, fault_still, faults_are}
use Rattle.judge.proofs.fault.faults_of.Goals as goal
use Rattle.judge.proofs.fault.faults_of.Goals.{in-Some+in_ok-push, in_default}

pub loop-at-init : goal.loop-at-init
loop-at-init g c = record {
  found = subst (AreFaultsBelow c.args.live.now c.vertices-at-items.result.now 0) (sym c.new-faults.ensures.items) (none_below c.args.live.now c.vertices-at-items.result.now);
  counted = omega arith;
}

pub loop-at-preserved : goal.loop-at-preserved
loop-at-preserved g c =
    let vs : List ExactPoint = c.vertices-at-items.result.now in
    let stands : slice_get vs c.loop-at.at-index ≡ Some c.at-item.result = slice_get_read vs (length vs) c.loop-at.at-index c.at-item.result refl c.loop-at-test.true c.at-item.is in
    let up : AllPairs Before vs = subst (AllPairs Before) (sym c.vertices-at-items.ensures.value) c.vertices-at-items.ensures.subdivision.vertices in
    let held : All IsPointCanonical vs = subst (All IsPointCanonical) (sym c.vertices-at-items.ensures.value) c.vertices-at-items.ensures.subdivision.canonical in
    let at : IsPointCanonical c.at-item.result = subst IsPointCanonical (sym c.at-item.is) (held c.loop-at.at-index c.at-item.result c.loop-at-test.true) in
    record {
      found = elim c.match-fault_at.branch [
        | in-Some+in_ok-push w ↦ subst (AreFaultsBelow c.args.live.now vs (c.loop-at.at-index + 1)) (sym (ap (λ v. v.items) w.faults-is ∙ w.in_ok-push.ensures.items))
            (fault_more c.args.live.now vs c.loop-at.at-index c.at-item.result w.in-Some.why c.loop-at.faults.items up at stands w.in-Some.ensures.tells c.loop-at.invariant.found)
        | in_default w ↦ subst (AreFaultsBelow c.args.live.now vs (c.loop-at.at-index + 1)) (sym (ap (λ v. v.items) w.faults-is))
            (fault_still c.args.live.now vs c.loop-at.at-index c.at-item.result c.loop-at.faults.items stands w.in_default.ensures.tells c.loop-at.invariant.found)
      ];
      counted = omega (arith, c.loop-at.invariant.counted, c.fault_at.ensures.steps);
    }

pub returns-in_err-push-clause-steps : goal.returns-in_err-push-clause-steps
returns-in_err-push-clause-steps g c = omega (arith, c.loop-at.invariant.counted, c.fault_at.ensures.steps)

pub returns-clause-faults : goal.returns-clause-faults
returns-clause-faults g c =
    faults_are c.star_is_of_the_point.ensures c.args.live.now c.vertices-at-items.result.now c.loop-at.at-index c.loop-at.faults.items c.pattern-pattern.ensures.pattern
    (subst (AreVertices c.args.live.now) (sym c.vertices-at-items.ensures.value) c.in_ok-cut.ensures.1) c.loop-at-test.false c.loop-at.invariant.found

pub returns-clause-steps : goal.returns-clause-steps
returns-clause-steps g c = c.loop-at.invariant.counted
