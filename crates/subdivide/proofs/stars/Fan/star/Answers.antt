use Rattle.std.proofs.Common.{◌≡◌, ◌<◌, length, ap, ◌∙◌, arith, None, Some}
use Rattle.std.proofs.lemmas.Option.{slice_get-get_or}
use Rattle.subdivide.proofs.FanRays.{one_ray, same_rays, all_rays}
use Rattle.subdivide.proofs.stars.Fan.star.Goals as goal
use Rattle.subdivide.proofs.stars.Fan.star.Goals.{in-Some, in_default}

pub loop-k-preserved : goal.loop-k-preserved
loop-k-preserved c =
    let within : c.loop-k.k < length c.args.self.now.marks = omega arith in
    let read = slice_get-get_or c.args.self.now.marks c.loop-k.k None within in
    elim c.match-mark.branch [
      | in-Some w ↦ (let dir = rw w.unwrap.ensures at w.new.ensures.some in
          one_ray c.args.self.now.marks c.loop-k.k c.loop-k.rays.items c.match-mark.rays.items (record { dir = w.unwrap.result; mark = w.in-Some.mark })
          c.loop-k.invariant (read ∙ ap Some w.in-Some.is) dir.0 (ap (λ r. r.items) w.rays-is ∙ w.push.ensures.items))
      | in_default w ↦ rw w.rays-is (same_rays c.args.self.now.marks c.loop-k.k c.loop-k.rays.items c.loop-k.invariant (read ∙ ap Some w.in_default.is))
    ]

pub returns : goal.returns
returns c =
    let all = all_rays c.args.self.now.marks c.loop-k.k c.loop-k.rays.items c.loop-k.invariant (omega arith) (omega arith) in
    let same = rw c.unwrap-2.ensures at c.new-2.ensures.same in
    let rays : c.unwrap-2.result ≡ c.loop-k.rays.items = same ∙ c.as_slice.ensures.value in
    record { star = rw rays all.0; are = rw rays all.1 }
