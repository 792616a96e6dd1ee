use Rattle.std.proofs.Common.{sym, subst, inl, inr}
use Rattle.geometry.proofs.RayMeets.{Faces, across_none}
use Rattle.plane.proofs.callers.Told.{fails}
use Rattle.plane.proofs.callers.Beside.{beside_turns}
use Rattle.edits.proofs.extensions.OneSegment.{none_of_it, across_at, across_lost}
use Rattle.edits.proofs.sight.across.Goals.{then-not-faces-via-then-not-faces, then-not-faces-via-else-not-faces+then-is_beside}
use Rattle.edits.proofs.sight.across.Goals as goal

pub returns-then-not-faces : goal.returns-then-not-faces
returns-then-not-faces c = none_of_it c.args.at.now c.args.dir c.args.seg.now (across_none c.args.at.now c.args.dir c.args.line c.args.seg.now c.requires.small c.requires.along c.requires.across
    (elim c.then-not-faces.branch [
      | then-not-faces-via-then-not-faces w ↦ inl (λ f. fails c.faces.ensures w.if-not-faces.true (subst (λ z. Faces c.args.at.now c.args.dir z c.args.line) (sym c.p-p.ensures.value) f))
      | then-not-faces-via-else-not-faces+then-is_beside w ↦ inr ((beside_turns c.args.at.now c.args.dir c.args.seg.now).0 (w.is_beside.ensures.0 w.if-is_beside.true))
    ]))

pub returns-in-Some : goal.returns-in-Some
returns-in-Some c = across_at c.args.at.now c.args.dir c.args.line c.args.seg.now c.p-p.result c.in-Some.point c.requires.small c.requires.along c.requires.across c.p-p.ensures.value
    (c.faces.ensures.0 c.if-not-faces.false) (λ b. fails c.is_beside.ensures c.if-is_beside.false ((beside_turns c.args.at.now c.args.dir c.args.seg.now).1 b)) c.in-Some.ensures.canonical c.in-Some.ensures.some

pub returns-in-None : goal.returns-in-None
returns-in-None c = across_lost c.args.at.now c.args.dir c.args.line c.args.seg.now c.p-p.result c.requires.small c.requires.along c.requires.across c.p-p.ensures.value
    (c.faces.ensures.0 c.if-not-faces.false) (λ b. fails c.is_beside.ensures c.if-is_beside.false ((beside_turns c.args.at.now c.args.dir c.args.seg.now).1 b)) c.in-None.ensures.none
