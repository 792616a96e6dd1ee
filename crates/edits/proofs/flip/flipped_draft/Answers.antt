use Rattle.std.proofs.Common.{◌≡◌, ◌∙◌, ◌++◌, ◌∷◌, [], List, ap, sym, subst}
use Rattle.std.specs.Prelude.{All}
use Rattle.exact.specs.Plane.{ExactSegment, Overlap}
use Rattle.sheet.specs.Pattern.{ExactCrease}
use Rattle.plane.specs.Segments.{IsHeld}
use Rattle.creases.specs.Standing.{AreStanding}
use Rattle.pattern.proofs.callers.Fronts.{moved}
use Rattle.edits.specs.Drafts.{ExactDraft}
use Rattle.edits.proofs.drawings.CutPieces.{held_of, taken_apart}
use Rattle.edits.proofs.drafts.DraftLists.{standing_of}
use Rattle.edits.proofs.flips.Flipping.{AreHalf, half_start, half_there, half_next, half_end, is_flipped}
use Rattle.edits.proofs.drawings.StillApart.{covers_itself}
use Rattle.edits.proofs.flip.flipped_draft.Goals as goal

pub loop-crease-init : goal.loop-crease-init
loop-crease-init c =
    let creases = ap (λ (d : ExactDraft). d.creases) c.of-draft.ensures.same in
    let rest = c.into_iter-crease-iterator.ensures.into_iter_gives ∙ c.creases-crease-items.ensures.rest in (
      [],
      rest,
      subst (λ (xs : List ExactCrease). AreHalf [] xs c.of-draft.result.creases) (sym rest) (subst (λ (xs : List ExactCrease). AreHalf [] c.args.pattern.now.creases xs) (sym creases) (half_start c.args.pattern.now.creases)),
      subst AreStanding (sym creases) (standing_of c.args.pattern.now c.of-draft.ensures.pattern),
      ap (λ (d : ExactDraft). d.pattern) c.of-draft.ensures.same,
    )

pub take_out-requires : goal.take_out-requires
take_out-requires c = half_there c.loop-crease.invariant.0 c.loop-crease.crease-iterator c.next.new.self c.loop-crease.draft.creases c.in-Some.crease c.loop-crease.invariant.2 c.in-Some.ensures.steps

pub put_in-requires : goal.put_in-requires
put_in-requires c =
    let i = c.loop-crease.invariant in
    let x : ExactCrease = c.in-Some.crease in
    let there = half_there i.0 c.loop-crease.crease-iterator c.next.new.self c.loop-crease.draft.creases x i.2 c.in-Some.ensures.steps in
    let same : x.seg ≡ c.exchanged.result.seg = ap (λ (f : ExactCrease). f.seg) (sym c.exchanged.ensures) in record {
      held = subst IsHeld same (held_of c.loop-crease.draft.creases x i.3 there);
      apart = subst (λ (s : ExactSegment). All (λ (f : ExactCrease). ¬ Overlap f.seg s) c.take_out.new.self.creases) same (taken_apart c.loop-crease.draft.creases c.take_out.new.self.creases x x.seg i.3 there c.in_ok-take_out.ensures.taken (covers_itself x.seg));
    }

pub loop-crease-preserved : goal.loop-crease-preserved
loop-crease-preserved c =
    let i = c.loop-crease.invariant in
    let x : ExactCrease = c.in-Some.crease in (
      i.0 ++ x ∷ [],
      moved c.args.pattern.now.creases i.0 c.loop-crease.crease-iterator c.next.new.self x i.1 c.in-Some.ensures.steps,
      half_next c.args.pattern.now i.0 c.loop-crease.crease-iterator c.next.new.self c.loop-crease.draft.creases c.take_out.new.self.creases c.put_in.new.self.creases x c.creases-crease-items.ensures.pattern i.1 c.in-Some.ensures.steps i.2
          c.in_ok-take_out.ensures.taken (rw c.exchanged.ensures at c.in_ok-put_in.ensures.put),
      c.in_ok-put_in.ensures.standing,
      c.put_in.ensures.pattern ∙ c.take_out.ensures.pattern ∙ i.4,
    )

pub returns-clause-flipped : goal.returns-clause-flipped
returns-clause-flipped c =
    let i = c.loop-crease.invariant in
    half_end c.args.pattern.now i.0 c.loop-crease.crease-iterator c.loop-crease.draft.creases c.creases-crease-items.ensures.pattern i.3 i.2 i.1 c.in-None.ensures.steps.0

pub returns-clause-pattern : goal.returns-clause-pattern
returns-clause-pattern c = is_flipped c.args.pattern.now c.loop-crease.draft.pattern c.loop-crease.draft.creases c.creases-crease-items.ensures.pattern (returns-clause-flipped c) c.loop-crease.invariant.4
