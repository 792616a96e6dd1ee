use Rattle.std.proofs.Common.{◌≡◌, ap, ◌∙◌}
use Rattle.sheet.specs.Pattern.{ExactCrease}
use Rattle.edits.specs.Pieces.{IsPiece, Replaced}
use Rattle.edits.proofs.drawings.CutPieces.{Put, segment_moved, from_to_moved, put_moved, front_segment, back_segment, front_may, back_may, cut_replaced, if_ok}
use Rattle.edits.proofs.draft.Draft.cut.Goals as goal

pub part-requires : goal.part-requires
part-requires c =
    let t = c.args.crease.now in
    let s = c.args.seg.now in
    segment_moved c.p.result c.p-2.result t.seg.p s.p (c.p.ensures.value ∙ ap (λ (f : ExactCrease). f.seg.p) c.crease.view_is) c.p-2.ensures.value (front_segment c.args.self.now.creases t s c.requires)

pub put_part-requires-clause-may : goal.put_part-requires-clause-may
put_part-requires-clause-may c =
    let t = c.args.crease.now in
    let s = c.args.seg.now in
    front_may c.args.self.now.creases c.take_out.new.self.creases t s c.part.result c.requires c.in_ok-take_out.ensures.taken
    (from_to_moved c.p.result c.p-2.result t.seg.p s.p c.part.result (c.p.ensures.value ∙ ap (λ (f : ExactCrease). f.seg.p) c.crease.view_is) c.p-2.ensures.value c.part.ensures)

pub part-requires-2 : goal.part-requires-2
part-requires-2 c =
    let t = c.args.crease.now in
    let s = c.args.seg.now in
    segment_moved c.q.result c.q-2.result s.q t.seg.q c.q.ensures.value (c.q-2.ensures.value ∙ ap (λ (f : ExactCrease). f.seg.q) c.crease.view_is) (back_segment c.args.self.now.creases t s c.requires)

pub put_part-requires-2-clause-may : goal.put_part-requires-2-clause-may
put_part-requires-2-clause-may c =
    let t = c.args.crease.now in
    let s = c.args.seg.now in
    back_may c.args.self.now.creases c.take_out.new.self.creases c.put_part.new.self.creases t s c.part.result c.part-2.result c.crease.inside.colour c.requires c.in_ok-take_out.ensures.taken
    (from_to_moved c.p.result c.p-2.result t.seg.p s.p c.part.result (c.p.ensures.value ∙ ap (λ (f : ExactCrease). f.seg.p) c.crease.view_is) c.p-2.ensures.value c.part.ensures)
    c.in_ok-put_part.ensures.put
    (from_to_moved c.q.result c.q-2.result s.q t.seg.q c.part-2.result c.q.ensures.value (c.q-2.ensures.value ∙ ap (λ (f : ExactCrease). f.seg.q) c.crease.view_is) c.part-2.ensures)

pub returns-clause-cut : goal.returns-clause-cut
returns-clause-cut c =
    let old = c.args.self.now.creases in
    let t = c.args.crease.now in
    let s = c.args.seg.now in
    let mid = c.put_part.new.self.creases in
    let new = c.put_part-2.new.self.creases in
    let colour : c.crease.inside.colour ≡ t.colour = ap (λ (f : ExactCrease). f.colour) c.crease.view_is in
    if_ok c.put_part-2.result (Put mid c.part-2.result c.crease.inside.colour new) (Replaced (IsPiece s t) old t new)
    (λ p. cut_replaced old c.take_out.new.self.creases mid new t s c.part.result c.part-2.result c.requires
    (from_to_moved c.p.result c.p-2.result t.seg.p s.p c.part.result (c.p.ensures.value ∙ ap (λ (f : ExactCrease). f.seg.p) c.crease.view_is) c.p-2.ensures.value c.part.ensures)
    (from_to_moved c.q.result c.q-2.result s.q t.seg.q c.part-2.result c.q.ensures.value (c.q-2.ensures.value ∙ ap (λ (f : ExactCrease). f.seg.q) c.crease.view_is) c.part-2.ensures)
    c.in_ok-take_out.ensures.taken
    (put_moved c.take_out.new.self.creases mid c.part.result c.crease.inside.colour t.colour colour c.in_ok-put_part.ensures.put)
    (put_moved mid new c.part-2.result c.crease.inside.colour t.colour colour p)) c.put_part-2.ensures.put
