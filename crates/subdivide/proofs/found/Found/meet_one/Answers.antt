use Rattle.std.proofs.Common.{refl, sym, subst, length, arith, ◌∙◌}
use Rattle.std.proofs.lemmas.Bool.{eqb-true}
use Rattle.std.proofs.lemmas.Option.{slice_get_read}
use Rattle.std.proofs.lemmas.Result.{on_ok_weaker}
use Rattle.geometry.specs.Meeting.{Along}
use Rattle.subdivide.proofs.Noted.{noted_ends, noted_leads, none_lesser}
use Rattle.subdivide.proofs.Touched.{parallel_ends}
use Rattle.subdivide.specs.declared.touch.Touch.TheVariants as touch
use Rattle.subdivide.proofs.found.Found.meet_one.Goals as goal

pub returns-then-is_at_most : goal.returns-then-is_at_most
returns-then-is_at_most c =
    let l = slice_get_read c.args.lines.now (length c.args.lines.now) c.args.first c.index-lines-first.result refl (omega (arith, c.requires.ordered, c.requires.within)) c.index-lines-first.is in
    let m = slice_get_read c.args.lines.now (length c.args.lines.now) c.args.second c.index-lines-second.result refl c.requires.within c.index-lines-second.is in
    none_lesser c.args.lines.now c.args.first c.args.second c.args.self.now c.index-lines-first.result c.index-lines-second.result (c.is_at_most.ensures.0 c.if-is_at_most.true) l m

pub returns-then-eq : goal.returns-then-eq
returns-then-eq c =
    let l = slice_get_read c.args.lines.now (length c.args.lines.now) c.args.first c.index-lines-first.result refl (omega (arith, c.requires.ordered, c.requires.within)) c.index-lines-first.is in
    let m = slice_get_read c.args.lines.now (length c.args.lines.now) c.args.second c.index-lines-second.result refl c.requires.within c.index-lines-second.is in
    let x = (c.requires.swept.marked.each c.args.first c.index-lines-first.result l).along in
    let y = (c.requires.swept.marked.each c.args.second c.index-lines-second.result m).along in
    let d = eqb-true c.index-lines-first.result.dir c.index-lines-second.result.dir (sym c.eq.ensures ∙ c.if-eq.true) in
    noted_leads c.args.lines.now c.args.first c.args.second touch.Ends c.args.self.now c.args.self.now c.index-lines-first.result c.index-lines-second.result (noted_ends c.args.first c.args.second c.args.self.now) c.requires.ordered l m
    (parallel_ends c.index-lines-first.result.seg c.index-lines-second.result.seg c.index-lines-first.result.dir x (subst (Along c.index-lines-second.result.seg) (sym d) y)
    (c.requires.swept.apart c.args.first c.args.second c.index-lines-first.result c.index-lines-second.result c.requires.ordered l m))

pub touching-requires-clause-marked : goal.touching-requires-clause-marked
touching-requires-clause-marked c = (
  c.requires.swept.marked.scale,
  c.requires.swept.marked.each c.args.first c.index-lines-first.result (slice_get_read c.args.lines.now (length c.args.lines.now) c.args.first c.index-lines-first.result refl (omega (arith, c.requires.ordered, c.requires.within)) c.index-lines-first.is),
  c.requires.swept.marked.each c.args.second c.index-lines-second.result (slice_get_read c.args.lines.now (length c.args.lines.now) c.args.second c.index-lines-second.result refl c.requires.within c.index-lines-second.is),
)

pub returns : goal.returns
returns c =
    let l = slice_get_read c.args.lines.now (length c.args.lines.now) c.args.first c.index-lines-first.result refl (omega (arith, c.requires.ordered, c.requires.within)) c.index-lines-first.is in
    let m = slice_get_read c.args.lines.now (length c.args.lines.now) c.args.second c.index-lines-second.result refl c.requires.within c.index-lines-second.is in
    on_ok_weaker c.note.result (λ n. noted_leads c.args.lines.now c.args.first c.args.second c.touching.result c.args.self.now c.note.new.self c.index-lines-first.result c.index-lines-second.result n c.requires.ordered l m c.touching.ensures) c.note.ensures
