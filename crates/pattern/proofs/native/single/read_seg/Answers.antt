use Rattle.std.proofs.Common.{List, ℕ, subst, sym, refl}
use Rattle.std.specs.Prelude.{Contains}
use Rattle.plane.specs.Segments.{IsHeld}
use Rattle.pattern.proofs.callers.LineText.{space_in}
use Rattle.pattern.proofs.callers.SingleText.{halves, end_missing, end_there, seg_read, ends_of_text}
use Rattle.pattern.proofs.native.single.read_seg.Goals as goal

pub returns-in_err-from-clause-none : goal.returns-in_err-from-clause-none
returns-in_err-from-clause-none c = λ _ s t. c.in_err-from.ensures.none refl (subst (λ (x : List ℕ). Contains x 32) (sym t.text) (space_in s.p s.q))

pub returns-in_err-p-clause-none : goal.returns-in_err-p-clause-none
returns-in_err-p-clause-none c = λ _ s t. end_missing c.in_ok-from.from.now c.ok.result c.read_end.result c.ok.ensures.value c.in_err-p.was c.read_end.ensures s.p t.held.from
    (halves c.args.text.now c.in_ok-from.from.now c.in_ok-from.to.now s c.in_ok-from.ensures.some t.text).0

pub returns-in_err-q-clause-none : goal.returns-in_err-q-clause-none
returns-in_err-q-clause-none c = λ _ s t. end_missing c.in_ok-from.to.now c.ok-2.result c.read_end-2.result c.ok-2.ensures.value c.in_err-q.was c.read_end-2.ensures s.q t.held.to
    (halves c.args.text.now c.in_ok-from.from.now c.in_ok-from.to.now s c.in_ok-from.ensures.some t.text).1

pub returns-clause-some : goal.returns-clause-some
returns-clause-some c =
    let p = end_there c.in_ok-from.from.now c.ok.result c.read_end.result c.in_ok-p.p c.ok.ensures.value c.in_ok-p.was c.read_end.ensures in
    let q = end_there c.in_ok-from.to.now c.ok-2.result c.read_end-2.result c.in_ok-q.q c.ok-2.ensures.value c.in_ok-q.was c.read_end-2.ensures in
    seg_read c.args.text.now c.in_ok-from.from.now c.in_ok-from.to.now c.in_ok-p.p c.in_ok-q.q c.seg_between.result c.in_ok-from.ensures.some p.0 q.0 c.seg_between.ensures.some

pub returns-clause-none : goal.returns-clause-none
returns-clause-none c = λ n s t.
    let p = end_there c.in_ok-from.from.now c.ok.result c.read_end.result c.in_ok-p.p c.ok.ensures.value c.in_ok-p.was c.read_end.ensures in
    let q = end_there c.in_ok-from.to.now c.ok-2.result c.read_end-2.result c.in_ok-q.q c.ok-2.ensures.value c.in_ok-q.was c.read_end-2.ensures in
    let same = ends_of_text c.args.text.now c.in_ok-from.from.now c.in_ok-from.to.now c.in_ok-p.p c.in_ok-q.q s c.in_ok-from.ensures.some p.0 q.0 p.1 q.1 t in
    c.seg_between.ensures.none n (subst IsHeld same t.held)
