use Rattle.std.proofs.Common.{List, sym, subst, refl}
use Rattle.std.proofs.lemmas.List.{take_all}
use Rattle.sheet.specs.Pattern.{ExactCrease, IsKey}
use Rattle.creases.specs.Creases.{IsFree, AreWith}
use Rattle.pattern.specs.Fitting.{CanCome}
use Rattle.pattern.proofs.Stepping.{AreMore, can_come_none, can_come_next, more_none, more_next, not_key, not_free}
use Rattle.pattern.proofs.Parts.{seg_of}
use Rattle.pattern.proofs.callers.Told.{refuted, shown, answers_no}
use Rattle.pattern.proofs.step.put_all.Goals as goal

pub loop-crease-init : goal.loop-crease-init
loop-crease-init c = record { come = can_come_none c.args.sheet.now c.args.creases.now c.args.come.now; more = more_none c.args.creases.now c.args.come.now }

pub returns-clause-all : goal.returns-clause-all
returns-clause-all c = (λ _. subst (λ (xs : List ExactCrease). CanCome c.args.sheet.now c.args.creases.now xs) (take_all c.loop-crease.crease-index c.args.come.now c.loop-crease-test.false) c.loop-crease.invariant.come, λ _. refl)

pub returns-clause-more : goal.returns-clause-more
returns-clause-more c = λ _. subst (λ (xs : List ExactCrease). AreMore c.args.creases.now xs c.loop-crease.creases) (take_all c.loop-crease.crease-index c.args.come.now c.loop-crease-test.false) c.loop-crease.invariant.more

pub returns-then-not-is_key-clause-all : goal.returns-then-not-is_key-clause-all
returns-then-not-is_key-clause-all c =
    let x = c.crease-item.result in
    answers_no (CanCome c.args.sheet.now c.args.creases.now c.args.come.now) (not_key c.args.sheet.now c.args.creases.now c.args.come.now c.loop-crease.crease-index x c.loop-crease-test.true c.crease-item.is
    (λ k. refuted c.is_key.result c.if-not-is_key.true c.is_key.ensures (subst (IsKey c.args.sheet.now) (sym (seg_of _ x c.crease.view_is)) k)))

pub returns-then-not-branch-clause-all : goal.returns-then-not-branch-clause-all
returns-then-not-branch-clause-all c =
    let x = c.crease-item.result in
    answers_no (CanCome c.args.sheet.now c.args.creases.now c.args.come.now) (not_free c.args.sheet.now c.args.creases.now c.args.come.now c.loop-crease.crease-index x c.loop-crease.creases c.loop-crease-test.true c.crease-item.is c.loop-crease.invariant.more
    (λ n. refuted c.in_ok-put_if_free.field-0 c.if-not-branch.true c.in_ok-put_if_free.ensures.free (subst (IsFree c.loop-crease.creases) (sym (seg_of _ x c.crease.view_is)) n)))

pub loop-crease-preserved : goal.loop-crease-preserved
loop-crease-preserved c =
    let i = c.loop-crease.crease-index in
    let x = c.crease-item.result in
    let key : IsKey c.args.sheet.now x.seg = subst (IsKey c.args.sheet.now) (seg_of _ x c.crease.view_is) (shown c.is_key.result c.if-not-is_key.false c.is_key.ensures) in
    let free : IsFree c.loop-crease.creases x.seg = subst (IsFree c.loop-crease.creases) (seg_of _ x c.crease.view_is) (shown c.in_ok-put_if_free.field-0 c.if-not-branch.false c.in_ok-put_if_free.ensures.free) in
    let with : AreWith c.loop-crease.creases x c.put_if_free.new.self = subst (λ (f : ExactCrease). AreWith c.loop-crease.creases f c.put_if_free.new.self) c.crease.view_is (c.in_ok-put_if_free.ensures.put c.if-not-branch.false) in record {
      come = can_come_next c.args.sheet.now c.args.creases.now c.args.come.now i x c.loop-crease.creases c.loop-crease-test.true c.crease-item.is c.loop-crease.invariant.come c.loop-crease.invariant.more key free;
      more = more_next c.args.creases.now c.args.come.now i x c.loop-crease.creases c.put_if_free.new.self c.loop-crease-test.true c.crease-item.is c.loop-crease.invariant.more with;
    }
