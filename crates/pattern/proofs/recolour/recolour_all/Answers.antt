use Rattle.std.proofs.Common.{◌≤◌, List, length, take, refl, subst, ◌∙◌, arith}
use Rattle.std.specs.Prelude.{All, Contains}
use Rattle.std.proofs.lemmas.List.{take_all, length-take}
use Rattle.sheet.specs.Pattern.{ExactCrease}
use Rattle.creases.specs.Creases.{AreRecoloured}
use Rattle.pattern.specs.Fitting.{AreExchanged}
use Rattle.pattern.proofs.Recolouring.{as_many, was_there, not_all_there, exchanged_none, exchanged_next}
use Rattle.pattern.proofs.callers.Told.{all_next, all_tested, refuted, shown, answers_no, answers_yes}
use Rattle.pattern.proofs.recolour.recolour_all.Goals as goal

pub loop-i-init : goal.loop-i-init
loop-i-init c = record {
  there = λ i d l. absurd (omega (arith, l, length-take 0 c.args.gone.now));
  exchanged = exchanged_none c.args.creases.now c.args.gone.now c.args.come.now;
  count = refl;
}

pub returns-then-not-recolour-clause-all : goal.returns-then-not-recolour-clause-all
returns-then-not-recolour-clause-all c = answers_no (All (λ (f : ExactCrease). Contains c.args.creases.now f) c.args.gone.now)
    (not_all_there c.args.gone.now c.args.come.now c.requires.same c.requires.ascend c.loop-i.i c.index-gone-i.result c.loop-i-test.true c.index-gone-i.is c.args.creases.now c.loop-i.creases c.loop-i.invariant.exchanged
    (refuted c.recolour.result c.if-not-recolour.true c.recolour.ensures.there))

pub loop-i-preserved : goal.loop-i-preserved
loop-i-preserved c =
    let gone = c.args.gone.now in
    let come = c.args.come.now in
    let i = c.loop-i.i in
    let x = c.index-gone-i.result in
    let l = c.loop-i-test.true in
    let here = shown c.recolour.result c.if-not-recolour.false c.recolour.ensures.there in
    let old = c.args.creases.now in
    let now = c.loop-i.creases in record {
      there = all_next (λ (f : ExactCrease). Contains old f) gone i x l c.index-gone-i.is c.loop-i.invariant.there
          (was_there gone come c.requires.same c.requires.ascend i x l c.index-gone-i.is old now c.loop-i.invariant.exchanged here);
      exchanged = exchanged_next gone come c.requires.same c.requires.ascend i x l c.index-gone-i.is old now c.loop-i.invariant.exchanged c.index-come-i.result c.index-come-i.is c.recolour.new.self
          (subst (λ (y : ExactCrease). AreRecoloured now x y.colour c.recolour.new.self) c.other.view_is (c.recolour.ensures.recoloured c.if-not-recolour.false));
      count = c.recolour.ensures.count ∙ c.loop-i.invariant.count;
    }

pub returns-clause-all : goal.returns-clause-all
returns-clause-all c = answers_yes (All (λ (f : ExactCrease). Contains c.args.creases.now f) c.args.gone.now) (all_tested (λ (f : ExactCrease). Contains c.args.creases.now f) c.args.gone.now c.loop-i.i c.loop-i-test.false c.loop-i.invariant.there)

pub returns-clause-exchanged : goal.returns-clause-exchanged
returns-clause-exchanged c =
    let gone = c.args.gone.now in
    let come = c.args.come.now in
    let i = c.loop-i.i in
    let past : length come ≤ i = omega (arith, c.loop-i-test.false, as_many gone come c.requires.same) in
    λ _. subst (λ (ys : List ExactCrease). AreExchanged c.args.creases.now gone ys c.loop-i.creases) (take_all i come past)
    (subst (λ (xs : List ExactCrease). AreExchanged c.args.creases.now xs (take i come) c.loop-i.creases) (take_all i gone c.loop-i-test.false) c.loop-i.invariant.exchanged)
