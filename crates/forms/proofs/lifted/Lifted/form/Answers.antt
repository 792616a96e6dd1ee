use Rattle.std.proofs.Common.{arith, refl}
use Rattle.plane.specs.Ways.{root}
use Rattle.forms.proofs.Lifts.{form_0, form_1, form_2, form_3, form_4, form_13, form_14, form_15}
use Rattle.forms.proofs.Passed.{told_dir, sum_within, difference_within}
use Rattle.forms.proofs.lifted.Lifted.form.Goals as goal

pub returns-in-0-clause-value : goal.returns-in-0-clause-value
returns-in-0-clause-value c = told_dir c.args.dir 0 (root c.args.self.now.y) (root c.args.self.now.x) (root c.args.self.now.y) c.in-0.is (form_0 c.args.self.now.x c.args.self.now.y c.args.self.now.y refl)

pub returns-in-1-clause-value : goal.returns-in-1-clause-value
returns-in-1-clause-value c = told_dir c.args.dir 1 (root c.sub.result) (root c.args.self.now.x) (root c.args.self.now.y) c.in-1.is (form_1 c.args.self.now.x c.args.self.now.y c.aslant.result c.sub.result c.aslant.ensures.value c.sub.ensures)

pub returns-in-1-clause-within : goal.returns-in-1-clause-within
returns-in-1-clause-within c = difference_within c.sub.result c.args.self.now.y c.aslant.result c.sub.ensures (omega (arith, c.requires.y)) c.aslant.ensures.within

pub returns-in-2-clause-value : goal.returns-in-2-clause-value
returns-in-2-clause-value c = told_dir c.args.dir 2 (root c.sub-in-2.result) (root c.args.self.now.x) (root c.args.self.now.y) c.in-2.is (form_2 c.args.self.now.x c.args.self.now.y c.sub-in-2.result c.sub-in-2.ensures)

pub returns-in-3-clause-value : goal.returns-in-3-clause-value
returns-in-3-clause-value c = told_dir c.args.dir 3 (root c.sub-in-3.result) (root c.args.self.now.x) (root c.args.self.now.y) c.in-3.is (form_3 c.args.self.now.x c.args.self.now.y c.aslant-in-3.result c.sub-in-3.result c.aslant-in-3.ensures.value c.sub-in-3.ensures)

pub returns-in-3-clause-within : goal.returns-in-3-clause-within
returns-in-3-clause-within c = difference_within c.sub-in-3.result c.aslant-in-3.result c.args.self.now.x c.sub-in-3.ensures c.aslant-in-3.ensures.within (omega (arith, c.requires.x))

pub returns-in-4-clause-value : goal.returns-in-4-clause-value
returns-in-4-clause-value c = told_dir c.args.dir 4 (root c.neg.result) (root c.args.self.now.x) (root c.args.self.now.y) c.in-4.is (form_4 c.args.self.now.x c.args.self.now.y c.neg.result c.neg.ensures)

pub returns-in-13-clause-value : goal.returns-in-13-clause-value
returns-in-13-clause-value c = told_dir c.args.dir 13 (root c.add.result) (root c.args.self.now.x) (root c.args.self.now.y) c.in-13.is (form_13 c.args.self.now.x c.args.self.now.y c.aslant-in-13.result c.add.result c.aslant-in-13.ensures.value c.add.ensures)

pub returns-in-13-clause-within : goal.returns-in-13-clause-within
returns-in-13-clause-within c = sum_within c.add.result c.aslant-in-13.result c.args.self.now.x c.add.ensures c.aslant-in-13.ensures.within (omega (arith, c.requires.x))

pub returns-in-14-clause-value : goal.returns-in-14-clause-value
returns-in-14-clause-value c = told_dir c.args.dir 14 (root c.add-in-14.result) (root c.args.self.now.x) (root c.args.self.now.y) c.in-14.is (form_14 c.args.self.now.x c.args.self.now.y c.add-in-14.result c.add-in-14.ensures)

pub returns-in_default-clause-value : goal.returns-in_default-clause-value
returns-in_default-clause-value c = told_dir c.args.dir 15 (root c.add-in_default.result) (root c.args.self.now.x) (root c.args.self.now.y) (omega (arith, c.in_default, c.requires.ahead)) (form_15 c.args.self.now.x c.args.self.now.y c.aslant-in_default.result c.add-in_default.result c.aslant-in_default.ensures.value c.add-in_default.ensures)

pub returns-in_default-clause-within : goal.returns-in_default-clause-within
returns-in_default-clause-within c = sum_within c.add-in_default.result c.args.self.now.y c.aslant-in_default.result c.add-in_default.ensures (omega (arith, c.requires.y)) c.aslant-in_default.ensures.within
