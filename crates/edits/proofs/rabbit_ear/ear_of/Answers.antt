use Rattle.edits.proofs.ears.Found.{ear_found, no_foot, no_centre}
use Rattle.edits.proofs.rabbit_ear.ear_of.Goals as goal

pub returns-in_default-clause-err : goal.returns-in_default-clause-err
returns-in_default-clause-err c = let t = c.args.triangle.now in no_centre c.args.triangle.now.sheet c.args.mark t.p t.q t.r c.incentre.ensures.foldable c.in_default.ensures.none

pub returns-in_default-foot-clause-err : goal.returns-in_default-foot-clause-err
returns-in_default-foot-clause-err c =
    let t = c.args.triangle.now in
    no_foot c.args.triangle.now.sheet c.args.mark t.p t.q t.r c.in-Some.centre c.incentre.ensures.foldable c.in-Some.ensures.some c.in-Some.ensures.canonical c.in_default-foot.ensures.none

pub returns-clause-ok : goal.returns-clause-ok
returns-clause-ok c =
    let t = c.args.triangle.now in
    ear_found c.args.triangle.now.sheet c.args.mark t.p t.q t.r c.in-Some.centre c.in-Some-foot.foot c.ear.result c.incentre.ensures.foldable c.in-Some.ensures.some c.in-Some.ensures.canonical c.in-Some-foot.ensures.some c.in-Some-foot.ensures.canonical c.ear.ensures.is
