use Rattle.edits.proofs.ears.Rules.{sides_joined, outside, not_three, not_joined, no_molecule}
use Rattle.edits.proofs.triangle.foldable_sides.Goals as goal

pub returns-then-not-are_three_in-clause-err : goal.returns-then-not-are_three_in-clause-err
returns-then-not-are_three_in-clause-err c = outside c.args.sheet.now c.args.p.now c.args.q.now c.args.r.now (λ h. (let e = c.are_three_in.ensures.1 h in cc))

pub returns-then-are_not_three-clause-err : goal.returns-then-are_not_three-clause-err
returns-then-are_not_three-clause-err c = not_three c.args.sheet.now c.args.p.now c.args.q.now c.args.r.now (c.are_three_in.ensures.0 (cc)) (c.are_not_three.ensures.0 c.if-are_not_three.true)

pub returns-in-None-clause-err : goal.returns-in-None-clause-err
returns-in-None-clause-err c = not_joined c.args.sheet.now c.args.p.now c.args.q.now c.args.r.now (c.are_three_in.ensures.0 (cc)) (λ h. (let e = c.are_not_three.ensures.1 h in cc)) c.in-None.ensures.none

pub returns-then-is_no_molecule-clause-err : goal.returns-then-is_no_molecule-clause-err
returns-then-is_no_molecule-clause-err c =
    let s = c.in-Some.sides in
    no_molecule c.args.sheet.now c.args.p.now c.args.q.now c.args.r.now (c.are_three_in.ensures.0 (cc)) (λ h. (let e = c.are_not_three.ensures.1 h in cc)) (sides_joined c.args.p.now c.args.q.now c.args.r.now s.first s.second s.third c.in-Some.ensures.some) (c.is_no_molecule.ensures.0 c.if-is_no_molecule.true)

pub returns-else-is_no_molecule-clause-foldable : goal.returns-else-is_no_molecule-clause-foldable
returns-else-is_no_molecule-clause-foldable c =
    let s = c.in-Some.sides in
    record {
      in_sheet = c.are_three_in.ensures.0 (cc);
      joined = sides_joined c.args.p.now c.args.q.now c.args.r.now s.first s.second s.third c.in-Some.ensures.some;
      molecule = record { three = λ h. (let e = c.are_not_three.ensures.1 h in cc); even = λ h. (let e = c.is_no_molecule.ensures.1 h in cc) };
    }
