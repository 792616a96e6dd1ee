use Rattle.std.proofs.Common.{◌≡◌, sym, subst, ◌∙◌}
use Rattle.exact.specs.Plane.{ExactPoint}
use Rattle.sheet.specs.Sheet.{ExactSheet, InSheet, IsInside}
use Rattle.sheet.specs.Pattern.{ExactCrease, IsKey}
use Rattle.edits.specs.Ends.{Joins, AreJoined}
use Rattle.edits.proofs.ears.Found.{is_ear, all_four, centre_found, foot_found}
use Rattle.edits.proofs.rabbit_ear.ear.Goals as goal

pub spoke-requires : goal.spoke-requires
spoke-requires c =
    let t = c.args.triangle.now in
    let fold = c.sheet-sheet.ensures.foldable in
    let f = centre_found t.sheet t.p t.q t.r c.args.centre.now fold c.requires.centre in
    let same = sym c.sheet-sheet.ensures.sheet in
    let at = sym c.p.ensures in
    record {
      from = subst (λ (s : ExactSheet). InSheet s c.p.result.now) same (subst (InSheet t.sheet) at fold.in_sheet.0);
      centre = subst (λ (s : ExactSheet). IsInside s c.args.centre.now) same f.inside;
      joined = subst (λ (z : ExactPoint). AreJoined z c.args.centre.now) at f.from_p;
    }

pub spoke-requires-2 : goal.spoke-requires-2
spoke-requires-2 c =
    let t = c.args.triangle.now in
    let fold = c.sheet-sheet.ensures.foldable in
    let f = centre_found t.sheet t.p t.q t.r c.args.centre.now fold c.requires.centre in
    let same = sym c.sheet-sheet.ensures.sheet in
    let at = sym c.q.ensures in
    record {
      from = subst (λ (s : ExactSheet). InSheet s c.q.result.now) same (subst (InSheet t.sheet) at fold.in_sheet.1);
      centre = subst (λ (s : ExactSheet). IsInside s c.args.centre.now) same f.inside;
      joined = subst (λ (z : ExactPoint). AreJoined z c.args.centre.now) at f.from_q;
    }

pub spoke-requires-3 : goal.spoke-requires-3
spoke-requires-3 c =
    let t = c.args.triangle.now in
    let fold = c.sheet-sheet.ensures.foldable in
    let f = centre_found t.sheet t.p t.q t.r c.args.centre.now fold c.requires.centre in
    let same = sym c.sheet-sheet.ensures.sheet in
    let at = sym c.r.ensures in
    record {
      from = subst (λ (s : ExactSheet). InSheet s c.r.result.now) same (subst (InSheet t.sheet) at fold.in_sheet.2);
      centre = subst (λ (s : ExactSheet). IsInside s c.args.centre.now) same f.inside;
      joined = subst (λ (z : ExactPoint). AreJoined z c.args.centre.now) at f.from_r;
    }

pub spoke-requires-4 : goal.spoke-requires-4
spoke-requires-4 c =
    let t = c.args.triangle.now in
    let fold = c.sheet-sheet.ensures.foldable in
    let f = centre_found t.sheet t.p t.q t.r c.args.centre.now fold c.requires.centre in
    let g = foot_found t.sheet t.p t.q t.r c.args.centre.now c.args.foot.now fold c.requires.centre c.requires.foot in
    let same = sym c.sheet-sheet.ensures.sheet in
    record {
      from = subst (λ (s : ExactSheet). InSheet s c.args.foot.now) same g.in_sheet;
      centre = subst (λ (s : ExactSheet). IsInside s c.args.centre.now) same f.inside;
      joined = g.joined;
    }

pub returns-clause-is : goal.returns-clause-is
returns-clause-is c =
    let t = c.args.triangle.now in
    let joins : (f : ExactCrease) (x y : ExactPoint) → x ≡ y → Joins f.seg x c.args.centre.now → Joins f.seg y c.args.centre.now = λ f x y e. subst (λ z. Joins f.seg z c.args.centre.now) e in
    is_ear c.args.mark t.p t.q t.r c.args.centre.now c.args.foot.now c.spoke.result c.spoke-2.result c.spoke-3.result c.spoke-4.result
    c.requires.centre c.requires.centre_canonical c.requires.foot c.requires.foot_canonical
    (joins c.spoke.result _ _ c.p.ensures c.spoke.ensures.joins) (joins c.spoke-2.result _ _ c.q.ensures c.spoke-2.ensures.joins) (joins c.spoke-3.result _ _ c.r.ensures c.spoke-3.ensures.joins) c.spoke-4.ensures.joins
    (c.spoke.ensures.colour ∙ c.same_colour.ensures) (c.spoke-2.ensures.colour ∙ c.same_colour-2.ensures) (c.spoke-3.ensures.colour ∙ c.same_colour-3.ensures) (c.spoke-4.ensures.colour ∙ c.other_colour.ensures)

pub returns-clause-keys : goal.returns-clause-keys
returns-clause-keys c =
    let key : (f : ExactCrease) → IsKey c.sheet-sheet.result.now f.seg → IsKey c.args.triangle.now.sheet f.seg = λ f. subst (λ (s : ExactSheet). IsKey s f.seg) c.sheet-sheet.ensures.sheet in
    all_four (λ (f : ExactCrease). IsKey c.args.triangle.now.sheet f.seg) c.spoke.result c.spoke-2.result c.spoke-3.result c.spoke-4.result (key c.spoke.result c.spoke.ensures.key) (key c.spoke-2.result c.spoke-2.ensures.key) (key c.spoke-3.result c.spoke-3.ensures.key) (key c.spoke-4.result c.spoke-4.ensures.key)
