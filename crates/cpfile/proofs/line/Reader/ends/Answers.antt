use Rattle.std.proofs.Common.{Ok, Err, refl, subst, ◌∙◌}
use Rattle.cpfile.specs.CpAxes.{ExactAxis, Ruled, PlacesEnds}
use Rattle.cpfile.proofs.Ends.{ended_as, named, beside, on_y, first_x1, first_y1, first_x2, first_y2, all_placed}
use Rattle.cpfile.proofs.line.Reader.ends.Goals as goal

pub returns-in_err-x1-clause-ends : goal.returns-in_err-x1-clause-ends
returns-in_err-x1-clause-ends c =
    let x : ExactAxis = c.self.inside.x in
    let y : ExactAxis = c.self.inside.y in
    let r = c.args.read in
    ended_as c.from_residual.result c.in_err-x1.field-0.0 (PlacesEnds c.args.self.now r) c.from_residual.ensures.1
    (subst (λ (s : Ruled). PlacesEnds s r (Err c.in_err-x1.field-0.0)) c.self.view_is (first_x1 x y r c.in_err-x1.field-0.0 (named x x 2 r.x1 (Err c.in_err-x1.field-0.0) refl c.requires.x1 c.in_err-x1.ensures.place)))

pub returns-in_err-y1-clause-ends : goal.returns-in_err-y1-clause-ends
returns-in_err-y1-clause-ends c =
    let x : ExactAxis = c.self.inside.x in
    let y : ExactAxis = c.self.inside.y in
    let r = c.args.read in
    ended_as c.from_residual-in_err-y1.result c.in_err-y1.field-0.0 (PlacesEnds c.args.self.now r) c.from_residual-in_err-y1.ensures.1
    (subst (λ (s : Ruled). PlacesEnds s r (Err c.in_err-y1.field-0.0)) c.self.view_is (first_y1 x y r c.in_ok-x1.x1 (named x x 2 r.x1 (Ok c.in_ok-x1.x1) refl c.requires.x1 c.in_ok-x1.ensures.place) c.in_err-y1.field-0.0 (named (beside x y) y 3 r.y1 (Err c.in_err-y1.field-0.0) (on_y x y c.self.invariant) c.requires.y1 c.in_err-y1.ensures.place)))

pub returns-in_err-x2-clause-ends : goal.returns-in_err-x2-clause-ends
returns-in_err-x2-clause-ends c =
    let x : ExactAxis = c.self.inside.x in
    let y : ExactAxis = c.self.inside.y in
    let r = c.args.read in
    ended_as c.from_residual-in_err-x2.result c.in_err-x2.field-0.0 (PlacesEnds c.args.self.now r) c.from_residual-in_err-x2.ensures.1
    (subst (λ (s : Ruled). PlacesEnds s r (Err c.in_err-x2.field-0.0)) c.self.view_is (first_x2 x y r c.in_ok-x1.x1 (named x x 2 r.x1 (Ok c.in_ok-x1.x1) refl c.requires.x1 c.in_ok-x1.ensures.place) c.in_ok-y1.y1 (named (beside x y) y 3 r.y1 (Ok c.in_ok-y1.y1) (on_y x y c.self.invariant) c.requires.y1 c.in_ok-y1.ensures.place) c.in_err-x2.field-0.0 (named x c.place.new.self 4 r.x2 (Err c.in_err-x2.field-0.0) c.place.ensures.same c.requires.x2 c.in_err-x2.ensures.place)))

pub returns-in_err-y2-clause-ends : goal.returns-in_err-y2-clause-ends
returns-in_err-y2-clause-ends c =
    let x : ExactAxis = c.self.inside.x in
    let y : ExactAxis = c.self.inside.y in
    let r = c.args.read in
    ended_as c.from_residual-in_err-y2.result c.in_err-y2.field-0.0 (PlacesEnds c.args.self.now r) c.from_residual-in_err-y2.ensures.1
    (subst (λ (s : Ruled). PlacesEnds s r (Err c.in_err-y2.field-0.0)) c.self.view_is (first_y2 x y r c.in_ok-x1.x1 (named x x 2 r.x1 (Ok c.in_ok-x1.x1) refl c.requires.x1 c.in_ok-x1.ensures.place) c.in_ok-y1.y1 (named (beside x y) y 3 r.y1 (Ok c.in_ok-y1.y1) (on_y x y c.self.invariant) c.requires.y1 c.in_ok-y1.ensures.place) c.in_ok-x2.x2 (named x c.place.new.self 4 r.x2 (Ok c.in_ok-x2.x2) c.place.ensures.same c.requires.x2 c.in_ok-x2.ensures.place) c.in_err-y2.field-0.0 (named (beside x y) c.place-2.new.self 5 r.y2 (Err c.in_err-y2.field-0.0) (c.place-2.ensures.same ∙ on_y x y c.self.invariant) c.requires.y2 c.in_err-y2.ensures.place)))

pub returns-clause-ends : goal.returns-clause-ends
returns-clause-ends c =
    let x : ExactAxis = c.self.inside.x in
    let y : ExactAxis = c.self.inside.y in
    let r = c.args.read in
    subst (λ (s : Ruled). PlacesEnds s r (Ok (record { x = c.in_ok-x1.x1; y = c.in_ok-y1.y1 }, record { x = c.in_ok-x2.x2; y = c.in_ok-y2.y2 }))) c.self.view_is (all_placed x y r c.in_ok-x1.x1 (named x x 2 r.x1 (Ok c.in_ok-x1.x1) refl c.requires.x1 c.in_ok-x1.ensures.place) c.in_ok-y1.y1 (named (beside x y) y 3 r.y1 (Ok c.in_ok-y1.y1) (on_y x y c.self.invariant) c.requires.y1 c.in_ok-y1.ensures.place) c.in_ok-x2.x2 (named x c.place.new.self 4 r.x2 (Ok c.in_ok-x2.x2) c.place.ensures.same c.requires.x2 c.in_ok-x2.ensures.place) c.in_ok-y2.y2 (named (beside x y) c.place-2.new.self 5 r.y2 (Ok c.in_ok-y2.y2) (c.place-2.ensures.same ∙ on_y x y c.self.invariant) c.requires.y2 c.in_ok-y2.ensures.place))
