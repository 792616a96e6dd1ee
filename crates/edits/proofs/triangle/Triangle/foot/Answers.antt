use Rattle.std.proofs.lemmas.Option.{IfSome_then}
use Rattle.std.proofs.Common.{ℕ, sym, subst}
use Rattle.std.specs.Prelude.{IfSome, IfNone}
use Rattle.exact.specs.Plane.{ExactPoint, IsPointRepresentable}
use Rattle.edits.specs.Foldable.{ExactTriangle}
use Rattle.plane.specs.Sides.{IsOnLine}
use Rattle.plane.specs.Triangles.{IsFootBetween}
use Rattle.edits.proofs.ears.Points.{foot_of, foot_missing, none_more}
use Rattle.edits.proofs.triangle.Triangle.foot.Goals as goal

pub returns-clause-some : goal.returns-clause-some
returns-clause-some c =
    let t = c.self.inside in
    subst (λ (v : ExactTriangle). IfSome c.cross_lines.result (IsFootBetween v.p v.q c.args.point.now)) c.self.view_is
    (IfSome_then c.cross_lines.result {P = λ (x : ExactPoint). IsOnLine t.p t.sides.first x × IsOnLine c.args.point.now c.turn.result x} {Q = IsFootBetween t.p t.q c.args.point.now} c.cross_lines.ensures.some
    (λ x on. foot_of t.p t.q c.args.point.now x t.sides.first c.self.invariant.1.i_small c.self.invariant.1.pq (on.0, subst (λ (z : ℕ). IsOnLine c.args.point.now z x) c.turn.ensures on.1)))

pub returns-clause-none : goal.returns-clause-none
returns-clause-none c =
    let t = c.self.inside in
    subst (λ (v : ExactTriangle). IfNone c.cross_lines.result ((x : ExactPoint) × IsFootBetween v.p v.q c.args.point.now x × (¬ IsPointRepresentable x))) c.self.view_is
    (none_more c.cross_lines.result ((x : ExactPoint) → IsOnLine t.p t.sides.first x → IsOnLine c.args.point.now c.turn.result x → ¬ IsPointRepresentable x) ((x : ExactPoint) × IsFootBetween t.p t.q c.args.point.now x × (¬ IsPointRepresentable x))
    (λ none. foot_missing t.p t.q c.args.point.now t.sides.first c.self.invariant.1.i_small c.self.invariant.1.pq (λ x a b. none x a (subst (λ (z : ℕ). IsOnLine c.args.point.now z x) (sym c.turn.ensures) b)))
    c.cross_lines.ensures.none)
