use Rattle.std.proofs.lemmas.Option.{IfSome_then}
use Rattle.std.proofs.Common.{subst}
use Rattle.std.specs.Prelude.{IfSome, IfNone}
use Rattle.exact.specs.Plane.{ExactPoint, IsPointRepresentable}
use Rattle.edits.specs.Foldable.{ExactTriangle}
use Rattle.plane.specs.Sides.{IsOnLine}
use Rattle.plane.specs.Triangles.{IsIncentre}
use Rattle.edits.proofs.ears.Points.{even_p, even_q, bisectors_meet, meets_in, incentre_missing, none_more}
use Rattle.edits.proofs.triangle.Triangle.incentre.Goals as goal

pub bisector-first-requires : goal.bisector-first-requires
bisector-first-requires c = let t = c.self.inside in even_p t.p t.q t.r t.sides.first t.sides.second t.sides.third c.self.invariant.0.molecule c.self.invariant.1

pub bisector-second-requires : goal.bisector-second-requires
bisector-second-requires c = let t = c.self.inside in even_q t.p t.q t.r t.sides.first t.sides.second t.sides.third c.self.invariant.0.molecule c.self.invariant.1

pub cross_lines-requires : goal.cross_lines-requires
cross_lines-requires c = let t = c.self.inside in bisectors_meet t.p t.q t.r t.sides.first t.sides.second t.sides.third c.bisector-first.result c.bisector-second.result c.self.invariant.0.molecule c.self.invariant.1 (record { first = c.bisector-first.ensures; second = c.bisector-second.ensures })

pub returns-clause-some : goal.returns-clause-some
returns-clause-some c =
    let t = c.self.inside in
    subst (λ (v : ExactTriangle). IfSome c.cross_lines.result (IsIncentre v.p v.q v.r)) c.self.view_is
    (IfSome_then c.cross_lines.result {P = λ (x : ExactPoint). IsOnLine t.p c.bisector-first.result x × IsOnLine t.q c.bisector-second.result x} {Q = IsIncentre t.p t.q t.r} c.cross_lines.ensures.some
    (λ x on. meets_in t.p t.q t.r x t.sides.first t.sides.second t.sides.third c.bisector-first.result c.bisector-second.result c.self.invariant.0.molecule c.self.invariant.1 (record { first = c.bisector-first.ensures; second = c.bisector-second.ensures }) on))

pub returns-clause-none : goal.returns-clause-none
returns-clause-none c =
    let t = c.self.inside in
    subst (λ (v : ExactTriangle). IfNone c.cross_lines.result ((x : ExactPoint) × IsIncentre v.p v.q v.r x × (¬ IsPointRepresentable x))) c.self.view_is
    (none_more c.cross_lines.result ((x : ExactPoint) → IsOnLine t.p c.bisector-first.result x → IsOnLine t.q c.bisector-second.result x → ¬ IsPointRepresentable x) ((x : ExactPoint) × IsIncentre t.p t.q t.r x × (¬ IsPointRepresentable x))
    (λ none. incentre_missing t.p t.q t.r t.sides.first t.sides.second t.sides.third c.bisector-first.result c.bisector-second.result c.self.invariant.0.molecule c.self.invariant.1 (record { first = c.bisector-first.ensures; second = c.bisector-second.ensures }) none)
    c.cross_lines.ensures.none)
