use Rattle.std.proofs.Common.{sym, subst, ◌∙◌}
use Rattle.plane.specs.Sides.{IsOnLine}
use Rattle.plane.proofs.callers.Meets.{not_equal}
use Rattle.subdivide.proofs.Touched.{inside_told, outside_told, upright_second, upright_first}
use Rattle.subdivide.proofs.touch.inside.Goals as goal

pub cross_lines-requires : goal.cross_lines-requires
cross_lines-requires c = not_equal c.args.s.now c.args.t.now c.args.k c.args.j c.requires.first c.requires.second c.requires.different

pub returns-in-0-eq4 : goal.returns-in-0-eq4
returns-in-0-eq4 c = upright_second c.args.s.now c.args.t.now c.args.k c.args.j c.corner.result c.requires (sym c.number.ensures.value ∙ c.in-0-eq4.is-0) (sym c.number-2.ensures.value ∙ c.in-0-eq4.is-1)
    c.corner.ensures.canonical c.corner.ensures.value

pub returns-in-4-eq0 : goal.returns-in-4-eq0
returns-in-4-eq0 c = upright_first c.args.s.now c.args.t.now c.args.k c.args.j c.corner-in-4-eq0.result c.requires (sym c.number.ensures.value ∙ c.in-4-eq0.is-0) (sym c.number-2.ensures.value ∙ c.in-4-eq0.is-1)
    c.corner-in-4-eq0.ensures.canonical c.corner-in-4-eq0.ensures.value

pub returns-in-Some : goal.returns-in-Some
returns-in-Some c = (
  inside_told c.args.s.now c.args.t.now c.args.k c.args.j c.in-Some.point c.requires (
    subst (λ z. IsOnLine z c.args.k c.in-Some.point) c.p.ensures.value c.in-Some.ensures.some.0,
    subst (λ z. IsOnLine z c.args.j c.in-Some.point) c.p-in_default.ensures.value c.in-Some.ensures.some.1,
  ),
  c.in-Some.ensures.canonical,
)

pub returns-in-None : goal.returns-in-None
returns-in-None c = outside_told c.args.s.now c.args.t.now c.args.k c.args.j c.requires (λ v a b. c.in-None.ensures.none v
    (subst (λ z. IsOnLine z c.args.k v) (sym c.p.ensures.value) a) (subst (λ z. IsOnLine z c.args.j v) (sym c.p-in_default.ensures.value) b))
