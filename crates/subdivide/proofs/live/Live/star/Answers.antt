use Rattle.std.proofs.Common.{◌≡◌, ℕ, ◌<◌, List, length, get_or, refl, sym, subst}
use Rattle.std.specs.Prelude.{Contains}
use Rattle.exact.specs.Plane.{ExactPoint, IsPointCanonical}
use Rattle.sheet.specs.Pattern.{ExactPattern}
use Rattle.chains.specs.Chains.{Ascends}
use Rattle.plane.specs.Order.{point_cmp}
use Rattle.plane.proofs.callers.Orders.{point_exact}
use Rattle.subdivide.specs.Subdivision.{IsVertex}
use Rattle.subdivide.specs.Star.{StarOf}
use Rattle.subdivide.specs.Live.{IsCut}
use Rattle.subdivide.proofs.StarsKept.{before_ascends, kept_cut, kept_star, kept_vertex, vertex_kept}
use Rattle.subdivide.proofs.live.Live.star.Goals as goal

-- an element at a place of an equal list
there : (xs ys : List ExactPoint) (i : ℕ) (v : ExactPoint) → xs ≡ ys → (i < length xs) × (get_or xs i v ≡ v) → (i < length ys) × (get_or ys i v ≡ v)
there xs ys i v e h = subst (λ z. (i < length z) × (get_or z i v ≡ v)) e h

pub find-requires-clause-exact : goal.find-requires-clause-exact
find-requires-clause-exact c = point_exact

pub find-requires-clause-ascends : goal.find-requires-clause-ascends
find-requires-clause-ascends c = subst (Ascends point_cmp) (sym c.vertices.ensures.value) (before_ascends c.self.inside.cut.vertices c.vertices.ensures.subdivision.canonical c.vertices.ensures.subdivision.vertices)

pub returns-in-Some-clause-some : goal.returns-in-Some-clause-some
returns-in-Some-clause-some c =
    let at = there c.vertices.result.now c.self.inside.cut.vertices c.in-Some.place c.args.at.now c.vertices.ensures.value c.in-Some.ensures.some in
    subst (λ (p : ExactPattern). StarOf p c.args.at.now c.star.result) c.self.view_is
    (kept_star c.self.inside.pattern c.self.inside.cut c.self.inside.fans.items c.args.at.now c.in-Some.place c.index.result.now c.star.result c.self.invariant at.0 at.1 c.index.ensures c.star.ensures)

pub returns-in-Some-clause-vertex : goal.returns-in-Some-clause-vertex
returns-in-Some-clause-vertex c =
    let at = there c.vertices.result.now c.self.inside.cut.vertices c.in-Some.place c.args.at.now c.vertices.ensures.value c.in-Some.ensures.some in
    let vertex : IsVertex c.args.self.now c.args.at.now = subst (λ (p : ExactPattern). IsVertex p c.args.at.now) c.self.view_is
    (kept_vertex c.self.inside.pattern c.self.inside.cut c.self.inside.fans.items c.args.at.now c.self.invariant (c.in-Some.place, at.0, at.1)) in
    (λ _. vertex, λ _. refl)

pub returns-in-Some-clause-cut : goal.returns-in-Some-clause-cut
returns-in-Some-clause-cut c = subst (λ (p : ExactPattern). IsCut p) c.self.view_is (kept_cut c.self.inside.pattern c.self.inside.cut c.self.inside.fans.items c.self.invariant)

pub returns-in-None-clause-vertex : goal.returns-in-None-clause-vertex
returns-in-None-clause-vertex c = (
  λ e. absurd (cc),
  λ v. absurd (c.in-None.ensures.none refl (subst (λ z. Contains z c.args.at.now) (sym c.vertices.ensures.value)
      (vertex_kept c.self.inside.pattern c.self.inside.cut c.self.inside.fans.items c.args.at.now c.self.invariant
      (subst (λ (p : ExactPoint). IsPointCanonical p) c.at.view_is (c.d.ensures.canonical, c.d-2.ensures.canonical))
      (subst (λ (p : ExactPattern). IsVertex p c.args.at.now) (sym c.self.view_is) v)))),
)

pub returns-in-None-clause-cut : goal.returns-in-None-clause-cut
returns-in-None-clause-cut c = subst (λ (p : ExactPattern). IsCut p) c.self.view_is (kept_cut c.self.inside.pattern c.self.inside.cut c.self.inside.fans.items c.self.invariant)
