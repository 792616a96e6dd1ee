use Rattle.std.proofs.Common.{◌≡◌, ◌≢◌, List, sym, subst}
use Rattle.std.specs.Prelude.{◌↔◌, None, cond, Contains}
use Rattle.std.specs.BTreeMap.{is_at, get}
use Rattle.exact.specs.Plane.{ExactSegment}
use Rattle.sheet.specs.Pattern.{ExactCrease}
use Rattle.plane.specs.Order.{segment_cmp}
use Rattle.creases.specs.Segments.{creases_of}
use Rattle.creases.proofs.Found.{taken_found, taken_found_members}
use Rattle.creases.proofs.map.CreaseMap.take.Goals as goal

pub take-requires : goal.take-requires
take-requires c = (c.self.invariant.same c.args.crease.now).1 (subst (λ (xs : List ExactCrease). Contains xs c.args.crease.now) (sym c.self.view_is) (c.has.ensures.here.0 c.if-not-has.false))

pub invariant_of-self : goal.invariant_of-self
invariant_of-self c =
    let x : ExactCrease = c.args.crease.now in
    taken_found c.self.inside.by_segment c.remove.new.self x c.self.inside.by_line c.self.invariant c.remove.ensures.ordered
    (subst (λ (xs : List ExactCrease). Contains xs x) (sym c.self.view_is) (c.has.ensures.here.0 c.if-not-has.false))
    (subst (λ (f : ExactCrease). (q : ExactSegment) → get segment_cmp c.remove.new.self q ≡ cond (is_at (segment_cmp f.seg) q) None (get segment_cmp c.self.inside.by_segment q)) c.crease.view_is c.remove.ensures.updates.0)
    c.take.new.self c.take.ensures

pub returns-clause-taken : goal.returns-clause-taken
returns-clause-taken c =
    let x : ExactCrease = c.args.crease.now in
    subst (λ (xs : List ExactCrease). (f : ExactCrease) → Contains (creases_of c.remove.new.self.entries) f ↔ (Contains xs f × (f ≢ x))) c.self.view_is
    (taken_found_members c.self.inside.by_segment c.remove.new.self x c.self.inside.by_line c.self.invariant c.remove.ensures.ordered
    (subst (λ (xs : List ExactCrease). Contains xs x) (sym c.self.view_is) (c.has.ensures.here.0 c.if-not-has.false))
    (subst (λ (f : ExactCrease). (q : ExactSegment) → get segment_cmp c.remove.new.self q ≡ cond (is_at (segment_cmp f.seg) q) None (get segment_cmp c.self.inside.by_segment q)) c.crease.view_is c.remove.ensures.updates.0))

pub returns-clause-standing : goal.returns-clause-standing
returns-clause-standing c = (invariant_of-self c).standing
