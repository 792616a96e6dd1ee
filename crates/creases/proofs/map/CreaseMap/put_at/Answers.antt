use Rattle.std.proofs.Common.{◌≡◌, ◌⊎◌, List, sym, subst, ◌∙◌}
use Rattle.std.specs.Prelude.{◌↔◌, Some, None, cond, Contains}
use Rattle.std.specs.BTreeMap.{is_at, get}
use Rattle.exact.specs.Plane.{ExactSegment}
use Rattle.sheet.specs.Pattern.{ExactCrease}
use Rattle.plane.specs.Order.{segment_cmp}
use Rattle.creases.specs.Creases.{IsFree}
use Rattle.creases.specs.Segments.{creases_of}
use Rattle.creases.proofs.Found.{free_among, put_found, put_found_members, taken_back, back_found}
use Rattle.creases.proofs.map.CreaseMap.put_at.Goals as goal

pub put-requires-clause-free : goal.put-requires-clause-free
put-requires-clause-free c = free_among c.args.self.now c.self.inside.by_line c.args.crease.seg
    (λ f k. subst (λ (xs : List ExactCrease). Contains xs f) c.self.view_is ((c.self.invariant.same f).0 k)) c.requires.free

pub invariant_of-self-in-Ok : goal.invariant_of-self-in-Ok
invariant_of-self-in-Ok c =
    let x : ExactCrease = c.args.crease in
    put_found c.self.inside.by_segment c.insert.new.self x c.self.inside.by_line c.self.invariant c.insert.ensures.ordered c.requires.held
    (subst (λ (xs : List ExactCrease). IsFree xs x.seg) (sym c.self.view_is) c.requires.free)
    (subst (λ (f : ExactCrease). (q : ExactSegment) → get segment_cmp c.insert.new.self q ≡ cond (is_at (segment_cmp f.seg) q) (Some f.colour) (get segment_cmp c.self.inside.by_segment q)) c.crease.view_is c.in_ok-insert.ensures.updates.0)
    c.put.new.self c.in-Ok.ensures.ok

pub returns-in-Ok-clause-ok : goal.returns-in-Ok-clause-ok
returns-in-Ok-clause-ok c =
    let x : ExactCrease = c.args.crease in
    subst (λ (xs : List ExactCrease). (f : ExactCrease) → Contains (creases_of c.insert.new.self.entries) f ↔ ((f ≡ x) ⊎ Contains xs f)) c.self.view_is
    (put_found_members c.self.inside.by_segment c.insert.new.self x c.self.inside.by_line c.self.invariant c.insert.ensures.ordered c.requires.held
    (subst (λ (xs : List ExactCrease). IsFree xs x.seg) (sym c.self.view_is) c.requires.free)
    (subst (λ (f : ExactCrease). (q : ExactSegment) → get segment_cmp c.insert.new.self q ≡ cond (is_at (segment_cmp f.seg) q) (Some f.colour) (get segment_cmp c.self.inside.by_segment q)) c.crease.view_is c.in_ok-insert.ensures.updates.0))

pub returns-in-Ok-clause-standing : goal.returns-in-Ok-clause-standing
returns-in-Ok-clause-standing c = (invariant_of-self-in-Ok c).standing

pub invariant_of-self-in-Err : goal.invariant_of-self-in-Err
invariant_of-self-in-Err c =
    let x : ExactCrease = c.args.crease in
    back_found c.self.inside.by_segment c.insert.new.self x c.self.inside.by_line c.self.invariant c.insert.ensures.ordered c.requires.held
    (subst (λ (xs : List ExactCrease). IsFree xs x.seg) (sym c.self.view_is) c.requires.free)
    (subst (λ (f : ExactCrease). (q : ExactSegment) → get segment_cmp c.insert.new.self q ≡ cond (is_at (segment_cmp f.seg) q) (Some f.colour) (get segment_cmp c.self.inside.by_segment q)) c.crease.view_is c.in_ok-insert.ensures.updates.0)
    c.remove.new.self c.remove.ensures.ordered
    (subst (λ (f : ExactCrease). (q : ExactSegment) → get segment_cmp c.remove.new.self q ≡ cond (is_at (segment_cmp f.seg) q) None (get segment_cmp c.insert.new.self q)) c.crease-2.view_is c.remove.ensures.updates.0)
    c.put.new.self c.in-Err.ensures.err

pub returns-in-Err-clause-err : goal.returns-in-Err-clause-err
returns-in-Err-clause-err c =
    let x : ExactCrease = c.args.crease in
    taken_back c.self.inside.by_segment c.insert.new.self x c.self.inside.by_line c.self.invariant c.insert.ensures.ordered c.requires.held
    (subst (λ (xs : List ExactCrease). IsFree xs x.seg) (sym c.self.view_is) c.requires.free)
    (subst (λ (f : ExactCrease). (q : ExactSegment) → get segment_cmp c.insert.new.self q ≡ cond (is_at (segment_cmp f.seg) q) (Some f.colour) (get segment_cmp c.self.inside.by_segment q)) c.crease.view_is c.in_ok-insert.ensures.updates.0)
    c.remove.new.self c.remove.ensures.ordered
    (subst (λ (f : ExactCrease). (q : ExactSegment) → get segment_cmp c.remove.new.self q ≡ cond (is_at (segment_cmp f.seg) q) None (get segment_cmp c.insert.new.self q)) c.crease-2.view_is c.remove.ensures.updates.0)
    ∙ c.self.view_is

pub returns-in-Err-clause-standing : goal.returns-in-Err-clause-standing
returns-in-Err-clause-standing c = (invariant_of-self-in-Err c).standing
