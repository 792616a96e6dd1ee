use Rattle.std.proofs.Common.{◌≡◌, ◌≢◌, ◌↔◌, Result, Err, sym, subst, inl, inr, refl}
use Rattle.exact.specs.Plane.{ExactPoint, ExactSegment, IsSegment, Before, DirOf}
use Rattle.plane.specs.Segments.{HasEnds}
use Rattle.plane.specs.declared.segment.SegBad.{SegBad}
use Rattle.plane.specs.declared.segment.SegBad.TheVariants as bad
use Rattle.geometry.proofs.PointOrder.{before_not_itself, before_not_back}
use Rattle.subdivide.proofs.stars.direction.Goals as goal

-- two ends that make a segment are not refused
refused : (p q : ExactPoint) (b : SegBad) → (let s : ExactSegment = record { p = p; q = q } in IsSegment s)
    → (let e : Result ExactSegment SegBad = Err b in (e ≡ Err bad.SamePoint) ↔ (p ≡ q))
    → (let e : Result ExactSegment SegBad = Err b in (e ≡ Err bad.NotDirection) ↔ ((p ≢ q) × ((s : ExactSegment) → HasEnds s p q → ¬ IsSegment s))) → ⊥
refused p q bad.SamePoint h same none = before_not_itself q (subst (λ z. Before z q) (same.0 refl) h.0)
refused p q bad.NotDirection h same none = (none.0 refl).1 (record { p = p; q = q }) (inl (refl, refl)) h

-- a segment with two ends in order begins at the first
begins : (s : ExactSegment) (p q : ExactPoint) → HasEnds s p q → IsSegment s → (let t : ExactSegment = record { p = p; q = q } in IsSegment t) → (s.p ≡ p) × (s.q ≡ q)
begins s p q h a b = elim h [
  | inl e ↦ e
  | inr e ↦ absurd (before_not_back p q b.0 (subst (λ z. Before z p) e.0 (subst (λ z. Before s.p z) e.1 a.0)))
]

pub unreachable-requires : goal.unreachable-requires
unreachable-requires c = refused c.args.from.now c.args.to.now c.in-Err.field-0 c.requires c.in-Err.ensures.same_point c.in-Err.ensures.not_direction

pub returns-clause-leads : goal.returns-clause-leads
returns-clause-leads c =
    let e = begins c.in-Ok.seg c.args.from.now c.args.to.now c.in-Ok.ensures.ok.1 c.in-Ok.ensures.ok.0 c.requires in
    subst (λ z. DirOf z c.args.to.now c.dir.result) e.0 (subst (λ z. DirOf c.in-Ok.seg.p z c.dir.result) e.1 c.dir.ensures.leads)

pub returns-clause-only : goal.returns-clause-only
returns-clause-only c =
    let e = begins c.in-Ok.seg c.args.from.now c.args.to.now c.in-Ok.ensures.ok.1 c.in-Ok.ensures.ok.0 c.requires in
    λ k h d. c.dir.ensures.only k h (subst (λ z. DirOf z c.in-Ok.seg.q k) (sym e.0) (subst (λ z. DirOf c.args.from.now z k) (sym e.1) d))
