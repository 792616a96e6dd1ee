-- The segments of a rabbit ear: from its incentre, strictly inside the sheet, to points of the sheet.
use Rattle.std.proofs.Common.{◌≡◌, ℕ, ◌<◌, refl, sym, subst, ◌∙◌, ◌⊎◌, inl, inr, arith}
use Rattle.std.specs.Prelude.{Result, Ok, Err, IsOk}
use Rattle.std.proofs.lemmas.Bool.{cases_order}
use Rattle.exact.specs.Plane.{ExactPoint, ExactSegment, SamePoint, Before, DirOf, IsSegment, IsPointCanonical, vector}
use Rattle.sheet.specs.Sheet.{ExactSheet, IsSheet, InSheet, IsInside, OnBorder}
use Rattle.sheet.specs.Pattern.{IsKey}
use Rattle.geometry.proofs.Directions.{vector_ahead}
use Rattle.geometry.proofs.Found.{on_along}
use Rattle.geometry.proofs.Lines.{On, on_back}
use Rattle.geometry.proofs.PointOrder.{ordered, before_not_itself}
use Rattle.geometry.proofs.Parallels.{dir_on, on_parallel}
use Rattle.geometry.proofs.RaySides.{dir_apart, opposite_half}
use Rattle.geometry.proofs.HalfAngles.{back}
use Rattle.geometry.proofs.Leads.{opposite_dir}
use Rattle.plane.specs.declared.segment.SegBad.{SegBad}
use Rattle.plane.specs.declared.segment.SegBad.TheVariants as bad
use Rattle.plane.specs.Segments.{HasEnds}
use Rattle.plane.proofs.callers.Sides.{on_one_side, end_moved, not_end}
use Rattle.edits.specs.Ends.{Joins, AreJoined}

-- the one or the other way, a direction leads to later points
ahead_way : (k : ℕ) → k < 16 → ((k < 5) ⊎ (12 < k)) ⊎ ((back k < 5) ⊎ (12 < back k))
ahead_way k h = elim (cases_order k 5) [
  | inl e ↦ inr (opposite_half k (omega (arith, e)) (omega (arith, e)))
  | inr n ↦ elim n [
    | inl l ↦ inl (inl l)
    | inr g ↦ elim (cases_order 12 k) [
      | inl e ↦ inr (opposite_half k (omega (arith, g)) (omega (arith, e)))
      | inr m ↦ elim m [ inl x ↦ inl (inr x) | inr x ↦ inr (opposite_half k (omega (arith, g)) (omega (arith, x))) ]
    ]
  ]
]

in_order : (p q : ExactPoint) (k : ℕ) → k < 16 → On (vector k) p q → Before p q → (let s : ExactSegment = record { p = p; q = q } in IsSegment s)
in_order p q k small on b = elim (ahead_way k small) [
  | inl half ↦ (let a = on_along (record { p = p; q = q }) k small (vector_ahead k small half) b on in (b, (k, small, a.dir)))
  | inr half ↦ (let a = on_along (record { p = p; q = q }) (back k) (omega arith) (vector_ahead (back k) (omega arith) half) b (on_parallel k (back k) p q small (omega arith) (omega arith) on) in (b, (back k, omega arith, a.dir)))
]

-- two points of a line in one of the sixteen directions
pub joined_on : (p q : ExactPoint) (k : ℕ) → k < 16 → On (vector k) p q → ¬ SamePoint p q → AreJoined p q
joined_on p q k small on apart = elim (ordered p q) [
  | inl b ↦ (record { p = p; q = q }, (in_order p q k small on b, inl (refl, refl)))
  | inr other ↦ elim other [
    | inl s ↦ absurd (apart s)
    | inr b ↦ (record { p = q; q = p }, (in_order q p k small (on_back (vector k) p q on) b, inr (refl, refl)))
  ]
]

pub dir_joined : (p q : ExactPoint) (k : ℕ) → k < 16 → DirOf p q k → AreJoined p q
dir_joined p q k small h = joined_on p q k small (dir_on p q k h) (dir_apart p q k small h)

-- the direction from one end to the other
pub joined_dir : (p q : ExactPoint) → AreJoined p q → (k : ℕ) × (k < 16) × DirOf p q k
joined_dir p q h =
    let s = h.0 in
    let d = h.1.0.1 in
    elim h.1.1 [
      | inl e ↦ (d.0, d.1, subst (λ z. DirOf z q d.0) e.0 (subst (λ z. DirOf s.p z d.0) e.1 d.2))
      | inr e ↦ (back d.0, omega arith, subst (λ z. DirOf z q (back d.0)) e.1 (subst (λ z. DirOf s.q z (back d.0)) e.0 (opposite_dir s.p s.q d.0 d.1 d.2)))
    ]

pub ends_back : (s : ExactSegment) (p q : ExactPoint) → Joins s p q → Joins s q p
ends_back s p q h = (h.0, elim h.1 [ inl e ↦ inr e | inr e ↦ inl e ])

pub inside_in : (sheet : ExactSheet) (c : ExactPoint) → IsInside sheet c → InSheet sheet c
inside_in sheet c h = ((inr h.0, inr h.1), (inr h.2, inr h.3))

-- no segment from a point strictly inside is on a side
off_border : (sheet : ExactSheet) → IsSheet sheet → (s : ExactSegment) → IsSegment s → IsInside sheet s.p ⊎ IsInside sheet s.q → ¬ OnBorder sheet s
off_border sheet good s g h b = elim ((on_one_side sheet s good g).1 b).1 [
  | inl x ↦ elim h [ inl i ↦ not_end sheet.w s.p.x i.0 i.1 x.1 | inr i ↦ not_end sheet.w s.q.x i.0 i.1 (end_moved sheet.w s.p.x s.q.x x.0 x.1) ]
  | inr y ↦ elim h [ inl i ↦ not_end sheet.h s.p.y i.2 i.3 y.1 | inr i ↦ not_end sheet.h s.q.y i.2 i.3 (end_moved sheet.h s.p.y s.q.y y.0 y.1) ]
]

-- such a segment is a key
pub inner_key : (sheet : ExactSheet) → IsSheet sheet → (s : ExactSegment) (p c : ExactPoint) → Joins s p c → IsPointCanonical s.p → IsPointCanonical s.q → InSheet sheet p → IsInside sheet c → IsKey sheet s
inner_key sheet good s p c h a b in_p in_c = elim h.1 [
  | inl e ↦ (
      let there : IsInside sheet s.q = subst (IsInside sheet) (sym e.1) in_c in
      record { segment = h.0; from = a; to = b; from_in = subst (InSheet sheet) (sym e.0) in_p; to_in = inside_in sheet s.q there; inner = off_border sheet good s h.0 (inr there) })
  | inr e ↦ (
      let there : IsInside sheet s.p = subst (IsInside sheet) (sym e.0) in_c in
      record { segment = h.0; from = a; to = b; from_in = inside_in sheet s.p there; to_in = subst (InSheet sheet) (sym e.1) in_p; inner = off_border sheet good s h.0 (inl there) })
]

-- where there is no segment, no direction joins the two points
pub none_joined : (r : Result ExactSegment SegBad) (e : SegBad) (p q : ExactPoint) → r ≡ Err e → (r ≡ Err bad.SamePoint → p ≡ q) → (r ≡ Err bad.NotDirection → (s : ExactSegment) → HasEnds s p q → ¬ IsSegment s) → ¬ AreJoined p q
none_joined r bad.SamePoint p q is same f h =
    let e : p ≡ q = same is in
    before_not_itself q (elim h.1.1 [
      | inl x ↦ subst (λ z. Before z q) (x.0 ∙ e) (subst (λ z. Before h.0.p z) x.1 h.1.0.0)
      | inr x ↦ subst (λ z. Before q z) (x.1 ∙ e) (subst (λ z. Before z h.0.q) x.0 h.1.0.0)
    ])
none_joined r bad.NotDirection p q is same f h = f is h.0 h.1.1 h.1.0

-- the direction from the one to the other, by the ends of the segment
pub leads_between : (s : ExactSegment) (p q : ExactPoint) (k : ℕ) → HasEnds s p q → (s.p ≡ p → DirOf s.p s.q k) → (s.q ≡ p → DirOf s.q s.p k) → DirOf p q k
leads_between s p q k h f g = elim h [
  | inl e ↦ subst (λ z. DirOf z q k) e.0 (subst (λ z. DirOf s.p z k) e.1 (f e.0))
  | inr e ↦ subst (λ z. DirOf z q k) e.1 (subst (λ z. DirOf s.q z k) e.0 (g e.1))
]

-- two points that a direction joins make a segment
pub makes_joined : (r : Result ExactSegment SegBad) (p q : ExactPoint) → AreJoined p q → (r ≡ Err bad.SamePoint → p ≡ q) → (r ≡ Err bad.NotDirection → (s : ExactSegment) → HasEnds s p q → ¬ IsSegment s) → IsOk r
makes_joined (Ok s) p q h f g = refl
makes_joined (Err e) p q h f g = absurd (none_joined (Err e) e p q refl f g h)
