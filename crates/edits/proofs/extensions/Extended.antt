-- What extending answers, by what the ray meets.
use Rattle.std.proofs.Common.{◌≡◌, ℕ, ◌+◌, ◌%◌, ◌<◌, ◌≤◌, Result, Ok, Err, refl, sym, subst, ◌⊎◌, inl, inr, arith}
use Rattle.std.specs.Prelude.{IsOk}
use Rattle.exact.specs.Plane.{ExactPoint, ExactSegment, SamePoint, Before, IsSegment, OnSeg, IsPointCanonical, vector}
use Rattle.sheet.specs.Sheet.{IsSheet, InSheet}
use Rattle.sheet.specs.Pattern.{ExactPattern, IsKey}
use Rattle.geometry.proofs.Lines.{On, on_back, on_trans}
use Rattle.geometry.proofs.PointOrder.{before_not_back, before_not_itself, same_itself, same_back}
use Rattle.geometry.proofs.Segments.{on_seg}
use Rattle.geometry.specs.Rays.{OnRay, RunsAlong}
use Rattle.geometry.proofs.Parallels.{on_parallel}
use Rattle.geometry.proofs.RayPoints.{ray_ordered}
use Rattle.geometry.proofs.RaySides.{dir_apart, leads_on, leads_back, ray_on, ray_back}
use Rattle.geometry.proofs.RayOrder.{Half, half_of, NotAfter}
use Rattle.geometry.proofs.Leads.{opposite_dir}
use Rattle.plane.specs.Segments.{HasEnds}
use Rattle.plane.specs.declared.segment.SegBad.{SegBad}
use Rattle.plane.specs.declared.segment.SegBad.TheVariants as seg_bad
use Rattle.plane.specs.Walls.{MissesInside, LeadsInside}
use Rattle.plane.proofs.callers.Exits.{inside_near, not_missed, exit, in_before, inside_on_none, side_not_along}
use Rattle.edits.specs.Ends.{Joins}
use Rattle.edits.specs.SidesAndCreases.{IsSideOrCrease}
use Rattle.edits.specs.Extend.{IsCovered, Extension}
use Rattle.edits.specs.Sights.{IsFirstOf, Sees}
use Rattle.edits.specs.declared.refusal.EditBad.TheVariants as bad
use Rattle.edits.specs.declared.refusal.PointKind.TheVariants as point
use Rattle.edits.specs.declared.sight.Sight.TheVariants as sight
use Rattle.edits.proofs.SheetPoints.{in_moved}
use Rattle.edits.proofs.extensions.Together.{first_not_along}

-- the start of a ray and one of its points are the ends of a segment
ray_segment : (k : ℕ) (p q : ExactPoint) → k < 16 → OnRay p k q → (s : ExactSegment) × HasEnds s p q × IsSegment s
ray_segment k p q small ray = elim (half_of k) [
  | Half.leads_on half ↦ (record { p = p; q = q }, inl (refl, refl), (leads_on p q k small half ray, (k, small, ray)))
  | Half.leads_back low high ↦ (record { p = q; q = p }, inr (refl, refl), (leads_back p q k low high ray, ((k + 8) % 16, omega arith, opposite_dir p q k small ray)))
]

pub ray_makes : (r : Result ExactSegment SegBad) (k : ℕ) (p q : ExactPoint) → k < 16 → OnRay p k q → (r ≡ Err seg_bad.SamePoint → p ≡ q) → (r ≡ Err seg_bad.NotDirection → (s : ExactSegment) → HasEnds s p q → ¬ IsSegment s) → IsOk r
ray_makes (Ok s) k p q small ray f g = refl
ray_makes (Err seg_bad.SamePoint) k p q small ray f g = absurd (dir_apart p q k small ray (subst (SamePoint p) (f refl) (same_itself p)))
ray_makes (Err seg_bad.NotDirection) k p q small ray f g = (let s = ray_segment k p q small ray in absurd (g refl s.0 s.1 s.2))

-- a point of the ray that does not come after the other end is on the segment
on_joined : (k : ℕ) (s : ExactSegment) (p q m : ExactPoint) → k < 16 → OnRay p k q → Joins s p q → OnRay p k m → NotAfter k m q → OnSeg m s
on_joined k s p q m small ray joins mid before = elim (half_of k) [
  | Half.leads_on half ↦ elim joins.1 [
    | inl e ↦ on_seg s k m (record { small = small; ordered = joins.0.0; dir = subst (λ z. OnRay z k s.q) (sym e.0) (subst (OnRay p k) (sym e.1) ray) })
        (subst (λ z. On (vector k) z m) (sym e.0) ((ray_on p m k small half).0 mid).0)
        (λ x. before_not_back p m ((ray_on p m k small half).0 mid).1 (subst (Before m) e.0 x))
        (λ x. on_after half (subst (λ z. Before z m) e.1 x))
    | inr e ↦ absurd (before_not_back p q (leads_on p q k small half ray) (subst (λ z. Before z p) e.0 (subst (Before s.p) e.1 joins.0.0)))
  ]
  | Half.leads_back low high ↦ elim joins.1 [
    | inl e ↦ absurd (before_not_back p q (subst (λ z. Before z q) e.0 (subst (Before s.p) e.1 joins.0.0)) (leads_back p q k low high ray))
    | inr e ↦ on_seg s ((k + 8) % 16) m (record { small = omega arith; ordered = joins.0.0; dir = subst (λ z. OnRay z ((k + 8) % 16) s.q) (sym e.0) (subst (OnRay q ((k + 8) % 16)) (sym e.1) (opposite_dir p q k small ray)) })
        (subst (λ z. On (vector ((k + 8) % 16)) z m) (sym e.0) (on_parallel k ((k + 8) % 16) q m small (omega arith) (omega arith)
        (on_trans (vector k) q p m (on_back (vector k) p q ((ray_back p q k low high).0 ray).0) ((ray_back p m k low high).0 mid).0)))
        (λ x. back_after low high (subst (Before m) e.0 x))
        (λ x. before_not_back p m (subst (λ z. Before z m) e.1 x) ((ray_back p m k low high).0 mid).1)
  ]
]
  where
    on_after : (k < 5) ⊎ (12 < k) → ¬ Before q m
    on_after half x = elim before [ inl e ↦ before_not_itself q (subst (Before q) e x) | inr r ↦ before_not_back q m x ((ray_on m q k small half).0 r).1 ]

    back_after : 5 ≤ k → k ≤ 12 → ¬ Before m q
    back_after low high x = elim before [ inl e ↦ before_not_itself q (subst (λ z. Before z q) e x) | inr r ↦ before_not_back m q x ((ray_back m q k low high).0 r).1 ]

-- the rules, one after another
pub says_outside : (pattern : ExactPattern) (start : ExactPoint) (k : ℕ) → ¬ InSheet pattern.sheet start → Extension pattern start k (Err bad.Outside)
says_outside pattern start k n = inl (n, refl)

pub says_border : (pattern : ExactPattern) (start : ExactPoint) (k : ℕ) → InSheet pattern.sheet start → MissesInside pattern.sheet start k → Extension pattern start k (Err bad.AtBorder)
says_border pattern start k h m = inr (λ n. n h, inl (m, refl))

pub says_covered : (pattern : ExactPattern) → IsSheet pattern.sheet → (start : ExactPoint) (k : ℕ) → k < 16 → InSheet pattern.sheet start → LeadsInside pattern.sheet start k → Sees start k (IsSideOrCrease pattern) sight.Along → Extension pattern start k (Err bad.Covered)
says_covered pattern good start k small h l sees = inr (λ n. n h, inr (not_missed pattern.sheet start k small l, inl (covered sees.1, refl)))
  where
    covered : IsSideOrCrease pattern sees.0 → IsCovered pattern.creases start k
    covered (inl side) = absurd (side_not_along pattern.sheet good start k sees.0 small l side sees.2)
    covered (inr c) = (sees.0, c, sees.2)

not_covered : (pattern : ExactPattern) (start : ExactPoint) (k : ℕ) → ((s : ExactSegment) → IsSideOrCrease pattern s → ¬ RunsAlong start k s) → ¬ IsCovered pattern.creases start k
not_covered pattern start k n c = n c.0 (inr c.1) c.2

pub says_range : (pattern : ExactPattern) (start : ExactPoint) (k : ℕ) → k < 16 → InSheet pattern.sheet start → LeadsInside pattern.sheet start k → Sees start k (IsSideOrCrease pattern) sight.OutOfRange → Extension pattern start k (Err (bad.Range point.End))
says_range pattern start k small h l sees = inr (λ n. n h, inr (not_missed pattern.sheet start k small l, inr (not_covered pattern start k sees.1, inl (sees.0, refl))))

pub says_first : (pattern : ExactPattern) (start v : ExactPoint) (k : ℕ) (s : ExactSegment) → k < 16 → InSheet pattern.sheet start → LeadsInside pattern.sheet start k → Sees start k (IsSideOrCrease pattern) (sight.First v) → Joins s start v → Extension pattern start k (Ok s)
says_first pattern start v k s small h l sees joins = inr (
  λ n. n h,
  inr (
    not_missed pattern.sheet start k small l,
    inr (
      not_covered pattern start k (first_not_along (IsSideOrCrease pattern) start v k small sees.1),
      inr (λ m. sees.2 m.0 m.1 m.2, (v, record { ray = sees.1.ray; met = sees.1.met; first = sees.1.first }, sees.0, joins)),
    ),
  ),
)

-- a ray that leads inside meets a side
pub meets_some : (pattern : ExactPattern) → IsSheet pattern.sheet → (start : ExactPoint) (k : ℕ) → k < 16 → LeadsInside pattern.sheet start k → ¬ Sees start k (IsSideOrCrease pattern) sight.Nothing
meets_some pattern good start k small l sees = (let e = exit pattern.sheet good start k small l in sees e.0 e.1 (e.3.0, inl e.3.1, e.3.2))

-- The segment may be a key of a pattern.
pub first_key : (pattern : ExactPattern) → IsSheet pattern.sheet → (start v : ExactPoint) (k : ℕ) (s : ExactSegment) → k < 16 → InSheet pattern.sheet start → LeadsInside pattern.sheet start k → IsFirstOf (IsSideOrCrease pattern) start k v → Joins s start v → IsPointCanonical s.p → IsPointCanonical s.q → IsKey pattern.sheet s
first_key pattern good start v k s small h l f joins held_p held_q = record {
  segment = joins.0;
  from = held_p;
  to = held_q;
  from_in = elim joins.1 [ inl e ↦ subst (InSheet pattern.sheet) (sym e.0) h | inr e ↦ subst (InSheet pattern.sheet) (sym e.0) end_in ];
  to_in = elim joins.1 [ inl e ↦ subst (InSheet pattern.sheet) (sym e.1) end_in | inr e ↦ subst (InSheet pattern.sheet) (sym e.1) h ];
  inner = λ b. (let m = inside_near pattern.sheet start v k small l f.ray in inside_on_none pattern.sheet good m.0 m.3 (b.0, b.1, b.2 m.0 (on_joined k s start v m.0 small f.ray joins m.1 m.2)));
}
  where
    end_in : InSheet pattern.sheet v
    end_in = (let e = exit pattern.sheet good start k small l in elim (ray_ordered start v e.0 k f.ray e.1) [
      | inl r ↦ in_before pattern.sheet start v e.0 k l f.ray (inr r) e.2
      | inr o ↦ elim o [
        | inl q ↦ in_moved pattern.sheet e.0 v (same_back v e.0 q) (in_before pattern.sheet start e.0 e.0 k l e.1 (inl refl) e.2)
        | inr r ↦ absurd (f.first e.0 e.1 r (e.3.0, inl e.3.1, e.3.2))
      ]
    ])
