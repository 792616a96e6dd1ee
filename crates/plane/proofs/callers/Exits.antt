-- A ray from the sheet to its inside: it has points inside close to its start, and it leaves the sheet in a point of a side.
use Rattle.std.specs.Prelude.{Contains}
use Rattle.std.proofs.Common.{ℕ, ◌+◌, ◌-◌, ◌%◌, ◌<◌, sym, subst, inl, inr, arith}
use Rattle.std.proofs.lemmas.Bool.{cases_order}
use Rattle.exact.specs.Plane.{ExactPoint, ExactSegment, vector, turn}
use Rattle.sheet.specs.Sheet.{ExactSheet, IsSheet, InSheet, IsInside, OnSide, corner, sides}
use Rattle.geometry.specs.Gap.{det}
use Rattle.geometry.specs.Rays.{OnRay, RunsAlong}
use Rattle.geometry.proofs.Domain.{above_not_minus}
use Rattle.geometry.proofs.Lines.{On}
use Rattle.geometry.proofs.RayOrder.{NotAfter, not_after_trans, not_after_not, some_point}
use Rattle.geometry.proofs.HalfPlanes.{IsLeft, NotRight}
use Rattle.geometry.proofs.WayTurns.{det_right}
use Rattle.plane.specs.Walls.{MissesInside, LeadsLeft, LeadsInside}
use Rattle.plane.proofs.callers.Sides.{on_side}
use Rattle.plane.proofs.callers.RayCrossings.{crosses, keeps_left, keeps_not_right, to_line, to_left, left_or_not}
use Rattle.plane.proofs.callers.Walls.{IsIn, IsEdge, sheet_is, inside_is, low_edge, right_edge, high_edge, left_edge, inside_no_edge}

-- before each point of the ray there is one inside
pub inside_near : (sheet : ExactSheet) (start e : ExactPoint) (k : ℕ) → k < 16 → LeadsInside sheet start k → OnRay start k e → (m : ExactPoint) × OnRay start k m × NotAfter k m e × IsInside sheet m
inside_near sheet start e k small h ray = (
  d.0,
  d.1,
  not_after_trans k d.0 c.0 e small d.2 (not_after_trans k c.0 b.0 e small c.2 (not_after_trans k b.0 a.0 e small b.2 a.2)),
  (inside_is sheet d.0).1 (record {
    low = keeps_left 0 k (corner sheet 0 0) start d.0 c.0 h.low d.1 d.2 (keeps_left 0 k (corner sheet 0 0) start c.0 b.0 h.low c.1 c.2 (keeps_left 0 k (corner sheet 0 0) start b.0 a.0 h.low b.1 b.2 a.3));
    right = keeps_left 4 k (corner sheet 1 0) start d.0 c.0 h.right d.1 d.2 (keeps_left 4 k (corner sheet 1 0) start c.0 b.0 h.right c.1 c.2 b.3);
    high = keeps_left 8 k (corner sheet 1 1) start d.0 c.0 h.high d.1 d.2 c.3;
    left = d.3;
  }),
)
  where
    a : (m : ExactPoint) × OnRay start k m × NotAfter k m e × IsLeft 0 (corner sheet 0 0) m
    a = to_left 0 k (corner sheet 0 0) start e (omega arith) small h.low ray

    b : (m : ExactPoint) × OnRay start k m × NotAfter k m a.0 × IsLeft 4 (corner sheet 1 0) m
    b = to_left 4 k (corner sheet 1 0) start a.0 (omega arith) small h.right a.1

    c : (m : ExactPoint) × OnRay start k m × NotAfter k m b.0 × IsLeft 8 (corner sheet 1 1) m
    c = to_left 8 k (corner sheet 1 1) start b.0 (omega arith) small h.high b.1

    d : (m : ExactPoint) × OnRay start k m × NotAfter k m c.0 × IsLeft 12 (corner sheet 0 1) m
    d = to_left 12 k (corner sheet 0 1) start c.0 (omega arith) small h.left c.1

pub not_missed : (sheet : ExactSheet) (start : ExactPoint) (k : ℕ) → k < 16 → LeadsInside sheet start k → ¬ MissesInside sheet start k
not_missed sheet start k small h m = (let n = inside_near sheet start m.0 k small h m.1 in m.2 n.0 n.1 (not_after_not k n.0 m.0 small n.2) n.3)

-- a ray from the sheet that does not lead inside
pub missed : (sheet : ExactSheet) (start : ExactPoint) (k : ℕ) → InSheet sheet start → ¬ LeadsInside sheet start k → MissesInside sheet start k
missed sheet start k h n = (
  e.0,
  e.1,
  λ r ray _ inside. absurd (
      let s = (sheet_is sheet start).0 h in
      let i = (inside_is sheet r).0 inside in
      n (record {
        low = leads 0 (corner sheet 0 0) r ray i.low s.low;
        right = leads 4 (corner sheet 1 0) r ray i.right s.right;
        high = leads 8 (corner sheet 1 1) r ray i.high s.high;
        left = leads 12 (corner sheet 0 1) r ray i.left s.left;
      })),
)
  where
    e : (e : ExactPoint) × OnRay start k e
    e = some_point start k

    leads : (j : ℕ) (p r : ExactPoint) → OnRay start k r → IsLeft j p r → NotRight j p start → LeadsLeft start k j p
    leads j p r ray x s = elim (left_or_not j k p start s) [ inl l ↦ l | inr none ↦ absurd (none r ray x) ]

-- a point of the line of a side, to which the direction leads from the inside
meets_line : (sheet : ExactSheet) (start : ExactPoint) (k j : ℕ) (p : ExactPoint) → j < 16 → k < 16 → LeadsLeft start k j p → 8 < (k + 16 - j) % 16 → ((r : ExactPoint) → On (vector j) p r → IsEdge sheet r) → (c : ExactPoint) × OnRay start k c × IsEdge sheet c
meets_line sheet start k j p hj hk h turn edge = elim h [
  | inl x ↦ (let c = crosses j k p start hj hk x (det_right j k hj hk turn) in (c.0, c.1, edge c.0 c.2))
  | inr x ↦ absurd (above_not_minus (det (vector j) (vector k)) x.1 (det_right j k hj hk turn))
]

some_edge : (sheet : ExactSheet) (start : ExactPoint) (k : ℕ) → k < 16 → LeadsInside sheet start k → (c : ExactPoint) × OnRay start k c × IsEdge sheet c
some_edge sheet start k small h = elim (cases_order k 4) [
  | inl e ↦ meets_line sheet start k 8 (corner sheet 1 1) (omega arith) small h.high (omega (arith, e)) (high_edge sheet)
  | inr n ↦ elim n [
    | inl l ↦ meets_line sheet start k 4 (corner sheet 1 0) (omega arith) small h.right (omega (arith, l)) (right_edge sheet)
    | inr g ↦ elim (cases_order k 8) [
      | inl e ↦ meets_line sheet start k 12 (corner sheet 0 1) (omega arith) small h.left (omega (arith, e)) (left_edge sheet)
      | inr m ↦ elim m [
        | inl l ↦ meets_line sheet start k 8 (corner sheet 1 1) (omega arith) small h.high (omega (arith, l, g)) (high_edge sheet)
        | inr f ↦ elim (cases_order k 12) [
          | inl e ↦ meets_line sheet start k 0 (corner sheet 0 0) (omega arith) small h.low (omega (arith, e)) (low_edge sheet)
          | inr q ↦ elim q [
            | inl l ↦ meets_line sheet start k 12 (corner sheet 0 1) (omega arith) small h.left (omega (arith, l, f)) (left_edge sheet)
            | inr r ↦ meets_line sheet start k 0 (corner sheet 0 0) (omega arith) small h.low (omega (arith, r, small)) (low_edge sheet)
          ]
        ]
      ]
    ]
  ]
]

-- a point of the ray in front of e, not on the right of the line, with a coordinate that is a side's
record Reached (sheet : ExactSheet) (start : ExactPoint) (k j : ℕ) (p e : ExactPoint) : Type 0 where
  m : ExactPoint
  ray : OnRay start k m
  before : NotAfter k m e
  not_right : NotRight j p m
  edge : IsEdge sheet m

reaches : (sheet : ExactSheet) (start e : ExactPoint) (k j : ℕ) (p : ExactPoint) → j < 16 → k < 16 → LeadsLeft start k j p → OnRay start k e → IsEdge sheet e → ((r : ExactPoint) → On (vector j) p r → IsEdge sheet r) → Reached sheet start k j p e
reaches sheet start e k j p hj hk h ray edge on_edge = (let m = to_line j k p start e hj hk h ray in record {
  m = m.0;
  ray = m.1;
  before = m.2;
  not_right = m.3;
  edge = elim m.4 [ inl q ↦ subst (IsEdge sheet) (sym q) edge | inr on ↦ on_edge m.0 on ];
})

-- Where the ray leaves the sheet.
pub exit : (sheet : ExactSheet) → IsSheet sheet → (start : ExactPoint) (k : ℕ) → k < 16 → LeadsInside sheet start k → (m : ExactPoint) × OnRay start k m × IsIn sheet m × OnSide sheet m
exit sheet good start k small h = (d.m, d.ray, within, (on_side sheet d.m good).0 ((sheet_is sheet d.m).1 within, d.edge))
  where
    e : (c : ExactPoint) × OnRay start k c × IsEdge sheet c
    e = some_edge sheet start k small h

    a : Reached sheet start k 0 (corner sheet 0 0) e.0
    a = reaches sheet start e.0 k 0 (corner sheet 0 0) (omega arith) small h.low e.1 e.2 (low_edge sheet)

    b : Reached sheet start k 4 (corner sheet 1 0) a.m
    b = reaches sheet start a.m k 4 (corner sheet 1 0) (omega arith) small h.right a.ray a.edge (right_edge sheet)

    c : Reached sheet start k 8 (corner sheet 1 1) b.m
    c = reaches sheet start b.m k 8 (corner sheet 1 1) (omega arith) small h.high b.ray b.edge (high_edge sheet)

    d : Reached sheet start k 12 (corner sheet 0 1) c.m
    d = reaches sheet start c.m k 12 (corner sheet 0 1) (omega arith) small h.left c.ray c.edge (left_edge sheet)

    within : IsIn sheet d.m
    within = record {
      low = keeps_not_right 0 k (corner sheet 0 0) start d.m c.m h.low d.ray d.before (keeps_not_right 0 k (corner sheet 0 0) start c.m b.m h.low c.ray c.before (keeps_not_right 0 k (corner sheet 0 0) start b.m a.m h.low b.ray b.before a.not_right));
      right = keeps_not_right 4 k (corner sheet 1 0) start d.m c.m h.right d.ray d.before (keeps_not_right 4 k (corner sheet 1 0) start c.m b.m h.right c.ray c.before b.not_right);
      high = keeps_not_right 8 k (corner sheet 1 1) start d.m c.m h.high d.ray d.before c.not_right;
      left = d.not_right;
    }

-- before a point of the ray in the sheet all points are in the sheet
pub in_before : (sheet : ExactSheet) (start v m : ExactPoint) (k : ℕ) → LeadsInside sheet start k → OnRay start k v → NotAfter k v m → IsIn sheet m → InSheet sheet v
in_before sheet start v m k h ray before i = (sheet_is sheet v).1 (record {
  low = keeps_not_right 0 k (corner sheet 0 0) start v m h.low ray before i.low;
  right = keeps_not_right 4 k (corner sheet 1 0) start v m h.right ray before i.right;
  high = keeps_not_right 8 k (corner sheet 1 1) start v m h.high ray before i.high;
  left = keeps_not_right 12 k (corner sheet 0 1) start v m h.left ray before i.left;
})

-- what is strictly inside is on no side
pub inside_on_none : (sheet : ExactSheet) → IsSheet sheet → (r : ExactPoint) → IsInside sheet r → ¬ OnSide sheet r
inside_on_none sheet good r h s = inside_no_edge sheet r h ((on_side sheet r good).1 s).1

-- and no side runs along the ray
pub side_not_along : (sheet : ExactSheet) → IsSheet sheet → (start : ExactPoint) (k : ℕ) (s : ExactSegment) → k < 16 → LeadsInside sheet start k → Contains (sides sheet) s → ¬ RunsAlong start k s
side_not_along sheet good start k s small h c runs = (let n = inside_near sheet start runs.0 k small h runs.1 in inside_on_none sheet good n.0 n.3 (s, c, runs.2 n.0 n.1 (not_after_not k n.0 runs.0 small n.2)))
