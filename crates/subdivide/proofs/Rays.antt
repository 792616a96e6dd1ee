-- The edges that leave a vertex: two in one direction have one mark, and all of it holds of the same points by other numbers.
use Rattle.std.proofs.Common.{◌≡◌, ℕ, ◌+◌, ◌%◌, ◌<◌, List, sym, subst, refl, inl, inr, arith}
use Rattle.std.proofs.lemmas.List.Elements.{All-weaker}
use Rattle.exact.specs.Plane.{ExactPoint, SamePoint, Before, DirOf, ExactSegment, vector}
use Rattle.sheet.specs.Pattern.{ExactPattern}
use Rattle.sheet.specs.declared.mark.Mark.{Mark}
use Rattle.sheet.specs.declared.mark.Mark.TheVariants as mark
use Rattle.layers.specs.declared.star.Ray.{Ray}
use Rattle.geometry.specs.Meeting.{Along}
use Rattle.geometry.proofs.Lines.{On, on_back, on_from, on_trans}
use Rattle.geometry.proofs.Segments.{on_line, on_seg, end_on}
use Rattle.geometry.proofs.Parts.{part_along}
use Rattle.geometry.proofs.Found.{one_along}
use Rattle.geometry.proofs.Leads.{opposite_dir, not_both_ways, dir_moved}
use Rattle.geometry.proofs.PointOrder.{before_trans, same_before, before_same, same_back, same_itself, ordered}
use Rattle.subdivide.specs.Subdivision.{IsVertex, IsEdge}
use Rattle.subdivide.specs.Chain.{AreLines}
use Rattle.subdivide.specs.Star.{marked_kind, GoesOut, StarOf}
use Rattle.subdivide.specs.declared.edge.EdgeKind.{EdgeKind}
use Rattle.subdivide.proofs.Cutting.{on_seg_moved, vertex_moved, one_kind}

abbrev pub joining : ExactPoint → ExactPoint → ExactSegment
joining p q = record { p = p; q = q }

-- an edge has a direction
pub edge_along : (pattern : ExactPattern) → AreLines pattern → (p q : ExactPoint) (kind : EdgeKind) → IsEdge pattern p q kind → (k : ℕ) × Along (joining p q) k
edge_along pattern l p q kind e =
    let s = e.line.0 in let w = l.along s (kind, e.line.1) in
    (w.0, part_along s (joining p q) w.0 w.1 (on_from (vector w.0) s.p p q (on_line s w.0 p w.1 e.line.2) (on_line s w.0 q w.1 e.line.3)) e.ordered)

-- no vertex lies strictly between the ends of an edge
none_inside : (pattern : ExactPattern) → AreLines pattern → (p q x : ExactPoint) (kind : EdgeKind) (k : ℕ) → IsEdge pattern p q kind → Along (joining p q) k
    → On (vector k) p x → Before p x → Before x q → IsVertex pattern x → ⊥
none_inside pattern l p q x kind k e a o b d v =
    let s = e.line.0 in let w = l.along s (kind, e.line.1) in
    let same : k ≡ w.0 = one_along (joining p q) k w.0 a (part_along s (joining p q) w.0 w.1 (on_from (vector w.0) s.p p q (on_line s w.0 p w.1 e.line.2) (on_line s w.0 q w.1 e.line.3)) e.ordered) in
    let line : On (vector w.0) s.p x = on_trans (vector w.0) s.p p x (on_line s w.0 p w.1 e.line.2) (subst (λ m. On (vector m) p x) same o) in
    e.line.4 x v (on_seg s w.0 x w.1 line (λ y. e.line.2.from (before_trans p x s.p b y)) (λ y. e.line.3.to (before_trans s.q x q y d))) b d

-- an edge between the same points by other numbers
pub edge_moved : (pattern : ExactPattern) → AreLines pattern → (p q u v : ExactPoint) (kind : EdgeKind) → SamePoint p u → SamePoint q v → IsVertex pattern u → IsVertex pattern v → IsEdge pattern p q kind → IsEdge pattern u v kind
edge_moved pattern l p q u v kind a b x y e =
    let s = e.line.0 in let w = l.along s (kind, e.line.1) in
    record {
      from = x;
      to = y;
      ordered = same_before p u v a (before_same p q v b e.ordered);
      line = (
        s,
        e.line.1,
        on_seg_moved s w.0 p u w.1 a e.line.2,
        on_seg_moved s w.0 q v w.1 b e.line.3,
        λ z i o f g. e.line.4 z i o (same_before u p z (same_back p u a) f) (before_same z v q (same_back q v b) g),
      );
    }

pub one_marked : (m n : Mark) → marked_kind m ≡ marked_kind n → m ≡ n
one_marked mark.M mark.M e = refl
one_marked mark.M mark.V e = absurd (cc)
one_marked mark.V mark.M e = absurd (cc)
one_marked mark.V mark.V e = refl

-- two edges that lead on from one vertex
both_on : (pattern : ExactPattern) → AreLines pattern → (v w x : ExactPoint) (a b : EdgeKind) (k : ℕ) → Along (joining v w) k → Along (joining v x) k → IsEdge pattern v w a → IsEdge pattern v x b → a ≡ b
both_on pattern l v w x a b k s t e f = elim (ordered w x) [
  | inl h ↦ absurd (none_inside pattern l v x w b k f t (end_on (joining v w) k s) e.ordered h e.to)
  | inr r ↦ elim r [
    | inl h ↦ one_kind pattern l v w a b e (edge_moved pattern l v x v w b (same_itself v) (same_back w x h) e.from e.to f)
    | inr h ↦ absurd (none_inside pattern l v w x a k e s (end_on (joining v x) k t) f.ordered h f.to)
  ]
]

-- two edges that lead back from one vertex
both_back : (pattern : ExactPattern) → AreLines pattern → (v w x : ExactPoint) (a b : EdgeKind) (k : ℕ) → Along (joining w v) k → Along (joining x v) k → IsEdge pattern w v a → IsEdge pattern x v b → a ≡ b
both_back pattern l v w x a b k s t e f = elim (ordered w x) [
  | inl h ↦ absurd (none_inside pattern l w v x a k e s (across w x s t) h f.ordered f.from)
  | inr r ↦ elim r [
    | inl h ↦ one_kind pattern l w v a b e (edge_moved pattern l x v w v b (same_back w x h) (same_itself v) e.from e.to f)
    | inr h ↦ absurd (none_inside pattern l x v w b k f t (across x w t s) h e.ordered e.from)
  ]
]
  where
    across : (p q : ExactPoint) → Along (joining p v) k → Along (joining q v) k → On (vector k) p q
    across p q s t = on_trans (vector k) p v q (end_on (joining p v) k s) (on_back (vector k) q v (end_on (joining q v) k t))

-- an edge that leads on from v
along_on : (pattern : ExactPattern) (v w : ExactPoint) (kind : EdgeKind) (k : ℕ) → k < 16 → DirOf v w k → IsEdge pattern v w kind → Along (joining v w) k
along_on pattern v w kind k h d e = record { small = h; ordered = e.ordered; dir = d }

-- an edge that leads back from v
pub along_back : (pattern : ExactPattern) (v w : ExactPoint) (kind : EdgeKind) (k : ℕ) → k < 16 → DirOf v w k → IsEdge pattern w v kind → Along (joining w v) ((k + 8) % 16)
along_back pattern v w kind k h d e = record { small = omega arith; ordered = e.ordered; dir = opposite_dir v w k h d }

-- rays of one direction have one mark
pub one_mark : (pattern : ExactPattern) → AreLines pattern → (v : ExactPoint) (r q : Ray) → GoesOut pattern v r → GoesOut pattern v q → r.dir ≡ q.dir → r.mark ≡ q.mark
one_mark pattern l v r q a b same = one_marked r.mark q.mark (elim a.1.2 [
  | inl e ↦ elim b.1.2 [
    | inl f ↦ both_on pattern l v a.1.0 b.1.0 (marked_kind r.mark) (marked_kind q.mark) r.dir (along_on pattern v a.1.0 (marked_kind r.mark) r.dir a.0 a.1.1 e) (along_on pattern v b.1.0 (marked_kind q.mark) r.dir a.0 there f) e f
    | inr f ↦ absurd (not_both_ways (joining v a.1.0) (joining b.1.0 v) r.dir (along_on pattern v a.1.0 (marked_kind r.mark) r.dir a.0 a.1.1 e) (along_back pattern v b.1.0 (marked_kind q.mark) r.dir a.0 there f))
  ]
  | inr e ↦ elim b.1.2 [
    | inl f ↦ absurd (not_both_ways (joining v b.1.0) (joining a.1.0 v) r.dir (along_on pattern v b.1.0 (marked_kind q.mark) r.dir a.0 there f) (along_back pattern v a.1.0 (marked_kind r.mark) r.dir a.0 a.1.1 e))
    | inr f ↦ both_back pattern l v a.1.0 b.1.0 (marked_kind r.mark) (marked_kind q.mark) ((r.dir + 8) % 16) (along_back pattern v a.1.0 (marked_kind r.mark) r.dir a.0 a.1.1 e) (along_back pattern v b.1.0 (marked_kind q.mark) r.dir a.0 there f) e f
  ]
])
  where
    there : DirOf v b.1.0 r.dir
    there = subst (λ k. DirOf v b.1.0 k) (sym same) b.1.1

-- a ray goes out of the same point by other numbers
pub goes_moved : (pattern : ExactPattern) → AreLines pattern → (v w : ExactPoint) (r : Ray) → SamePoint v w → IsVertex pattern w → GoesOut pattern v r → GoesOut pattern w r
goes_moved pattern l v w r s x h = (let u = h.1.0 in (
  h.0,
  (
    u,
    dir_moved v u w u r.dir s (same_itself u) h.1.1,
    elim h.1.2 [
      | inl e ↦ inl (edge_moved pattern l v u w u (marked_kind r.mark) s (same_itself u) x e.to e)
      | inr e ↦ inr (edge_moved pattern l u v u w (marked_kind r.mark) (same_itself u) s e.from x e)
    ],
  ),
))

-- a star is that of the same point by other numbers
pub star_moved : (pattern : ExactPattern) → AreLines pattern → (v w : ExactPoint) (rays : List Ray) → SamePoint v w → IsVertex pattern v → StarOf pattern v rays → StarOf pattern w rays
star_moved pattern l v w rays s x h =
    let y = vertex_moved pattern l v w s x in
    record {
      star = h.star;
      each = All-weaker (GoesOut pattern v) (GoesOut pattern w) (λ r g. goes_moved pattern l v w r s y g) rays h.each;
      all = λ r g. h.all r (goes_moved pattern l w v r (same_back v w s) x g);
    }
