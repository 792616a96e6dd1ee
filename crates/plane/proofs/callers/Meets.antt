-- What two segments have in common, from what the code of `meet` tests.
use Rattle.std.proofs.Common.{◌≡◌, ◌≢◌, ℕ, ◌%◌, ◌<◌, refl, sym, ap, subst, ◌∙◌, ◌⊎◌, inl, inr, Bool, IsTrue}
use Rattle.std.specs.Prelude.{◌↔◌, neg_ℤ}
use Rattle.exact.specs.Plane.{ExactPoint, ExactSegment, Before, DirOf, IsSegment, OnSeg, OnBoth, Cross, IsPointRepresentable, vector}
use Rattle.geometry.specs.Root.{Root, minus, count, Above}
use Rattle.geometry.specs.Gap.{cross}
use Rattle.geometry.specs.Meeting.{Along, SameSide, IsLater, IsEarlier}
use Rattle.geometry.proofs.RootRing.{both}
use Rattle.geometry.proofs.Domain.{above_not_minus, above_not_zero}
use Rattle.geometry.proofs.Directions.{one_direction}
use Rattle.geometry.proofs.Lines.{On}
use Rattle.geometry.proofs.Plain.{corner_of, plain_cross, plain_between}
use Rattle.geometry.proofs.Parts.{part_along}
use Rattle.geometry.proofs.Segments.{none_shared, touched, overlap_is, shared_on, none_common, beside, crossed}
use Rattle.geometry.proofs.Found.{along_half, turn_on}
use Rattle.geometry.proofs.PointOrder.{tied}
use Rattle.qroot2.specs.declared.sign.Sign.{Sign}
use Rattle.qroot2.specs.declared.sign.Sign.TheVariants as sign
use Rattle.qroot2.specs.Wide.{HasSign}
use Rattle.plane.specs.Sides.{IsSide, IsBeside, IsOneSide, IsOnLine}
use Rattle.plane.specs.declared.outcome.Meet.{Meet}
use Rattle.plane.specs.declared.outcome.Meet.TheVariants as meet
use Rattle.plane.specs.Meets.{Meets, AreCollinear}
use Rattle.plane.proofs.callers.Crossed.{crossing, crossing_itself}
use Rattle.plane.proofs.callers.Turns.{side_cross}
use Rattle.plane.proofs.callers.Orders.{point_made}
use Rattle.plane.proofs.callers.Beside.{beside_turns}

-- the ends of s and t, and the later and the earlier ones
pub record AreEnds (s t : ExactSegment) (lo hi : ExactPoint) : Type 0 where
  pub late : IsLater s.p t.p lo
  pub early : IsEarlier s.q t.q hi

pub ends : (s t : ExactSegment) (lo hi a b d e : ExactPoint) → a ≡ s.p → b ≡ t.p → d ≡ s.q → e ≡ t.q → IsLater a b lo → IsEarlier d e hi → AreEnds s t lo hi
ends s t lo hi a b d e p q r u l m = record { late = rw (← p, ← q) l; early = rw (← r, ← u) m }

line : (s t : ExactSegment) (h : AreCollinear s t) → On (vector h.k) s.p t.p
line s t h = record { on = h.line }

pub apart : (s t : ExactSegment) (lo hi : ExactPoint) → AreCollinear s t → AreEnds s t lo hi → Before hi lo → (r : ExactPoint) → ¬ OnBoth r s t
apart s t lo hi h e b r = none_shared s t h.k lo hi r h.first h.second (line s t h) e.late e.early b

pub touch : (s t : ExactSegment) (lo hi : ExactPoint) → AreCollinear s t → AreEnds s t lo hi → ¬ Before hi lo → ¬ Before lo hi → Cross s t lo
touch s t lo hi h e n m = touched s t h.k lo hi h.first h.second (line s t h) e.late e.early (tied lo hi m n)

pub overlap : (s t u : ExactSegment) (lo hi : ExactPoint) → AreCollinear s t → AreEnds s t lo hi → Before lo hi → (let v : ExactSegment = record { p = lo; q = hi } in u ≡ v) → IsSegment u × ((r : ExactPoint) → OnBoth r s t ↔ OnSeg r u)
overlap s t u lo hi h e b q = subst (λ v. IsSegment v × ((r : ExactPoint) → OnBoth r s t ↔ OnSeg r v)) (sym q) here
  where
    v : ExactSegment
    v = record { p = lo; q = hi }

    on : On (vector h.k) lo hi
    on = shared_on s t h.k lo hi h.first h.second (line s t h) e.late e.early

    along : Along v h.k
    along = part_along s v h.k h.first on b

    here : IsSegment v × ((r : ExactPoint) → OnBoth r s t ↔ OnSeg r v)
    here = ((b, (h.k, along.small, along.dir)), λ r. overlap_is s t v h.k r h.first h.second along (line s t h) e.late e.early)

-- and is a segment
pub part : (s t : ExactSegment) (lo hi : ExactPoint) → AreCollinear s t → AreEnds s t lo hi → Before lo hi → (let v : ExactSegment = record { p = lo; q = hi } in IsSegment v)
part s t lo hi h e b = (overlap s t (record { p = lo; q = hi }) lo hi h e b refl).0

pub across_at : (s t : ExactSegment) (a b at : ExactPoint) → a ≡ t.p → b ≡ s.p → (let c : ExactPoint = record { x = a.x; y = b.y } in at ≡ c) → Along s 0 → Along t 4 → (¬ Before at s.p) × (¬ Before s.q at) → (¬ Before at t.p) × (¬ Before t.q at) → Cross s t at
across_at s t a b at p q e f g h k = subst (λ z. Cross s t z) (sym is) (plain_cross s t f g (subst (λ z. ¬ Before z s.p) is h.0) (subst (λ z. ¬ Before s.q z) is h.1) (subst (λ z. ¬ Before z t.p) is k.0) (subst (λ z. ¬ Before t.q z) is k.1))
  where
    is : at ≡ corner_of s t
    is = e ∙ point_made a.x t.p.x b.y s.p.y (ap (λ (z : ExactPoint). z.x) p) (ap (λ (z : ExactPoint). z.y) q)

pub across_none : (s t : ExactSegment) (a b at : ExactPoint) → a ≡ t.p → b ≡ s.p → (let c : ExactPoint = record { x = a.x; y = b.y } in at ≡ c) → Along s 0 → Along t 4
    → (¬ ((¬ Before at s.p) × (¬ Before s.q at))) ⊎ (¬ ((¬ Before at t.p) × (¬ Before t.q at))) → (r : ExactPoint) → ¬ OnBoth r s t
across_none s t a b at p q e f g n r x = (let y = plain_between s t r f g x in elim n [
  | inl m ↦ m (subst (λ z. (¬ Before z s.p) × (¬ Before s.q z)) (sym is) y.0)
  | inr m ↦ m (subst (λ z. (¬ Before z t.p) × (¬ Before t.q z)) (sym is) y.1)
])
  where
    is : at ≡ corner_of s t
    is = e ∙ point_made a.x t.p.x b.y s.p.y (ap (λ (z : ExactPoint). z.x) p) (ap (λ (z : ExactPoint). z.y) q)

-- the order of the two segments does not matter
pub meets_back : (s t : ExactSegment) (m : Meet) → Meets t s m → Meets s t m
meets_back s t meet.Apart h = λ r x. h r (x.1, x.0)
meets_back s t (meet.At v) h = record { here = (h.here.1, h.here.0); only = λ u x. h.only u (x.1, x.0) }
meets_back s t (meet.Overlap u) h = (h.0, λ r. (λ x. (h.1 r).0 (x.1, x.0), λ x. (let y = (h.1 r).1 x in (y.1, y.0))))
meets_back s t meet.AtOutOfRange h = (h.0, record { here = (h.1.here.1, h.1.here.0); only = λ u x. h.1.only u (x.1, x.0) }, h.2)

-- two different directions of segments are not parallel
pub not_equal : (s t : ExactSegment) (k j : ℕ) → Along s k → Along t j → k ≢ j → k % 8 ≢ j % 8
not_equal s t k j a b n e = n (one_direction k j a.small b.small (along_half s k a) (along_half t j b) e)

pub along_told : (s : ExactSegment) (k : ℕ) → IsSegment s → k < 16 → DirOf s.p s.q k → Along s k
along_told s k i h d = record { small = h; ordered = i.0; dir = d }

pub one_line : (s t : ExactSegment) (p q : ExactPoint) (k : ℕ) → p ≡ s.p → q ≡ t.p → Along s k → Along t k → IsOnLine p k q → AreCollinear s t
one_line s t p q k e f a b h = record { k = k; first = a; second = b; line = ((turn_on k s.p t.p).0 (subst (IsOnLine s.p k) f (subst (λ z. IsOnLine z k q) e h))).on }

pub two_lines : (s t : ExactSegment) (p q : ExactPoint) (k : ℕ) → p ≡ s.p → q ≡ t.p → Along s k → Along t k → (¬ IsOnLine p k q) → (r : ExactPoint) → ¬ OnBoth r s t
two_lines s t p q k e f a b n r = none_common s t k r a b (λ h. n (subst (λ z. IsOnLine z k q) (sym e) (subst (IsOnLine s.p k) (sym f) ((turn_on k s.p t.p).1 h))))

-- zero has no side
zero_not_above : (f : Root) → HasSign f.a f.b sign.Zero → ¬ Above f
unfolding count
zero_not_above f h a = above_not_zero (subst Above (both f (count 0) h.0 h.1) a)

zero_not_below : (f : Root) → HasSign f.a f.b sign.Zero → ¬ Above (minus f)
unfolding count minus
zero_not_below f h a = above_not_zero (subst Above (both (minus f) (count 0) (ap neg_ℤ h.0) (ap neg_ℤ h.1)) a)

-- the sides of both ends
pub signs_told : (f g : Root) (s t : Sign) → HasSign f.a f.b s → HasSign g.a g.b t → IsOneSide s t ↔ SameSide f g
unfolding minus
signs_told f g sign.Minus sign.Minus h k = (λ u. inr (h, k), λ x. tt)
signs_told f g sign.Minus sign.Zero h k = (λ u. absurd u, λ x. elim x [ inl y ↦ above_not_minus f y.0 h | inr y ↦ zero_not_below g k y.1 ])
signs_told f g sign.Minus sign.Plus h k = (λ u. absurd u, λ x. elim x [ inl y ↦ above_not_minus f y.0 h | inr y ↦ above_not_minus g k y.1 ])
signs_told f g sign.Zero t h k = (λ u. absurd u, λ x. elim x [ inl y ↦ zero_not_above f h y.0 | inr y ↦ zero_not_below f h y.0 ])
signs_told f g sign.Plus sign.Minus h k = (λ u. absurd u, λ x. elim x [ inl y ↦ above_not_minus g y.1 k | inr y ↦ above_not_minus f h y.0 ])
signs_told f g sign.Plus sign.Zero h k = (λ u. absurd u, λ x. elim x [ inl y ↦ zero_not_above g k y.1 | inr y ↦ above_not_minus f h y.0 ])
signs_told f g sign.Plus sign.Plus h k = (λ u. inl (h, k), λ x. tt)

pub beside_told : (s : ExactSegment) (a p q : ExactPoint) (k : ℕ) (x y : Sign) (b : Bool) → p ≡ s.p → q ≡ s.q → IsSide a k p x → IsSide a k q y → IsTrue b ↔ IsOneSide x y → IsTrue b ↔ IsBeside a k s
beside_told s a p q k x y b e f h l t =
    let g = signs_told (cross (vector k) a s.p) (cross (vector k) a s.q) x y (side_cross k a s.p x (subst (λ z. IsSide a k z x) e h)) (side_cross k a s.q y (subst (λ z. IsSide a k z y) f l)) in
    let turns = beside_turns a k s in
    (λ u. turns.1 (g.0 (t.0 u)), λ u. t.1 (g.1 (turns.0 u)))

-- from the sides of four ends
pub apart_beside : (s t : ExactSegment) (p q : ExactPoint) (k j : ℕ) → p ≡ s.p → q ≡ t.p → Along s k → Along t j → k ≢ j
    → IsBeside q j s ⊎ IsBeside p k t → (r : ExactPoint) → ¬ OnBoth r s t
apart_beside s t p q k j e f a b n h r = beside s t k j r a b (not_equal s t k j a b n) (elim h [
  | inl x ↦ inl ((beside_turns t.p j s).0 (subst (λ z. IsBeside z j s) f x))
  | inr x ↦ inr ((beside_turns s.p k t).0 (subst (λ z. IsBeside z k t) e x))
])

-- neither segment has its ends on one side of the other
pub record AreCrossing (s t : ExactSegment) (p q : ExactPoint) (k j : ℕ) : Type 0 where
  pub from : p ≡ s.p
  pub other : q ≡ t.p
  pub first : Along s k
  pub second : Along t j
  pub different : k ≢ j
  pub not_first : ¬ IsBeside q j s
  pub not_second : ¬ IsBeside p k t

pub at_crossing : (s t : ExactSegment) (p q : ExactPoint) (k j : ℕ) (c : ExactPoint) → AreCrossing s t p q k j → On (vector k) p c → On (vector j) q c → Cross s t c
at_crossing s t p q k j c h l m =
    crossed s t k j c h.first h.second (not_equal s t k j h.first h.second h.different) (subst (λ z. On (vector k) z c) h.from l) (subst (λ z. On (vector j) z c) h.other m)
    (λ x. subst (λ z. ¬ IsBeside z j s) h.other h.not_first ((beside_turns t.p j s).1 x)) (λ x. subst (λ z. ¬ IsBeside z k t) h.from h.not_second ((beside_turns s.p k t).1 x))

pub at_told : (s t : ExactSegment) (p q : ExactPoint) (k j : ℕ) (c : ExactPoint) → AreCrossing s t p q k j → IsOnLine p k c × IsOnLine q j c → Cross s t c
at_told s t p q k j c h l = at_crossing s t p q k j c h ((turn_on k p c).0 l.0) ((turn_on j q c).0 l.1)

pub out_told : (s t : ExactSegment) (p q : ExactPoint) (k j : ℕ) → AreCrossing s t p q k j → ((c : ExactPoint) → IsOnLine p k c → IsOnLine q j c → ¬ IsPointRepresentable c) → (v : ExactPoint) × Cross s t v × (¬ IsPointRepresentable v)
out_told s t p q k j h f = (
  crossing k j p q,
  at_crossing s t p q k j (crossing k j p q) h z.0 z.1,
  f (crossing k j p q) ((turn_on k p (crossing k j p q)).1 z.0) ((turn_on j q (crossing k j p q)).1 z.1),
)
  where
    z : On (vector k) p (crossing k j p q) × On (vector j) q (crossing k j p q)
    z = crossing_itself k j p q h.first.small h.second.small (not_equal s t k j h.first h.second h.different)
