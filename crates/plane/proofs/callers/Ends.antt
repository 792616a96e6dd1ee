-- Segments from their ends.
use Rattle.std.proofs.Common.{◌≡◌, ◌≢◌, ℕ, ◌<◌, refl, sym, ap, subst, ◌∙◌, inl, inr, Bool, false, IsTrue}
use Rattle.std.specs.Prelude.{◌↔◌, Result, Ok, Err, IfOk}
use Rattle.exact.specs.Plane.{ExactPoint, ExactSegment, SamePoint, Before, IsSegment, DirOf, OnSeg, vector}
use Rattle.std.proofs.lemmas.Bool.{false≢true}
use Rattle.geometry.specs.Root.{count}
use Rattle.geometry.specs.Gap.{cross}
use Rattle.geometry.specs.Meeting.{Along}
use Rattle.geometry.proofs.Segments.{on_seg, on_line}
use Rattle.geometry.proofs.PointOrder.{ordered, before_not_back}
use Rattle.geometry.proofs.Found.{turn_on}
use Rattle.plane.specs.Sides.{IsOnLine}
use Rattle.plane.specs.Segments.{HasEnds}
use Rattle.plane.specs.declared.segment.SegBad.{SegBad}
use Rattle.plane.proofs.callers.Told.{fails}

pub other_order : (p q : ExactPoint) (same before : Bool) → IsTrue same ↔ SamePoint p q → IsTrue before ↔ Before p q → same ≡ false → before ≡ false → Before q p
other_order p q same before f g e h = elim (ordered p q) [
  | inl b ↦ absurd (fails g h b)
  | inr k ↦ elim k [ inl s ↦ absurd (fails f e s) | inr b ↦ b ]
]

abbrev between : ExactPoint → ExactPoint → ExactSegment
between p q = record { p = p; q = q }

pub ends_in_order : (p q : ExactPoint) (r : Result (ExactSegment × ℕ) SegBad) → IfOk r (λ s. IsSegment s.0 × (s.0 ≡ between p q)) → IfOk r (λ s. IsSegment s.0 × HasEnds s.0 p q)
ends_in_order p q (Ok s) h = (h.0, inl (ap (λ (t : ExactSegment). t.p) h.1, ap (λ (t : ExactSegment). t.q) h.1))
ends_in_order p q (Err e) h = tt

pub ends_turned : (p q : ExactPoint) (r : Result (ExactSegment × ℕ) SegBad) → IfOk r (λ s. IsSegment s.0 × (s.0 ≡ between q p)) → IfOk r (λ s. IsSegment s.0 × HasEnds s.0 p q)
ends_turned p q (Ok s) h = (h.0, inr (ap (λ (t : ExactSegment). t.p) h.1, ap (λ (t : ExactSegment). t.q) h.1))
ends_turned p q (Err e) h = tt

made : (s : ExactSegment) (p q : ExactPoint) → s.p ≡ p → s.q ≡ q → s ≡ between p q
made s p q e f = pair s.p p s.q q e f
  where
    pair : (a c b d : ExactPoint) → a ≡ c → b ≡ d → between a b ≡ between c d
    pair a c b d e f = cc

-- no segment has these ends, where the first is before the second
pub none_between : (p q : ExactPoint) → Before p q → p ≢ q → (¬ IsSegment (between p q)) ↔ ((p ≢ q) × ((s : ExactSegment) → HasEnds s p q → ¬ IsSegment s))
none_between p q b d = (
  λ n. (
    d,
    λ s h i. elim h [
      | inl e ↦ n (subst IsSegment (made s p q e.0 e.1) i)
      | inr e ↦ before_not_back p q b (subst (λ z. Before q z) e.1 (subst (λ z. Before z s.q) e.0 i.0))
    ],
  ),
  λ h i. h.1 (between p q) (inl (refl, refl)) i,
)

pub none_turned : (p q : ExactPoint) → Before q p → p ≢ q → (¬ IsSegment (between q p)) ↔ ((p ≢ q) × ((s : ExactSegment) → HasEnds s p q → ¬ IsSegment s))
none_turned p q b d = (
  λ n. (
    d,
    λ s h i. elim h [
      | inl e ↦ before_not_back q p b (subst (λ z. Before p z) e.1 (subst (λ z. Before z s.q) e.0 i.0))
      | inr e ↦ n (subst IsSegment (made s q p e.0 e.1) i)
    ],
  ),
  λ h i. h.1 (between q p) (inr (refl, refl)) i,
)

-- a point between the ends is on the segment where it is on the line
pub on_told : (s : ExactSegment) (r p : ExactPoint) (k : ℕ) (b : Bool) → IsSegment s → p ≡ s.p → k < 16 → DirOf s.p s.q k → (¬ Before r s.p) × (¬ Before s.q r) → IsTrue b ↔ IsOnLine p k r → IsTrue b ↔ OnSeg r s
on_told s r p k b i e l d h f = (
  λ t. on_seg s k r a ((turn_on k s.p r).0 (subst (λ z. IsOnLine z k r) e (f.0 t))) h.0 h.1,
  λ o. f.1 (subst (λ z. IsOnLine z k r) (sym e) ((turn_on k s.p r).1 (on_line s k r a o))),
)
  where
    a : Along s k
    a = record { small = l; ordered = i.0; dir = d }

pub off_told : (s : ExactSegment) (r : ExactPoint) (b : Bool) → IsTrue b ↔ ((¬ Before r s.p) × (¬ Before s.q r)) → b ≡ false → IsTrue b ↔ OnSeg r s
off_told s r b f e = (λ t. absurd (false≢true (sym e ∙ t)), λ o. f.1 (o.from, o.to))
