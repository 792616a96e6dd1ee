-- What the tests of a line say together.
use Rattle.std.proofs.Common.{◌≡◌, sym, inl, inr, subst, refl}
use Rattle.std.specs.Prelude.{Err, Ok, Result, Option, Some, None, IfSome, IsNone, IfOk}
use Rattle.std.specs.Result.{result_ok}
use Rattle.exact.specs.Plane.{ExactPoint, ExactSegment, IsSegment, Before}
use Rattle.geometry.proofs.PointOrder.{before_not_back, before_not_itself}
use Rattle.plane.specs.Segments.{HasEnds}
use Rattle.plane.specs.Support.{ExactLine, IsSupportOf}
use Rattle.plane.specs.declared.segment.SegBad.{SegBad}
use Rattle.plane.specs.declared.segment.SegBad.TheVariants as bad

pair : (s : ExactSegment) (p q : ExactPoint) → s.p ≡ p → s.q ≡ q → s ≡ record { p = p; q = q }
pair s p q e f = λ i. record { p = e i; q = f i }

-- a segment with two ends that are in order begins at the first
pub ends_in_order : (s : ExactSegment) (p q : ExactPoint) → IsSegment s → HasEnds s p q → Before p q → s ≡ record { p = p; q = q }
ends_in_order s p q h (inl e) b = pair s p q e.0 e.1
ends_in_order s p q h (inr e) b = absurd (before_not_back p q b (subst (λ (x : ExactPoint). Before x p) e.0 (subst (λ (x : ExactPoint). Before s.p x) e.1 h.0)))

-- a segment, with the line on which it lies
abbrev Placed : Type 0
Placed = ExactSegment × ExactLine

pub no_segment : {X : Type 0} (r : Result X SegBad) (p q : ExactPoint) → Before p q → (r ≡ Err bad.SamePoint → p ≡ q) → (r ≡ Err bad.NotDirection → (s : ExactSegment) → HasEnds s p q → ¬ IsSegment s) → result_ok r ≡ None → ¬ IsSegment (record { p = p; q = q })
no_segment (Ok s) p q b f g e h = cc
no_segment (Err bad.SamePoint) p q b f g e h = before_not_itself q (subst (λ (x : ExactPoint). Before x q) (f refl) b)
no_segment (Err bad.NotDirection) p q b f g e h = g refl (record { p = p; q = q }) (inl (refl, refl)) h

-- the segment between two points in order, on its line
abbrev IsTold : Option Placed → ExactPoint → ExactPoint → Type 0
IsTold o p q = IfSome o (λ s. Before p q → s.0 ≡ record { p = p; q = q }) × IfSome o (λ s. IsSegment s.0 × IsSupportOf s.0 s.1)

some_told : (r : Result Placed SegBad) (p q : ExactPoint) → IfOk r (λ s. IsSegment s.0 × HasEnds s.0 p q) → IfOk r (λ s. IsSupportOf s.0 s.1) → IsTold (result_ok r) p q
some_told (Ok s) p q h k = (λ b. ends_in_order s.0 p q h.0 h.1 b, (h.0, k))
some_told (Err e) p q h k = (tt, tt)

pub segment_told : (o : Option Placed) (r : Result Placed SegBad) (p q : ExactPoint) → o ≡ result_ok r → IfOk r (λ s. IsSegment s.0 × HasEnds s.0 p q) → IfOk r (λ s. IsSupportOf s.0 s.1) → IsTold o p q
segment_told o r p q e h k = subst (λ (x : Option Placed). IsTold x p q) (sym e) (some_told r p q h k)

pub is_none : {X : Type 0} (o : Option X) → IsNone o → o ≡ None
is_none None h = refl
is_none (Some s) h = cc
