-- What halving an angle answers.
use Rattle.std.proofs.Common.{◌≡◌, ℕ, Result, Err, refl, inl, inr, arith}
use Rattle.exact.specs.Plane.{ExactPoint, ExactSegment}
use Rattle.sheet.specs.Sheet.{InSheet}
use Rattle.sheet.specs.Pattern.{ExactPattern}
use Rattle.qroot2.specs.Dir.{IsAngle, IsMiddle, HasOddAngle}
use Rattle.edits.specs.Extend.{Extension}
use Rattle.edits.specs.Bisect.{HasRay, Bisector}
use Rattle.edits.specs.declared.refusal.EditBad.{EditBad}
use Rattle.edits.specs.declared.refusal.EditBad.TheVariants as bad

one_angle : (i j n m : ℕ) → IsAngle i j n → IsAngle i j m → n ≡ m
one_angle i j n m h l = omega (arith, h.some, h.small, h.leads, l.some, l.small, l.leads)

not_odd : (i j k : ℕ) → IsMiddle i j k → ¬ HasOddAngle i j
not_odd i j k h o = (let e = one_angle i j h.0 o.0 h.1 o.1 in omega (arith, e, h.2, o.2))

pub halves_outside : (pattern : ExactPattern) (start : ExactPoint) (i j : ℕ) → ¬ InSheet pattern.sheet start → Bisector pattern start i j (Err bad.Outside)
halves_outside pattern start i j n = inl (n, refl)

pub halves_no_first : (pattern : ExactPattern) (start : ExactPoint) (i j : ℕ) → InSheet pattern.sheet start → ¬ HasRay pattern start i → Bisector pattern start i j (Err (bad.NoRay i))
halves_no_first pattern start i j h n = inr (λ m. m h, inl (n, refl))

pub halves_no_second : (pattern : ExactPattern) (start : ExactPoint) (i j : ℕ) → InSheet pattern.sheet start → HasRay pattern start i → ¬ HasRay pattern start j → Bisector pattern start i j (Err (bad.NoRay j))
halves_no_second pattern start i j h f n = inr (λ m. m h, inr (λ m. m f, inl (n, refl)))

pub halves_odd : (pattern : ExactPattern) (start : ExactPoint) (i j : ℕ) → InSheet pattern.sheet start → HasRay pattern start i → HasRay pattern start j → HasOddAngle i j → Bisector pattern start i j (Err bad.OddAngle)
halves_odd pattern start i j h f s o = inr (λ m. m h, inr (λ m. m f, inr (λ m. m s, inl (o, refl))))

pub halves : (pattern : ExactPattern) (start : ExactPoint) (i j k : ℕ) (r : Result ExactSegment EditBad) → InSheet pattern.sheet start → HasRay pattern start i → HasRay pattern start j → IsMiddle i j k → Extension pattern start k r → Bisector pattern start i j r
halves pattern start i j k r h f s m e = inr (λ n. n h, inr (λ n. n f, inr (λ n. n s, inr (not_odd i j k m, (k, m, e)))))
