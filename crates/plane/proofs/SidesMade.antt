-- The sides of the sheet as segments that the program makes.
use Rattle.std.proofs.Common.{◌≡◌, ◌≤◌, ℕ, to_z, of_z, Option, Some, None, refl, sym, subst, arith}
use Rattle.std.specs.Prelude.{IsSome, IfNone, IfSome, ℤ, pos}
use Rattle.std.specs.Int.{w128}
use Rattle.std.proofs.lemmas.Int.{to_z-of_z, fits_signed_from_abs}
use Rattle.exact.specs.Number.{ExactNumber, Same, IsCanonical, IsRepresentable, whole}
use Rattle.exact.specs.Plane.{ExactPoint, ExactSegment, IsSegment}
use Rattle.exact.proofs.Unique.{unique}
use Rattle.geometry.specs.Meeting.{Along}
use Rattle.plane.proofs.callers.Sides.{whole_canonical}

whole_held : (n : ℕ) → n ≤ 8 → IsRepresentable (whole n)
whole_held n h = (whole n, record { a = refl; b = refl }, whole_canonical n h)

-- such a number in 128 bits
pub wide_is : (n : ℕ) (r : ℤ) → n ≤ 8 → r ≡ pos n → to_z w128 (of_z w128 r) ≡ pos n
wide_is n r h e = rw e (to_z-of_z w128 (pos n) (fits_signed_from_abs w128 (pos n) (omega arith)))

pub makes_number : (n : ℕ) (r : Option ExactNumber) (a : ℤ) → n ≤ 8 → a ≡ pos n → IfNone r (¬ IsRepresentable (record { a = a; b = pos 0; d = 1 })) → IsSome r
makes_number n None a h e f = absurd (f (subst (λ z. IsRepresentable (record { a = z; b = pos 0; d = 1 })) (sym e) (whole_held n h)))
makes_number n (Some x) a h e f = refl

pub number_is : (n : ℕ) (x : ExactNumber) (a : ℤ) → n ≤ 8 → a ≡ pos n → Same x (record { a = a; b = pos 0; d = 1 }) × IsCanonical x → x ≡ whole n
number_is n x a h e s = unique x (whole n) s.1 (whole_canonical n h) (subst (λ z. Same x (record { a = z; b = pos 0; d = 1 })) e s.0)

pub side_segment : (k : ℕ) (p q p' q' : ExactPoint) → p ≡ p' → q ≡ q' → (let s : ExactSegment = record { p = p'; q = q' } in Along s k) → (let s : ExactSegment = record { p = p; q = q } in IsSegment s)
side_segment k p q p' q' e f a = rw (e, f) (a.ordered, (k, a.small, a.dir))
