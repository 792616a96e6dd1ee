-- What is told of the sheet that a pattern gives is told of the pattern's sheet.
use Rattle.std.proofs.Common.{◌≡◌, ℕ, List, sym, subst}
use Rattle.std.specs.Prelude.{All, Result}
use Rattle.exact.specs.Plane.{ExactPoint, ExactSegment}
use Rattle.sheet.specs.Sheet.{ExactSheet, InSheet}
use Rattle.sheet.specs.Pattern.{ExactCrease, IsKey}
use Rattle.sheet.specs.declared.mark.Mark.{Mark}
use Rattle.plane.specs.Walls.{LeadsInside}
use Rattle.edits.specs.Ends.{EndsOf}
use Rattle.edits.specs.RabbitEar.{EarOf}
use Rattle.edits.specs.declared.refusal.EditBad.{EditBad}

pub within : {given sheet : ExactSheet} (p : ExactPoint) → given ≡ sheet → InSheet given p → InSheet sheet p
within p e h = subst (λ s. InSheet s p) e h

pub out_of : {given sheet : ExactSheet} (p : ExactPoint) → given ≡ sheet → ¬ InSheet given p → ¬ InSheet sheet p
out_of p e n h = n (within p (sym e) h)

pub inwards : {given sheet : ExactSheet} (p : ExactPoint) (k : ℕ) → given ≡ sheet → LeadsInside given p k → LeadsInside sheet p k
inwards p k e h = subst (λ s. LeadsInside s p k) e h

pub not_inwards : {given sheet : ExactSheet} (p : ExactPoint) (k : ℕ) → given ≡ sheet → ¬ LeadsInside given p k → ¬ LeadsInside sheet p k
not_inwards p k e n h = n (inwards p k (sym e) h)

pub ends_on : {given sheet : ExactSheet} (p q : ExactPoint) (r : Result ExactSegment EditBad) → given ≡ sheet → EndsOf given p q r → EndsOf sheet p q r
ends_on p q r e h = subst (λ s. EndsOf s p q r) e h

pub ear_on : {given sheet : ExactSheet} (m : Mark) (p q r : ExactPoint) (answer : Result (List ExactCrease) EditBad) → given ≡ sheet → EarOf given m p q r answer → EarOf sheet m p q r answer
ear_on m p q r answer e h = subst (λ s. EarOf s m p q r answer) e h

pub keys_on : {given sheet : ExactSheet} (xs : List ExactCrease) → given ≡ sheet → All (λ f. IsKey given f.seg) xs → All (λ f. IsKey sheet f.seg) xs
keys_on xs e h = subst (λ x. All (λ (f : ExactCrease). IsKey x f.seg) xs) e h
