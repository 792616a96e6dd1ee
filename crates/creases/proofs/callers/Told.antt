-- What tests tell.
use Rattle.std.proofs.Common.{◌≡◌, Bool, List, true, false, refl, sym, subst, ap, ◌∙◌, rules}
use Rattle.std.specs.Prelude.{◌↔◌, IsTrue, not, Contains}
use denote.Enum.Bare.{sameb, same_true}
use Rattle.exact.specs.Plane.{ExactSegment}
use Rattle.sheet.specs.Pattern.{ExactCrease}
use Rattle.sheet.specs.declared.colour.Colour.{Colour}
use Rattle.sheet.specs.contracts.Colour.{the_type}
use Rattle.creases.specs.Standing.{AreStanding}
use Rattle.creases.proofs.callers.Members.{one_on_segment, colour_itself}

-- the opposite of a test
pub answers_other : (b : Bool) (P Q : Type 0) → IsTrue b ↔ P → ((¬ P) → Q) → (Q → ¬ P) → IsTrue (not b) ↔ Q
answers_other true P Q i f g = (λ h. cc, λ q. absurd (g q (i.0 refl)))
answers_other false P Q i f g = (λ h. f (λ p. (let k = i.1 p in cc)), λ q. refl)

-- the colour that stands at the segment decides
pub has_told : (xs : List ExactCrease) (f : ExactCrease) (s : ExactSegment) (c k : Colour) (r : Bool) → AreStanding xs → (let g : ExactCrease = record { seg = s; colour = k } in g) ≡ f → Contains xs (record { seg = s; colour = c }) → r ≡ sameb the_type c k → IsTrue r ↔ Contains xs f
has_told xs f s c k r p e h q = (
  λ t. subst (Contains xs) e (subst (λ x. Contains xs (record { seg = s; colour = x })) (same_true the_type (search rules) c k (sym q ∙ t)) h),
  λ m. q ∙ subst (λ x. sameb the_type c x ≡ true) (ap (λ (g : ExactCrease). g.colour) (one_on_segment xs (record { seg = s; colour = c }) (record { seg = s; colour = k }) p.ordered h (subst (Contains xs) (sym e) m) refl)) (colour_itself c),
)
