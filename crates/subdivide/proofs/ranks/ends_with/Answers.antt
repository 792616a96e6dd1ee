use Rattle.std.proofs.Common.{◌≡◌, ◌↔◌, Bool, true, sym, ap, ◌∙◌}
use Rattle.std.specs.Prelude.{Option, Some}
use Rattle.std.specs.Option.{option_copied}
use Rattle.std.proofs.lemmas.Option.{same_Some}
use Rattle.exact.specs.Plane.{ExactPoint}
use Rattle.subdivide.proofs.ranks.ends_with.Goals as goal

-- what a test of the last point tells of it
told : (b : Bool) (o : Option ExactPoint) (p q : ExactPoint) → Some p ≡ o → (b ≡ true) ↔ (p ≡ q) → (b ≡ true) ↔ (o ≡ Some q)
told b o p q e t = (λ h. sym e ∙ ap (λ z. Some z) (t.0 h), λ h. t.1 (same_Some p q (e ∙ h)))

pub returns-in-Some : goal.returns-in-Some
returns-in-Some c = told _ _ c.in-Some.last.now c.args.at.now (ap option_copied (sym c.in-Some.is) ∙ c.last.ensures.value) c.is_same_point.ensures.equal
