-- What crates above take over.
use Rattle.std.proofs.Common.{◌≡◌, Some, subst}
use Rattle.std.specs.Prelude.{Option, IfSome}

-- what holds of an answer, if there is one, holds of the answer
pub some_gives : {X : Type 0} (P : X → Type 0) (found : Option X) (x : X) → found ≡ Some x → IfSome found P → P x
some_gives P found x e h = subst (λ r. IfSome r P) e h
