-- What stands at a place of a list.
use Rattle.std.proofs.Common.{◌≡◌, ℕ, List, Some, None}
use Rattle.std.specs.Prelude.{Contains, slice_get}
use Rattle.std.proofs.lemmas.Option.{slice_get_within, get_or_from_slice_get}

pub some_is : {X : Type 0} {s t : X} → Some s ≡ Some t → s ≡ t
some_is e = cc

pub none_is : {X : Type 0} {t : X} → None ≡ Some t → ⊥
none_is e = cc

pub has_at : {X : Type 0} (xs : List X) (i : ℕ) (x : X) → slice_get xs i ≡ Some x → Contains xs x
has_at xs i x e = (i, slice_get_within xs i x e, get_or_from_slice_get xs i x x e)
