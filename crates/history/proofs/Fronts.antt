-- What stands at the front of a list.
use Rattle.std.proofs.Common.{◌≡◌, ◌<◌, List, [], ◌∷◌, length, slice_index_or, sym, ap, arith}
use Rattle.pattern.specs.declared.delta.Delta.{Delta}
use Rattle.history.specs.Histories.{IsFirst}

pub read_first : (deltas : List Delta) (delta : Delta) → 0 < length deltas → delta ≡ slice_index_or deltas 0 delta → IsFirst deltas delta
read_first [] delta l e = absurd (omega (arith, l))
read_first (x ∷ xs) delta l e = (xs, ap (λ (d : Delta). d ∷ xs) (sym e))
