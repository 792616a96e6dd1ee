-- What was taken so far, and what one more take gave.
use Rattle.std.proofs.Common.{ℕ, List, ◌++◌, take}
use Rattle.std.specs.Prelude.{Option, Ok}
use Rattle.ports.specs.Streams.{Takes}
use Rattle.ports.specs.Taken.{Gave}
use Rattle.ports.proofs.callers.Taken.{gave_more, take_gave}

pub took_more : (E : Type 0) (old mid new : Option (List ℕ)) (got buf_old buf_new : List ℕ) (count : ℕ)
    → Gave old mid got → Takes {E = E} mid new buf_old buf_new (Ok count)
    → Gave old new (got ++ take count buf_new)
took_more E old mid new got a b n p q = gave_more old mid new got (take n b) p (take_gave E mid new a b n q)
