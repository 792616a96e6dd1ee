-- The target of a request: a path, and a query behind the first question mark.
use Rattle.std.specs.Prelude.{ℕ, List}
use Rattle.routes.specs.Cuts.{IsSplit}

-- the path up to the first question mark (63), and the query behind it; without one all is path
abbrev pub IsTarget : List ℕ → List ℕ → List ℕ → Type 0
IsTarget target path query = IsSplit 63 target path query
