-- The order of the program's points, which are in lowest terms, is that of their places.
use Rattle.std.proofs.Common.{ℕ, ◌<◌, List, length, get_or, arith}
use Rattle.std.specs.Prelude.{All, AllPairs}
use Rattle.std.proofs.lemmas.List.Elements.{All-get_or}
use Rattle.exact.specs.Plane.{ExactPoint, SamePoint, Before, IsPointCanonical, IsPointRepresentable}
use Rattle.chains.specs.Chains.{Ascends}
use Rattle.plane.specs.Order.{point_cmp}
use Rattle.plane.proofs.callers.Orders.{point_less}

-- a list that ascends as the program compares ascends
pub ascends_before : (vs : List ExactPoint) → All IsPointCanonical vs → Ascends point_cmp vs → AllPairs Before vs
ascends_before vs c up i j d h l = (point_less (get_or vs i d) (get_or vs j d) (All-get_or IsPointCanonical vs i d (lt_trans i j h l) c) (All-get_or IsPointCanonical vs j d l c)).0 (up i j d h l)
  where
    lt_trans : (i j : ℕ) → i < j → j < length vs → i < length vs
    lt_trans i j h l = omega arith

-- a point that stands in the list by other numbers can be held
pub same_held : (v w : ExactPoint) → SamePoint v w → IsPointCanonical w → IsPointRepresentable v
same_held v w s c = ((w.x, s.x, c.0), (w.y, s.y, c.1))
