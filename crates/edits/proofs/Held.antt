-- A point that can be held can be held by other numbers of the same values.
use Rattle.exact.specs.Plane.{ExactPoint, SamePoint, IsPointCanonical, IsPointRepresentable}
use Rattle.exact.proofs.Order.{same_turned}

pub point_held : (p q : ExactPoint) → SamePoint p q → IsPointCanonical p → IsPointRepresentable q
point_held p q s c = ((p.x, same_turned p.x q.x s.x, c.0), (p.y, same_turned p.y q.y s.y, c.1))
