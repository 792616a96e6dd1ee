-- The text of a point: the texts of its numbers, with a comma between.
use Rattle.std.specs.Prelude.{ℕ, List, ◌∷◌, ◌++◌}
use Rattle.exact.specs.Plane.{ExactPoint}
use Rattle.qroot2.specs.Text.{number_text}

abbrev pub point_text : ExactPoint → List ℕ
point_text p = number_text p.x ++ 44 ∷ number_text p.y
