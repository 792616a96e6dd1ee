-- How a crimp is undone in an order.
use Rattle.std.specs.Prelude.{◌≡◌, ℕ, ◌+◌, ◌%◌, List}
use Rattle.std.specs.List.{insert}
use Rattle.sheet.specs.declared.mark.Mark.{Mark}
use Rattle.sheet.specs.declared.mark.Mark.TheVariants as mark
use Rattle.layers.specs.LayerOrder.{height}

-- sector p is below the next one, whose crease has this mark
abbrev pub IsUp : ℕ → Mark → Type 0
IsUp p mark.V = p % 2 ≡ 0
IsUp p mark.M = p % 2 ≡ 1

-- p becomes p, q, r from below, or r, q, p
abbrev pub undone_up : List ℕ → ℕ → ℕ → ℕ → List ℕ
undone_up order p q r = insert (insert order (height order p + 1) q) (height order p + 2) r

abbrev pub undone_down : List ℕ → ℕ → ℕ → ℕ → List ℕ
undone_down order p q r = insert (insert order (height order p) r) (height order p + 1) q
