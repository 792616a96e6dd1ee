-- Rules 3 to 5 of a layer order, over any set of sectors and creases.
-- A sector has a number, and a crease has the number of the sector that it begins.
use Rattle.std.specs.Prelude.{◌≡◌, ◌≢◌, ℕ, ◌%◌, ◌↔◌, ℤ}
use Rattle.sheet.specs.declared.mark.Mark.{Mark}
pub use Rattle.layers.specs.LayerOrder.{Between, Inside, AgreesAt, Agrees}

-- Sector a ends at crease b, where sector b begins, for each Link a b. Here are the sectors that
-- are in the order, rank is their height in it, and x has the places of the creases. So sector a
-- spans the places from x a to x b.
pub record Rules (Here : ℕ → Type 0) (Link : ℕ → ℕ → Type 0) (x : ℕ → ℤ) (mark : ℕ → Mark)
    (rank : ℕ → ℕ) : Type 0 where
  pub apart : (a b : ℕ) → Here a → Here b → rank a ≡ rank b → a ≡ b
  pub agrees : (a b : ℕ) → Link a b → Here a → Here b → Agrees (mark b) a b rank
  pub clear : (a b c d : ℕ) → Link a b → Here a → Here b → Link c d → Here c → Inside (x b) (x c) (x d)
      → Between (rank c) (rank a) (rank b) → ⊥
  pub nested : (a b c d : ℕ) → Link a b → Here a → Here b → Link c d → Here c → Here d → b ≢ d → x b ≡ x d
      → b % 2 ≡ d % 2 → (Between (rank c) (rank a) (rank b) ↔ Between (rank d) (rank a) (rank b))
