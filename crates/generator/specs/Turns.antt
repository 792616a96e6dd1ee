-- The turns of a generator: the numbers that it draws, and the command that a turn makes of them.
use Rattle.std.specs.Prelude.{◌≡◌, ℕ, zero, suc, ◌+◌, ◌*◌, ◌/◌, ◌%◌, ◌^◌, ◌<◌, ◌⊎◌, List, pos, None}
use Rattle.exact.specs.Number.{ExactNumber, add, mul}
use Rattle.exact.specs.Plane.{ExactPoint, SamePoint, IsPointCanonical, vector}
use Rattle.sheet.specs.declared.colour.Colour.{Colour}
use Rattle.sheet.specs.declared.colour.Colour.TheVariants.{M, V}
use Rattle.edits.specs.declared.edit.Edit.{Edit}
use Rattle.edits.specs.declared.edit.Edit.TheVariants as edit
use Rattle.dialogue.specs.declared.command.Change.{Change}
use Rattle.dialogue.specs.declared.command.Change.TheVariants as change
use Rattle.dialogue.specs.declared.command.Command.{Command}
use Rattle.dialogue.specs.declared.command.Command.TheVariants as command

-- the state that follows a state
abbrev pub next_state : ℕ → ℕ
next_state s = (s * 6364136223846793005 + 1442695040888963407) % 2 ^ 64

-- the state after so many draws
abbrev pub after : ℕ → ℕ → ℕ
after zero s = s
after (suc n) s = next_state (after n s)

-- what the n-th draw gives, counted from 1
abbrev pub number : ℕ → ℕ → ℕ
number n s = after n s / 2 ^ 33

-- 0 is a mountain, and 1 a valley
abbrev pub colour : ℕ → Colour
colour zero = M
colour (suc n) = V

-- n / 16
abbrev pub sixteenths : ℕ → ExactNumber
sixteenths n = record { a = pos n; b = pos 0; d = 16 }

-- the point (i / 16, j / 16)
abbrev pub start : ℕ → ℕ → ExactPoint
start i j = record { x = sixteenths i; y = sixteenths j }

-- the point that lies n / 16 of the vector of direction k from a point
abbrev pub ahead : ℕ → ℕ → ExactPoint → ExactPoint
ahead n k p = record {
  x = add p.x (mul (sixteenths n) (vector k).x);
  y = add p.y (mul (sixteenths n) (vector k).y);
}

-- p is a point in lowest terms
pub record IsPoint (exact p : ExactPoint) : Type 0 where
  pub same : SamePoint p exact
  pub canonical : IsPointCanonical p

-- a drawing by the numbers c, i, j, l and k
abbrev pub IsStroke : (c i j l k : ℕ) → Edit → Type 0
IsStroke c i j l k drawing =
    (from to : ExactPoint) × IsPoint (start i j) from × IsPoint (ahead (l + 1) k (start i j)) to
    × (drawing ≡ edit.Draw (colour c) from to)

-- the drawing by the five draws from a state
abbrev pub IsDrawn : ℕ → Edit → Type 0
IsDrawn s = IsStroke (number 1 s % 2) (number 2 s % 17) (number 3 s % 17) (number 4 s % 16) (number 5 s % 16)

-- the change that a turn from a state makes, and the state after it
abbrev pub IsTurnChange : ℕ → Change → ℕ → Type 0
IsTurnChange s c next =
    ((number 1 s % 8 ≡ 6) × (c ≡ change.Undo) × (next ≡ after 1 s))
    ⊎ ((number 1 s % 8 ≡ 7) × (c ≡ change.Redo) × (next ≡ after 1 s))
    ⊎ ((number 1 s % 8 < 6)
    × ((drawing : Edit) × IsDrawn (after 1 s) drawing × (c ≡ change.Edit drawing)) × (next ≡ after 6 s))

-- the command of a turn for the project of this name
abbrev pub IsTurn : List ℕ → ℕ → Command → ℕ → Type 0
IsTurn name s c next = (made : Change) × IsTurnChange s made next × (c ≡ command.Change name None made)
