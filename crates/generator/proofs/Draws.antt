-- The numbers of a drawing, one after another, and that they give one drawing.
use Rattle.std.proofs.Common.{◌≡◌, ℕ, List, ◌%◌, ap, sym, ◌∙◌, arith, inl, inr}
use Rattle.std.specs.Prelude.{Option, None, Some, IfSome, ◌<◌}
use Rattle.exact.specs.Number.{ExactNumber}
use Rattle.exact.specs.Plane.{ExactPoint}
use Rattle.exact.proofs.Unique.{unique}
use Rattle.exact.proofs.Told.{same_on}
use Rattle.exact.proofs.Order.{same_turned}
use Rattle.edits.specs.declared.edit.Edit.{Edit}
use Rattle.edits.specs.declared.edit.Edit.TheVariants as edit
use Rattle.dialogue.specs.declared.command.Change.{Change}
use Rattle.dialogue.specs.declared.command.Change.TheVariants as change
use Rattle.dialogue.specs.declared.command.Command.{Command}
use Rattle.dialogue.specs.declared.command.Command.TheVariants as command
use Rattle.qroot2.proofs.callers.Held.{both_same}
use Rattle.generator.specs.Turns.{IsPoint, IsStroke, IsDrawn, IsTurnChange, IsTurn, next_state, number, colour}

pub drawn : (s t u v w c i j l k : ℕ) (e : Edit) → t ≡ next_state s → u ≡ next_state t → v ≡ next_state u → w ≡ next_state v
    → c ≡ number 1 s % 2 → i ≡ number 1 t % 17 → j ≡ number 1 u % 17 → l ≡ number 1 v % 16 → k ≡ number 1 w % 16
    → IsStroke c i j l k e → IsDrawn s e
drawn s t u v w c i j l k e ft fu fv fw fc fi fj fl fk h = rw (fc, fi, fj, fl, fk, fw, fv, fu, ft) at h

-- the direction of a number
pub numbered : (o : Option ℕ) (d k : ℕ) → o ≡ Some d → IfSome o (λ x. (x ≡ k) × (k < 16)) → d ≡ k
numbered o d k e h = (rw e at h).0

abbrev made : ExactNumber → ExactNumber → ExactPoint
made x y = record { x = x; y = y }

-- there is one point in lowest terms
point_one : (e p q : ExactPoint) → IsPoint e p → IsPoint e q → p ≡ q
point_one e p q h k = both_same made p.x q.x p.y q.y
    (unique p.x q.x h.canonical.0 k.canonical.0 (same_on p.x e.x q.x h.same.x (same_turned q.x e.x k.same.x)))
    (unique p.y q.y h.canonical.1 k.canonical.1 (same_on p.y e.y q.y h.same.y (same_turned q.y e.y k.same.y)))

drawing_one : (s : ℕ) (d e : Edit) → IsDrawn s d → IsDrawn s e → d ≡ e
drawing_one s d e h k =
    h.4 ∙ both_same (edit.Draw (colour (number 1 s % 2))) h.0 k.0 h.1 k.1 (point_one _ h.0 k.0 h.2 k.2) (point_one _ h.1 k.1 h.3 k.3) ∙ sym k.4

change_one : (s : ℕ) (c d : Change) (m n : ℕ) → IsTurnChange s c m → IsTurnChange s d n → (c ≡ d) × (m ≡ n)
change_one s c d m n (inl h) (inl k) = (h.1 ∙ sym k.1, h.2 ∙ sym k.2)
change_one s c d m n (inl h) (inr (inl k)) = absurd (omega (arith, h.0, k.0))
change_one s c d m n (inl h) (inr (inr k)) = absurd (omega (arith, h.0, k.0))
change_one s c d m n (inr (inl h)) (inl k) = absurd (omega (arith, h.0, k.0))
change_one s c d m n (inr (inl h)) (inr (inl k)) = (h.1 ∙ sym k.1, h.2 ∙ sym k.2)
change_one s c d m n (inr (inl h)) (inr (inr k)) = absurd (omega (arith, h.0, k.0))
change_one s c d m n (inr (inr h)) (inl k) = absurd (omega (arith, h.0, k.0))
change_one s c d m n (inr (inr h)) (inr (inl k)) = absurd (omega (arith, h.0, k.0))
change_one s c d m n (inr (inr h)) (inr (inr k)) =
    (h.1.2 ∙ ap change.Edit (drawing_one (next_state s) h.1.0 k.1.0 h.1.1 k.1.1) ∙ sym k.1.2, h.2 ∙ sym k.2)

pub turn_one : (name : List ℕ) (s : ℕ) (c d : Command) (m n : ℕ) → IsTurn name s c m → IsTurn name s d n → (c ≡ d) × (m ≡ n)
turn_one name s c d m n h k =
    let one = change_one s h.0 k.0 m n h.1 k.1 in
    (h.2 ∙ ap (λ made. command.Change name None made) one.0 ∙ sym k.2, one.1)
