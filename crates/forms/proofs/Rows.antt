-- Marks as code computes them, and the rows in which they stand.
use Rattle.std.proofs.Common.{◌≡◌, ℕ, ◌%◌, List, [], ◌∷◌, w32, to_z, of_z, arith, sym, subst, ◌∙◌, inl, inr}
use Rattle.std.specs.Prelude.{ℤ}
use Rattle.std.proofs.lemmas.Bool.{cases_order}
use Rattle.std.proofs.lemmas.Int.{to_z-of_z}
use mir.Val.{SFits}
use Rattle.exact.specs.Number.{ExactNumber, mul, whole}
use Rattle.exact.specs.Plane.{ExactPoint}
use Rattle.exact.specs.Floor.{IsFloor}
use Rattle.qroot2.specs.Wide.{Pair}
use Rattle.plane.specs.Ways.{root, offset_of}
use Rattle.forms.specs.Forms.{form_of, IsLifted}
use Rattle.forms.specs.Marks.{IsMark, AreMarks, mark_in, nearest}
use Rattle.forms.proofs.Floors.{floor_same}
use Rattle.forms.proofs.Lifts.{form_made, same_scaled}

pub mark_made : (n k : ℕ) (p : ExactPoint) (x y f : Pair) (w : ℕ) (r m : ℤ) → IsLifted p x y w → root f ≡ offset_of k (root x) (root y)
    → (let q : ExactNumber = record { a = f.a; b = f.b; d = w } in IsFloor (mul (whole n) q) r) → m ≡ nearest r → IsMark n k p m
mark_made n k p x y f w r m h e g s = (let q : ExactNumber = record { a = f.a; b = f.b; d = w } in
    (r, floor_same (mul (whole n) q) (mul (whole n) (form_of k p)) r (same_scaled n q (form_of k p) (form_made k p x y f w h e)) g, s))

-- a mark that passed through a call
pub passed_mark : (n k : ℕ) (p : ExactPoint) (m : ℤ) → SFits w32 m → IsMark n k p m → IsMark n k p (to_z w32 (of_z w32 m))
passed_mark n k p m f h = (h.0, h.1, to_z-of_z w32 m f ∙ h.2)

pub rows_made : (n : ℕ) (p : ExactPoint) (a b c d e f g h : ℤ) → IsMark n 0 p a → IsMark n 1 p b → IsMark n 2 p c → IsMark n 3 p d → IsMark n 4 p e → IsMark n 13 p f → IsMark n 14 p g → IsMark n 15 p h
    → AreMarks n p (a ∷ b ∷ c ∷ d ∷ e ∷ f ∷ g ∷ h ∷ [])
rows_made n p a b c d e f g h ra rb rc rd re rf rg rh = λ k x. elim x.1 [
  | inl l ↦ elim (cases_order k 2) [
    | inl q ↦ at k 2 q rc
    | inr o ↦ elim o [
      | inl u ↦ elim (cases_order k 1) [ inl q ↦ at k 1 q rb | inr v ↦ at k 0 (omega (arith, u, v)) ra ]
      | inr u ↦ elim (cases_order k 3) [ inl q ↦ at k 3 q rd | inr v ↦ at k 4 (omega (arith, l, u, v)) re ]
    ]
  ]
  | inr l ↦ elim (cases_order k 14) [
    | inl q ↦ at k 14 q rg
    | inr o ↦ elim o [ inl u ↦ at k 13 (omega (arith, l, u)) rf | inr u ↦ at k 15 (omega (arith, x.0, u)) rh ]
  ]
]
  where
    rows : List ℤ
    rows = a ∷ b ∷ c ∷ d ∷ e ∷ f ∷ g ∷ h ∷ []

    at : (k j : ℕ) → k ≡ j → IsMark n j p (mark_in rows (j % 8)) → IsMark n k p (mark_in rows (k % 8))
    at k j q r = subst (λ i. IsMark n i p (mark_in rows (i % 8))) (sym q) r
