-- Points are cut to decimals in one way, and one after another.
use Rattle.std.proofs.Common.{◌≡◌, ℕ, suc, ◌+◌, ◌<◌, List, [], ◌∷◌, ◌++◌, length, take, get_or, refl, sym, subst, ap, ◌∙◌}
use Rattle.std.specs.Prelude.{ℤ, pos, ◌+ℤ◌, ◌≡◌}
use Rattle.std.proofs.lemmas.List.{take_more}
use Rattle.std.proofs.lemmas.Slice.Zip.{all_zipped_more}
use Rattle.std.proofs.lemmas.Int.{ints}
use Rattle.std.proofs.Common.{arith}
use Rattle.exact.specs.Number.{ExactNumber}
use Rattle.exact.specs.Plane.{ExactPoint}
use Rattle.exact.specs.Floor.{IsFloor}
use Rattle.decimals.specs.DecimalPoint.{IsDecimalPoint, AreDecimalPoints}
use Rattle.decimals.specs.declared.point.DecimalPoint.{DecimalPoint}
use Rattle.decimals.proofs.Floors.{floor_is_one}

same_units : (x : ExactNumber) (k l : ℤ) (origin : ℕ)
    → IsFloor x (k +ℤ pos origin) → IsFloor x (l +ℤ pos origin) → k ≡ l
same_units x k l origin p q =
    let e = floor_is_one x (k +ℤ pos origin) (l +ℤ pos origin) p q in
    omega (arith, ints, e)

module _ (scale origin : ℕ) where
  point_is_one : (p : ExactPoint) (q r : DecimalPoint)
      → IsDecimalPoint scale origin p q → IsDecimalPoint scale origin p r → q ≡ r
  point_is_one p q r h k =
      let x = same_units _ q.x r.x origin h.x k.x in
      let y = same_units _ q.y r.y origin h.y k.y in
      ap (λ t. record { x = t; y = q.y }) x ∙ ap (λ t. record { x = r.x; y = t }) y

  pub points_are_one : (ps : List ExactPoint) (qs rs : List DecimalPoint)
      → AreDecimalPoints scale origin ps qs → AreDecimalPoints scale origin ps rs → qs ≡ rs
  points_are_one [] [] [] h k = refl
  points_are_one [] [] (r ∷ rs) h k = absurd k
  points_are_one [] (q ∷ qs) rs h k = absurd h
  points_are_one (p ∷ ps) [] rs h k = absurd h
  points_are_one (p ∷ ps) (q ∷ qs) [] h k = absurd k
  points_are_one (p ∷ ps) (q ∷ qs) (r ∷ rs) h k =
      ap (λ t. t ∷ qs) (point_is_one p q r h.0 k.0) ∙ ap (λ ts. r ∷ ts) (points_are_one ps qs rs h.1 k.1)

  pub points_length : (ps : List ExactPoint) (qs : List DecimalPoint)
      → AreDecimalPoints scale origin ps qs → length qs ≡ length ps
  points_length [] [] h = refl
  points_length [] (q ∷ qs) h = absurd h
  points_length (p ∷ ps) [] h = absurd h
  points_length (p ∷ ps) (q ∷ qs) h = ap suc (points_length ps qs h.1)

  pub points_more : (ps : List ExactPoint) (qs more : List DecimalPoint) (i : ℕ) (p : ExactPoint)
      → (q : DecimalPoint) → i < length ps → p ≡ get_or ps i p → more ≡ qs ++ q ∷ []
      → AreDecimalPoints scale origin (take i ps) qs → IsDecimalPoint scale origin p q
      → AreDecimalPoints scale origin (take (i + 1) ps) more
  points_more ps qs more i p q l e f h k =
      subst (AreDecimalPoints scale origin (take (i + 1) ps)) (sym f)
      (subst (λ xs. AreDecimalPoints scale origin xs (qs ++ q ∷ []))
      (ap (λ x. take i ps ++ x ∷ []) e ∙ sym (take_more ps i p l))
      (all_zipped_more (IsDecimalPoint scale origin) (take i ps) qs p q h k))
