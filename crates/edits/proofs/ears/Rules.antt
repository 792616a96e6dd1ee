-- The rules of a rabbit ear for its corners, by the directions of the sides.
use Rattle.std.proofs.Common.{◌≡◌, ℕ, ◌<◌, List, refl, subst, ◌⊎◌, inl, inr, arith}
use Rattle.std.specs.Prelude.{◌↔◌, Result, Err}
use Rattle.exact.specs.Plane.{ExactPoint, SamePoint, DirOf, IsPointRepresentable, vector}
use Rattle.sheet.specs.Sheet.{ExactSheet, InSheet}
use Rattle.sheet.specs.Pattern.{ExactCrease}
use Rattle.sheet.specs.declared.mark.Mark.{Mark}
use Rattle.qroot2.specs.Dir.{HasOddAngle}
use Rattle.geometry.proofs.Gap.{straight, above_num}
use Rattle.geometry.proofs.Directions.{vector_whole}
use Rattle.geometry.proofs.Found.{turn_on}
use Rattle.geometry.proofs.Parallels.{one_dir}
use Rattle.geometry.proofs.HalfAngles.{back}
use Rattle.geometry.proofs.Leads.{opposite_dir}
use Rattle.plane.specs.Sides.{IsOnLine}
use Rattle.plane.specs.Triangles.{IsOddCorner, AreOnOneLine, IsIncentre, IsFootBetween}
use Rattle.plane.proofs.callers.Triangles.{AreApart, other_way}
use Rattle.edits.specs.Rules.{Gives, Unless}
use Rattle.edits.specs.RabbitEar.{AreNotThree, AreAllJoined, IsNoMolecule, IsEar, EarOf}
use Rattle.edits.specs.Foldable.{HasSides, HasOddTurn, IsFoldable}
use Rattle.edits.specs.declared.refusal.EditBad.{EditBad}
use Rattle.edits.specs.declared.refusal.EditBad.TheVariants as bad
use Rattle.edits.specs.declared.refusal.PointKind.TheVariants as point
use Rattle.edits.proofs.ears.Creases.{dir_joined}

one_line : (p q r : ExactPoint) (i : ℕ) → DirOf p q i → IsOnLine p i r ↔ AreOnOneLine p q r
one_line p q r i h =
    let s = straight (vector i) p q r h.0 (vector_whole i) (above_num h.0 h.1) h.2 in
    (λ l. s.1 ((turn_on i p r).0 l).on, λ l. (turn_on i p r).1 (record { on = s.0 l }))

odd_corner : (o a b : ExactPoint) (f s : ℕ) → f < 16 → s < 16 → DirOf o a f → DirOf o b s → ¬ SamePoint o a → ¬ SamePoint o b → HasOddAngle f s ↔ IsOddCorner o a b
odd_corner o a b f s p q first second na nb = (
  λ h. (f, s, record { first_small = p; second_small = q; first_leads = first; second_leads = second }, h),
  λ h. (
      let i : h.0 ≡ f = one_dir o a h.0 f na h.2.first_small p h.2.first_leads first in
      let j : h.1 ≡ s = one_dir o b h.1 s nb h.2.second_small q h.2.second_leads second in
      subst (λ z. HasOddAngle f z) j (subst (λ z. HasOddAngle z h.1) i h.3)),
)

pub apart : (p q r : ExactPoint) → ¬ AreNotThree p q r → AreApart p q r
apart p q r n = record { pq = λ s. n (inl s); qr = λ s. n (inr (inl s)); rp = λ s. n (inr (inr s)) }

-- the rule of the molecule, by the directions of the sides
pub molecule_told : (p q r : ExactPoint) (i j m : ℕ) → ¬ AreNotThree p q r → HasSides p q r i j m → (IsOnLine p i r ⊎ (HasOddTurn i m ⊎ (HasOddTurn j i ⊎ HasOddTurn m j))) ↔ IsNoMolecule p q r
molecule_told p q r i j m n h = (
  λ x. elim x [ inl l ↦ inl (line.0 l) | inr y ↦ inr (elim y [ inl o ↦ inl (at_p.0 o) | inr z ↦ inr (elim z [ inl o ↦ inl (at_q.0 o) | inr o ↦ inr (at_r.0 o) ]) ]) ],
  λ x. elim x [ inl l ↦ inl (line.1 l) | inr y ↦ inr (elim y [ inl o ↦ inl (at_p.1 o) | inr z ↦ inr (elim z [ inl o ↦ inl (at_q.1 o) | inr o ↦ inr (at_r.1 o) ]) ]) ],
)
  where
    a : AreApart p q r
    a = apart p q r n

    line : IsOnLine p i r ↔ AreOnOneLine p q r
    line = one_line p q r i h.pq

    at_p : HasOddTurn i m ↔ IsOddCorner p q r
    at_p = odd_corner p q r i (back m) h.i_small (omega arith) h.pq (opposite_dir r p m h.m_small h.rp) a.pq (other_way r p a.rp)

    at_q : HasOddTurn j i ↔ IsOddCorner q r p
    at_q = odd_corner q r p j (back i) h.j_small (omega arith) h.qr (opposite_dir p q i h.i_small h.pq) a.qr (other_way p q a.pq)

    at_r : HasOddTurn m j ↔ IsOddCorner r p q
    at_r = odd_corner r p q m (back j) h.m_small (omega arith) h.rp (opposite_dir q r j h.j_small h.qr) a.rp (other_way q r a.qr)

pub sides_joined : (p q r : ExactPoint) (i j m : ℕ) → HasSides p q r i j m → AreAllJoined p q r
sides_joined p q r i j m h = (dir_joined p q i h.i_small h.pq, dir_joined q r j h.j_small h.qr, dir_joined r p m h.m_small h.rp)

-- the refusals for the corners
pub outside : (sheet : ExactSheet) (p q r : ExactPoint) → ¬ (InSheet sheet p × InSheet sheet q × InSheet sheet r) → (mark : Mark) → EarOf sheet mark p q r (Err bad.Outside)
outside sheet p q r n mark = inl (n, refl)

pub not_three : (sheet : ExactSheet) (p q r : ExactPoint) → InSheet sheet p × InSheet sheet q × InSheet sheet r → AreNotThree p q r → (mark : Mark) → EarOf sheet mark p q r (Err bad.SamePoint)
not_three sheet p q r here b mark = inr (λ n. n here, inl (b, refl))

pub not_joined : (sheet : ExactSheet) (p q r : ExactPoint) → InSheet sheet p × InSheet sheet q × InSheet sheet r → ¬ AreNotThree p q r → ¬ AreAllJoined p q r → (mark : Mark) → EarOf sheet mark p q r (Err bad.NotDirection)
not_joined sheet p q r here three b mark = inr (λ n. n here, inr (three, inl (b, refl)))

pub no_molecule : (sheet : ExactSheet) (p q r : ExactPoint) → InSheet sheet p × InSheet sheet q × InSheet sheet r → ¬ AreNotThree p q r → AreAllJoined p q r → IsNoMolecule p q r → (mark : Mark) → EarOf sheet mark p q r (Err bad.NoMolecule)
no_molecule sheet p q r here three joined b mark = inr (λ n. n here, inr (three, inr (λ n. n joined, inl (b, refl))))

-- what is left where no rule for the corners is broken
abbrev pub EarRest : Mark → ExactPoint → ExactPoint → ExactPoint → Result (List ExactCrease) EditBad → Type 0
EarRest m p q r =
    Unless ((c : ExactPoint) × IsIncentre p q r c × (¬ IsPointRepresentable c)) (bad.Range point.Incentre)
    (Unless ((c f : ExactPoint) × IsIncentre p q r c × IsFootBetween p q c f × (¬ IsPointRepresentable f)) (bad.Range point.Foot)
    (Gives (IsEar m p q r)))

pub rules_kept : (sheet : ExactSheet) (m : Mark) (p q r : ExactPoint) (answer : Result (List ExactCrease) EditBad) → IsFoldable sheet p q r → EarRest m p q r answer → EarOf sheet m p q r answer
rules_kept sheet m p q r answer h rest = inr (λ n. n h.in_sheet, inr (h.molecule.three, inr (λ n. n h.joined, inr (h.molecule.even, rest))))
