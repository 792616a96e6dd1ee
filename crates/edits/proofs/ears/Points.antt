-- The incentre of a foldable triangle and the foot of that, as common points of two lines.
use Rattle.std.proofs.Common.{◌≡◌, ◌≢◌, ℕ, ◌+◌, ◌-◌, ◌%◌, ◌<◌, sym, inl, inr, arith}
use Rattle.std.specs.Prelude.{Option, Some, None, IfNone}
use Rattle.std.proofs.lemmas.Bool.{cases_order}
use Rattle.exact.specs.Plane.{ExactPoint, DirOf, IsPointRepresentable, vector}
use Rattle.qroot2.specs.Dir.{IsMiddle}
use Rattle.geometry.proofs.Found.{turn_on}
use Rattle.geometry.proofs.Lines.{on_back, on_trans}
use Rattle.geometry.proofs.Parallels.{dir_on, on_parallel}
use Rattle.geometry.proofs.HalfAngles.{axis, back}
use Rattle.plane.specs.Sides.{IsOnLine}
use Rattle.plane.proofs.callers.Imaged.{aside}
use Rattle.plane.proofs.callers.Crossed.{crossing, crossing_itself}
use Rattle.plane.specs.Triangles.{IsIncentre, IsFootBetween}
use Rattle.plane.proofs.callers.Incentres.{IsEvenTriangle, angle_of, incentre_of, middle_axis, middle_small, axes_meet}
use Rattle.edits.specs.Foldable.{HasSides, HasOddTurn, IsMolecule}
use Rattle.edits.proofs.ears.Rules.{molecule_told}

-- an odd sum is an odd angle
even_sum : (begins ends : ℕ) → begins < 16 → ends < 16 → ¬ HasOddTurn begins ends → (begins + ends) % 2 ≡ 0
even_sum b e p q n = elim (cases_order ((b + e) % 2) 1) [
  | inl odd ↦ absurd (n ((back e + 15 - b) % 16 + 1, angle_of b (back e) p (omega arith), omega (arith, odd, p, q)))
  | inr other ↦ elim other [ inl l ↦ omega (arith, l) | inr g ↦ absurd (omega (arith, g)) ]
]

pub even_triangle : (p q r : ExactPoint) (i j m : ℕ) → IsMolecule p q r → HasSides p q r i j m → IsEvenTriangle p q r i j m
even_triangle p q r i j m f h =
    let told = molecule_told p q r i j m f.three h in
    let even : (j + i) % 2 ≡ 0 = even_sum j i h.j_small h.i_small (λ o. f.even (told.0 (inr (inr (inl o))))) in
    let even_r : (m + j) % 2 ≡ 0 = even_sum m j h.m_small h.j_small (λ o. f.even (told.0 (inr (inr (inr o))))) in
    record {
      i_small = h.i_small;
      j_small = h.j_small;
      m_small = h.m_small;
      pq = h.pq;
      qr = h.qr;
      rp = h.rp;
      bent = λ e. f.even (told.0 (inl ((turn_on i p r).1 (on_trans (vector i) p q r (dir_on p q i h.pq) (on_parallel j i q r h.j_small h.i_small (sym e) (dir_on q r j h.qr))))));
      even_q = omega arith;
      even_r = omega arith;
    }

-- the angles of p and q are even
pub even_p : (p q r : ExactPoint) (i j m : ℕ) → IsMolecule p q r → HasSides p q r i j m → ¬ HasOddTurn i m
even_p p q r i j m f h o = f.even ((molecule_told p q r i j m f.three h).0 (inr (inl o)))

pub even_q : (p q r : ExactPoint) (i j m : ℕ) → IsMolecule p q r → HasSides p q r i j m → ¬ HasOddTurn j i
even_q p q r i j m f h o = f.even ((molecule_told p q r i j m f.three h).0 (inr (inr (inl o))))

-- the bisectors of p and q
pub record AreBisectors (i j m k l : ℕ) : Type 0 where
  pub first : IsMiddle i (back m) k
  pub second : IsMiddle j (back i) l

pub bisectors_meet : (p q r : ExactPoint) (i j m k l : ℕ) → IsMolecule p q r → HasSides p q r i j m → AreBisectors i j m k l → k % 8 ≢ l % 8
bisectors_meet p q r i j m k l f h b = axes_meet p q r i j m k l (even_triangle p q r i j m f h) b.first b.second

pub meets_in : (p q r c : ExactPoint) (i j m k l : ℕ) → IsMolecule p q r → HasSides p q r i j m → AreBisectors i j m k l → IsOnLine p k c × IsOnLine q l c → IsIncentre p q r c
meets_in p q r c i j m k l f h b on =
    let si = h.i_small in let sj = h.j_small in
    let a = middle_axis i (back m) k si (omega arith) b.first in
    let d = middle_axis j (back i) l sj (omega arith) b.second in
    incentre_of p q r c i j m (even_triangle p q r i j m f h)
    (on_parallel k (axis i (back m)) p c (middle_small i (back m) k b.first) (omega arith) (omega arith) ((turn_on k p c).0 on.0))
    (on_parallel l (axis j (back i)) q c (middle_small j (back i) l b.second) (omega arith) (omega arith) ((turn_on l q c).0 on.1))

-- an incentre that cannot be held
pub incentre_missing : (p q r : ExactPoint) (i j m k l : ℕ) → IsMolecule p q r → HasSides p q r i j m → AreBisectors i j m k l → ((c : ExactPoint) → IsOnLine p k c → IsOnLine q l c → ¬ IsPointRepresentable c)
    → (c : ExactPoint) × IsIncentre p q r c × (¬ IsPointRepresentable c)
incentre_missing p q r i j m k l f h b none =
    let c = crossing k l p q in
    let z = crossing_itself k l p q (middle_small i (back m) k b.first) (middle_small j (back i) l b.second) (bisectors_meet p q r i j m k l f h b) in
    let on : IsOnLine p k c × IsOnLine q l c = ((turn_on k p c).1 z.0, (turn_on l q c).1 z.1) in
    (c, meets_in p q r c i j m k l f h b on, none c on.0 on.1)

pub foot_of : (p q c f : ExactPoint) (i : ℕ) → i < 16 → DirOf p q i → IsOnLine p i f × IsOnLine c (aside i) f → IsFootBetween p q c f
foot_of p q c f i small h on = (i, small, h, record { on_axis = on.0; upright = (turn_on (aside i) f c).1 (on_back (vector (aside i)) c f ((turn_on (aside i) c f).0 on.1)) })

-- a foot that cannot be held
pub foot_missing : (p q c : ExactPoint) (i : ℕ) → i < 16 → DirOf p q i → ((f : ExactPoint) → IsOnLine p i f → IsOnLine c (aside i) f → ¬ IsPointRepresentable f)
    → (f : ExactPoint) × IsFootBetween p q c f × (¬ IsPointRepresentable f)
foot_missing p q c i small h none =
    let f = crossing i (aside i) p c in
    let z = crossing_itself i (aside i) p c small (omega arith) (λ e. omega (arith, e, small)) in
    let on : IsOnLine p i f × IsOnLine c (aside i) f = ((turn_on i p f).1 z.0, (turn_on (aside i) c f).1 z.1) in
    (f, foot_of p q c f i small h on, none f on.0 on.1)

-- what follows where there is none
pub none_more : {A : Type 0} (o : Option A) (P Q : Type 0) → (P → Q) → IfNone o P → IfNone o Q
none_more None P Q f h = f h
none_more (Some a) P Q f h = tt
