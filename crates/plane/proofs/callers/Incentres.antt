-- Where the bisectors of two corners of a triangle with even angles meet is its incentre.
use Rattle.std.proofs.Common.{◌≡◌, ◌≢◌, ℕ, ◌+◌, ◌-◌, ◌/◌, ◌%◌, ◌<◌, refl, subst, ◌⊎◌, inl, inr, arith, sym}
use Rattle.std.proofs.lemmas.Bool.{cases_order}
use Rattle.exact.specs.Plane.{ExactPoint, SamePoint, DirOf, vector}
use Rattle.qroot2.specs.Dir.{IsAngle, IsMiddle}
use Rattle.geometry.proofs.Lines.{On}
use Rattle.geometry.proofs.Found.{turn_on}
use Rattle.geometry.proofs.Parallels.{one_dir, on_parallel}
use Rattle.geometry.proofs.HalfAngles.{axis, back, axis_back}
use Rattle.geometry.proofs.WayTurns.{det_right}
use Rattle.geometry.proofs.RoundTriangle.{IsCounterclockwise, met, angles, angle_left, turned_down}
use Rattle.geometry.proofs.Leads.{opposite_dir}
use Rattle.plane.specs.Triangles.{IsOnBisector, IsInTriangle, IsIncentre}
use Rattle.plane.proofs.callers.Triangles.{left_cross}

-- the middle of two directions, up to half a turn
pub middle_axis : (f s k : ℕ) → f < 16 → s < 16 → IsMiddle f s k → k % 8 ≡ axis f s
middle_axis f s k p q h = let a = h.1.some in let b = h.1.small in let c = h.1.leads in let d = h.2 in let e = h.3 in omega arith

pub middle_small : (f s k : ℕ) → IsMiddle f s k → k < 16
middle_small f s k h = let e = h.3 in omega arith

-- the angle from one direction to another
pub angle_of : (f s : ℕ) → f < 16 → s < 16 → IsAngle f s ((s + 15 - f) % 16 + 1)
angle_of f s p q = record { some = omega arith; small = omega arith; leads = omega arith }

middle_of : (f s : ℕ) → f < 16 → s < 16 → (f + s) % 2 ≡ 0 → IsMiddle f s ((f + ((s + 15 - f) % 16 + 1) / 2) % 16)
middle_of f s p q even = ((s + 15 - f) % 16 + 1, angle_of f s p q, omega arith, refl)

pub on_bisector : (o a b c : ExactPoint) (f s : ℕ) → f < 16 → s < 16 → DirOf o a f → DirOf o b s → (f + s) % 2 ≡ 0 → On (vector (axis f s)) o c → IsOnBisector o a b c
on_bisector o a b c f s p q first second even on =
    let k = (f + ((s + 15 - f) % 16 + 1) / 2) % 16 in
    let m : IsMiddle f s k = middle_of f s p q even in (
      f,
      s,
      k,
      record { first_small = p; second_small = q; first_leads = first; second_leads = second },
      m,
      (turn_on k o c).1 (on_parallel (axis f s) k o c (omega arith) (omega arith) (let e = middle_axis f s k p q m in omega arith) on),
    )

pub off_bisector : (o a b c : ExactPoint) (f s : ℕ) → f < 16 → s < 16 → DirOf o a f → DirOf o b s → ¬ SamePoint o a → ¬ SamePoint o b → IsOnBisector o a b c → On (vector (axis f s)) o c
off_bisector o a b c f s p q first second na nb h =
    let i : h.0 ≡ f = one_dir o a h.0 f na h.3.first_small p h.3.first_leads first in
    let j : h.1 ≡ s = one_dir o b h.1 s nb h.3.second_small q h.3.second_leads second in
    let m : IsMiddle f s h.2 = subst (λ z. IsMiddle f z h.2) j (subst (λ z. IsMiddle z h.1 h.2) i h.4) in
    on_parallel h.2 (axis f s) o c (middle_small f s h.2 m) (omega arith) (let e = middle_axis f s h.2 p q m in omega arith) ((turn_on h.2 o c).0 h.5)

-- the sides, one after another, are not parallel and an even angle apart
pub record IsEvenTriangle (p q r : ExactPoint) (i j m : ℕ) : Type 0 where
  pub i_small : i < 16
  pub j_small : j < 16
  pub m_small : m < 16
  pub pq : DirOf p q i
  pub qr : DirOf q r j
  pub rp : DirOf r p m
  pub bent : i % 8 ≢ j % 8
  pub even_q : (i + j) % 2 ≡ 0
  pub even_r : (j + m) % 2 ≡ 0

-- counterclockwise as it is, or from q to p
pub oriented : (p q r : ExactPoint) (i j m : ℕ) → IsEvenTriangle p q r i j m → IsCounterclockwise p q r i j m ⊎ IsCounterclockwise q p r (back i) (back m) (back j)
oriented p q r i j m h = elim (cases_order ((j + 16 - i) % 16) 8) [
  | inl e ↦ absurd (h.bent (let a = h.i_small in let b = h.j_small in omega arith))
  | inr n ↦ elim n [
    | inl l ↦ inl (record { i_small = h.i_small; j_small = h.j_small; m_small = h.m_small; pq = h.pq; qr = h.qr; rp = h.rp; some = some l; half = l; even_q = h.even_q; even_r = h.even_r })
    | inr g ↦ inr (
        let a = angle_left i m h.i_small h.m_small (turned_down p q r i j m h.pq h.qr h.rp (det_right i j h.i_small h.j_small g)) in
        let x = a.0 in let y = a.1 in let b = h.i_small in let c = h.j_small in let d = h.m_small in let e = h.even_q in let f = h.even_r in
        record {
          i_small = omega arith;
          j_small = omega arith;
          m_small = omega arith;
          pq = opposite_dir p q i h.i_small h.pq;
          qr = opposite_dir r p m h.m_small h.rp;
          rp = opposite_dir q r j h.j_small h.qr;
          some = omega arith;
          half = omega arith;
          even_q = omega arith;
          even_r = omega arith;
        })
  ]
]
  where
    some : (j + 16 - i) % 16 < 8 → 0 < (j + 16 - i) % 16
    some l = elim (cases_order ((j + 16 - i) % 16) 0) [
      | inl e ↦ absurd (h.bent (let a = h.i_small in let b = h.j_small in omega arith))
      | inr n ↦ elim n [ inl x ↦ absurd (omega (arith, x)) | inr x ↦ x ]
    ]

-- where the bisectors of p and q meet
pub incentre_of : (p q r c : ExactPoint) (i j m : ℕ) → IsEvenTriangle p q r i j m → On (vector (axis i (back m))) p c → On (vector (axis j (back i))) q c → IsIncentre p q r c
incentre_of p q r c i j m h at_p at_q = elim (oriented p q r i j m h) [
  | inl o ↦ (
      let t = met p q r c i j m o at_p at_q in
      made (inl ((left_cross p q c i h.pq).1 t.0.pq, (left_cross q r c j h.qr).1 t.0.qr, (left_cross r p c m h.rp).1 t.0.rp)) t.1)
  | inr o ↦ (
      let t = met q p r c (back i) (back m) (back j) o (subst (λ z. On (vector z) q c) (axis_back i j h.j_small) at_q) (subst (λ z. On (vector z) p c) (axis_back m i h.i_small) at_p) in
      made (inr ((left_cross p r c (back m) o.qr).1 t.0.qr, (left_cross r q c (back j) o.rp).1 t.0.rp, (left_cross q p c (back i) o.pq).1 t.0.pq)) (subst (λ z. On (vector z) r c) (sym (axis_back j m h.m_small)) t.1))
]
  where
    si : i < 16
    si = h.i_small

    sj : j < 16
    sj = h.j_small

    sm : m < 16
    sm = h.m_small

    made : IsInTriangle p q r c → On (vector (axis m (back j))) r c → IsIncentre p q r c
    made inside at_r = record {
      inside = inside;
      at_p = on_bisector p q r c i (back m) si (omega arith) h.pq (opposite_dir r p m sm h.rp) (omega (arith, h.even_q, h.even_r)) at_p;
      at_q = on_bisector q r p c j (back i) sj (omega arith) h.qr (opposite_dir p q i si h.pq) (omega (arith, h.even_q)) at_q;
      at_r = on_bisector r p q c m (back j) sm (omega arith) h.rp (opposite_dir q r j sj h.qr) (omega (arith, h.even_r)) at_r;
    }

-- the bisectors of p and q are not parallel
pub axes_meet : (p q r : ExactPoint) (i j m k l : ℕ) → IsEvenTriangle p q r i j m → IsMiddle i (back m) k → IsMiddle j (back i) l → k % 8 ≢ l % 8
axes_meet p q r i j m k l h at_p at_q e =
    let si = h.i_small in let sj = h.j_small in let sm = h.m_small in let even_q = h.even_q in let even_r = h.even_r in
    let a : k % 8 ≡ axis i (back m) = middle_axis i (back m) k si (omega arith) at_p in
    let b : l % 8 ≡ axis j (back i) = middle_axis j (back i) l sj (omega arith) at_q in
    elim (oriented p q r i j m h) [
      | inl o ↦ (let t = angles p q r i j m o in let u = t.at_p in let v = t.at_r in let x = o.some in let y = o.half in omega arith)
      | inr o ↦ (let t = angles q p r (back i) (back m) (back j) o in let u = t.at_p in let v = t.at_r in let x = o.some in let y = o.half in omega arith)
    ]
