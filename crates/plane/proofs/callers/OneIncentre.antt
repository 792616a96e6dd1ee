-- A triangle has at most one incentre, which has at most one foot on a side.
use Rattle.std.proofs.Common.{◌≡◌, ℕ, ◌+◌, ◌/◌, ◌%◌, ◌<◌, sym, ap, subst, ◌∙◌, inl, inr, arith, ◌≢◌, ◌⊎◌}
use Rattle.std.proofs.lemmas.Bool.{cases_order}
use Rattle.exact.specs.Plane.{ExactPoint, SamePoint, DirOf, vector}
use Rattle.qroot2.specs.Dir.{IsMiddle}
use Rattle.geometry.proofs.Lines.{On, on_from, on_trans, on_back, one_point}
use Rattle.geometry.proofs.Directions.{not_parallel, unequal}
use Rattle.geometry.proofs.Found.{turn_on}
use Rattle.geometry.proofs.Parallels.{one_dir, dir_on, on_parallel}
use Rattle.plane.specs.Images.{IsFoot}
use Rattle.plane.specs.Triangles.{IsOnBisector, IsLeftOf, IsIncentre, IsFootBetween}
use Rattle.plane.proofs.callers.Imaged.{aside, not_along}
use Rattle.plane.proofs.callers.Triangles.{off_line, other_way, inside_apart, beside}

pub middle_one : (i j k m : ℕ) → IsMiddle i j k → IsMiddle i j m → k ≡ m
middle_one i j k m h l =
    let n : h.0 ≡ l.0 = omega (arith, h.1.some, h.1.small, h.1.leads, l.1.some, l.1.small, l.1.leads) in
    h.3 ∙ ap (λ z. (i + z / 2) % 16) n ∙ sym l.3

-- two points on the bisector of one corner are on one line through it
record AreOnRayLine (corner c d : ExactPoint) : Type 0 where
  pub k : ℕ
  pub small : k < 16
  pub first : On (vector k) corner c
  pub second : On (vector k) corner d

on_bisector : (p q r c d : ExactPoint) → ¬ SamePoint p q → ¬ SamePoint p r → IsOnBisector p q r c → IsOnBisector p q r d → AreOnRayLine p c d
on_bisector p q r c d pq pr h l =
    let i = one_dir p q h.0 l.0 pq h.3.first_small l.3.first_small h.3.first_leads l.3.first_leads in
    let j = one_dir p r h.1 l.1 pr h.3.second_small l.3.second_small h.3.second_leads l.3.second_leads in
    let k = middle_one l.0 l.1 h.2 l.2 (subst (λ z. IsMiddle l.0 z h.2) j (subst (λ z. IsMiddle z h.1 h.2) i h.4)) l.4 in
    record {
      k = l.2;
      small = (let e = l.4.3 in omega (arith, e));
      first = subst (λ z. On (vector z) p c) k ((turn_on h.2 p c).0 h.5);
      second = (turn_on l.2 p d).0 l.5;
    }

-- lines through two corners that meet off the side between them meet in one point
meet_once : (p q c d : ExactPoint) (i : ℕ) → i < 16 → DirOf p q i → ¬ SamePoint p q → IsLeftOf p q c ⊎ IsLeftOf q p c → AreOnRayLine p c d → AreOnRayLine q c d → SamePoint c d
meet_once p q c d i si h apart side a b = elim (cases_order (a.k % 8) (b.k % 8)) [
  | inl e ↦ absurd (parallel e)
  | inr n ↦ crossing (unequal (a.k % 8) (b.k % 8) n)
]
  where
    crossing : a.k % 8 ≢ b.k % 8 → SamePoint c d
    crossing n = one_point (vector a.k) (vector b.k) c d (not_parallel a.k b.k a.small b.small n) (on_from (vector a.k) p c d a.first a.second) (on_from (vector b.k) q c d b.first b.second)

    parallel : a.k % 8 ≡ b.k % 8 → ⊥
    parallel e =
        let through : On (vector a.k) p q = on_trans (vector a.k) p c q a.first (on_back (vector a.k) q c (on_parallel b.k a.k q c b.small a.small (sym e) b.first)) in
        elim (cases_order (i % 8) (a.k % 8)) [
          | inl same ↦ off_line p q c i si h side (on_parallel a.k i p c a.small si (sym same) a.first)
          | inr n ↦ apart (one_point (vector i) (vector a.k) p q (not_parallel i a.k si a.small (unequal (i % 8) (a.k % 8) n)) (dir_on p q i h) through)
        ]

pub incentre_one : (p q r c d : ExactPoint) → IsIncentre p q r c → IsIncentre p q r d → SamePoint c d
incentre_one p q r c d h l =
    let a = inside_apart p q r c h.inside in
    meet_once p q c d h.at_p.0 h.at_p.3.first_small h.at_p.3.first_leads a.pq (beside p q r c h.inside)
    (on_bisector p q r c d a.pq (other_way r p a.rp) h.at_p l.at_p)
    (on_bisector q r p c d a.qr (other_way p q a.pq) h.at_q l.at_q)

pub foot_one : (p q c f g : ExactPoint) → ¬ SamePoint p q → IsFootBetween p q c f → IsFootBetween p q c g → SamePoint f g
foot_one p q c f g apart h l =
    let k = one_dir p q h.0 l.0 apart h.1 l.1 h.2 l.2 in
    let first : IsFoot p l.0 c f = subst (λ z. IsFoot p z c f) k h.3 in
    one_point (vector l.0) (vector (aside l.0)) f g (not_parallel l.0 (aside l.0) l.1 (omega arith) (not_along l.0 l.1))
    (on_from (vector l.0) p f g ((turn_on l.0 p f).0 first.on_axis) ((turn_on l.0 p g).0 l.3.on_axis))
    (on_trans (vector (aside l.0)) f c g ((turn_on (aside l.0) f c).0 first.upright) (on_back (vector (aside l.0)) g c ((turn_on (aside l.0) g c).0 l.3.upright)))
