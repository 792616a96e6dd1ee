-- On the left of the sides of a triangle: their ends are apart, and their lines are elsewhere.
use Rattle.std.specs.Prelude.{pos, ◌↔◌}
use Rattle.std.proofs.Common.{◌≡◌, ℕ, ◌+◌, ◌%◌, ◌<◌, [], ◌∷◌, refl, sym, subst, ◌∙◌, ◌⊎◌, inl, inr, arith}
use Rattle.exact.specs.Number.{ExactNumber, Positive}
use Rattle.exact.specs.Plane.{ExactPoint, SamePoint, DirOf, IsZero, away, turn, vector}
use Rattle.exact.proofs.Positive.{zero_not}
use Rattle.geometry.specs.Root.{Root, plus, times, minus, count, Above}
use Rattle.geometry.specs.Gap.{cross}
use Rattle.geometry.proofs.Solve.{at, none, add, mul, opp, solve}
use Rattle.geometry.proofs.Gap.{straight, above_num, turn_num, same_sub, zero_num, dn_above, above_right, turn_along}
use Rattle.geometry.proofs.Lines.{On, on_from}
use Rattle.geometry.proofs.Directions.{vector_whole}
use Rattle.geometry.proofs.PointOrder.{same_back}
use Rattle.geometry.proofs.Leads.{opposite_dir}
use Rattle.geometry.proofs.Parallels.{dir_on, on_parallel}
use Rattle.geometry.proofs.Domain.{above_times, above_out}
use Rattle.geometry.proofs.Parts.{num_positive}
use Rattle.geometry.proofs.WayTurns.{way_size}
use Rattle.plane.specs.Triangles.{IsLeftOf, IsInTriangle}

-- a point beside a line is not on it
zero_beside : (x : ExactNumber) → Positive x.a x.b → ¬ IsZero x
zero_beside x h z = zero_not (subst (λ b. Positive (pos 0) b) z.1 (subst (λ a. Positive a x.b) z.0 h))

pub off_line : (p q c : ExactPoint) (i : ℕ) → i < 16 → DirOf p q i → IsLeftOf p q c ⊎ IsLeftOf q p c → ¬ On (vector i) p c
off_line p q c i small h side on = elim side [
  | inl left ↦ zero_beside (turn (away p q) (away p c)) left ((straight (vector i) p q c h.0 (vector_whole i) (above_num h.0 h.1) h.2).1 on.on)
  | inr left ↦ (
      let o = opposite_dir p q i small h in
      let there = on_parallel i ((i + 8) % 16) q c small (omega arith) (omega arith) (on_from (vector i) p q c (dir_on p q i h) on) in
      zero_beside (turn (away q p) (away q c)) left ((straight (vector ((i + 8) % 16)) q p c o.0 (vector_whole ((i + 8) % 16)) (above_num o.0 o.1) o.2).1 there.on))
]

none_terms : (a b c d e f : Root) → plus (times (times (count 0) a) (times b c)) (minus (times (times (count 0) d) (times e f))) ≡ count 0
none_terms a b c d e f = solve (a ∷ b ∷ c ∷ d ∷ e ∷ f ∷ []) (add (mul (mul none (at 0)) (mul (at 1) (at 2))) (opp (mul (mul none (at 3)) (mul (at 4) (at 5))))) none refl

-- no point is beside a line through one point
left_apart : (p q c : ExactPoint) → IsLeftOf p q c → ¬ SamePoint p q
left_apart p q c h s = zero_beside (turn (away p q) (away p c)) h ((zero_num (turn (away p q) (away p c))).1 (
    turn_num (away p q) (away p c) ∙ rw ((same_sub p.x q.x).0 s.x, (same_sub p.y q.y).0 s.y) (none_terms _ _ _ _ _ _)))

-- the corners of a triangle, two by two
pub record AreApart (p q r : ExactPoint) : Type 0 where
  pub pq : ¬ SamePoint p q
  pub qr : ¬ SamePoint q r
  pub rp : ¬ SamePoint r p

pub other_way : (p q : ExactPoint) → ¬ SamePoint p q → ¬ SamePoint q p
other_way p q n s = n (same_back q p s)

-- they are apart where a point is inside
pub inside_apart : (p q r c : ExactPoint) → IsInTriangle p q r c → AreApart p q r
inside_apart p q r c h = elim h [
  | inl x ↦ record { pq = left_apart p q c x.0; qr = left_apart q r c x.1; rp = left_apart r p c x.2 }
  | inr x ↦ record { pq = other_way q p (left_apart q p c x.2); qr = other_way r q (left_apart r q c x.1); rp = other_way p r (left_apart p r c x.0) }
]

-- from the first side, on the left of the one or the other way along it
pub beside : (p q r c : ExactPoint) → IsInTriangle p q r c → IsLeftOf p q c ⊎ IsLeftOf q p c
beside p q r c h = elim h [ inl x ↦ inl x.0 | inr x ↦ inr x.2 ]

-- on the left of a side, by the turn of the definition and by the side's direction
pub left_cross : (p q c : ExactPoint) (k : ℕ) → DirOf p q k → IsLeftOf p q c ↔ Above (cross (vector k) p c)
left_cross p q c k h = (
  λ l. above_out _ _ (way_size p q k h) (subst Above (turn_along (vector k) p q c h.0 (vector_whole k) h.2) (above_times _ _ (above_num (turn (away p q) (away p c)) l) (dn_above h.0))),
  λ a. num_positive (turn (away p q) (away p c)) (above_right _ _ (dn_above h.0) (subst Above (sym (turn_along (vector k) p q c h.0 (vector_whole k) h.2)) (above_times _ _ (way_size p q k h) a))),
)
