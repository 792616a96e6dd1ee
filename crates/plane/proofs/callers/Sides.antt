-- The sides of the sheet, by coordinates.
use Rattle.std.proofs.Common.{◌≡◌, ℕ, ◌*◌, zero, suc, ◌<◌, ◌≤◌, refl, sym, subst, ◌∙◌, ◌⊎◌, inl, inr, arith, get_or}
use Rattle.std.specs.Prelude.{◌↔◌, Contains}
use Rattle.std.specs.Int.{◌∣◌}
use Rattle.std.proofs.lemmas.Int.{ints}
use Rattle.std.proofs.lemmas.Nat.Gcd.{dvd_antisymm}
use Rattle.std.proofs.Math.Nat.{dvd-mul_right}
use Rattle.exact.specs.Number.{ExactNumber, Same, Less, AtMost, IsCanonical, whole}
use Rattle.exact.specs.Plane.{ExactPoint, ExactSegment, IsSegment, IsPointCanonical, OnSeg}
use Rattle.exact.proofs.Order.{linear, real_less, real_equal, real_total, less_of, same_turned, less_moved}
use Rattle.exact.proofs.Told.{same_itself, same_on, less_not_same, less_not_back}
use Rattle.sheet.specs.Sheet.{ExactSheet, IsLength, IsSheet, end_at, corner, sides, InSheet, OnSide, OnBorder, IsWithin}
use Rattle.geometry.specs.Meeting.{Along}
use Rattle.geometry.proofs.Plain.{flat_on, upright_on}
use Rattle.geometry.proofs.Segments.{on_line, on_seg, end_p, end_q, covered}
use Rattle.geometry.proofs.Directions.{vector_ahead}
use Rattle.geometry.proofs.Found.{on_along, along_of}
use Rattle.plane.specs.Corners.{IsEnd, AreOnSide}

-- the side at the left (0) or the right (1)
abbrev pub upright : ExactSheet → ℕ → ExactSegment
upright sheet i = record { p = corner sheet i 0; q = corner sheet i 1 }

-- the side at the bottom (0) or the top (1)
abbrev pub flat : ExactSheet → ℕ → ExactSegment
flat sheet i = record { p = corner sheet 0 i; q = corner sheet 1 i }

pub data SideCase (sheet : ExactSheet) (s : ExactSegment) : Type 0 where
  at_upright : (i : ℕ) → i < 2 → s ≡ upright sheet i → SideCase sheet s
  at_flat : (i : ℕ) → i < 2 → s ≡ flat sheet i → SideCase sheet s

side_at : (sheet : ExactSheet) (s : ExactSegment) (i : ℕ) → i < 4 → get_or (sides sheet) i s ≡ s → SideCase sheet s
side_at sheet s zero h e = SideCase.at_upright 0 (omega arith) (sym e)
side_at sheet s (suc zero) h e = SideCase.at_flat 0 (omega arith) (sym e)
side_at sheet s (suc (suc zero)) h e = SideCase.at_flat 1 (omega arith) (sym e)
side_at sheet s (suc (suc (suc zero))) h e = SideCase.at_upright 1 (omega arith) (sym e)
side_at sheet s (suc (suc (suc (suc i)))) h e = absurd (omega arith)

-- the cases of a side, and that each is a side
pub side_case : (sheet : ExactSheet) (s : ExactSegment) → Contains (sides sheet) s → SideCase sheet s
side_case sheet s c = side_at sheet s c.0 c.1 c.2

pub upright_in : (sheet : ExactSheet) (i : ℕ) → i < 2 → Contains (sides sheet) (upright sheet i)
upright_in sheet zero h = (0, omega arith, refl)
upright_in sheet (suc zero) h = (3, omega arith, refl)
upright_in sheet (suc (suc i)) h = absurd (omega arith)

pub flat_in : (sheet : ExactSheet) (i : ℕ) → i < 2 → Contains (sides sheet) (flat sheet i)
flat_in sheet zero h = (1, omega arith, refl)
flat_in sheet (suc zero) h = (2, omega arith, refl)
flat_in sheet (suc (suc i)) h = absurd (omega arith)

not_less : (x y : ExactNumber) → (Less y x → ⊥) → AtMost x y
not_less x y n = elim (linear x y) [ inl h ↦ inr h | inr k ↦ elim k [ inl s ↦ inl s | inr h ↦ absurd (n h) ] ]

pub zero_less : (n : ℕ) → IsLength n → Less (whole 0) (whole n)
zero_less n l = inl (omega (arith, ints, l), omega (arith, ints), omega (arith, ints, l))

-- no number from 0 to n is below 0 or above n
pub at_least : (n : ℕ) (x : ExactNumber) → IsWithin n x → Less x (whole 0) → ⊥
at_least n x w h = elim w.0 [ inl s ↦ less_not_same x (whole 0) h (same_turned (whole 0) x s) | inr l ↦ less_not_back x (whole 0) h l ]

pub at_most : (n : ℕ) (x : ExactNumber) → IsWithin n x → Less (whole n) x → ⊥
at_most n x w h = elim w.1 [ inl s ↦ less_not_same (whole n) x h (same_turned x (whole n) s) | inr l ↦ less_not_back (whole n) x h l ]

-- 0 and n, by their numbers
pub end_case : (n : ℕ) (x : ExactNumber) → IsEnd n x → (i : ℕ) × (i < 2) × Same (whole (end_at i n)) x
end_case n x h = elim h [ inl s ↦ (0, omega arith, s) | inr s ↦ (1, omega arith, s) ]

pub end_of : (n i : ℕ) (x : ExactNumber) → i < 2 → Same (whole (end_at i n)) x → IsEnd n x
end_of n zero x h s = inl s
end_of n (suc zero) x h s = inr s
end_of n (suc (suc i)) x h s = absurd (omega arith)

pub end_within : (n : ℕ) (x : ExactNumber) → IsLength n → IsEnd n x → IsWithin n x
end_within n x l h = elim h [
  | inl s ↦ (inl s, inr (less_moved (whole 0) x (whole n) s (zero_less n l)))
  | inr s ↦ (not_less (whole 0) x (λ b. less_not_back (whole 0) (whole n) (zero_less n l) (less_moved x (whole n) (whole 0) (same_turned (whole n) x s) b)), inl (same_turned (whole n) x s))
]

pub end_moved : (n : ℕ) (x y : ExactNumber) → Same x y → IsEnd n x → IsEnd n y
end_moved n x y s h = elim h [ inl e ↦ inl (same_on (whole 0) x y e s) | inr e ↦ inr (same_on (whole n) x y e s) ]

-- what is strictly between is no end
pub not_end : (n : ℕ) (x : ExactNumber) → Less (whole 0) x → Less x (whole n) → ¬ IsEnd n x
not_end n x low high h = elim h [ inl s ↦ less_not_same (whole 0) x low s | inr s ↦ less_not_same x (whole n) high (same_turned (whole n) x s) ]

divides_one : (k : ℕ) → k ∣ 1 → k ≡ 1
divides_one k h = dvd_antisymm h (subst (λ (n : ℕ). 1 ∣ n) (grow k) (dvd-mul_right 1 k))
  where
    grow : (k : ℕ) → 1 * k ≡ k
    grow k = omega arith

-- what can be held: the whole numbers of a sheet, and its corners
pub whole_canonical : (n : ℕ) → n ≤ 8 → IsCanonical (whole n)
whole_canonical n h = record { positive = omega arith; lowest = λ k a b d. divides_one k d; a = omega arith; b = omega arith; d = omega arith }

small_end : (n i : ℕ) → IsLength n → end_at i n ≤ 8
small_end n zero l = omega arith
small_end n (suc i) l = l.1

pub corner_canonical : (sheet : ExactSheet) (i j : ℕ) → IsSheet sheet → IsPointCanonical (corner sheet i j)
corner_canonical sheet i j h = (whole_canonical (end_at i sheet.w) (small_end sheet.w i h.wide), whole_canonical (end_at j sheet.h) (small_end sheet.h j h.high))

pub corner_in : (sheet : ExactSheet) (i j : ℕ) → i < 2 → j < 2 → IsSheet sheet → InSheet sheet (corner sheet i j)
corner_in sheet i j l m h = (
  end_within sheet.w (whole (end_at i sheet.w)) h.wide (end_of sheet.w i (whole (end_at i sheet.w)) l (same_itself (whole (end_at i sheet.w)))),
  end_within sheet.h (whole (end_at j sheet.h)) h.high (end_of sheet.h j (whole (end_at j sheet.h)) m (same_itself (whole (end_at j sheet.h)))),
)

-- the sides lead up or to the right
pub upright_along : (sheet : ExactSheet) (i : ℕ) → IsSheet sheet → Along (upright sheet i) 4
upright_along sheet i h = on_along (upright sheet i) 4 (omega arith) (vector_ahead 4 (omega arith) (inl (omega arith)))
    (inr (same_itself (whole (end_at i sheet.w)), zero_less sheet.h h.high))
    ((upright_on (corner sheet i 0) (corner sheet i 1)).0 (same_itself (whole (end_at i sheet.w))))

pub flat_along : (sheet : ExactSheet) (i : ℕ) → IsSheet sheet → Along (flat sheet i) 0
flat_along sheet i h = on_along (flat sheet i) 0 (omega arith) (vector_ahead 0 (omega arith) (inl (omega arith)))
    (inl (zero_less sheet.w h.wide))
    ((flat_on (corner sheet 0 i) (corner sheet 1 i)).0 (same_itself (whole (end_at i sheet.h))))

-- the points of a side
pub on_upright : (sheet : ExactSheet) (i : ℕ) (r : ExactPoint) → IsSheet sheet → Same (whole (end_at i sheet.w)) r.x → IsWithin sheet.h r.y → OnSeg r (upright sheet i)
on_upright sheet i r h s w = on_seg (upright sheet i) 4 r (upright_along sheet i h) ((upright_on (corner sheet i 0) r).0 s)
    (λ b. elim b [ inl l ↦ less_not_same r.x (whole (end_at i sheet.w)) l (same_turned (whole (end_at i sheet.w)) r.x s) | inr k ↦ at_least sheet.h r.y w k.1 ])
    (λ b. elim b [ inl l ↦ less_not_same (whole (end_at i sheet.w)) r.x l s | inr k ↦ at_most sheet.h r.y w k.1 ])

pub on_flat : (sheet : ExactSheet) (i : ℕ) (r : ExactPoint) → IsSheet sheet → Same (whole (end_at i sheet.h)) r.y → IsWithin sheet.w r.x → OnSeg r (flat sheet i)
on_flat sheet i r h s w = on_seg (flat sheet i) 0 r (flat_along sheet i h) ((flat_on (corner sheet 0 i) r).0 s)
    (λ b. elim b [ inl l ↦ at_least sheet.w r.x w l | inr k ↦ less_not_same r.y (whole (end_at i sheet.h)) k.1 (same_turned (whole (end_at i sheet.h)) r.y s) ])
    (λ b. elim b [ inl l ↦ at_most sheet.w r.x w l | inr k ↦ less_not_same (whole (end_at i sheet.h)) r.y k.1 s ])

pub of_upright : (sheet : ExactSheet) (i : ℕ) (r : ExactPoint) → IsSheet sheet → OnSeg r (upright sheet i) → Same (whole (end_at i sheet.w)) r.x × IsWithin sheet.h r.y
of_upright sheet i r h o =
    let s = (upright_on (corner sheet i 0) r).1 (on_line (upright sheet i) 4 r (upright_along sheet i h) o) in
    (s, (not_less (whole 0) r.y (λ l. o.from (inr (same_turned (whole (end_at i sheet.w)) r.x s, l))), not_less r.y (whole sheet.h) (λ l. o.to (inr (s, l)))))

pub of_flat : (sheet : ExactSheet) (i : ℕ) (r : ExactPoint) → IsSheet sheet → OnSeg r (flat sheet i) → Same (whole (end_at i sheet.h)) r.y × IsWithin sheet.w r.x
of_flat sheet i r h o =
    let s = (flat_on (corner sheet 0 i) r).1 (on_line (flat sheet i) 0 r (flat_along sheet i h) o) in
    (s, (not_less (whole 0) r.x (λ l. o.from (inl l)), not_less r.x (whole sheet.w) (λ l. o.to (inl l))))

-- on a side: in the sheet, and a coordinate is an end
pub on_side : (sheet : ExactSheet) (p : ExactPoint) → IsSheet sheet → (InSheet sheet p × (IsEnd sheet.w p.x ⊎ IsEnd sheet.h p.y)) ↔ OnSide sheet p
on_side sheet p good = (
  λ h. elim h.1 [
    | inl e ↦ (let u = end_case sheet.w p.x e in (upright sheet u.0, upright_in sheet u.0 u.1, on_upright sheet u.0 p good u.2 h.0.1))
    | inr e ↦ (let u = end_case sheet.h p.y e in (flat sheet u.0, flat_in sheet u.0 u.1, on_flat sheet u.0 p good u.2 h.0.0))
  ],
  λ h. by h.0 (side_case sheet h.0 h.1) h.2,
)
  where
    by : (t : ExactSegment) → SideCase sheet t → OnSeg p t → InSheet sheet p × (IsEnd sheet.w p.x ⊎ IsEnd sheet.h p.y)
    by t (SideCase.at_upright i l e) o = (let u = of_upright sheet i p good (subst (λ z. OnSeg p z) e o) in let end : IsEnd sheet.w p.x = end_of sheet.w i p.x l u.0 in
        ((end_within sheet.w p.x good.wide end, u.1), inl end))
    by t (SideCase.at_flat i l e) o = (let u = of_flat sheet i p good (subst (λ z. OnSeg p z) e o) in let end : IsEnd sheet.h p.y = end_of sheet.h i p.y l u.0 in
        ((u.1, end_within sheet.h p.y good.high end), inr end))

-- a segment on a side: both ends in the sheet, and on one line that is a side's
pub on_one_side : (sheet : ExactSheet) (s : ExactSegment) → IsSheet sheet → IsSegment s → AreOnSide sheet s.p s.q ↔ OnBorder sheet s
on_one_side sheet s good i = (
  λ h. elim h.1 [
    | inl e ↦ (let u = end_case sheet.w s.p.x e.1 in (
      upright sheet u.0,
      upright_in sheet u.0 u.1,
      covered (upright sheet u.0) s 4 (upright_along sheet u.0 good) (on_along s 4 (omega arith) (vector_ahead 4 (omega arith) (inl (omega arith))) i.0 ((upright_on s.p s.q).0 e.0))
          (on_upright sheet u.0 s.p good u.2 h.0.0.1) (on_upright sheet u.0 s.q good (same_on (whole (end_at u.0 sheet.w)) s.p.x s.q.x u.2 e.0) h.0.1.1),
    ))
    | inr e ↦ (let u = end_case sheet.h s.p.y e.1 in (
      flat sheet u.0,
      flat_in sheet u.0 u.1,
      covered (flat sheet u.0) s 0 (flat_along sheet u.0 good) (on_along s 0 (omega arith) (vector_ahead 0 (omega arith) (inl (omega arith))) i.0 ((flat_on s.p s.q).0 e.0))
          (on_flat sheet u.0 s.p good u.2 h.0.0.0) (on_flat sheet u.0 s.q good (same_on (whole (end_at u.0 sheet.h)) s.p.y s.q.y u.2 e.0) h.0.1.0),
    ))
  ],
  λ h. by h.0 (side_case sheet h.0 h.1) (h.2 s.p (end_p s (along_of s i).0 (along_of s i).1)) (h.2 s.q (end_q s (along_of s i).0 (along_of s i).1)),
)
  where
    by : (t : ExactSegment) → SideCase sheet t → OnSeg s.p t → OnSeg s.q t → AreOnSide sheet s.p s.q
    by t (SideCase.at_upright j l e) o q = (
        let u = of_upright sheet j s.p good (subst (λ z. OnSeg s.p z) e o) in let v = of_upright sheet j s.q good (subst (λ z. OnSeg s.q z) e q) in
        let first : IsEnd sheet.w s.p.x = end_of sheet.w j s.p.x l u.0 in let second : IsEnd sheet.w s.q.x = end_of sheet.w j s.q.x l v.0 in
        (((end_within sheet.w s.p.x good.wide first, u.1), (end_within sheet.w s.q.x good.wide second, v.1)), inl (same_on s.p.x (whole (end_at j sheet.w)) s.q.x (same_turned (whole (end_at j sheet.w)) s.p.x u.0) v.0, first)))
    by t (SideCase.at_flat j l e) o q = (
        let u = of_flat sheet j s.p good (subst (λ z. OnSeg s.p z) e o) in let v = of_flat sheet j s.q good (subst (λ z. OnSeg s.q z) e q) in
        let first : IsEnd sheet.h s.p.y = end_of sheet.h j s.p.y l u.0 in let second : IsEnd sheet.h s.q.y = end_of sheet.h j s.q.y l v.0 in
        (((u.1, end_within sheet.h s.p.y good.high first), (v.1, end_within sheet.h s.q.y good.high second)), inr (same_on s.p.y (whole (end_at j sheet.h)) s.q.y (same_turned (whole (end_at j sheet.h)) s.p.y u.0) v.0, first)))
