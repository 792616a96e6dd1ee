-- Exact points of the plane, the sixteen directions, segments and what they have in common.
use Rattle.std.specs.Prelude.{◌≡◌, ℕ, zero, suc, ◌+◌, ◌-◌, ◌/◌, ◌%◌, ◌<◌, ◌⊎◌, pos, negsuc}
use Rattle.exact.specs.Number.{ExactNumber, Same, Less, sub, mul, whole, neg, Positive, IsCanonical}
use Rattle.exact.specs.Number.{IsRepresentable}

pub record ExactPoint : Type 0 where
  pub x : ExactNumber
  pub y : ExactNumber

pub record SamePoint (p q : ExactPoint) : Type 0 where
  pub x : Same p.x q.x
  pub y : Same p.y q.y

-- by x, then by y
abbrev pub Before : ExactPoint → ExactPoint → Type 0
Before p q = Less p.x q.x ⊎ (Same p.x q.x × Less p.y q.y)

abbrev pub away : ExactPoint → ExactPoint → ExactPoint
away p q = record { x = sub q.x p.x; y = sub q.y p.y }

abbrev pub turn : ExactPoint → ExactPoint → ExactNumber
turn u w = sub (mul u.x w.y) (mul u.y w.x)

-- √2 - 1
abbrev pub root_less_one : ExactNumber
root_less_one = record { a = negsuc 0; b = pos 1; d = 1 }

-- a quarter turn to the left
abbrev pub quarter : ExactPoint → ExactPoint
quarter p = record { x = neg p.y; y = p.x }

-- n quarter turns
abbrev pub quarters : ℕ → ExactPoint → ExactPoint
quarters zero p = p
quarters (suc n) p = quarter (quarters n p)

-- the directions of the first quarter
abbrev pub first_vector : ℕ → ExactPoint
first_vector zero = record { x = whole 1; y = whole 0 }
first_vector (suc zero) = record { x = whole 1; y = root_less_one }
first_vector (suc (suc zero)) = record { x = whole 1; y = whole 1 }
first_vector (suc (suc (suc k))) = record { x = root_less_one; y = whole 1 }

-- direction k is k times 22.5 degrees, counterclockwise from the x axis
abbrev pub vector : ℕ → ExactPoint
vector k = quarters (k / 4) (first_vector (k % 4))

-- q is p and a positive multiple of direction k
abbrev pub DirOf : ExactPoint → ExactPoint → ℕ → Type 0
DirOf p q k = (t : ExactNumber) × Positive t.a t.b
    × SamePoint (away p q) (record { x = mul t (vector k).x; y = mul t (vector k).y })

-- a segment, by its lesser and its greater end
pub record ExactSegment : Type 0 where
  pub p : ExactPoint
  pub q : ExactPoint

-- the ends are in order, and one of the sixteen directions joins them
abbrev pub IsSegment : ExactSegment → Type 0
IsSegment s = Before s.p s.q × ((k : ℕ) × (k < 16) × DirOf s.p s.q k)

abbrev pub IsZero : ExactNumber → Type 0
IsZero x = (x.a ≡ pos 0) × (x.b ≡ pos 0)

-- r lies on the segment, at an end or between
pub record OnSeg (r : ExactPoint) (s : ExactSegment) : Type 0 where
  pub straight : IsZero (turn (away s.p s.q) (away s.p r))
  pub from : ¬ Before r s.p
  pub to : ¬ Before s.q r

-- r lies on both
abbrev pub OnBoth : ExactPoint → ExactSegment → ExactSegment → Type 0
OnBoth r s t = OnSeg r s × OnSeg r t

-- two different points lie on both
abbrev pub Overlap : ExactSegment → ExactSegment → Type 0
Overlap s t = (u v : ExactPoint) × (¬ SamePoint u v) × OnBoth u s t × OnBoth v s t

-- v lies on both, and no other point does
pub record Cross (s t : ExactSegment) (v : ExactPoint) : Type 0 where
  pub here : OnBoth v s t
  pub only : (u : ExactPoint) → OnBoth u s t → SamePoint u v

abbrev pub IsPointCanonical : ExactPoint → Type 0
IsPointCanonical p = IsCanonical p.x × IsCanonical p.y

abbrev pub IsPointRepresentable : ExactPoint → Type 0
IsPointRepresentable p = IsRepresentable p.x × IsRepresentable p.y

-- by the first end, then by the second
abbrev pub SegmentBefore : ExactSegment → ExactSegment → Type 0
SegmentBefore s t = Before s.p t.p ⊎ (SamePoint s.p t.p × Before s.q t.q)

-- The turn from direction i to direction j: zero where they are parallel, above zero where j is
-- less than half a turn counterclockwise from i, and below it where j is more.
pub record TurnsByAngle (i j : ℕ) : Type 0 where
  pub parallel : (j + 16 - i) % 8 ≡ 0 → IsZero (turn (vector i) (vector j))
  pub left : 0 < (j + 16 - i) % 16 → (j + 16 - i) % 16 < 8
      → Positive (turn (vector i) (vector j)).a (turn (vector i) (vector j)).b
  pub right : 8 < (j + 16 - i) % 16
      → Positive (neg (turn (vector i) (vector j))).a (neg (turn (vector i) (vector j))).b
