-- What two segments have in common, by their directions, their lines and the order of points.
use Rattle.std.proofs.Common.{◌≡◌, ◌≢◌, ℕ, ◌%◌, sym, ap, subst, ◌∙◌, ◌⊎◌, inl, inr}
use Rattle.std.specs.Prelude.{◌↔◌}
use Rattle.exact.specs.Plane.{ExactPoint, SamePoint, Before, ExactSegment, OnSeg, OnBoth, Cross, Overlap, vector, away}
use Rattle.geometry.specs.Root.{minus, count, Above}
use Rattle.geometry.specs.Gap.{num, cross, det, Ahead}
use Rattle.geometry.specs.Meeting.{Along, SameSide, IsLater, IsEarlier}
use Rattle.geometry.proofs.Domain.{above_times, sign_of}
use Rattle.geometry.proofs.Gap.{straight, above_num, above_right, ahead_of, turn_itself}
use Rattle.geometry.proofs.Lines.{On, on_back, on_from, on_trans, one_point, side_moved, rises, falls, cross_back, weight, weight_above, right_minus, on_same}
use Rattle.geometry.proofs.PointOrder.{before_trans, before_not_itself, before_not_back, before_not_same, same_before, before_same, same_back, ordered, tied, same_itself}
use Rattle.geometry.proofs.Directions.{vector_whole, not_parallel}

pub on_line : (s : ExactSegment) (k : ℕ) (r : ExactPoint) → Along s k → OnSeg r s → On (vector k) s.p r
on_line s k r a h = record { on = (straight (vector k) s.p s.q r a.dir.0 (vector_whole k) (above_num a.dir.0 a.dir.1) a.dir.2).0 h.straight }

pub on_seg : (s : ExactSegment) (k : ℕ) (r : ExactPoint) → Along s k → On (vector k) s.p r → ¬ Before r s.p → ¬ Before s.q r → OnSeg r s
on_seg s k r a h f t = record { straight = (straight (vector k) s.p s.q r a.dir.0 (vector_whole k) (above_num a.dir.0 a.dir.1) a.dir.2).1 h.on; from = f; to = t }

pub ahead : (s : ExactSegment) (k : ℕ) → Along s k → Ahead (num (vector k).x) (num (vector k).y)
ahead s k a = ahead_of (vector k) s.p s.q a.dir.0 (vector_whole k) (above_num a.dir.0 a.dir.1) a.dir.2 a.ordered

pub end_on : (s : ExactSegment) (k : ℕ) → Along s k → On (vector k) s.p s.q
end_on s k a = on_line s k s.q a (record { straight = turn_itself (away s.p s.q); from = λ h. before_not_back s.p s.q a.ordered h; to = before_not_itself s.q })

-- (1) two segments that are not parallel have at most one common point
pub one_common : (s t : ExactSegment) (k j : ℕ) (u w : ExactPoint) → Along s k → Along t j → k % 8 ≢ j % 8 → OnBoth u s t → OnBoth w s t → SamePoint u w
one_common s t k j u w a b n h l = one_point (vector k) (vector j) u w (not_parallel k j a.small b.small n) (on_from (vector k) s.p u w (on_line s k u a h.0) (on_line s k w a l.0)) (on_from (vector j) t.p u w (on_line t j u b h.1) (on_line t j w b l.1))

-- (2) parallel segments on different lines have none
pub none_common : (s t : ExactSegment) (k : ℕ) (r : ExactPoint) → Along s k → Along t k → ¬ On (vector k) s.p t.p → ¬ OnBoth r s t
none_common s t k r a b n h = n (on_trans (vector k) s.p r t.p (on_line s k r a h.0) (on_back (vector k) t.p r (on_line t k r b h.1)))

-- (4) the two ends of s against the line of t: a common point of the lines is within s exactly where they are on different sides
within_core : {BCP BPC BCQ BQC P P' Q Q' : Type 0} → BCP ↔ P → BPC ↔ P' → BCQ ↔ Q → BQC ↔ Q' → (BCP → BCQ) → (BQC → BPC) → (¬ ((P × Q) ⊎ (P' × Q'))) ↔ ((¬ BCP) × (¬ BQC))
within_core cp pc cq qc f g = (λ n. (λ h. n (inl (cp.0 h, cq.0 (f h))), λ h. n (inr (pc.0 (g h), qc.0 h))), λ n h. elim h [ inl l ↦ n.0 (cp.1 l.0) | inr r ↦ n.1 (qc.1 r.1) ])

pub join : {A B C : Type 0} → A ↔ B → B ↔ C → A ↔ C
join f g = (λ a. g.0 (f.0 a), λ c. f.1 (g.1 c))

-- above zero from p as from c
moved_up : (w p c r : ExactPoint) → On w p c → Above (cross w c r) ↔ Above (cross w p r)
moved_up w p c r h = (λ a. above_right (cross w p r) (weight c) (weight_above c) (subst Above (sym (side_moved w p c r h)) (above_times _ _ a (weight_above p))), λ a. above_right (cross w c r) (weight p) (weight_above p) (subst Above (side_moved w p c r h) (above_times _ _ a (weight_above c))))

moved_down : (w p c r : ExactPoint) → On w p c → Above (minus (cross w c r)) ↔ Above (minus (cross w p r))
moved_down w p c r h = (λ a. above_right (minus (cross w p r)) (weight c) (weight_above c) (subst Above (right_minus _ _ ∙ ap minus (sym (side_moved w p c r h)) ∙ sym (right_minus _ _)) (above_times _ _ a (weight_above p))), λ a. above_right (minus (cross w c r)) (weight p) (weight_above p) (subst Above (right_minus _ _ ∙ ap minus (side_moved w p c r h) ∙ sym (right_minus _ _)) (above_times _ _ a (weight_above c))))

turned : (w a b : ExactPoint) → Above (cross w a b) ↔ Above (minus (cross w b a))
turned w a b = (λ h. subst Above (cross_back w b a) h, λ h. subst Above (sym (cross_back w b a)) h)

turned_down : (w a b : ExactPoint) → Above (minus (cross w a b)) ↔ Above (cross w b a)
turned_down w a b = (λ h. subst Above (sym (cross_back w a b)) h, λ h. subst Above (cross_back w a b) h)

pub within : (v w p q l c : ExactPoint) → Ahead (num v.x) (num v.y) → det w v ≢ count 0 → Before p q → On v p q → On v p c → On w l c
    → (¬ SameSide (cross w l p) (cross w l q)) ↔ ((¬ Before c p) × (¬ Before q c))
within v w p q l c s n b pq pc lc = elim (sign_of (det w v)) [
  | inl d ↦ within_core
      (join (rises v w c p s d cp) (moved_up w l c p lc))
      (join (join (rises v w p c s d pc) (turned w p c)) (moved_down w l c p lc))
      (join (rises v w c q s d cq) (moved_up w l c q lc))
      (join (join (rises v w q c s d qc) (turned w q c)) (moved_down w l c q lc)) up down
  | inr k ↦ elim k [
    | inl z ↦ absurd (n z)
    | inr d ↦ join (swapped _ _ _ _) (within_core
        (join (falls v w c p s d cp) (moved_down w l c p lc))
        (join (join (falls v w p c s d pc) (turned_down w p c)) (moved_up w l c p lc))
        (join (falls v w c q s d cq) (moved_down w l c q lc))
        (join (join (falls v w q c s d qc) (turned_down w q c)) (moved_up w l c q lc)) up down)
  ]
]
  where
    cp : On v c p
    cp = on_back v p c pc

    cq : On v c q
    cq = on_from v p c q pc pq

    qc : On v q c
    qc = on_back v c q cq

    up : Before c p → Before c q
    up h = before_trans c p q h b

    down : Before q c → Before p c
    down h = before_trans p q c b h

    swapped : (A B C D : Type 0) → (¬ ((A × B) ⊎ (C × D))) ↔ (¬ ((C × D) ⊎ (A × B)))
    swapped A B C D = (λ n h. n (elim h [ inl l ↦ inr l | inr r ↦ inl r ]), λ n h. n (elim h [ inl l ↦ inr l | inr r ↦ inl r ]))

-- a point of both lines is on both segments exactly where neither has its ends on one side of the other
pub crossing : (s t : ExactSegment) (k j : ℕ) (c : ExactPoint) → Along s k → Along t j → k % 8 ≢ j % 8 → On (vector k) s.p c → On (vector j) t.p c
    → ((¬ SameSide (cross (vector j) t.p s.p) (cross (vector j) t.p s.q)) × (¬ SameSide (cross (vector k) s.p t.p) (cross (vector k) s.p t.q))) ↔ OnBoth c s t
crossing s t k j c a b n h l = (λ x. (let f = first.0 x.0 in let g = second.0 x.1 in (on_seg s k c a h f.0 f.1, on_seg t j c b l g.0 g.1)), λ x. (first.1 (x.0.from, x.0.to), second.1 (x.1.from, x.1.to)))
  where
    first : (¬ SameSide (cross (vector j) t.p s.p) (cross (vector j) t.p s.q)) ↔ ((¬ Before c s.p) × (¬ Before s.q c))
    first = within (vector k) (vector j) s.p s.q t.p c (ahead s k a) (not_parallel k j a.small b.small n) a.ordered (end_on s k a) h l

    second : (¬ SameSide (cross (vector k) s.p t.p) (cross (vector k) s.p t.q)) ↔ ((¬ Before c t.p) × (¬ Before t.q c))
    second = within (vector j) (vector k) t.p t.q s.p c (ahead t j b) (not_parallel j k b.small a.small (λ e. n (sym e))) b.ordered (end_on t j b) l h

-- ends on one side: no common point
pub beside : (s t : ExactSegment) (k j : ℕ) (r : ExactPoint) → Along s k → Along t j → k % 8 ≢ j % 8
    → SameSide (cross (vector j) t.p s.p) (cross (vector j) t.p s.q) ⊎ SameSide (cross (vector k) s.p t.p) (cross (vector k) s.p t.q) → ¬ OnBoth r s t
beside s t k j r a b n h x = (let y = (crossing s t k j r a b n (on_line s k r a x.0) (on_line t j r b x.1)).1 x in elim h [ inl l ↦ y.0 l | inr m ↦ y.1 m ])

pub crossed : (s t : ExactSegment) (k j : ℕ) (c : ExactPoint) → Along s k → Along t j → k % 8 ≢ j % 8 → On (vector k) s.p c → On (vector j) t.p c
    → ¬ SameSide (cross (vector j) t.p s.p) (cross (vector j) t.p s.q) → ¬ SameSide (cross (vector k) s.p t.p) (cross (vector k) s.p t.q) → Cross s t c
crossed s t k j c a b n h l f g = (let x = (crossing s t k j c a b n h l).0 (f, g) in record { here = x; only = λ u y. one_common s t k j u c a b n y x })

-- (3) Segments of one line. lo is the later of the lesser ends, hi the earlier of the greater ones.
-- a is not after m, and r not before m
not_before : (r m a : ExactPoint) → ¬ Before m a → ¬ Before r m → ¬ Before r a
not_before r m a h k l = elim (ordered m a) [
  | inl x ↦ h x
  | inr y ↦ elim y [ inl s ↦ k (before_same r a m (same_back m a s) l) | inr g ↦ k (before_trans r a m l g) ]
]

not_after : (r m a : ExactPoint) → ¬ Before a m → ¬ Before m r → ¬ Before a r
not_after r m a h k l = elim (ordered a m) [
  | inl x ↦ h x
  | inr y ↦ elim y [ inl s ↦ k (same_before a m r s l) | inr g ↦ k (before_trans m a r g l) ]
]

from_either : (P : ExactPoint → Type 0) (a b m : ExactPoint) → (m ≡ a) ⊎ (m ≡ b) → P a → P b → P m
from_either P a b m c x y = elim c [ inl e ↦ subst P (sym e) x | inr e ↦ subst P (sym e) y ]

pub shared : (s t : ExactSegment) (k : ℕ) (lo hi r : ExactPoint) → Along s k → Along t k → On (vector k) s.p t.p → IsLater s.p t.p lo → IsEarlier s.q t.q hi
    → OnBoth r s t ↔ (On (vector k) s.p r × (¬ Before r lo) × (¬ Before hi r))
shared s t k lo hi r a b h l e = (
  λ x. (on_line s k r a x.0, from_either (λ m. ¬ Before r m) s.p t.p lo l.one x.0.from x.1.from, from_either (λ m. ¬ Before m r) s.q t.q hi e.one x.0.to x.1.to),
  λ y. (on_seg s k r a y.0 (not_before r lo s.p l.first y.1) (not_after r hi s.q e.first y.2), on_seg t k r b (on_from (vector k) s.p t.p r h y.0) (not_before r lo t.p l.second y.1) (not_after r hi t.q e.second y.2)),
)

lo_on : (s t : ExactSegment) (k : ℕ) (lo : ExactPoint) → Along s k → On (vector k) s.p t.p → IsLater s.p t.p lo → On (vector k) s.p lo
lo_on s t k lo a h l = from_either (λ m. On (vector k) s.p m) s.p t.p lo l.one (on_from (vector k) s.q s.p s.p (on_back (vector k) s.p s.q (end_on s k a)) (on_back (vector k) s.p s.q (end_on s k a))) h

-- the ends pass each other: none
pub none_shared : (s t : ExactSegment) (k : ℕ) (lo hi r : ExactPoint) → Along s k → Along t k → On (vector k) s.p t.p → IsLater s.p t.p lo → IsEarlier s.q t.q hi → Before hi lo → ¬ OnBoth r s t
none_shared s t k lo hi r a b h l e g x = (let y = (shared s t k lo hi r a b h l e).0 x in elim (ordered r lo) [
  | inl z ↦ y.1 z
  | inr z ↦ elim z [ inl q ↦ y.2 (before_same hi lo r (same_back r lo q) g) | inr q ↦ y.2 (before_trans hi lo r g q) ]
])

-- the ends touch: one
pub touched : (s t : ExactSegment) (k : ℕ) (lo hi : ExactPoint) → Along s k → Along t k → On (vector k) s.p t.p → IsLater s.p t.p lo → IsEarlier s.q t.q hi → SamePoint lo hi → Cross s t lo
touched s t k lo hi a b h l e g = record {
  here = (shared s t k lo hi lo a b h l e).1 (lo_on s t k lo a h l, before_not_itself lo, λ z. before_not_same hi lo z (same_back lo hi g));
  only = λ u x. (let y = (shared s t k lo hi u a b h l e).0 x in tied u lo y.1 (λ z. y.2 (same_before lo hi u g z)));
}

-- else both ends are on both, and the common part is the segment between them
pub overlapped : (s t : ExactSegment) (k : ℕ) (lo hi : ExactPoint) → Along s k → Along t k → On (vector k) s.p t.p → IsLater s.p t.p lo → IsEarlier s.q t.q hi → Before lo hi → Overlap s t
overlapped s t k lo hi a b h l e g = (
  lo,
  hi,
  before_not_same lo hi g,
  (shared s t k lo hi lo a b h l e).1 (lo_on s t k lo a h l, before_not_itself lo, before_not_back lo hi g),
  (shared s t k lo hi hi a b h l e).1 (hi_on, before_not_back lo hi g, before_not_itself hi),
)
  where
    hi_on : On (vector k) s.p hi
    hi_on = from_either (λ m. On (vector k) s.p m) s.q t.q hi e.one (end_on s k a) (on_trans (vector k) s.p t.p t.q h (end_on t k b))

pub overlap_is : (s t u : ExactSegment) (k : ℕ) (r : ExactPoint) → Along s k → Along t k → Along u k → On (vector k) s.p t.p → IsLater s.p t.p u.p → IsEarlier s.q t.q u.q → OnBoth r s t ↔ OnSeg r u
overlap_is s t u k r a b c h l e = join (shared s t k u.p u.q r a b h l e) (λ y. on_seg u k r c (on_from (vector k) s.p u.p r (lo_on s t k u.p a h l) y.0) y.1 y.2, λ x. (on_trans (vector k) s.p u.p r (lo_on s t k u.p a h l) (on_line u k r c x), x.from, x.to))

pub end_p : (s : ExactSegment) (k : ℕ) → Along s k → OnSeg s.p s
end_p s k a = on_seg s k s.p a (on_same (vector k) s.p s.p (same_itself s.p)) (before_not_itself s.p) (before_not_back s.p s.q a.ordered)

pub end_q : (s : ExactSegment) (k : ℕ) → Along s k → OnSeg s.q s
end_q s k a = on_seg s k s.q a (end_on s k a) (before_not_back s.p s.q a.ordered) (before_not_itself s.q)

pub shared_on : (s t : ExactSegment) (k : ℕ) (lo hi : ExactPoint) → Along s k → Along t k → On (vector k) s.p t.p → IsLater s.p t.p lo → IsEarlier s.q t.q hi → On (vector k) lo hi
shared_on s t k lo hi a b h l e = on_from (vector k) s.p lo hi (lo_on s t k lo a h l) (from_either (λ m. On (vector k) s.p m) s.q t.q hi e.one (end_on s k a) (on_trans (vector k) s.p t.p t.q h (end_on t k b)))

-- a segment whose ends are on a parallel one lies on it
pub covered : (s t : ExactSegment) (k : ℕ) → Along s k → Along t k → OnSeg t.p s → OnSeg t.q s → (r : ExactPoint) → OnSeg r t → OnSeg r s
covered s t k a b f g r h =
    on_seg s k r a (on_trans (vector k) s.p t.p r (on_line s k t.p a f) (on_line t k r b h)) (not_before r t.p s.p f.from h.from) (not_after r t.q s.q g.to h.to)
