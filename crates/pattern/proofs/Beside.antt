-- Whether a segment overlaps one that comes after it.
use Rattle.std.proofs.Common.{◌≡◌, ◌≢◌, ℕ, ◌+◌, ◌-◌, ◌<◌, ◌≤◌, List, length, get_or, drop, take, refl, sym, ap, subst, ◌∙◌, inl, inr, arith}
use Rattle.std.specs.Prelude.{ℤ, pos, neg_ℤ, All, AllPairs}
use Rattle.std.proofs.lemmas.Bool.{cases_lt}
use Rattle.std.proofs.lemmas.List.{get_or-drop, get_or-take, length-drop, length-take, get_or_default}
use Rattle.exact.specs.Number.{Positive}
use Rattle.exact.specs.Plane.{ExactPoint, ExactSegment, IsSegment, Before, SegmentBefore, Overlap, DirOf, IsZero, vector}
use Rattle.geometry.specs.Meeting.{Along}
use Rattle.geometry.proofs.PointOrder.{before_trans, same_before, same_back, later_of, earlier_of}
use Rattle.geometry.proofs.Lines.{On}
use Rattle.geometry.proofs.Segments.{none_common, overlapped}
use Rattle.geometry.proofs.Found.{along_of, turn_on}
use Rattle.qroot2.specs.declared.sign.Sign.{Sign}
use Rattle.qroot2.specs.declared.sign.Sign.TheVariants as sign
use Rattle.plane.specs.Sides.{IsSide, turn_of}
use Rattle.sheet.specs.Pattern.{ExactCrease}
use Rattle.creases.specs.Creases.{Ascends}
use Rattle.creases.proofs.callers.Overlaps.{ended, one_way}
use Rattle.pattern.specs.Fitting.{AreApart}
use Rattle.plane.proofs.callers.Meets.{along_told}

not_positive : ¬ Positive (pos 0) (pos 0)
not_positive (inl h) = omega (arith, h.2)
not_positive (inr (inl h)) = omega (arith, h.1)
not_positive (inr (inr h)) = omega (arith, h.0)

-- beside a line is not on it
not_on : (p r : ExactPoint) (k : ℕ) (s : Sign) → IsSide p k r s → s ≢ sign.Zero → ¬ On (vector k) p r
not_on p r k s h n on = by s h n ((turn_on k p r).1 on)
  where
    by : (s : Sign) → IsSide p k r s → s ≢ sign.Zero → ¬ IsZero (turn_of p k r)
    by sign.Minus g m z = not_positive (subst (λ (a : ℤ). Positive a (pos 0)) (neg z.0) (subst (λ (b : ℤ). Positive (neg_ℤ (turn_of p k r).a) b) (neg z.1) g))
      where
        neg : {a : ℤ} → a ≡ pos 0 → neg_ℤ a ≡ pos 0
        neg e = ap neg_ℤ e
    by sign.Zero g m z = m refl
    by sign.Plus g m z = not_positive (subst (λ (a : ℤ). Positive a (pos 0)) z.0 (subst (λ (b : ℤ). Positive (turn_of p k r).a b) z.1 g))

-- ---- one line or not
pub off_line : (s t : ExactSegment) (k : ℕ) (x : Sign) → IsSegment s → IsSegment t → k < 16 → DirOf s.p s.q k → IsSide s.p k t.p x → x ≢ sign.Zero → ¬ Overlap s t
off_line s t k x h g l d i n v =
    let a = along_of t g in
    let one : k ≡ a.0 = one_way s t k a.0 (along_told s k h l d) a.1 v in
    none_common s t k v.0 (along_told s k h l d) (subst (Along t) (sym one) a.1) (not_on s.p t.p k x i n) v.3

pub one_dir : (s t : ExactSegment) (k j : ℕ) → IsSegment s → IsSegment t → k < 16 → j < 16 → DirOf s.p s.q k → DirOf t.p t.q j → Overlap s t → j ≡ k
one_dir s t k j h g l m d e v = sym (one_way s t k j (along_told s k h l d) (along_told t j g m e) v)

pub on_one_line : (s t : ExactSegment) (k j : ℕ) → IsSegment s → IsSegment t → k < 16 → DirOf s.p s.q k → DirOf t.p t.q j → j ≡ k → IsSide s.p k t.p sign.Zero → Before s.p t.q → Before t.p s.q → Overlap s t
on_one_line s t k j h g l d e same on b c =
    let lo = later_of s.p t.p in
    let hi = earlier_of s.q t.q in
    overlapped s t k lo.0 hi.0 (along_told s k h l d) (along_told t k g l (subst (DirOf t.p t.q) same e)) ((turn_on k s.p t.p).0 on) lo.1 hi.1 (
    elim lo.1.one [
      | inl u ↦ elim hi.1.one [ inl w ↦ between lo.0 hi.0 s.p s.q u w h.0 | inr w ↦ between lo.0 hi.0 s.p t.q u w b ]
      | inr u ↦ elim hi.1.one [ inl w ↦ between lo.0 hi.0 t.p s.q u w c | inr w ↦ between lo.0 hi.0 t.p t.q u w g.0 ]
    ]
    )
  where
    between : (lo hi p q : ExactPoint) → lo ≡ p → hi ≡ q → Before p q → Before lo hi
    between lo hi p q u w x = subst (λ y. Before y hi) (sym u) (subst (λ y. Before p y) (sym w) x)

-- ---- those that begin behind the end
-- one that comes later begins no earlier
pub begins_later : (s t : ExactSegment) (e : ExactPoint) → SegmentBefore s t → Before t.p e → Before s.p e
begins_later s t e (inl b) c = before_trans s.p t.p e b c
begins_later s t e (inr b) c = same_before t.p s.p e (same_back s.p t.p b.0) c

-- s begins before a later one ends
pub begins_before : (s t : ExactSegment) → IsSegment t → SegmentBefore s t → Before s.p t.q
begins_before s t h b = begins_later s t t.q b h.0

-- an element of a list, at any default
element : (xs : List ExactCrease) (i : ℕ) (x d : ExactCrease) → i < length xs → x ≡ get_or xs i x → get_or xs i d ≡ x
element xs i x d l e = get_or_default xs i d x l ∙ sym e

pub rest_apart : (s : ExactSegment) (later : List ExactCrease) (i : ℕ) (x : ExactCrease) → Ascends later → i < length later → x ≡ get_or later i x → All (λ f. ¬ Overlap s f.seg) (take i later) → ¬ Before x.seg.p s.q → All (λ f. ¬ Overlap s f.seg) later
rest_apart s later i x h l e a n = λ j d m. elim (cases_lt j i) [
  | inl k ↦ subst (λ (y : ExactCrease). ¬ Overlap s y.seg) (get_or-take i later j d k) (a j d (omega (arith, k, m, length-take i later)))
  | inr k ↦ ended s (get_or later j d).seg (λ b. n (behind j d k m b))
]
  where
    behind : (j : ℕ) (d : ExactCrease) → i ≤ j → j < length later → Before (get_or later j d).seg.p s.q → Before x.seg.p s.q
    behind j d k m b = elim (cases_lt i j) [
      | inl q ↦ begins_later x.seg (get_or later j d).seg s.q (subst (λ (y : ExactCrease). SegmentBefore y.seg (get_or later j d).seg) (element later i x d l e) (h i j d q m)) b
      | inr q ↦ (let same : j ≡ i = omega (arith, k, q) in subst (λ (y : ExactCrease). Before y.seg.p s.q) (ap (λ n. get_or later n d) same ∙ element later i x d l e) b)
    ]

-- a relation of an element to those behind it
behind_of : (R : ExactCrease → ExactCrease → Type 0) (xs : List ExactCrease) (i : ℕ) (x : ExactCrease) → i < length xs → x ≡ get_or xs i x → AllPairs R xs → All (R x) (drop (i + 1) xs)
behind_of R xs i x l e h = λ m d k.
    let m_in : i + 1 + m < length xs = omega (arith, k, length-drop (i + 1) xs) in
    subst (R x) (sym (get_or-drop (i + 1) xs m d)) (subst (λ (y : ExactCrease). R y (get_or xs (i + 1 + m) d)) (element xs i x d l e) (h i (i + 1 + m) d (omega arith) m_in))

pub rest_after : (xs : List ExactCrease) (i : ℕ) (x : ExactCrease) → i < length xs → x ≡ get_or xs i x → Ascends xs → All (λ f. SegmentBefore x.seg f.seg) (drop (i + 1) xs)
rest_after = behind_of (λ (f g : ExactCrease). SegmentBefore f.seg g.seg)

-- ---- the pairs of a list by their first ones
abbrev pub AreBeside : List ExactCrease → ℕ → Type 0
AreBeside xs i = (k j : ℕ) (d : ExactCrease) → k < i → k < j → j < length xs → ¬ Overlap (get_or xs k d).seg (get_or xs j d).seg

pub beside_next : (xs : List ExactCrease) (i : ℕ) (x : ExactCrease) → i < length xs → x ≡ get_or xs i x → AreBeside xs i → All (λ f. ¬ Overlap x.seg f.seg) (drop (i + 1) xs) → AreBeside xs (i + 1)
beside_next xs i x l e b a k j d m n o = elim (cases_lt k i) [
  | inl q ↦ b k j d q n o
  | inr q ↦ (
      let here : get_or xs k d ≡ x = (let same : k ≡ i = omega (arith, q, m) in ap (λ z. get_or xs z d) same ∙ element xs i x d l e) in
      let far : i + 1 + (j - (i + 1)) ≡ j = omega (arith, q, n, m) in
      let there : get_or (drop (i + 1) xs) (j - (i + 1)) d ≡ get_or xs j d = get_or-drop (i + 1) xs (j - (i + 1)) d ∙ ap (λ z. get_or xs z d) far in
      subst (λ (y : ExactCrease). ¬ Overlap y.seg (get_or xs j d).seg) (sym here) (subst (λ (y : ExactCrease). ¬ Overlap x.seg y.seg) there (a (j - (i + 1)) d (omega (arith, far, o, length-drop (i + 1) xs))))
      )
]

pub beside_fails : (xs : List ExactCrease) (i : ℕ) (x : ExactCrease) → i < length xs → x ≡ get_or xs i x → ¬ All (λ f. ¬ Overlap x.seg f.seg) (drop (i + 1) xs) → ¬ AreApart xs
beside_fails xs i x l e n h = n (behind_of (λ (f g : ExactCrease). ¬ Overlap f.seg g.seg) xs i x l e h)

pub beside_all : (xs : List ExactCrease) (i : ℕ) → length xs ≤ i → AreBeside xs i → AreApart xs
beside_all xs i l b = λ k j d m n. b k j d (omega (arith, l, m, n)) m n
