-- The least pair of creases whose crossing cannot be held, from the places of the creases.
use Rattle.std.proofs.Common.{◌≡◌, ℕ, ◌<◌, map, length, get_or, sym, ap, subst, ◌∙◌, ◌⊎◌, inl, inr, arith}
use Rattle.std.specs.Prelude.{Contains}
use Rattle.std.proofs.lemmas.Bool.{cases_order}
use Rattle.std.proofs.lemmas.List.{get_or-map, length-map}
use Rattle.exact.specs.Plane.{ExactSegment, SegmentBefore}
use Rattle.sheet.specs.Pattern.{ExactCrease, ExactPattern, IsPattern}
use Rattle.subdivide.specs.Subdivision.{OutOfRange, InRange, Answer, CutOf}
use Rattle.sheet.specs.declared.colour.Colour.TheVariants.{M}
use Rattle.creases.proofs.callers.Members.{segment_not_back}

segment_not_itself : (s : ExactSegment) → SegmentBefore s s → ⊥
segment_not_itself s h = segment_not_back s s h h

-- a crease at a place
pub record Stands (pattern : ExactPattern) (i : ℕ) (s : ExactSegment) : Type 0 where
  pub within : i < length pattern.creases
  pub is : (d : ExactCrease) → (get_or pattern.creases i d).seg ≡ s

pub stands : (pattern : ExactPattern) (s : ExactSegment) → Contains (map (λ (f : ExactCrease). f.seg) pattern.creases) s → (i : ℕ) × Stands pattern i s
stands pattern s c = (c.0, record { within = h; is = λ d. sym (get_or-map (λ (f : ExactCrease). f.seg) pattern.creases c.0 d s h) ∙ c.2 })
  where
    h : c.0 < length pattern.creases
    h = omega (arith, c.1, length-map pattern.creases (λ (f : ExactCrease). f.seg))

pub some_crease : ExactSegment → ExactCrease
some_crease s = record { seg = s; colour = M }

pub earlier : (pattern : ExactPattern) → IsPattern pattern → (s t : ExactSegment) (i j : ℕ) → Stands pattern i s → Stands pattern j t → i < j → SegmentBefore s t
earlier pattern p s t i j a b l = subst (SegmentBefore s) (b.is (some_crease s)) (subst (λ z. SegmentBefore z (get_or pattern.creases j (some_crease s)).seg) (a.is (some_crease s)) (p.ordered i j (some_crease s) l b.within))

pub places : (pattern : ExactPattern) → IsPattern pattern → (s t : ExactSegment) (i j : ℕ) → Stands pattern i s → Stands pattern j t → SegmentBefore s t → i < j
places pattern p s t i j a b h = elim (cases_order i j) [
  | inl e ↦ absurd (segment_not_itself t (subst (λ z. SegmentBefore z t) (sym (a.is (some_crease s)) ∙ ap (λ n. (get_or pattern.creases n (some_crease s)).seg) e ∙ b.is (some_crease s)) h))
  | inr k ↦ elim k [ inl l ↦ l | inr g ↦ absurd (segment_not_back s t h (earlier pattern p t s j i b a g)) ]
]

pub one_place : (pattern : ExactPattern) → IsPattern pattern → (s t : ExactSegment) (i j : ℕ) → Stands pattern i s → Stands pattern j t → s ≡ t → i ≡ j
one_place pattern p s t i j a b e = elim (cases_order i j) [
  | inl q ↦ q
  | inr k ↦ elim k [
    | inl l ↦ absurd (segment_not_itself t (subst (λ z. SegmentBefore z t) e (earlier pattern p s t i j a b l)))
    | inr g ↦ absurd (segment_not_itself t (subst (SegmentBefore t) e (earlier pattern p t s j i b a g)))
  ]
]

-- no pair of places is out of range
pub in_range : (pattern : ExactPattern) → IsPattern pattern → ((i j : ℕ) (s t : ExactSegment) → i < j → Stands pattern i s → Stands pattern j t → ¬ OutOfRange pattern s t) → InRange pattern
in_range pattern p none s t o = (let a = stands pattern s o.1 in let b = stands pattern t o.2 in none a.0 b.0 s t (places pattern p s t a.0 b.0 a.1 b.1 o.0) a.1 b.1 o)

-- the first pair of places that is out of range, by the first place and then the second, is the answer
pub first_out : (pattern : ExactPattern) → IsPattern pattern → (i j : ℕ) (s t : ExactSegment) → Stands pattern i s → Stands pattern j t → OutOfRange pattern s t
    → ((a b : ℕ) (u v : ExactSegment) → a < b → Stands pattern a u → Stands pattern b v → (a < i) ⊎ ((a ≡ i) × (b < j)) → ¬ OutOfRange pattern u v)
    → CutOf pattern (Answer.CrossRange s t)
first_out pattern p i j s t a b o none = (
  o,
  λ u v q h. (let x = stands pattern u q.1 in let y = stands pattern v q.2 in
      none x.0 y.0 u v (places pattern p u v x.0 y.0 x.1 y.1 q.0) x.1 y.1 (elim h [
        | inl l ↦ inl (places pattern p u s x.0 i x.1 a l)
        | inr k ↦ inr (one_place pattern p u s x.0 i x.1 a k.0, places pattern p v t y.0 j y.1 b k.1)
      ]) q),
)
