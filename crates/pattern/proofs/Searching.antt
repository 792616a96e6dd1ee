-- Where a crease is among creases that ascend.
use Rattle.std.proofs.Common.{◌≡◌, ℕ, ◌+◌, ◌<◌, ◌≤◌, Bool, IsTrue, List, length, get_or, sym, ap, subst, ◌∙◌, inl, inr, arith}
use Rattle.std.specs.Prelude.{◌↔◌, Contains}
use Rattle.std.proofs.lemmas.Bool.{cases_lt}
use Rattle.std.proofs.lemmas.List.{get_or_default}
use Rattle.exact.specs.Plane.{SegmentBefore}
use Rattle.sheet.specs.Pattern.{ExactCrease}
use Rattle.creases.specs.Creases.{Ascends}
use Rattle.creases.proofs.callers.Members.{before_at, segment_not_itself, segment_not_back}

-- each place of the crease is from low on, and below high
abbrev pub IsWithinPlaces : List ExactCrease → ExactCrease → ℕ → ℕ → Type 0
IsWithinPlaces xs f low high = (c : Contains xs f) → (low ≤ c.0) × (c.0 < high)

abbrev place : (xs : List ExactCrease) (i : ℕ) (x : ExactCrease) → i < length xs → x ≡ get_or xs i x → Contains xs x
place xs i x l e = (i, l, sym e)

same_place : (xs : List ExactCrease) (f x : ExactCrease) (i j : ℕ) → j < length xs → get_or xs i f ≡ f → x ≡ get_or xs j x → i ≡ j → f ≡ x
same_place xs f x i j l g e s = sym g ∙ ap (λ n. get_or xs n f) s ∙ get_or_default xs j f x l ∙ sym e

-- the element at i is before the crease: its places are behind i
pub places_behind : (xs : List ExactCrease) (f x : ExactCrease) (i low high : ℕ) → Ascends xs → i < length xs → x ≡ get_or xs i x → SegmentBefore x.seg f.seg → IsWithinPlaces xs f low high → IsWithinPlaces xs f (i + 1) high
places_behind xs f x i low high h l e b w c = (elim (cases_lt i c.0) [ inl k ↦ omega (arith, k) | inr k ↦ absurd (not_there k) ], (w c).1)
  where
    not_there : ¬ (c.0 ≤ i)
    not_there k = elim (cases_lt c.0 i) [
      | inl m ↦ segment_not_back x.seg f.seg b (before_at xs f x h c (place xs i x l e) m)
      | inr m ↦ segment_not_itself x.seg f.seg (ap (λ (y : ExactCrease). y.seg) (sym (same_place xs f x c.0 i l c.2 e (omega (arith, k, m))))) b
    ]

-- and where it is after the crease, its places are before i
pub places_before : (xs : List ExactCrease) (f x : ExactCrease) (i low high : ℕ) → Ascends xs → i < length xs → x ≡ get_or xs i x → SegmentBefore f.seg x.seg → IsWithinPlaces xs f low high → IsWithinPlaces xs f low i
places_before xs f x i low high h l e b w c = ((w c).0, elim (cases_lt c.0 i) [ inl k ↦ k | inr k ↦ absurd (not_there k) ])
  where
    not_there : ¬ (i ≤ c.0)
    not_there k = elim (cases_lt i c.0) [
      | inl m ↦ segment_not_back f.seg x.seg b (before_at xs x f h (place xs i x l e) c m)
      | inr m ↦ segment_not_itself f.seg x.seg (ap (λ (y : ExactCrease). y.seg) (same_place xs f x c.0 i l c.2 e (omega (arith, k, m)))) b
    ]

-- where it is neither, it is the crease or none is
pub places_here : (xs : List ExactCrease) (f x : ExactCrease) (i : ℕ) (b : Bool) → Ascends xs → i < length xs → x ≡ get_or xs i x → ¬ SegmentBefore x.seg f.seg → ¬ SegmentBefore f.seg x.seg → IsTrue b ↔ (x ≡ f) → IsTrue b ↔ Contains xs f
places_here xs f x i b h l e n m t = (λ q. subst (Contains xs) (t.0 q) (place xs i x l e), λ c. t.1 (here c))
  where
    here : Contains xs f → x ≡ f
    here c = elim (cases_lt c.0 i) [
      | inl k ↦ absurd (m (before_at xs f x h c (place xs i x l e) k))
      | inr k ↦ elim (cases_lt i c.0) [ inl q ↦ absurd (n (before_at xs x f h (place xs i x l e) c q)) | inr q ↦ sym (same_place xs f x c.0 i l c.2 e (omega (arith, k, q))) ]
    ]

pub no_place : (xs : List ExactCrease) (f : ExactCrease) (low high : ℕ) → high ≤ low → IsWithinPlaces xs f low high → ¬ Contains xs f
no_place xs f low high l w c = (let k = w c in omega (arith, k.0, k.1, l))
