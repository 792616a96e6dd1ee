-- A line of native text is cut in one way into its letter, its two ends and their numbers.
use Rattle.std.proofs.Common.{◌≡◌, ◌≢◌, ℕ, ◌≤◌, List, ◌∷◌, ◌++◌, refl, sym, ap, subst, ◌∙◌, arith, inl, inr}
use Rattle.std.specs.Prelude.{Contains, Result, Ok, Err}
use Rattle.std.proofs.lemmas.List.Elements.{Contains-append_cases, Contains-append_right}
use Rattle.exact.specs.Number.{ExactNumber, IsCanonical}
use Rattle.exact.specs.Plane.{ExactPoint, IsPointCanonical}
use Rattle.qroot2.specs.Text.{number_text, IsWithinLimits}
use Rattle.plane.specs.PointText.{point_text}
use Rattle.sheet.specs.declared.colour.Colour.{Colour}
use Rattle.pattern.specs.NativeText.{letter}
use Rattle.pattern.specs.NativeReading.{IsSpelled, IsPointSpelled, AreHeld}
use Rattle.pattern.specs.NativeLines.{ReadsEnd, both_of, body_text, IsNoBody}
use Rattle.qroot2.specs.Text.{Reads}
use Rattle.pattern.specs.Splitting.{SplitsAt}
use Rattle.qroot2.specs.declared.text.NumText.{NumText}
use Rattle.qroot2.specs.declared.text.NumText.TheVariants.{Syntax, Range}
use Rattle.pattern.proofs.Splits.{one_split}
use Rattle.pattern.proofs.NumberBytes.{IsMark, number_unmarked}
use Rattle.chains.proofs.callers.Elements.{head_has, has_cases}

-- a point's text has a comma, and no space and no line feed
pub comma_in : (p : ExactPoint) → Contains (point_text p) 44
comma_in p = Contains-append_right (number_text p.x) (44 ∷ number_text p.y) 44 (head_has 44 44 (number_text p.y) refl)

pub point_unmarked : (p : ExactPoint) (b : ℕ) → IsMark b → b ≢ 44 → ¬ Contains (point_text p) b
point_unmarked p b m n c = elim (Contains-append_cases (number_text p.x) (44 ∷ number_text p.y) b c) [
  | inl h ↦ number_unmarked p.x b m h
  | inr h ↦ elim (has_cases 44 b (number_text p.y) h) [ inl e ↦ n (sym e) | inr k ↦ number_unmarked p.y b m k ]
]

pub canonical_within : (x : ExactNumber) → IsCanonical x → IsWithinLimits x
canonical_within x c = record { a = c.a; b = c.b; d = c.d }

pub canonical_spelled : (x : ExactNumber) → IsCanonical x → IsSpelled x
canonical_spelled x c = record { some = omega (arith, c.positive); lowest = λ _. c.lowest }

wide_spelled : (x : ExactNumber) → 1 ≤ x.d → ¬ IsWithinLimits x → IsSpelled x
wide_spelled x s w = record { some = s; lowest = λ h. absurd (w h) }

-- a text that is a point's is cut at the comma between its numbers
halves : (p : ExactPoint) (bytes xs ys : List ℕ) → SplitsAt bytes 44 xs ys → bytes ≡ point_text p → (xs ≡ number_text p.x) × (ys ≡ number_text p.y)
halves p bytes xs ys s e = one_split 44 xs ys (number_text p.x) (number_text p.y) s.first (number_unmarked p.x 44 (inr (inr refl))) (sym s.joined ∙ e)

no_number : (x : ExactNumber) (bytes : List ℕ) → Reads bytes (Err Syntax) → IsSpelled x → bytes ≢ number_text x
no_number x bytes r s e = (let h = r x s.some (sym e) in h.1 (s.lowest h.0))

-- what two readings of numbers say of the text of a point
abbrev pub ReadsPair : List ℕ → Result (ExactNumber × ExactNumber) NumText → Type 0
ReadsPair bytes (Ok xy) = ReadsEnd bytes (Ok (record { x = xy.0; y = xy.1 }))
ReadsPair bytes (Err e) = ReadsEnd bytes (Err e)

point_joined : (p : ExactPoint) (bytes xs ys : List ℕ) → SplitsAt bytes 44 xs ys → number_text p.x ≡ xs → number_text p.y ≡ ys → bytes ≡ point_text p
point_joined p bytes xs ys c e f = c.joined ∙ ap (λ t. t ++ 44 ∷ ys) (sym e) ∙ ap (λ t. number_text p.x ++ 44 ∷ t) (sym f)

pair_read : (bytes xs ys : List ℕ) (r s : Result ExactNumber NumText) → SplitsAt bytes 44 xs ys → Reads xs r → Reads ys s → ReadsPair bytes (both_of r s)
pair_read bytes xs ys (Ok x) (Ok y) c r s = (point_joined (record { x = x; y = y }) bytes xs ys c r.1 s.1, (r.0, s.0))
pair_read bytes xs ys (Ok x) (Err Syntax) c r s = λ p h e. no_number p.y ys s h.y (halves p bytes xs ys c e).1
pair_read bytes xs ys (Ok x) (Err Range) c r s = (
  record { x = x; y = s.0 },
  record { x = canonical_spelled x r.0; y = wide_spelled s.0 s.1 s.3 },
  point_joined (record { x = x; y = s.0 }) bytes xs ys c r.1 s.2,
  λ h. s.3 (canonical_within s.0 h.1),
)
pair_read bytes xs ys (Err Syntax) s c r t = λ p h e. no_number p.x xs r h.x (halves p bytes xs ys c e).0
pair_read bytes xs ys (Err Range) (Ok y) c r s = (
  record { x = r.0; y = y },
  record { x = wide_spelled r.0 r.1 r.3; y = canonical_spelled y s.0 },
  point_joined (record { x = r.0; y = y }) bytes xs ys c r.2 s.1,
  λ h. r.3 (canonical_within r.0 h.0),
)
pair_read bytes xs ys (Err Range) (Err Syntax) c r s = λ p h e. no_number p.y ys s h.y (halves p bytes xs ys c e).1
pair_read bytes xs ys (Err Range) (Err Range) c r s = (
  record { x = r.0; y = s.0 },
  record { x = wide_spelled r.0 r.1 r.3; y = wide_spelled s.0 s.1 s.3 },
  point_joined (record { x = r.0; y = s.0 }) bytes xs ys c r.2 s.2,
  λ h. r.3 (canonical_within r.0 h.0),
)

pub pair_answered : (bytes xs ys : List ℕ) (r s : Result ExactNumber NumText) (t : Result (ExactNumber × ExactNumber) NumText) → SplitsAt bytes 44 xs ys → Reads xs r → Reads ys s → t ≡ both_of r s → ReadsPair bytes t
pair_answered bytes xs ys r s t c a b e = subst (ReadsPair bytes) (sym e) (pair_read bytes xs ys r s c a b)

-- ---- a line of a letter and two ends
ends_halves : (p q : ExactPoint) (ends from to : List ℕ) → SplitsAt ends 32 from to → ends ≡ point_text p ++ 32 ∷ point_text q → (from ≡ point_text p) × (to ≡ point_text q)
ends_halves p q ends from to s e = one_split 32 from to (point_text p) (point_text q) s.first (point_unmarked p 32 (inr (inl refl)) (λ h. omega (arith, h))) (sym s.joined ∙ e)

pub space_in : (p q : ExactPoint) → Contains (point_text p ++ 32 ∷ point_text q) 32
space_in p q = Contains-append_right (point_text p) (32 ∷ point_text q) 32 (head_has 32 32 (point_text q) refl)

-- no end, no line
pub unspaced : (line : List ℕ) (first : ℕ) (ends : List ℕ) → line ≡ first ∷ 32 ∷ ends → ¬ Contains ends 32 → IsNoBody line
unspaced line first ends l n = λ c p q f t e. (let same : point_text p ++ 32 ∷ point_text q ≡ ends = cc in n (subst (λ (x : List ℕ). Contains x 32) same (space_in p q)))

abbrev pub ReadsEnds : List ℕ → Result (ExactPoint × ExactPoint) NumText → Type 0
ReadsEnds ends (Ok pq) = (ends ≡ point_text pq.0 ++ 32 ∷ point_text pq.1) × AreHeld pq.0 pq.1
ReadsEnds ends (Err Syntax) = (p q : ExactPoint) → IsPointSpelled p → IsPointSpelled q → ends ≢ point_text p ++ 32 ∷ point_text q
ReadsEnds ends (Err Range) = (p q : ExactPoint) × IsPointSpelled p × IsPointSpelled q × (ends ≡ point_text p ++ 32 ∷ point_text q) × (¬ AreHeld p q)

pub spelled_point : (p : ExactPoint) → IsPointCanonical p → IsPointSpelled p
spelled_point p c = record { x = canonical_spelled p.x c.0; y = canonical_spelled p.y c.1 }

pub both_texts : (ends from to : List ℕ) (p q : ExactPoint) → SplitsAt ends 32 from to → from ≡ point_text p → to ≡ point_text q → ends ≡ point_text p ++ 32 ∷ point_text q
both_texts ends from to p q s e f = s.joined ∙ ap (λ t. t ++ 32 ∷ to) e ∙ ap (λ t. point_text p ++ 32 ∷ t) f

ends_read : (ends from to : List ℕ) (r s : Result ExactPoint NumText) → SplitsAt ends 32 from to → ReadsEnd from r → ReadsEnd to s → ReadsEnds ends (both_of r s)
ends_read ends from to (Ok p) (Ok q) c r s = (both_texts ends from to p q c r.0 s.0, (r.1, s.1))
ends_read ends from to (Ok p) (Err Syntax) c r s = λ u v f t e. s v t (ends_halves u v ends from to c e).1
ends_read ends from to (Ok p) (Err Range) c r s = (p, s.0, spelled_point p r.1, s.1, both_texts ends from to p s.0 c r.0 s.2, λ h. s.3 h.1)
ends_read ends from to (Err Syntax) s c r t = λ u v f g e. r u f (ends_halves u v ends from to c e).0
ends_read ends from to (Err Range) (Ok q) c r s = (r.0, q, r.1, spelled_point q s.1, both_texts ends from to r.0 q c r.2 s.0, λ h. r.3 h.0)
ends_read ends from to (Err Range) (Err Syntax) c r s = λ u v f t e. s v t (ends_halves u v ends from to c e).1
ends_read ends from to (Err Range) (Err Range) c r s = (r.0, s.0, r.1, s.1, both_texts ends from to r.0 s.0 c r.2 s.2, λ h. r.3 h.0)

pub ends_answered : (ends from to : List ℕ) (r s : Result ExactPoint NumText) (t : Result (ExactPoint × ExactPoint) NumText) → SplitsAt ends 32 from to → ReadsEnd from r → ReadsEnd to s → t ≡ both_of r s → ReadsEnds ends t
ends_answered ends from to r s t c a b e = subst (ReadsEnds ends) (sym e) (ends_read ends from to r s c a b)

pub no_body : (line : List ℕ) (first : ℕ) (ends : List ℕ) → line ≡ first ∷ 32 ∷ ends → ReadsEnds ends (Err Syntax) → IsNoBody line
no_body line first ends l r = λ c p q f t e. r p q f t cc

pub a_body : (c : Colour) (first : ℕ) (ends : List ℕ) (p q : ExactPoint) → letter c ≡ first → ends ≡ point_text p ++ 32 ∷ point_text q → first ∷ 32 ∷ ends ≡ body_text c p q
a_body c first ends p q l e = cc
