-- The lines of a pattern in the order in which they are swept.
use Rattle.std.proofs.Common.{◌≡◌, ℕ, zero, suc, ◌+◌, ◌<◌, ◌≤◌, List, [], ◌∷◌, ◌++◌, map, length, get_or, refl, sym, ap, subst, ◌∙◌, ◌⊎◌, inl, inr, arith}
use Rattle.std.specs.Prelude.{unsigned_abs, Contains, slice_get, Some}
use Rattle.std.proofs.lemmas.List.Elements.{Contains-append_left, Contains-append_right}
use Rattle.std.proofs.lemmas.Option.{slice_get_within, get_or_from_slice_get, slice_get_read}
use Rattle.exact.specs.Number.{ExactNumber, Less, whole}
use Rattle.exact.specs.Plane.{ExactSegment, SegmentBefore, Overlap}
use Rattle.exact.proofs.Told.{less_not_same, less_not_back}
use Rattle.exact.proofs.Order.{same_turned}
use Rattle.plane.proofs.callers.Sides.{at_least, at_most}
use Rattle.sheet.specs.Sheet.{ExactSheet, IsSheet, sides, corner, InSheet}
use Rattle.sheet.specs.Pattern.{ExactCrease, ExactPattern, IsPattern, IsKey}
use Rattle.creases.proofs.callers.Overlaps.{overlap_back}
use Rattle.subdivide.specs.Subdivision.{Line, lines, kind_of}
use Rattle.subdivide.specs.declared.edge.EdgeKind.TheVariants as kind
use Rattle.subdivide.specs.declared.line.MarkedLine.{MarkedLine}
use Rattle.subdivide.specs.Lines.{as_line, swept, AreSwept, AreLinesOf}
use Rattle.subdivide.proofs.callers.Range.{Stands, earlier, one_place}
use Rattle.subdivide.proofs.PatternLines.{LineCase, line_case, lines_apart, side_key, key_of, map_contains}
use Rattle.subdivide.proofs.SideRange.{line_has_ends}
use Rattle.subdivide.proofs.callers.Gets.{some_is, none_is, has_at}

-- the left, the lower and the upper side
abbrev pub first_side : ExactSheet → ℕ → ExactSegment
first_side sheet zero = record { p = corner sheet 0 0; q = corner sheet 0 1 }
first_side sheet (suc zero) = record { p = corner sheet 0 0; q = corner sheet 1 0 }
first_side sheet (suc (suc i)) = record { p = corner sheet 0 1; q = corner sheet 1 1 }

-- the right side
abbrev pub last_side : ExactSheet → ExactSegment
last_side sheet = record { p = corner sheet 1 0; q = corner sheet 1 1 }

abbrev pub side_of : ExactSegment → Line
side_of s = record { seg = s; kind = kind.B }

abbrev pub crease_of : ExactCrease → Line
crease_of f = record { seg = f.seg; kind = kind_of f.colour }

-- what stands at place i
pub data SweptCase (pattern : ExactPattern) (i : ℕ) (l : Line) : Type 0 where
  at_first : i < 3 → l ≡ side_of (first_side pattern.sheet i) → SweptCase pattern i l
  at_crease : (j : ℕ) (f : ExactCrease) → i ≡ 3 + j → slice_get pattern.creases j ≡ Some f → l ≡ crease_of f → SweptCase pattern i l
  at_last : i ≡ 3 + length pattern.creases → l ≡ side_of (last_side pattern.sheet) → SweptCase pattern i l

rest_case : (xs : List ExactCrease) (r l : Line) (i : ℕ) → slice_get (map crease_of xs ++ r ∷ []) i ≡ Some l → ((f : ExactCrease) × (slice_get xs i ≡ Some f) × (l ≡ crease_of f)) ⊎ ((i ≡ length xs) × (l ≡ r))
rest_case [] r l zero e = inr (refl, sym (some_is e))
rest_case [] r l (suc i) e = absurd (none_is e)
rest_case (x ∷ xs) r l zero e = inl (x, refl, sym (some_is e))
rest_case (x ∷ xs) r l (suc i) e = elim (rest_case xs r l i e) [ inl h ↦ inl h | inr h ↦ inr (omega (arith, h.0), h.1) ]

pub swept_case : (pattern : ExactPattern) (i : ℕ) (l : Line) → slice_get (swept pattern) i ≡ Some l → SweptCase pattern i l
swept_case pattern zero l e = SweptCase.at_first (omega arith) (sym (some_is e))
swept_case pattern (suc zero) l e = SweptCase.at_first (omega arith) (sym (some_is e))
swept_case pattern (suc (suc zero)) l e = SweptCase.at_first (omega arith) (sym (some_is e))
swept_case pattern (suc (suc (suc i))) l e = elim (rest_case pattern.creases (side_of (last_side pattern.sheet)) l i e) [
  | inl h ↦ SweptCase.at_crease i h.0 (omega arith) h.1 h.2
  | inr h ↦ SweptCase.at_last (omega (arith, h.0)) h.1
]

-- and each line stands somewhere
rest_crease : (xs : List ExactCrease) (r : Line) (j : ℕ) (f : ExactCrease) → slice_get xs j ≡ Some f → slice_get (map crease_of xs ++ r ∷ []) j ≡ Some (crease_of f)
rest_crease [] r j f e = absurd (none_is e)
rest_crease (x ∷ xs) r zero f e = ap (λ z. Some (crease_of z)) (some_is e)
rest_crease (x ∷ xs) r (suc j) f e = rest_crease xs r j f e

rest_last : (xs : List ExactCrease) (r : Line) → slice_get (map crease_of xs ++ r ∷ []) (length xs) ≡ Some r
rest_last [] r = refl
rest_last (x ∷ xs) r = rest_last xs r

pub crease_stands : (pattern : ExactPattern) (j : ℕ) (f : ExactCrease) → slice_get pattern.creases j ≡ Some f → slice_get (swept pattern) (3 + j) ≡ Some (crease_of f)
crease_stands pattern j f e = subst (λ n. slice_get (swept pattern) n ≡ Some (crease_of f)) (three j) (rest_crease pattern.creases (side_of (last_side pattern.sheet)) j f e)
  where
    three : (j : ℕ) → suc (suc (suc j)) ≡ 3 + j
    three j = omega arith

side_stands : (pattern : ExactPattern) (s : ExactSegment) (i : ℕ) → i < 4 → s ≡ get_or (sides pattern.sheet) i s → (n : ℕ) × (slice_get (swept pattern) n ≡ Some (side_of s))
side_stands pattern s zero h e = (0, ap (λ z. Some (side_of z)) (sym e))
side_stands pattern s (suc zero) h e = (1, ap (λ z. Some (side_of z)) (sym e))
side_stands pattern s (suc (suc zero)) h e = (2, ap (λ z. Some (side_of z)) (sym e))
side_stands pattern s (suc (suc (suc zero))) h e = (suc (suc (suc (length pattern.creases))), rest_last pattern.creases (side_of (last_side pattern.sheet)) ∙ ap (λ z. Some (side_of z)) (sym e))
side_stands pattern s (suc (suc (suc (suc i)))) h e = absurd (omega arith)

pub line_stands : (pattern : ExactPattern) (m : Line) → Contains (lines pattern) m → (n : ℕ) × (slice_get (swept pattern) n ≡ Some m)
line_stands pattern m c = by (line_case pattern m.seg m.kind c)
  where
    by : LineCase pattern m.seg m.kind → (n : ℕ) × (slice_get (swept pattern) n ≡ Some m)
    by (LineCase.is_side d e) = (let n = side_stands pattern m.seg d.0 d.1 (sym d.2) in (n.0, n.1 ∙ ap (λ k. Some (let l : Line = record { seg = m.seg; kind = k } in l)) (sym e)))
    by (LineCase.is_crease f d e g) = (3 + d.0, crease_stands pattern d.0 f (slice_get_read pattern.creases (length pattern.creases) d.0 f refl d.1 (sym d.2)) ∙ named m f e g)
      where
        named : (m : Line) (f : ExactCrease) → f.seg ≡ m.seg → kind_of f.colour ≡ m.kind → Some (crease_of f) ≡ Some m
        named m f e g = ap (λ s. Some (let l : Line = record { seg = s; kind = kind_of f.colour } in l)) e ∙ ap (λ k. Some (let l : Line = record { seg = m.seg; kind = k } in l)) g

-- a place of a marked line is that of the line
pub marked_at : (ls : List MarkedLine) (ms : List Line) (i : ℕ) (l : MarkedLine) → map as_line ls ≡ ms → slice_get ls i ≡ Some l → slice_get ms i ≡ Some (as_line l)
marked_at ls ms i l e h = subst (λ z. slice_get z i ≡ Some (as_line l)) e (by ls i h)
  where
    by : (xs : List MarkedLine) (i : ℕ) → slice_get xs i ≡ Some l → slice_get (map as_line xs) i ≡ Some (as_line l)
    by [] i h = absurd (none_is h)
    by (x ∷ xs) zero h = ap (λ z. Some (as_line z)) (some_is h)
    by (x ∷ xs) (suc i) h = by xs i h

pub line_at : (ls : List MarkedLine) (ms : List Line) (i : ℕ) (m : Line) → map as_line ls ≡ ms → slice_get ms i ≡ Some m → (l : MarkedLine) × (slice_get ls i ≡ Some l) × (as_line l ≡ m)
line_at ls ms i m e h = by ls i (subst (λ z. slice_get z i ≡ Some m) (sym e) h)
  where
    by : (xs : List MarkedLine) (i : ℕ) → slice_get (map as_line xs) i ≡ Some m → (l : MarkedLine) × (slice_get xs i ≡ Some l) × (as_line l ≡ m)
    by [] i h = absurd (none_is h)
    by (x ∷ xs) zero h = (x, refl, some_is h)
    by (x ∷ xs) (suc i) h = by xs i h

-- it is a line of the pattern
pub first_in : (sheet : ExactSheet) (i : ℕ) → i < 3 → Contains (sides sheet) (first_side sheet i)
first_in sheet zero h = (0, omega arith, refl)
first_in sheet (suc zero) h = (1, omega arith, refl)
first_in sheet (suc (suc zero)) h = (2, omega arith, refl)
first_in sheet (suc (suc (suc i))) h = absurd (omega arith)

pub last_in : (sheet : ExactSheet) → Contains (sides sheet) (last_side sheet)
last_in sheet = (3, omega arith, refl)

side_in : (pattern : ExactPattern) (s : ExactSegment) → Contains (sides pattern.sheet) s → Contains (lines pattern) (side_of s)
side_in pattern s c = Contains-append_left (map side_of (sides pattern.sheet)) (map crease_of pattern.creases) (side_of s) (map_contains side_of (sides pattern.sheet) s c)

crease_in : (pattern : ExactPattern) (j : ℕ) (f : ExactCrease) → slice_get pattern.creases j ≡ Some f → Contains (lines pattern) (crease_of f)
crease_in pattern j f e = Contains-append_right (map side_of (sides pattern.sheet)) (map crease_of pattern.creases) (crease_of f) (map_contains crease_of pattern.creases f (has_at pattern.creases j f e))

pub is_line : (pattern : ExactPattern) (i : ℕ) (m : Line) → slice_get (swept pattern) i ≡ Some m → Contains (lines pattern) m
is_line pattern i m e = by (swept_case pattern i m e)
  where
    by : SweptCase pattern i m → Contains (lines pattern) m
    by (SweptCase.at_first h q) = subst (λ z. Contains (lines pattern) z) (sym q) (side_in pattern (first_side pattern.sheet i) (first_in pattern.sheet i h))
    by (SweptCase.at_crease j f h g q) = subst (λ z. Contains (lines pattern) z) (sym q) (crease_in pattern j f g)
    by (SweptCase.at_last h q) = subst (λ z. Contains (lines pattern) z) (sym q) (side_in pattern (last_side pattern.sheet) (last_in pattern.sheet))

-- where a line begins
begins : (pattern : ExactPattern) → IsPattern pattern → (i : ℕ) (m : Line) → slice_get (swept pattern) i ≡ Some m → InSheet pattern.sheet m.seg.p
begins pattern p i m e = (line_has_ends pattern p m.seg (m.kind, is_line pattern i m e)).from_in

first_x : (sheet : ExactSheet) (i : ℕ) → (first_side sheet i).p.x ≡ whole 0
first_x sheet zero = refl
first_x sheet (suc zero) = refl
first_x sheet (suc (suc i)) = refl

pub stands_at : (pattern : ExactPattern) (j : ℕ) (f : ExactCrease) → slice_get pattern.creases j ≡ Some f → Stands pattern j f.seg
stands_at pattern j f e = record { within = slice_get_within pattern.creases j f e; is = λ d. ap (λ (z : ExactCrease). z.seg) (get_or_from_slice_get pattern.creases j f d e) }

begins_in_order : (s t : ExactSegment) → SegmentBefore s t → ¬ Less t.p.x s.p.x
begins_in_order s t b l = elim b [
  | inl h ↦ elim h [ inl k ↦ less_not_back s.p.x t.p.x k l | inr k ↦ less_not_same t.p.x s.p.x l (same_turned s.p.x t.p.x k.0) ]
  | inr h ↦ less_not_same t.p.x s.p.x l (same_turned s.p.x t.p.x h.0.x)
]

ordered : (pattern : ExactPattern) → IsPattern pattern → (i j : ℕ) (l m : Line) → i < j → slice_get (swept pattern) i ≡ Some l → slice_get (swept pattern) j ≡ Some m → ¬ Less m.seg.p.x l.seg.p.x
ordered pattern p i j l m h e f o = by (swept_case pattern i l e) (swept_case pattern j m f)
  where
    by : SweptCase pattern i l → SweptCase pattern j m → ⊥
    by (SweptCase.at_first a q) y = at_least pattern.sheet.w m.seg.p.x (begins pattern p j m f).0 (subst (λ z. Less m.seg.p.x z) (ap (λ (z : Line). z.seg.p.x) q ∙ first_x pattern.sheet i) o)
    by (SweptCase.at_crease k c a g q) (SweptCase.at_first b r) = omega (arith, h, a, b)
    by (SweptCase.at_crease k c a g q) (SweptCase.at_crease n d b w r) = begins_in_order c.seg d.seg
        (earlier pattern p c.seg d.seg k n (stands_at pattern k c g) (stands_at pattern n d w) (omega (arith, h, a, b)))
        (subst (λ z. Less z c.seg.p.x) (ap (λ (z : Line). z.seg.p.x) r) (subst (λ z. Less m.seg.p.x z) (ap (λ (z : Line). z.seg.p.x) q) o))
    by (SweptCase.at_crease k c a g q) (SweptCase.at_last b r) = at_most pattern.sheet.w l.seg.p.x (begins pattern p i l e).0 (subst (λ z. Less z l.seg.p.x) (ap (λ (z : Line). z.seg.p.x) r) o)
    by (SweptCase.at_last a q) (SweptCase.at_first b r) = omega (arith, h, a, b)
    by (SweptCase.at_last a q) (SweptCase.at_crease n d b w r) = omega (arith, h, a, b, slice_get_within pattern.creases n d w)
    by (SweptCase.at_last a q) (SweptCase.at_last b r) = omega (arith, h, a, b)

-- the sides are four
not_long : (n : ℕ) → 1 ≤ n → whole 0 ≡ whole n → ⊥
not_long n h e = let k : 0 ≡ n = ap (λ (x : ExactNumber). unsigned_abs x.a) e in omega arith

sides_differ : (sheet : ExactSheet) → IsSheet sheet → (i j : ℕ) → i < j → j < 3 → first_side sheet i ≡ first_side sheet j → ⊥
sides_differ sheet good zero (suc zero) h k e = not_long sheet.w good.wide.0 (ap (λ (s : ExactSegment). s.q.x) e)
sides_differ sheet good zero (suc (suc j)) h k e = not_long sheet.h good.high.0 (ap (λ (s : ExactSegment). s.p.y) e)
sides_differ sheet good (suc zero) (suc (suc j)) h k e = not_long sheet.h good.high.0 (ap (λ (s : ExactSegment). s.p.y) e)
sides_differ sheet good i zero h k e = absurd (omega arith)
sides_differ sheet good (suc i) (suc zero) h k e = absurd (omega arith)
sides_differ sheet good (suc (suc i)) (suc (suc j)) h k e = absurd (omega arith)

last_differs : (sheet : ExactSheet) → IsSheet sheet → (i : ℕ) → first_side sheet i ≡ last_side sheet → ⊥
last_differs sheet good i e = not_long sheet.w good.wide.0 (sym (first_x sheet i) ∙ ap (λ (s : ExactSegment). s.p.x) e)

key_at : (pattern : ExactPattern) → IsPattern pattern → (j : ℕ) (f : ExactCrease) → slice_get pattern.creases j ≡ Some f → IsKey pattern.sheet f.seg
key_at pattern p j f e = key_of pattern p f (has_at pattern.creases j f e)

apart : (pattern : ExactPattern) → IsPattern pattern → (i j : ℕ) (l m : Line) → i < j → slice_get (swept pattern) i ≡ Some l → slice_get (swept pattern) j ≡ Some m → ¬ Overlap l.seg m.seg
apart pattern p i j l m h e f o = by (swept_case pattern i l e) (swept_case pattern j m f)
  where
    equal : l.seg ≡ m.seg
    equal = lines_apart pattern p l.seg m.seg (l.kind, is_line pattern i l e) (m.kind, is_line pattern j m f) o

    named : (l m : Line) (s t : ExactSegment) → l.seg ≡ m.seg → l.seg ≡ s → m.seg ≡ t → s ≡ t
    named l m s t a b c = sym b ∙ a ∙ c

    moved : (l m : Line) (s t : ExactSegment) → Overlap l.seg m.seg → l.seg ≡ s → m.seg ≡ t → Overlap s t
    moved l m s t a b c = rw (← b, ← c) a

    seg_is : (l m : Line) → l ≡ m → l.seg ≡ m.seg
    seg_is l m q = ap (λ (z : Line). z.seg) q

    by : SweptCase pattern i l → SweptCase pattern j m → ⊥
    by (SweptCase.at_first a q) (SweptCase.at_first b r) = sides_differ pattern.sheet p.sheet i j h b (named l m _ _ equal (seg_is l _ q) (seg_is m _ r))
    by (SweptCase.at_first a q) (SweptCase.at_crease n d b w r) = side_key pattern.sheet p.sheet (first_side pattern.sheet i) d.seg (first_in pattern.sheet i a) (key_at pattern p n d w) (moved l m _ _ o (seg_is l _ q) (seg_is m _ r))
    by (SweptCase.at_first a q) (SweptCase.at_last b r) = last_differs pattern.sheet p.sheet i (named l m _ _ equal (seg_is l _ q) (seg_is m _ r))
    by (SweptCase.at_crease k c a g q) (SweptCase.at_first b r) = omega (arith, h, a, b)
    by (SweptCase.at_crease k c a g q) (SweptCase.at_crease n d b w r) = (let z = one_place pattern p c.seg d.seg k n (stands_at pattern k c g) (stands_at pattern n d w) (named l m _ _ equal (seg_is l _ q) (seg_is m _ r)) in omega (arith, h, a, b, z))
    by (SweptCase.at_crease k c a g q) (SweptCase.at_last b r) = side_key pattern.sheet p.sheet (last_side pattern.sheet) c.seg (last_in pattern.sheet) (key_at pattern p k c g) (overlap_back c.seg (last_side pattern.sheet) (moved l m _ _ o (seg_is l _ q) (seg_is m _ r)))
    by (SweptCase.at_last a q) (SweptCase.at_first b r) = omega (arith, h, a, b)
    by (SweptCase.at_last a q) (SweptCase.at_crease n d b w r) = omega (arith, h, a, b, slice_get_within pattern.creases n d w)
    by (SweptCase.at_last a q) (SweptCase.at_last b r) = omega (arith, h, a, b)

pub are_swept : (pattern : ExactPattern) (ls : List MarkedLine) → AreLinesOf pattern ls → AreSwept ls
are_swept pattern ls a = record {
  marked = a.marked;
  ordered = λ i j l m h e f. ordered pattern a.is i j (as_line l) (as_line m) h (marked_at ls (swept pattern) i l a.same e) (marked_at ls (swept pattern) j m a.same f);
  apart = λ i j l m h e f. apart pattern a.is i j (as_line l) (as_line m) h (marked_at ls (swept pattern) i l a.same e) (marked_at ls (swept pattern) j m a.same f);
}
