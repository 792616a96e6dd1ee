-- The lines of a pattern: sides and creases, none of which overlap.
use Rattle.std.proofs.Common.{◌≡◌, ℕ, zero, suc, ◌%◌, ◌<◌, List, [], map, length, get_or, refl, sym, ap, subst, ◌∙◌, ◌⊎◌, inl, inr, arith}
use Rattle.std.specs.Prelude.{Contains}
use Rattle.std.proofs.lemmas.Bool.{cases_order}
use Rattle.std.proofs.lemmas.List.Elements.{Contains-append_cases, Contains-append_left, Contains-append_right, Contains-get_or, All-contains}
use Rattle.std.proofs.lemmas.List.{get_or-map, length-map, get_or_default}
use Rattle.exact.specs.Number.{ExactNumber, Same, whole}
use Rattle.exact.specs.Plane.{ExactPoint, ExactSegment, OnSeg, Overlap, vector}
use Rattle.sheet.specs.Sheet.{ExactSheet, IsLength, IsSheet, IsCorner, end_at, sides, corner, InSheet, OnBorder}
use Rattle.sheet.specs.Pattern.{ExactCrease, ExactPattern, IsPattern, IsKey}
use Rattle.subdivide.specs.Subdivision.{Line, lines, kind_of, IsLine, IsVertex}
use Rattle.subdivide.specs.declared.edge.EdgeKind.{EdgeKind}
use Rattle.subdivide.specs.declared.edge.EdgeKind.TheVariants.{B}
use Rattle.sheet.specs.declared.colour.Colour.TheVariants.{M}
use Rattle.geometry.specs.Meeting.{Along}
use Rattle.geometry.proofs.Plain.{flat_on, upright_on}
use Rattle.subdivide.specs.Chain.{AreLines}
use Rattle.geometry.specs.Root.{minus, count, Above}
use Rattle.geometry.specs.Gap.{cross}
use Rattle.geometry.proofs.Solve.{none, opp, solve}
use Rattle.geometry.proofs.Domain.{sign_of, above_not_zero}
use Rattle.geometry.proofs.Directions.{right_half, one_direction}
use Rattle.geometry.proofs.PointOrder.{before_not_same, same_itself as point_self}
use Rattle.geometry.proofs.Lines.{On, on_trans}
use Rattle.geometry.proofs.Segments.{one_common, none_common, ahead, end_on, end_p, end_q, covered}
use Rattle.exact.proofs.Order.{same_turned}
use Rattle.exact.proofs.Told.{same_on, less_not_same}
use Rattle.plane.proofs.callers.Sides.{SideCase, side_case, upright, flat, upright_in, flat_in, upright_along, flat_along, on_upright, on_flat, of_upright, of_flat, zero_less}
use Rattle.creases.proofs.callers.Overlaps.{overlap_back}

pub contains_map : {X Y : Type 0} (g : X → Y) (xs : List X) (y : Y) (d : X) → Contains (map g xs) y → (x : X) × Contains xs x × (g x ≡ y)
contains_map g xs y d c = (let h : c.0 < length xs = omega (arith, c.1, length-map xs g) in
    (get_or xs c.0 d, Contains-get_or xs c.0 d h, sym (get_or-map g xs c.0 d y h) ∙ c.2))

pub map_contains : {X Y : Type 0} (g : X → Y) (xs : List X) (x : X) → Contains xs x → Contains (map g xs) (g x)
map_contains g xs x c = (c.0, omega (arith, c.1, length-map xs g), get_or-map g xs c.0 x (g x) c.1 ∙ ap g c.2)

pub of_side : ExactSegment → Line
of_side s = record { seg = s; kind = B }

pub of_crease : ExactCrease → Line
of_crease f = record { seg = f.seg; kind = kind_of f.colour }

pub data LineCase (pattern : ExactPattern) (s : ExactSegment) (k : EdgeKind) : Type 0 where
  is_side : Contains (sides pattern.sheet) s → k ≡ B → LineCase pattern s k
  is_crease : (f : ExactCrease) → Contains pattern.creases f → f.seg ≡ s → kind_of f.colour ≡ k → LineCase pattern s k

pub line_case : (pattern : ExactPattern) (s : ExactSegment) (k : EdgeKind) → Contains (lines pattern) (record { seg = s; kind = k }) → LineCase pattern s k
unfolding of_side of_crease
line_case pattern s k c = elim (Contains-append_cases (map of_side (sides pattern.sheet)) (map of_crease pattern.creases) _ c) [
  | inl a ↦ (let x = contains_map of_side (sides pattern.sheet) _ s a in LineCase.is_side (subst (λ z. Contains (sides pattern.sheet) z) (ap (λ (l : Line). l.seg) x.2) x.1) (sym (ap (λ (l : Line). l.kind) x.2)))
  | inr a ↦ (let x = contains_map of_crease pattern.creases _ (record { seg = s; colour = M }) a in LineCase.is_crease x.0 x.1 (ap (λ (l : Line). l.seg) x.2) (ap (λ (l : Line). l.kind) x.2))
]

pub side_line : (pattern : ExactPattern) (s : ExactSegment) → Contains (sides pattern.sheet) s → IsLine pattern s
unfolding of_side of_crease
side_line pattern s c = (B, Contains-append_left (map of_side (sides pattern.sheet)) (map of_crease pattern.creases) _ (map_contains of_side (sides pattern.sheet) s c))

pub crease_line : (pattern : ExactPattern) (f : ExactCrease) → Contains pattern.creases f → IsLine pattern f.seg
unfolding of_side of_crease
crease_line pattern f c = (kind_of f.colour, Contains-append_right (map of_side (sides pattern.sheet)) (map of_crease pattern.creases) _ (map_contains of_crease pattern.creases f c))

-- the end of a length has one number
one_end : (n i j : ℕ) (x : ExactNumber) → IsLength n → i < 2 → j < 2 → Same (whole (end_at i n)) x → Same (whole (end_at j n)) x → i ≡ j
one_end n zero zero x l h k a b = refl
one_end n zero (suc zero) x l h k a b = absurd (less_not_same (whole 0) (whole n) (zero_less n l) (same_on (whole 0) x (whole n) a (same_turned (whole n) x b)))
one_end n (suc zero) zero x l h k a b = absurd (less_not_same (whole 0) (whole n) (zero_less n l) (same_on (whole 0) x (whole n) b (same_turned (whole n) x a)))
one_end n (suc zero) (suc zero) x l h k a b = refl
one_end n (suc (suc i)) j x l h k a b = absurd (omega arith)
one_end n zero (suc (suc j)) x l h k a b = absurd (omega arith)
one_end n (suc zero) (suc (suc j)) x l h k a b = absurd (omega arith)

-- what two sides of the sheet share
pub sides_apart : (sheet : ExactSheet) → IsSheet sheet → (s t : ExactSegment) → Contains (sides sheet) s → Contains (sides sheet) t → Overlap s t → s ≡ t
sides_apart sheet good s t c d o = by (side_case sheet s c) (side_case sheet t d)
  where
    slanted : (u v : ExactSegment) (k j : ℕ) → s ≡ u → t ≡ v → Along u k → Along v j → (k % 8 ≡ j % 8 → ⊥) → s ≡ t
    slanted u v k j e f a b n = absurd (o.2 (one_common s t k j o.0 o.1 (rw e a) (rw f b) n o.3 o.4))

    four : ◌≡◌ {A = ℕ} 4 0 → ⊥
    four e = omega (arith, e)

    back : ◌≡◌ {A = ℕ} 0 4 → ⊥
    back e = omega (arith, e)

    by : SideCase sheet s → SideCase sheet t → s ≡ t
    by (SideCase.at_upright i h e) (SideCase.at_upright j k f) =
        e ∙ ap (upright sheet) (one_end sheet.w i j o.0.x good.wide h k (of_upright sheet i o.0 good (subst (OnSeg o.0) e o.3.0)).0 (of_upright sheet j o.0 good (subst (OnSeg o.0) f o.3.1)).0) ∙ sym f
    by (SideCase.at_upright i h e) (SideCase.at_flat j k f) = slanted (upright sheet i) (flat sheet j) 4 0 e f (upright_along sheet i good) (flat_along sheet j good) four
    by (SideCase.at_flat i h e) (SideCase.at_upright j k f) = slanted (flat sheet i) (upright sheet j) 0 4 e f (flat_along sheet i good) (upright_along sheet j good) back
    by (SideCase.at_flat i h e) (SideCase.at_flat j k f) =
        e ∙ ap (flat sheet) (one_end sheet.h i j o.0.y good.high h k (of_flat sheet i o.0 good (subst (OnSeg o.0) e o.3.0)).0 (of_flat sheet j o.0 good (subst (OnSeg o.0) f o.3.1)).0) ∙ sym f

-- a point of the sheet on the line of a side is on the side
pub at_upright_line : (sheet : ExactSheet) (i : ℕ) (r : ExactPoint) → IsSheet sheet → InSheet sheet r → On (vector 4) (corner sheet i 0) r → OnSeg r (upright sheet i)
at_upright_line sheet i r good w h = on_upright sheet i r good ((upright_on (corner sheet i 0) r).1 h) w.1

pub at_flat_line : (sheet : ExactSheet) (i : ℕ) (r : ExactPoint) → IsSheet sheet → InSheet sheet r → On (vector 0) (corner sheet 0 i) r → OnSeg r (flat sheet i)
at_flat_line sheet i r good w h = on_flat sheet i r good ((flat_on (corner sheet 0 i) r).1 h) w.0

pub on_or_not : (v p r : ExactPoint) → On v p r ⊎ ¬ On v p r
on_or_not v p r = elim (sign_of (cross v p r)) [
  | inl a ↦ inr (λ h. above_not_zero (subst Above h.on a))
  | inr k ↦ elim k [ inl z ↦ inl (record { on = z }) | inr a ↦ inr (λ h. above_not_zero (subst Above (ap minus h.on ∙ gone) a)) ]
]
  where
    gone : minus (count 0) ≡ count 0
    gone = solve [] (opp none) none refl

pub parallel_or_not : (a b : ℕ) → (a ≡ b) ⊎ (a ≡ b → ⊥)
parallel_or_not a b = elim (cases_order a b) [ inl e ↦ inl e | inr k ↦ inr (λ e. elim k [ inl l ↦ omega (arith, e, l) | inr g ↦ omega (arith, e, g) ]) ]

-- a crease that overlaps a side is on the border
side_crease : (sheet : ExactSheet) (s t : ExactSegment) (k j : ℕ) → Along s k → Along t j → InSheet sheet t.p → InSheet sheet t.q → Contains (sides sheet) s → ¬ OnBorder sheet t
    → ((r : ExactPoint) → InSheet sheet r → On (vector k) s.p r → OnSeg r s) → ¬ Overlap s t
side_crease sheet s t k j a b f g c n on o = elim (parallel_or_not (k % 8) (j % 8)) [
  | inr d ↦ o.2 (one_common s t k j o.0 o.1 a b d o.3 o.4)
  | inl e ↦ (let q = one_direction k j a.small b.small (right_half k a.small (ahead s k a)) (right_half j b.small (ahead t j b)) e in
      by (subst (λ i. Along t i) (sym q) b))
]
  where
    by : Along t k → ⊥
    by b = elim (on_or_not (vector k) s.p t.p) [
      | inr d ↦ none_common s t k o.0 a b d o.3
      | inl h ↦ n (s, c, covered s t k a b (on t.p f h) (on t.q g (on_trans (vector k) s.p t.p t.q h (end_on t k b))))
    ]

pub key_of : (pattern : ExactPattern) → IsPattern pattern → (f : ExactCrease) → Contains pattern.creases f → IsKey pattern.sheet f.seg
key_of pattern p f c = All-contains (λ (g : ExactCrease). IsKey pattern.sheet g.seg) pattern.creases f p.keys c

pub key_along : (sheet : ExactSheet) (s : ExactSegment) → IsKey sheet s → (k : ℕ) × Along s k
key_along sheet s h = (h.segment.1.0, record { small = h.segment.1.1; ordered = h.segment.0; dir = h.segment.1.2 })

pub side_along : (sheet : ExactSheet) (s : ExactSegment) → IsSheet sheet → SideCase sheet s → (k : ℕ) × Along s k
side_along sheet s good (SideCase.at_upright i h e) = (4, subst (λ z. Along z 4) (sym e) (upright_along sheet i good))
side_along sheet s good (SideCase.at_flat i h e) = (0, subst (λ z. Along z 0) (sym e) (flat_along sheet i good))

pub line_along : (pattern : ExactPattern) → IsPattern pattern → (s : ExactSegment) → IsLine pattern s → (k : ℕ) × Along s k
line_along pattern p s l = by (line_case pattern s l.0 l.1)
  where
    by : LineCase pattern s l.0 → (k : ℕ) × Along s k
    by (LineCase.is_side c e) = side_along pattern.sheet s p.sheet (side_case pattern.sheet s c)
    by (LineCase.is_crease f c e g) = subst (λ z. (k : ℕ) × Along z k) e (key_along pattern.sheet f.seg (key_of pattern p f c))

corner_is : (sheet : ExactSheet) (i j : ℕ) → i < 2 → j < 2 → IsCorner sheet (corner sheet i j)
corner_is sheet zero zero h k = inl refl
corner_is sheet zero (suc zero) h k = inr (inl refl)
corner_is sheet (suc zero) zero h k = inr (inr (inl refl))
corner_is sheet (suc zero) (suc zero) h k = inr (inr (inr refl))
corner_is sheet (suc (suc i)) j h k = absurd (omega arith)
corner_is sheet zero (suc (suc j)) h k = absurd (omega arith)
corner_is sheet (suc zero) (suc (suc j)) h k = absurd (omega arith)

side_ends : (pattern : ExactPattern) (s : ExactSegment) → SideCase pattern.sheet s → IsVertex pattern s.p × IsVertex pattern s.q
side_ends pattern s = by
  where
    at : (i j : ℕ) → i < 2 → j < 2 → IsVertex pattern (corner pattern.sheet i j)
    at i j h k = inl (corner pattern.sheet i j, corner_is pattern.sheet i j h k, point_self (corner pattern.sheet i j))

    by : SideCase pattern.sheet s → IsVertex pattern s.p × IsVertex pattern s.q
    by (SideCase.at_upright i h e) = subst (λ (z : ExactSegment). IsVertex pattern z.p × IsVertex pattern z.q) (sym e) (at i 0 h (omega arith), at i 1 h (omega arith))
    by (SideCase.at_flat i h e) = subst (λ (z : ExactSegment). IsVertex pattern z.p × IsVertex pattern z.q) (sym e) (at 0 i (omega arith) h, at 1 i (omega arith) h)

line_ends : (pattern : ExactPattern) (s : ExactSegment) → IsLine pattern s → IsVertex pattern s.p × IsVertex pattern s.q
line_ends pattern s l = by (line_case pattern s l.0 l.1)
  where
    by : LineCase pattern s l.0 → IsVertex pattern s.p × IsVertex pattern s.q
    by (LineCase.is_side c e) = side_ends pattern s (side_case pattern.sheet s c)
    by (LineCase.is_crease f c e g) = subst (λ (z : ExactSegment). IsVertex pattern z.p × IsVertex pattern z.q) e (inr (inl (f, c, inl (point_self f.seg.p))), inr (inl (f, c, inr (point_self f.seg.q))))

corner_end : (pattern : ExactPattern) (c : ExactPoint) → IsCorner pattern.sheet c → (s : ExactSegment) × IsLine pattern s × ((c ≡ s.p) ⊎ (c ≡ s.q))
corner_end pattern c h = elim h [
  | inl e ↦ (upright pattern.sheet 0, up, inl e)
  | inr k ↦ elim k [
    | inl e ↦ (upright pattern.sheet 0, up, inr e)
    | inr l ↦ elim l [ inl e ↦ (flat pattern.sheet 0, along 0 (omega arith), inr e) | inr e ↦ (flat pattern.sheet 1, along 1 (omega arith), inr e) ]
  ]
]
  where
    up : IsLine pattern (upright pattern.sheet 0)
    up = side_line pattern (upright pattern.sheet 0) (upright_in pattern.sheet 0 (omega arith))

    along : (i : ℕ) → i < 2 → IsLine pattern (flat pattern.sheet i)
    along i l = side_line pattern (flat pattern.sheet i) (flat_in pattern.sheet i l)

pub side_key : (sheet : ExactSheet) → IsSheet sheet → (s t : ExactSegment) → Contains (sides sheet) s → IsKey sheet t → ¬ Overlap s t
side_key sheet good s t c h o = by (side_case sheet s c)
  where
    w : (k : ℕ) × Along t k
    w = key_along sheet t h

    against : (u : ExactSegment) (k : ℕ) → s ≡ u → Along u k → Contains (sides sheet) u → ((r : ExactPoint) → InSheet sheet r → On (vector k) u.p r → OnSeg r u) → ⊥
    against u k e a d f = side_crease sheet u t k w.0 a w.1 h.from_in h.to_in d h.inner f (subst (λ z. Overlap z t) e o)

    by : SideCase sheet s → ⊥
    by (SideCase.at_upright i l e) = against (upright sheet i) 4 e (upright_along sheet i good) (upright_in sheet i l) (λ r m n. at_upright_line sheet i r good m n)
    by (SideCase.at_flat i l e) = against (flat sheet i) 0 e (flat_along sheet i good) (flat_in sheet i l) (λ r m n. at_flat_line sheet i r good m n)

-- two places of creases with one segment, or with overlapping ones, are one
one_crease : (pattern : ExactPattern) → IsPattern pattern → (f g : ExactCrease) (i j : ℕ) → i < length pattern.creases → j < length pattern.creases → get_or pattern.creases i f ≡ f → get_or pattern.creases j g ≡ g → Overlap f.seg g.seg → f ≡ g
one_crease pattern p f g i j h k d e o = elim (cases_order i j) [
  | inl q ↦ sym d ∙ get_or_default pattern.creases i f g h ∙ ap (λ n. get_or pattern.creases n g) q ∙ e
  | inr r ↦ elim r [
    | inl l ↦ absurd (subst (λ (z : ExactCrease). ¬ Overlap f.seg z.seg) (get_or_default pattern.creases j f g k ∙ e) (subst (λ (z : ExactCrease). ¬ Overlap z.seg (get_or pattern.creases j f).seg) d (p.apart i j f l k)) o)
    | inr l ↦ absurd (subst (λ (z : ExactCrease). ¬ Overlap g.seg z.seg) (get_or_default pattern.creases i g f h ∙ d) (subst (λ (z : ExactCrease). ¬ Overlap z.seg (get_or pattern.creases i g).seg) e (p.apart j i g l h)) (overlap_back f.seg g.seg o))
  ]
]

pub itself_overlaps : (s : ExactSegment) (k : ℕ) → Along s k → Overlap s s
itself_overlaps s k a = (s.p, s.q, before_not_same s.p s.q a.ordered, (end_p s k a, end_p s k a), (end_q s k a, end_q s k a))

pub lines_apart : (pattern : ExactPattern) → IsPattern pattern → (s t : ExactSegment) → IsLine pattern s → IsLine pattern t → Overlap s t → s ≡ t
lines_apart pattern p s t a b o = by (line_case pattern s a.0 a.1) (line_case pattern t b.0 b.1)
  where
    by : LineCase pattern s a.0 → LineCase pattern t b.0 → s ≡ t
    by (LineCase.is_side c e) (LineCase.is_side d f) = sides_apart pattern.sheet p.sheet s t c d o
    by (LineCase.is_side c e) (LineCase.is_crease f d g h) = absurd (side_key pattern.sheet p.sheet s t c (subst (IsKey pattern.sheet) g (key_of pattern p f d)) o)
    by (LineCase.is_crease f d g h) (LineCase.is_side c e) = absurd (side_key pattern.sheet p.sheet t s c (subst (IsKey pattern.sheet) g (key_of pattern p f d)) (overlap_back s t o))
    by (LineCase.is_crease f c e x) (LineCase.is_crease g d h y) = sym e ∙ ap (λ (z : ExactCrease). z.seg) (one_crease pattern p f g c.0 d.0 c.1 d.1 c.2 d.2 (subst (λ z. Overlap f.seg z) (sym h) (subst (λ z. Overlap z t) (sym e) o))) ∙ h

line_kinds : (pattern : ExactPattern) → IsPattern pattern → (s : ExactSegment) (k j : EdgeKind) → Contains (lines pattern) (record { seg = s; kind = k }) → Contains (lines pattern) (record { seg = s; kind = j }) → k ≡ j
line_kinds pattern p s k j a b = by (line_case pattern s k a) (line_case pattern s j b)
  where
    w : (n : ℕ) × Along s n
    w = line_along pattern p s (k, a)

    o : Overlap s s
    o = itself_overlaps s w.0 w.1

    by : LineCase pattern s k → LineCase pattern s j → k ≡ j
    by (LineCase.is_side c e) (LineCase.is_side d f) = e ∙ sym f
    by (LineCase.is_side c e) (LineCase.is_crease f d g h) = absurd (side_key pattern.sheet p.sheet s s c (subst (IsKey pattern.sheet) g (key_of pattern p f d)) o)
    by (LineCase.is_crease f d g h) (LineCase.is_side c e) = absurd (side_key pattern.sheet p.sheet s s c (subst (IsKey pattern.sheet) g (key_of pattern p f d)) o)
    by (LineCase.is_crease f c e x) (LineCase.is_crease g d h y) = sym x ∙ ap (λ (z : ExactCrease). kind_of z.colour) (one_crease pattern p f g c.0 d.0 c.1 d.1 c.2 d.2 (subst (λ z. Overlap f.seg z) (sym h) (subst (λ z. Overlap z s) (sym e) o))) ∙ y

pub pattern_lines : (pattern : ExactPattern) → IsPattern pattern → AreLines pattern
pattern_lines pattern p = record {
  along = line_along pattern p;
  corner = corner_end pattern;
  crease = crease_line pattern;
  end = line_ends pattern;
  apart = lines_apart pattern p;
  kinds = line_kinds pattern p;
}
