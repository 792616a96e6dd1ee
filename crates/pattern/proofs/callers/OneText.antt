-- A native text is that of one pattern, and other bytes are refused in one way.
use Rattle.std.proofs.Common.{◌≡◌, ◌≢◌, ℕ, List, [], ◌∷◌, ◌++◌, length, get_or, drop, refl, sym, ap, ◌∙◌, ◌⊎◌, inl, inr, arith, append_assoc, append-nil}
use Rattle.std.specs.Prelude.{All}
use Rattle.std.proofs.lemmas.List.Elements.{All-head, All-tail}
use Rattle.exact.specs.Plane.{ExactPoint}
use Rattle.qroot2.specs.Text.{number_text}
use Rattle.qroot2.proofs.callers.OneText.{text_injective}
use Rattle.plane.specs.PointText.{point_text}
use Rattle.plane.proofs.callers.Orders.{point_made}
use Rattle.sheet.specs.Pattern.{ExactCrease, ExactPattern, IsPattern, IsKey}
use Rattle.sheet.specs.Sheet.{ExactSheet}
use Rattle.sheet.specs.declared.colour.Colour.{Colour}
use Rattle.sheet.specs.declared.colour.Colour.TheVariants as colour
use Rattle.pattern.specs.NativeText.{letter, line_text, lines_text, header, pattern_text}
use Rattle.pattern.specs.NativeLines.{body_text}
use Rattle.pattern.specs.NativeReading.{IsPointSpelled}
use Rattle.pattern.proofs.Splits.{one_split}
use Rattle.pattern.proofs.callers.Headers.{one_header}
use Rattle.pattern.proofs.NumberBytes.{number_unmarked}
use Rattle.pattern.proofs.callers.LineText.{point_unmarked, spelled_point}
use Rattle.pattern.proofs.NativeSteps.{body_line, body_unmarked, ends}

pub letter_of_one : (c d : Colour) → letter c ≡ letter d → c ≡ d
letter_of_one colour.M colour.M e = refl
letter_of_one colour.M colour.V e = absurd (omega (arith, e))
letter_of_one colour.M colour.A e = absurd (omega (arith, e))
letter_of_one colour.V colour.M e = absurd (omega (arith, e))
letter_of_one colour.V colour.V e = refl
letter_of_one colour.V colour.A e = absurd (omega (arith, e))
letter_of_one colour.A colour.M e = absurd (omega (arith, e))
letter_of_one colour.A colour.V e = absurd (omega (arith, e))
letter_of_one colour.A colour.A e = refl

pub point_of_one : (p u : ExactPoint) → IsPointSpelled p → IsPointSpelled u → point_text p ≡ point_text u → p ≡ u
point_of_one p u s t e = point_made p.x u.x p.y u.y (text_injective p.x u.x s.x.some t.x.some halves.0) (text_injective p.y u.y s.y.some t.y.some halves.1)
  where
    halves : (number_text p.x ≡ number_text u.x) × (number_text p.y ≡ number_text u.y)
    halves = one_split 44 (number_text p.x) (number_text p.y) (number_text u.x) (number_text u.y) (number_unmarked p.x 44 (inr (inr refl))) (number_unmarked u.x 44 (inr (inr refl))) e

-- two lines at the front of one list
pub record OneLine (c d : Colour) (p q u v : ExactPoint) (after behind : List ℕ) : Type 0 where
  pub colour : c ≡ d
  pub from : p ≡ u
  pub to : q ≡ v
  pub rest : after ≡ behind

-- the line at the front of the bytes is that of one colour and of two ends
pub one_line : (c d : Colour) (p q u v : ExactPoint) (after behind : List ℕ) → IsPointSpelled p → IsPointSpelled q → IsPointSpelled u → IsPointSpelled v → line_text c p q ++ after ≡ line_text d u v ++ behind → OneLine c d p q u v after behind
one_line c d p q u v after behind sp sq su sv e =
    let bodies = one_split 10 (body_text c p q) after (body_text d u v) behind (body_unmarked c p q) (body_unmarked d u v) (sym (body_line c p q after) ∙ e ∙ body_line d u v behind) in
    let points = one_split 32 (point_text p) (point_text q) (point_text u) (point_text v) (point_unmarked p 32 (inr (inl refl)) (λ h. omega (arith, h))) (point_unmarked u 32 (inr (inl refl)) (λ h. omega (arith, h))) (ap (drop 2) bodies.0) in
    record {
      colour = letter_of_one c d (ap (λ t. get_or t 0 0) bodies.0);
      from = point_of_one p u sp su points.0;
      to = point_of_one q v sq sv points.1;
      rest = bodies.1;
    }

abbrev pub text_of : ExactCrease → List ℕ
text_of f = line_text f.colour f.seg.p f.seg.q

-- the creases of two lines at the front of one list
pub crease_of_line : (f g : ExactCrease) (after behind : List ℕ) → OneLine f.colour g.colour f.seg.p f.seg.q g.seg.p g.seg.q after behind → f ≡ g
crease_of_line f g after behind line = made f.colour g.colour f.seg.p g.seg.p f.seg.q g.seg.q line.colour line.from line.to
  where
    made : (c d : Colour) (p u q v : ExactPoint) → c ≡ d → p ≡ u → q ≡ v → (let x : ExactCrease = record { seg = ends p q; colour = c } in x) ≡ record { seg = ends u v; colour = d }
    made c d p u q v e f g = λ i. record { seg = record { p = f i; q = g i }; colour = e i }

one_crease : (sheet other : ExactSheet) (f g : ExactCrease) (after behind : List ℕ) → IsKey sheet f.seg → IsKey other g.seg → text_of f ++ after ≡ text_of g ++ behind → (f ≡ g) × (after ≡ behind)
one_crease sheet other f g after behind k l e =
    let line = one_line f.colour g.colour f.seg.p f.seg.q g.seg.p g.seg.q after behind (spelled_point f.seg.p k.from) (spelled_point f.seg.q k.to) (spelled_point g.seg.p l.from) (spelled_point g.seg.q l.to) e in
    (crease_of_line f g after behind line, line.rest)

-- the creases of the one text are the first of the other's
pub record IsBegun (good others : List ExactCrease) (rest behind : List ℕ) : Type 0 where
  pub tail : List ExactCrease
  pub more : others ≡ good ++ tail
  pub left : rest ≡ lines_text tail ++ behind

abbrev pub AreKeys : ExactSheet → List ExactCrease → Type 0
AreKeys sheet creases = All (λ f. IsKey sheet f.seg) creases

-- of two lists of lines at the front of one list the one begins with the other
pub begun : (sheet other : ExactSheet) (good others : List ExactCrease) (rest behind : List ℕ) → AreKeys sheet good → AreKeys other others → lines_text good ++ rest ≡ lines_text others ++ behind → IsBegun good others rest behind ⊎ IsBegun others good behind rest
begun sheet other [] others rest behind k l e = inl (record { tail = others; more = refl; left = e })
begun sheet other (f ∷ good) [] rest behind k l e = inr (record { tail = f ∷ good; more = refl; left = sym e })
begun sheet other (f ∷ good) (g ∷ others) rest behind k l e =
    let first = one_crease sheet other f g (lines_text good ++ rest) (lines_text others ++ behind) (All-head (λ (h : ExactCrease). IsKey sheet h.seg) f good k) (All-head (λ (h : ExactCrease). IsKey other h.seg) g others l)
    (sym (append_assoc (text_of f) (lines_text good) rest) ∙ e ∙ append_assoc (text_of g) (lines_text others) behind) in
    elim (begun sheet other good others rest behind (All-tail (λ (h : ExactCrease). IsKey sheet h.seg) f good k) (All-tail (λ (h : ExactCrease). IsKey other h.seg) g others l) first.1) [
      | inl b ↦ inl (record { tail = b.tail; more = ap (λ t. g ∷ t) b.more ∙ ap (λ x. x ∷ (good ++ b.tail)) (sym first.0); left = b.left })
      | inr b ↦ inr (record { tail = b.tail; more = ap (λ t. f ∷ t) b.more ∙ ap (λ x. x ∷ (others ++ b.tail)) first.0; left = b.left })
    ]

no_line_left : (f : ExactCrease) (creases : List ExactCrease) (rest : List ℕ) → lines_text (f ∷ creases) ++ rest ≢ []
no_line_left f creases rest e = omega (arith, ap length e)

-- what is left of a whole text is nothing
nothing_left : (good others : List ExactCrease) → IsBegun good others [] [] → good ≡ others
nothing_left good others b = by b.tail b.more b.left
  where
    by : (tail : List ExactCrease) → others ≡ good ++ tail → [] ≡ lines_text tail ++ [] → good ≡ others
    by [] m l = sym (m ∙ append-nil good)
    by (f ∷ tail) m l = absurd (no_line_left f tail [] (sym l))

pub same_pattern : (pattern other : ExactPattern) → pattern.sheet ≡ other.sheet → pattern.creases ≡ other.creases → pattern ≡ other
same_pattern pattern other e f = λ i. record { sheet = e i; creases = f i }

-- what follows the sheet's line
pub lines_left : (bytes : List ℕ) (pattern other : ExactPattern) (rest behind : List ℕ) → bytes ≡ pattern_text pattern ++ rest → bytes ≡ pattern_text other ++ behind
    → (pattern.sheet ≡ other.sheet) × (lines_text pattern.creases ++ rest ≡ lines_text other.creases ++ behind)
lines_left bytes pattern other rest behind e f =
    one_header pattern.sheet other.sheet (lines_text pattern.creases ++ rest) (lines_text other.creases ++ behind)
    (sym (append_assoc (header pattern.sheet) (lines_text pattern.creases) rest) ∙ sym e ∙ f ∙ append_assoc (header other.sheet) (lines_text other.creases) behind)

pub one_pattern : (pattern other : ExactPattern) → IsPattern pattern → IsPattern other → pattern_text pattern ≡ pattern_text other → pattern ≡ other
one_pattern pattern other p q e =
    let left = lines_left (pattern_text pattern) pattern other [] [] (sym (append-nil (pattern_text pattern))) (e ∙ sym (append-nil (pattern_text other))) in
    elim (begun pattern.sheet other.sheet pattern.creases other.creases [] [] p.keys q.keys left.1) [
      | inl b ↦ same_pattern pattern other left.0 (nothing_left pattern.creases other.creases b)
      | inr b ↦ same_pattern pattern other left.0 (sym (nothing_left other.creases pattern.creases b))
    ]
