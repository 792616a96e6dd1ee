-- One line of native text read off the bytes, and what it says of them.
use Rattle.std.proofs.Common.{◌≡◌, ◌≢◌, ℕ, zero, suc, ◌+◌, ◌<◌, ◌≤◌, List, [], ◌∷◌, ◌++◌, length, get_or, refl, sym, ap, subst, ◌∙◌, ◌⊎◌, inl, inr, arith, append_assoc, append-nil, drop, length-append, length-drop}
use Rattle.std.specs.Prelude.{Contains}
use Rattle.std.proofs.lemmas.List.{drop-drop, drop_at}
use Rattle.std.proofs.lemmas.List.Elements.{Contains-append_cases, Contains-append_right}
use Rattle.exact.specs.Plane.{ExactPoint, ExactSegment}
use Rattle.plane.specs.PointText.{point_text}
use Rattle.sheet.specs.Pattern.{ExactCrease, ExactPattern, crease_limit}
use Rattle.sheet.specs.declared.colour.Colour.{Colour}
use Rattle.sheet.specs.declared.colour.Colour.TheVariants as colour
use Rattle.pattern.specs.Splitting.{SplitsAt}
use Rattle.pattern.specs.NativeText.{letter, line_text, lines_text, header, pattern_text}
use Rattle.pattern.specs.NativeLines.{body_text, IsNoBody, IsWideBody}
use Rattle.pattern.specs.NativeReading.{IsPointSpelled, BeginsWith, AreHeld, Passes, PassesBefore, Fails}
use Rattle.pattern.specs.NativeReader.{IsTaken, CanFollow, with_last}
use Rattle.creases.specs.Creases.{IsFree}
use Rattle.pattern.specs.declared.native.PatternWhy.{PatternWhy}
use Rattle.pattern.specs.declared.native.PatternWhy.TheVariants as why
use Rattle.pattern.proofs.Splits.{one_split}
use Rattle.pattern.proofs.callers.LineText.{point_unmarked, spelled_point}

pub body_line : (c : Colour) (p q : ExactPoint) (after : List ℕ) → line_text c p q ++ after ≡ body_text c p q ++ 10 ∷ after
body_line c p q after = ap (λ t. letter c ∷ 32 ∷ t)
    (append_assoc (point_text p) (32 ∷ (point_text q ++ 10 ∷ [])) after
    ∙ ap (λ t. point_text p ++ 32 ∷ t) (append_assoc (point_text q) (10 ∷ []) after)
    ∙ sym (append_assoc (point_text p) (32 ∷ point_text q) (10 ∷ after)))

letter_high : (c : Colour) → letter c ≢ 10
letter_high colour.M e = omega (arith, e)
letter_high colour.V e = omega (arith, e)
letter_high colour.A e = omega (arith, e)

pub unmarked_more : (x : ℕ) (xs : List ℕ) → x ≢ 10 → ¬ Contains xs 10 → ¬ Contains (x ∷ xs) 10
unmarked_more x xs n h c = by c.0 c.1 c.2
  where
    by : (k : ℕ) → k < length (x ∷ xs) → get_or (x ∷ xs) k 10 ≡ 10 → ⊥
    by zero lt e = n e
    by (suc k) lt e = h (k, omega (arith, lt), e)

pub body_unmarked : (c : Colour) (p q : ExactPoint) → ¬ Contains (body_text c p q) 10
body_unmarked c p q = unmarked_more (letter c) (32 ∷ (point_text p ++ 32 ∷ point_text q)) (letter_high c)
    (unmarked_more 32 (point_text p ++ 32 ∷ point_text q) (λ e. omega (arith, e)) (λ h. elim (Contains-append_cases (point_text p) (32 ∷ point_text q) 10 h) [
      | inl l ↦ point_unmarked p 10 (inl refl) (λ e. omega (arith, e)) l
      | inr r ↦ unmarked_more 32 (point_text q) (λ e. omega (arith, e)) (point_unmarked q 10 (inl refl) (λ e. omega (arith, e))) r
    ]))

-- a line at the front of the bytes is what stands before their first line feed
text_is : (bytes text rest : List ℕ) (c : Colour) (p q : ExactPoint) (after : List ℕ) → SplitsAt bytes 10 text rest → BeginsWith bytes c p q after → text ≡ body_text c p q
text_is bytes text rest c p q after s b = (one_split 10 text rest (body_text c p q) after s.first (body_unmarked c p q) (sym s.joined ∙ b.text ∙ body_line c p q after)).0

begins : (bytes text rest : List ℕ) (c : Colour) (p q : ExactPoint) → SplitsAt bytes 10 text rest → text ≡ body_text c p q → IsPointSpelled p → IsPointSpelled q → BeginsWith bytes c p q rest
begins bytes text rest c p q s e f t = record { text = s.joined ∙ ap (λ x. x ++ 10 ∷ rest) e ∙ sym (body_line c p q rest); from = f; to = t }

-- without a line feed there is no line
pub unended : (good : ExactPattern) (bytes : List ℕ) → ¬ Contains bytes 10 → Fails why.Line good bytes
unended good bytes n c p q after b = n (subst (λ (x : List ℕ). Contains x 10) (sym (b.text ∙ body_line c p q after)) (Contains-append_right (body_text c p q) (10 ∷ after) 10 (0, omega arith, refl)))

pub no_line : (good : ExactPattern) (bytes text rest : List ℕ) → SplitsAt bytes 10 text rest → IsNoBody text → Fails why.Line good bytes
no_line good bytes text rest s n c p q after b = n c p q b.from b.to (text_is bytes text rest c p q after s b)

pub wide_line : (good : ExactPattern) (bytes text rest : List ℕ) → SplitsAt bytes 10 text rest → IsWideBody text → Fails why.Range good bytes
wide_line good bytes text rest s w = (w.0, w.1, w.2, rest, begins bytes text rest w.0 w.1 w.2 s w.5 w.3 w.4, tt, w.6)

-- the answer of the reading of a line, where it is refused
pub line_refused : (good : ExactPattern) (bytes text rest : List ℕ) (w : PatternWhy) → SplitsAt bytes 10 text rest → (w ≡ why.Line → IsNoBody text) → (w ≢ why.Line → IsWideBody text) → (w ≡ why.Line) ⊎ (w ≡ why.Range) → Fails w good bytes
line_refused good bytes text rest w s f g (inl e) = subst (λ x. Fails x good bytes) (sym e) (no_line good bytes text rest s (f e))
line_refused good bytes text rest w s f g (inr e) = subst (λ x. Fails x good bytes) (sym e) (wide_line good bytes text rest s (g (λ l. (let x : why.Line ≡ why.Range = sym l ∙ e in cc))))

-- a test after the form and the range is failed
fails_at : (w : PatternWhy) (good : ExactPattern) (bytes : List ℕ) (c : Colour) (p q : ExactPoint) (after : List ℕ) → w ≢ why.Line → BeginsWith bytes c p q after → PassesBefore w good (record { p = p; q = q }) → (¬ Passes w good (record { p = p; q = q })) → Fails w good bytes
fails_at why.Line good bytes c p q after n b f g = absurd (n refl)
fails_at why.Range good bytes c p q after n b f g = (c, p, q, after, b, f, g)
fails_at why.Outside good bytes c p q after n b f g = (c, p, q, after, b, f, g)
fails_at why.Order good bytes c p q after n b f g = (c, p, q, after, b, f, g)
fails_at why.NotDirection good bytes c p q after n b f g = (c, p, q, after, b, f, g)
fails_at why.OnBorder good bytes c p q after n b f g = (c, p, q, after, b, f, g)
fails_at why.Overlap good bytes c p q after n b f g = (c, p, q, after, b, f, g)
fails_at why.TooMany good bytes c p q after n b f g = (c, p, q, after, b, f, g)

pub line_fails : (w : PatternWhy) (good : ExactPattern) (bytes text rest : List ℕ) (c : Colour) (p q : ExactPoint) → SplitsAt bytes 10 text rest → text ≡ body_text c p q → AreHeld p q → w ≢ why.Line → PassesBefore w good (record { p = p; q = q }) → (¬ Passes w good (record { p = p; q = q })) → Fails w good bytes
line_fails w good bytes text rest c p q s e h n f g = fails_at w good bytes c p q rest n (begins bytes text rest c p q s e (spelled_point p h.0) (spelled_point q h.1)) f g

-- a line that passes all tests is taken
pub line_taken : (good : ExactPattern) (bytes text rest : List ℕ) (now : ExactPattern) (f : ExactCrease) → SplitsAt bytes 10 text rest → text ≡ body_text f.colour f.seg.p f.seg.q → now ≡ with_last good f → IsTaken good bytes now (length text + 1)
line_taken good bytes text rest now f s e m = record {
  crease = f;
  after = rest;
  text = s.joined ∙ ap (λ x. x ++ 10 ∷ rest) e ∙ sym (body_line f.colour f.seg.p f.seg.q rest);
  long = omega (arith, ap length s.joined, length-append text (10 ∷ rest));
  some = omega arith;
  more = m;
}

-- ---- a line whose ends were placed
abbrev pub ends : ExactPoint → ExactPoint → ExactSegment
ends p q = record { p = p; q = q }

-- a crease that passes the tests up to OnBorder and overlaps none, where there is no room
pub one_too_many : (good : ExactPattern) (s : ExactSegment) → CanFollow good s → IsFree good.creases s → crease_limit ≤ length good.creases → PassesBefore why.TooMany good s × (¬ Passes why.TooMany good s) × (why.TooMany ≡ why.Line → ⊥)
one_too_many good s b free n = ((b.0, b.1, b.2, b.3, b.4, free), λ few. omega (arith, few, n), λ x. cc)

pub overlaps_one : (good : ExactPattern) (s : ExactSegment) → CanFollow good s → ¬ IsFree good.creases s → PassesBefore why.Overlap good s × (¬ Passes why.Overlap good s) × (why.Overlap ≡ why.Line → ⊥)
overlaps_one good s b n = (b, n, λ x. cc)

-- the test that a placed segment fails
pub kept_fails : (w : PatternWhy) (good : ExactPattern) (bytes text rest : List ℕ) (c : Colour) (p q : ExactPoint) (s : ExactSegment) → SplitsAt bytes 10 text rest → text ≡ body_text c p q → AreHeld p q → s ≡ ends p q
    → PassesBefore w good s × (¬ Passes w good s) × (w ≡ why.Line → ⊥) → Fails w good bytes
kept_fails w good bytes text rest c p q s t e h same k = line_fails w good bytes text rest c p q t e h k.2 (subst (PassesBefore w good) same k.0) (subst (λ (x : ExactSegment). ¬ Passes w good x) same k.1)

-- ---- from line to line
lines_push : (good : List ExactCrease) (f : ExactCrease) → lines_text (good ++ f ∷ []) ≡ lines_text good ++ line_text f.colour f.seg.p f.seg.q
lines_push [] f = append-nil (line_text f.colour f.seg.p f.seg.q)
lines_push (g ∷ good) f = ap (λ t. line_text g.colour g.seg.p g.seg.q ++ t) (lines_push good f) ∙ sym (append_assoc (line_text g.colour g.seg.p g.seg.q) (lines_text good) (line_text f.colour f.seg.p f.seg.q))

pattern_push : (good : ExactPattern) (f : ExactCrease) → pattern_text (with_last good f) ≡ pattern_text good ++ line_text f.colour f.seg.p f.seg.q
pattern_push good f = ap (λ t. header good.sheet ++ t) (lines_push good.creases f) ∙ sym (append_assoc (header good.sheet) (lines_text good.creases) (line_text f.colour f.seg.p f.seg.q))

pub taken_more : (bytes slice : List ℕ) (at n : ℕ) (good now : ExactPattern) → at ≤ length bytes → slice ≡ drop at bytes → bytes ≡ pattern_text good ++ drop at bytes → IsTaken good slice now n
    → (at + n ≤ length bytes) × (bytes ≡ pattern_text now ++ drop (at + n) bytes)
taken_more bytes slice at n good now h e b t =
    let f = t.crease in
    let line = line_text f.colour f.seg.p f.seg.q in
    let long : length line ≡ n = omega (arith, ap length t.text, length-append (line_text t.crease.colour t.crease.seg.p t.crease.seg.q) t.after, t.long) in
    let rest : drop (at + n) bytes ≡ t.after = sym (drop-drop n at bytes) ∙ ap (drop n) (sym e ∙ t.text) ∙ drop_at line t.after n long in (
      omega (arith, t.long, ap length e, length-drop at bytes),
      b ∙ ap (λ x. pattern_text good ++ x) (sym e ∙ t.text) ∙ sym (append_assoc (pattern_text good) line t.after) ∙ ap (λ x. x ++ t.after) (sym (pattern_push good f)) ∙ ap (λ (x : ExactPattern). pattern_text x ++ t.after) (sym t.more) ∙ ap (λ x. pattern_text now ++ x) (sym rest),
    )
