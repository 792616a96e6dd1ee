-- Bytes are refused in one way, and not where they are the text of a pattern.
use Rattle.std.proofs.Common.{◌≡◌, ℕ, zero, suc, ◌+◌, ◌<◌, List, [], ◌∷◌, ◌++◌, length, get_or, refl, sym, ap, subst, ◌∙◌, ◌⊎◌, inl, inr, arith, append_assoc, append-nil, length-append}
use Rattle.std.specs.Prelude.{All, AllPairs, Contains}
use Rattle.std.proofs.lemmas.List.{get_or_append_left, get_or_at}
use Rattle.std.proofs.lemmas.List.Elements.{All-contains, Contains-push, Contains-append_right}
use Rattle.exact.specs.Plane.{ExactPoint, ExactSegment, SegmentBefore, Overlap}
use Rattle.sheet.specs.Pattern.{ExactCrease, ExactPattern, IsPattern, IsKey}
use Rattle.sheet.specs.Sheet.{ExactSheet}
use Rattle.sheet.specs.declared.colour.Colour.{Colour}
use Rattle.pattern.specs.NativeText.{lines_text, header, pattern_text}
use Rattle.pattern.specs.NativeReading.{BeginsWith, IsAfterLast, Passes, PassesBefore, Fails, IsBadAfter, HasNoHeader, IsRefused, IsRead}
use Rattle.pattern.specs.declared.native.PatternBad.{PatternBad}
use Rattle.pattern.specs.declared.native.PatternWhy.{PatternWhy}
use Rattle.pattern.specs.declared.native.PatternWhy.TheVariants as why
use Rattle.pattern.specs.NativeReader.{on}
use Rattle.pattern.proofs.callers.LineText.{spelled_point}
use Rattle.pattern.proofs.NativeSteps.{ends}
use Rattle.pattern.proofs.callers.OneText.{one_line, text_of, IsBegun, begun, lines_left, same_pattern}

-- ---- a crease that comes next in a pattern passes all tests
before_next : (R : ExactCrease → ExactCrease → Type 0) (good : List ExactCrease) (f : ExactCrease) (more : List ExactCrease) → AllPairs R (good ++ f ∷ more) → All (λ g. R g f) good
before_next R good f more p = λ i d h.
    let whole = good ++ f ∷ more in
    let here : get_or whole i d ≡ get_or good i d = get_or_append_left good (f ∷ more) d i h in
    let next : get_or whole (length good) d ≡ f = get_or_at good f more d (length good) refl in
    subst (λ (x : ExactCrease). R x f) here (subst (λ (x : ExactCrease). R (get_or whole i d) x) next (p i (length good) d h (omega (arith, length-append good (f ∷ more)))))

key_of_next : (sheet : ExactSheet) (good : List ExactCrease) (f : ExactCrease) (more : List ExactCrease) → IsPattern (on sheet (good ++ f ∷ more)) → IsKey sheet f.seg
key_of_next sheet good f more p = All-contains (λ (g : ExactCrease). IsKey sheet g.seg) (good ++ f ∷ more) f p.keys (Contains-append_right good (f ∷ more) f (0, omega arith, refl))

after_last : (sheet : ExactSheet) (good : List ExactCrease) (f : ExactCrease) (more : List ExactCrease) → IsPattern (on sheet (good ++ f ∷ more)) → IsAfterLast good f.seg
after_last sheet good f more p front last e =
    All-contains (λ (g : ExactCrease). SegmentBefore g.seg f.seg) good last (before_next (λ g h. SegmentBefore g.seg h.seg) good f more p.ordered) (subst (λ (xs : List ExactCrease). Contains xs last) (sym e) (Contains-push front last))

next_passes : (w : PatternWhy) (sheet : ExactSheet) (good : List ExactCrease) (f : ExactCrease) (more : List ExactCrease) → IsPattern (on sheet (good ++ f ∷ more)) → Passes w (on sheet good) f.seg
next_passes why.Line sheet good f more p = tt
next_passes why.Range sheet good f more p = (let key = key_of_next sheet good f more p in (key.from, key.to))
next_passes why.Outside sheet good f more p = (let key = key_of_next sheet good f more p in (key.from_in, key.to_in))
next_passes why.Order sheet good f more p = ((key_of_next sheet good f more p).segment.0, after_last sheet good f more p)
next_passes why.NotDirection sheet good f more p = (key_of_next sheet good f more p).segment
next_passes why.OnBorder sheet good f more p = (key_of_next sheet good f more p).inner
next_passes why.Overlap sheet good f more p = before_next (λ g h. ¬ Overlap g.seg h.seg) good f more p.apart
next_passes why.TooMany sheet good f more p = omega (arith, p.few, length-append good (f ∷ more))

-- ---- the line that fails
-- a line of the form fails this test and passes those before it
record Failed (w : PatternWhy) (good : ExactPattern) (bytes : List ℕ) : Type 0 where
  colour : Colour
  p : ExactPoint
  q : ExactPoint
  after : List ℕ
  line : BeginsWith bytes colour p q after
  before : PassesBefore w good (ends p q)
  not : ¬ Passes w good (ends p q)

failed_of : (w : PatternWhy) (good : ExactPattern) (bytes : List ℕ) → ((c : Colour) × (p q : ExactPoint) × (after : List ℕ) × BeginsWith bytes c p q after × PassesBefore w good (ends p q) × (¬ Passes w good (ends p q))) → (w ≡ why.Line) ⊎ Failed w good bytes
failed_of w good bytes h = inr (record { colour = h.0; p = h.1; q = h.2; after = h.3; line = h.4; before = h.5; not = h.6 })

failed : (w : PatternWhy) (good : ExactPattern) (bytes : List ℕ) → Fails w good bytes → (w ≡ why.Line) ⊎ Failed w good bytes
failed why.Line good bytes h = inl refl
failed why.Range good bytes h = failed_of why.Range good bytes h
failed why.Outside good bytes h = failed_of why.Outside good bytes h
failed why.Order good bytes h = failed_of why.Order good bytes h
failed why.NotDirection good bytes h = failed_of why.NotDirection good bytes h
failed why.OnBorder good bytes h = failed_of why.OnBorder good bytes h
failed why.Overlap good bytes h = failed_of why.Overlap good bytes h
failed why.TooMany good bytes h = failed_of why.TooMany good bytes h

no_line : (w : PatternWhy) (good : ExactPattern) (bytes : List ℕ) → Fails w good bytes → w ≡ why.Line → (c : Colour) (p q : ExactPoint) (after : List ℕ) → ¬ BeginsWith bytes c p q after
no_line w good bytes h e = subst (λ (v : PatternWhy). Fails v good bytes) e h

same_ends : (bytes : List ℕ) (c d : Colour) (p q u v : ExactPoint) (after behind : List ℕ) → BeginsWith bytes c p q after → BeginsWith bytes d u v behind → ends p q ≡ ends u v
same_ends bytes c d p q u v after behind b l =
    let one = one_line c d p q u v after behind b.from b.to l.from l.to (sym b.text ∙ l.text) in
    (λ i. record { p = one.from i; q = one.to i })

-- the line of a crease that comes next in a pattern fails no test
next_is_good : (w : PatternWhy) (sheet : ExactSheet) (good : List ExactCrease) (f : ExactCrease) (more : List ExactCrease) (bytes after : List ℕ) → IsPattern (on sheet (good ++ f ∷ more)) → bytes ≡ text_of f ++ after → ¬ Fails w (on sheet good) bytes
next_is_good w sheet good f more bytes after p e h =
    let key = key_of_next sheet good f more p in
    let begins : BeginsWith bytes f.colour f.seg.p f.seg.q after = record { text = e; from = spelled_point f.seg.p key.from; to = spelled_point f.seg.q key.to } in
    elim (failed w (on sheet good) bytes h) [
      | inl l ↦ no_line w (on sheet good) bytes h l f.colour f.seg.p f.seg.q after begins
      | inr k ↦ k.not (subst (λ (s : ExactSegment). Passes w (on sheet good) s) (same_ends bytes f.colour k.colour f.seg.p f.seg.q k.p k.q after k.after begins k.line) (next_passes w sheet good f more p))
    ]

-- ---- the tests by their places in their order
abbrev test_at : ℕ → PatternWhy
test_at zero = why.Line
test_at (suc zero) = why.Range
test_at (suc (suc zero)) = why.Outside
test_at (suc (suc (suc zero))) = why.Order
test_at (suc (suc (suc (suc zero)))) = why.NotDirection
test_at (suc (suc (suc (suc (suc zero))))) = why.OnBorder
test_at (suc (suc (suc (suc (suc (suc zero)))))) = why.Overlap
test_at (suc (suc (suc (suc (suc (suc (suc n))))))) = why.TooMany

-- where a test is, below the eighth place
record IsPlaced (w : PatternWhy) : Type 0 where
  place : ℕ
  is : test_at place ≡ w
  small : place < 8

placed : (w : PatternWhy) → IsPlaced w
placed why.Line = record { place = 0; is = refl; small = omega arith }
placed why.Range = record { place = 1; is = refl; small = omega arith }
placed why.Outside = record { place = 2; is = refl; small = omega arith }
placed why.Order = record { place = 3; is = refl; small = omega arith }
placed why.NotDirection = record { place = 4; is = refl; small = omega arith }
placed why.OnBorder = record { place = 5; is = refl; small = omega arith }
placed why.Overlap = record { place = 6; is = refl; small = omega arith }
placed why.TooMany = record { place = 7; is = refl; small = omega arith }

-- what passes the tests before a place passes that of the place before
step : (n : ℕ) (good : ExactPattern) (s : ExactSegment) → suc n < 8 → PassesBefore (test_at (suc n)) good s → PassesBefore (test_at n) good s × Passes (test_at n) good s
step zero good s h b = (tt, tt)
step (suc zero) good s h b = (tt, b)
step (suc (suc zero)) good s h b = (b.0, b.1)
step (suc (suc (suc zero))) good s h b = ((b.0, b.1), b.2)
step (suc (suc (suc (suc zero)))) good s h b = ((b.0, b.1, b.2), b.3)
step (suc (suc (suc (suc (suc zero))))) good s h b = ((b.0, b.1, b.2, b.3), b.4)
step (suc (suc (suc (suc (suc (suc zero)))))) good s h b = ((b.0, b.1, b.2, b.3, b.4), b.5)
step (suc (suc (suc (suc (suc (suc (suc n))))))) good s h b = absurd (omega (arith, h))

same_or_less : (m n : ℕ) → m < suc n → (m ≡ n) ⊎ (m < n)
same_or_less m n h = elim (three m n) [ inl l ↦ inr l | inr k ↦ elim k [ inl e ↦ inl e | inr g ↦ absurd (omega (arith, g, h)) ] ]
  where
    three : (m n : ℕ) → (m < n) ⊎ ((m ≡ n) ⊎ (n < m))
    three zero zero = inr (inl refl)
    three zero (suc n) = inl (omega arith)
    three (suc m) zero = inr (inr (omega arith))
    three (suc m) (suc n) = elim (three m n) [ inl l ↦ inl (omega (arith, l)) | inr k ↦ elim k [ inl e ↦ inr (inl (ap suc e)) | inr g ↦ inr (inr (omega (arith, g))) ] ]

passed : (m n : ℕ) (good : ExactPattern) (s : ExactSegment) → m < n → n < 8 → PassesBefore (test_at n) good s → Passes (test_at m) good s
passed m zero good s l h b = absurd (omega (arith, l))
passed m (suc n) good s l h b = (let before = step n good s h b in elim (same_or_less m n l) [
  | inl e ↦ subst (λ (k : ℕ). Passes (test_at k) good s) (sym e) before.1
  | inr r ↦ passed m n good s r (omega (arith, h)) before.0
])

earlier : (w v : PatternWhy) (i : IsPlaced w) (j : IsPlaced v) (good : ExactPattern) (s : ExactSegment) → i.place < j.place → PassesBefore v good s → Passes w good s
earlier w v i j good s l b = subst (λ (x : PatternWhy). Passes x good s) i.is (passed i.place j.place good s l j.small (subst (λ (x : PatternWhy). PassesBefore x good s) (sym j.is) b))

-- of two tests that a segment fails first, neither comes first
first_only : (w v : PatternWhy) (good : ExactPattern) (s : ExactSegment) → PassesBefore w good s → ¬ Passes w good s → PassesBefore v good s → ¬ Passes v good s → w ≡ v
first_only w v good s b n c m =
    let i = placed w in
    let j = placed v in
    elim (same_or_less i.place j.place (omega (arith, not_after i j))) [
      | inl e ↦ sym i.is ∙ ap test_at e ∙ j.is
      | inr l ↦ absurd (n (earlier w v i j good s l c))
    ]
  where
    not_after : (i : IsPlaced w) (j : IsPlaced v) → ¬ (j.place < i.place)
    not_after i j l = m (earlier v w j i good s l b)

one_why : (w v : PatternWhy) (good : ExactPattern) (bytes : List ℕ) → Fails w good bytes → Fails v good bytes → w ≡ v
one_why w v good bytes h k = elim (failed w good bytes h) [
  | inl e ↦ elim (failed v good bytes k) [
    | inl f ↦ e ∙ sym f
    | inr y ↦ absurd (no_line w good bytes h e y.colour y.p y.q y.after y.line)
  ]
  | inr x ↦ elim (failed v good bytes k) [
    | inl f ↦ absurd (no_line v good bytes k f x.colour x.p x.q x.after x.line)
    | inr y ↦ (let same = same_ends bytes y.colour x.colour y.p y.q x.p x.q y.after x.after y.line x.line in
        first_only w v good (ends x.p x.q) x.before x.not (subst (λ (s : ExactSegment). PassesBefore v good s) same y.before) (subst (λ (s : ExactSegment). ¬ Passes v good s) same y.not))
  ]
]

-- ---- whole texts
-- the creases before a bad line are all creases of what begins with them
bad_is_last : (w : PatternWhy) (good other : ExactPattern) (rest behind : List ℕ) → other.sheet ≡ good.sheet → IsPattern other → Fails w good rest → IsBegun good.creases other.creases rest behind → (other ≡ good) × (rest ≡ behind)
bad_is_last w good other rest behind s p h b = by b.tail b.more b.left
  where
    by : (tail : List ExactCrease) → other.creases ≡ good.creases ++ tail → rest ≡ lines_text tail ++ behind → (other ≡ good) × (rest ≡ behind)
    by [] m l = (same_pattern other good s (m ∙ append-nil good.creases), l)
    by (f ∷ tail) m l = absurd (next_is_good w good.sheet good.creases f tail rest (lines_text tail ++ behind) (subst IsPattern (same_pattern other (on good.sheet (good.creases ++ f ∷ tail)) s m) p) (l ∙ append_assoc (text_of f) (lines_text tail) behind) h)

nothing_more : (good others : List ExactCrease) (rest : List ℕ) → IsBegun others good [] rest → rest ≡ []
nothing_more good others rest b = by b.tail b.left
  where
    by : (tail : List ExactCrease) → [] ≡ lines_text tail ++ rest → rest ≡ []
    by [] l = sym l
    by (f ∷ tail) l = absurd (omega (arith, ap length l))

pub not_refused : (bytes : List ℕ) (pattern : ExactPattern) (bad : PatternBad) → IsRead bytes pattern → ¬ IsRefused bytes bad
not_refused bytes pattern bad r (inl h) = h.0 pattern.sheet r.0.sheet (lines_text pattern.creases) r.1
not_refused bytes pattern bad r (inr (good, rest, a)) =
    let left = lines_left bytes good pattern rest [] a.text (r.1 ∙ sym (append-nil (pattern_text pattern))) in
    elim (begun good.sheet pattern.sheet good.creases pattern.creases rest [] a.pattern.keys r.0.keys left.1) [
      | inl b ↦ a.more (bad_is_last bad.why good pattern rest [] (sym left.0) r.0 a.why b).1
      | inr b ↦ a.more (nothing_more good.creases pattern.creases rest b)
    ]

made : (bad other : PatternBad) → bad.line ≡ other.line → bad.why ≡ other.why → bad ≡ other
made bad other e f = λ i. record { line = e i; why = f i }

one_bad : (bad worse : PatternBad) (good other : ExactPattern) (rest behind : List ℕ) (bytes : List ℕ) → IsBadAfter bytes good rest bad → IsBadAfter bytes other behind worse → (other ≡ good) × (rest ≡ behind) → bad ≡ worse
one_bad bad worse good other rest behind bytes a b e = made bad worse (a.line ∙ ap (λ (x : ExactPattern). length x.creases + 2) (sym e.0) ∙ sym b.line)
    (one_why bad.why worse.why good rest a.why (subst (λ (x : ExactPattern). Fails worse.why x rest) e.0 (subst (λ (x : List ℕ). Fails worse.why other x) (sym e.1) b.why)))

headed : (bytes : List ℕ) (good : ExactPattern) (rest : List ℕ) (bad : PatternBad) → IsBadAfter bytes good rest bad → ¬ HasNoHeader bytes
headed bytes good rest bad a n = n good.sheet a.pattern.sheet (lines_text good.creases ++ rest) (a.text ∙ append_assoc (header good.sheet) (lines_text good.creases) rest)

pub one_refusal : (bytes : List ℕ) (bad other : PatternBad) → IsRefused bytes bad → IsRefused bytes other → bad ≡ other
one_refusal bytes bad other (inl h) (inl k) = made bad other (h.1 ∙ sym k.1) (h.2 ∙ sym k.2)
one_refusal bytes bad other (inl h) (inr (good, rest, a)) = absurd (headed bytes good rest other a h.0)
one_refusal bytes bad other (inr (good, rest, a)) (inl h) = absurd (headed bytes good rest bad a h.0)
one_refusal bytes bad other (inr (good, rest, a)) (inr (others, behind, b)) =
    let left = lines_left bytes good others rest behind a.text b.text in
    elim (begun good.sheet others.sheet good.creases others.creases rest behind a.pattern.keys b.pattern.keys left.1) [
      | inl x ↦ one_bad bad other good others rest behind bytes a b (bad_is_last bad.why good others rest behind (sym left.0) b.pattern a.why x)
      | inr x ↦ sym (one_bad other bad others good behind rest bytes b a (bad_is_last other.why others good behind rest left.0 a.pattern b.why x))
    ]
