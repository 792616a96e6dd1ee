-- The lines of a delta's text are read in one way.
use Rattle.std.proofs.Common.{◌≡◌, ◌≢◌, ℕ, ◌+◌, ◌≤◌, ◌<◌, List, [], ◌∷◌, ◌++◌, length, drop, get_or, refl, sym, ap, subst, ◌∙◌, arith, append_assoc, append-nil, length-append, length-drop}
use Rattle.std.specs.Prelude.{Contains, All, Option, Some}
use Rattle.std.proofs.lemmas.List.{drop_at, drop-drop, drop_all}
use Rattle.std.proofs.lemmas.List.Elements.{All-head, All-tail, All-push, Contains-append_right}
use Rattle.std.proofs.lemmas.List.Quantifiers.{all_pairs_push}
use Rattle.exact.specs.Plane.{ExactPoint, ExactSegment, SegmentBefore}
use Rattle.plane.specs.Segments.{IsHeld}
use Rattle.sheet.specs.Pattern.{ExactCrease}
use Rattle.creases.specs.Creases.{Ascends}
use Rattle.creases.proofs.callers.Members.{first_before, later_ascend}
use Rattle.pattern.specs.Splitting.{SplitsAt}
use Rattle.pattern.specs.NativeText.{line_text, crease_text}
use Rattle.pattern.specs.NativeReading.{IsAfterLast}
use Rattle.pattern.specs.NativeReader.{IsLast}
use Rattle.pattern.specs.SingleText.{IsCreaseText}
use Rattle.pattern.specs.DeltaText.{entry_text, entries_text, minus_sign, plus_sign, IsListing, IsDeltaText}
use Rattle.pattern.specs.DeltaReader.{EndsFor, IsEntries, IsEntry, AreReadUpTo}
use Rattle.pattern.specs.declared.delta.Delta.{Delta}
use Rattle.pattern.proofs.Splits.{one_split}
use Rattle.pattern.proofs.callers.LineText.{spelled_point}
use Rattle.pattern.proofs.NativeSteps.{body_line, body_unmarked, unmarked_more}
use Rattle.pattern.proofs.callers.OneText.{one_line, crease_of_line}
use Rattle.pattern.proofs.Appending.{after_all}
use Rattle.pattern.proofs.callers.SingleText.{between, seg_made}
use Rattle.chains.proofs.callers.Elements.{head_has}

pub entry_line : (sign : ℕ) (f : ExactCrease) (after : List ℕ) → entry_text sign f ++ after ≡ (sign ∷ 32 ∷ crease_text f) ++ 10 ∷ after
entry_line sign f after = ap (λ t. sign ∷ 32 ∷ t) (body_line f.colour f.seg.p f.seg.q after)

entry_unmarked : (sign : ℕ) (f : ExactCrease) → sign ≢ 10 → ¬ Contains (sign ∷ 32 ∷ crease_text f) 10
entry_unmarked sign f n = unmarked_more sign (32 ∷ crease_text f) n (unmarked_more 32 (crease_text f) (λ e. omega (arith, e)) (body_unmarked f.colour f.seg.p f.seg.q))

-- ---- the first entry
pub entry_read : (sign : ℕ) (bytes line rest text : List ℕ) (creases : List ExactCrease) (f : ExactCrease) → SplitsAt bytes 10 line rest → line ≡ sign ∷ 32 ∷ text → IsCreaseText text f → IsAfterLast creases f.seg → IsEntry sign bytes creases f (drop (length line + 1) bytes)
entry_read sign bytes line rest text creases f s l t a =
    let whole : bytes ≡ entry_text sign f ++ rest = s.joined ∙ ap (λ x. x ++ 10 ∷ rest) (l ∙ ap (λ x. sign ∷ 32 ∷ x) t.text) ∙ sym (entry_line sign f rest) in
    let left : drop (length line + 1) bytes ≡ rest = ap (drop (length line + 1)) (s.joined ∙ sym (append_assoc line (10 ∷ []) rest)) ∙ drop_at (line ++ 10 ∷ []) rest (length line + 1) (length-append line (10 ∷ [])) in
    record { held = t.held; after = a; text = whole ∙ ap (λ x. entry_text sign f ++ x) (sym left) }

-- the line of an entry ends at the first line feed
pub line_is : (sign : ℕ) (bytes line after : List ℕ) (creases : List ExactCrease) (f : ExactCrease) (rest : List ℕ) → sign ≢ 10 → SplitsAt bytes 10 line after → IsEntry sign bytes creases f rest → line ≡ sign ∷ 32 ∷ crease_text f
line_is sign bytes line after creases f rest n s e = (one_split 10 line after (sign ∷ 32 ∷ crease_text f) rest s.first (entry_unmarked sign f n) (sym s.joined ∙ e.text ∙ entry_line sign f rest)).0

pub unended_entry : (sign : ℕ) (bytes : List ℕ) (creases : List ExactCrease) (f : ExactCrease) (rest : List ℕ) → ¬ Contains bytes 10 → ¬ IsEntry sign bytes creases f rest
unended_entry sign bytes creases f rest n e = n (subst (λ (x : List ℕ). Contains x 10) (sym (e.text ∙ entry_line sign f rest)) (Contains-append_right (sign ∷ 32 ∷ crease_text f) (10 ∷ rest) 10 (0, omega arith, refl)))

pub text_of_entry : (sign first : ℕ) (bytes line after text : List ℕ) (creases : List ExactCrease) (f : ExactCrease) (rest : List ℕ) → sign ≢ 10 → SplitsAt bytes 10 line after → line ≡ first ∷ 32 ∷ text → IsEntry sign bytes creases f rest → (first ≡ sign) × IsCreaseText text f
text_of_entry sign first bytes line after text creases f rest n s l e =
    let same : first ∷ 32 ∷ text ≡ sign ∷ 32 ∷ crease_text f = sym l ∙ line_is sign bytes line after creases f rest n s e in
    (ap (λ t. get_or t 0 0) same, record { held = e.held; text = ap (drop 2) same })

-- ---- the entries of a list
one_entry : (sign : ℕ) (f g : ExactCrease) (after behind : List ℕ) → IsHeld f.seg → IsHeld g.seg → entry_text sign f ++ after ≡ entry_text sign g ++ behind → (f ≡ g) × (after ≡ behind)
one_entry sign f g after behind k l e =
    let line = one_line f.colour g.colour f.seg.p f.seg.q g.seg.p g.seg.q after behind (spelled_point f.seg.p k.from) (spelled_point f.seg.q k.to) (spelled_point g.seg.p l.from) (spelled_point g.seg.q l.to) (ap (drop 2) e) in
    (crease_of_line f g after behind line, line.rest)

abbrev AllHeld : List ExactCrease → Type 0
AllHeld creases = All (λ f. IsHeld f.seg) creases

-- what follows entries that are not all
pub record Continues (sign : ℕ) (good others : List ExactCrease) (rest behind : List ℕ) : Type 0 where
  pub tail : List ExactCrease
  pub more : others ≡ good ++ tail
  pub left : rest ≡ entries_text sign tail ++ behind

pub continued : (sign : ℕ) (good others : List ExactCrease) (rest behind : List ℕ) → AllHeld good → AllHeld others → EndsFor sign behind → entries_text sign good ++ rest ≡ entries_text sign others ++ behind → Continues sign good others rest behind
continued sign [] others rest behind k l n e = record { tail = others; more = refl; left = e }
continued sign (f ∷ good) [] rest behind k l n e = absurd (n (32 ∷ ((line_text f.colour f.seg.p f.seg.q ++ entries_text sign good) ++ rest)) (sym e))
continued sign (f ∷ good) (g ∷ others) rest behind k l n e =
    let first = one_entry sign f g (entries_text sign good ++ rest) (entries_text sign others ++ behind) (All-head (λ (h : ExactCrease). IsHeld h.seg) f good k) (All-head (λ (h : ExactCrease). IsHeld h.seg) g others l)
    (sym (append_assoc (entry_text sign f) (entries_text sign good) rest) ∙ e ∙ append_assoc (entry_text sign g) (entries_text sign others) behind) in
    let c = continued sign good others rest behind (All-tail (λ (h : ExactCrease). IsHeld h.seg) f good k) (All-tail (λ (h : ExactCrease). IsHeld h.seg) g others l) n first.1 in
    record { tail = c.tail; more = ap (λ t. g ∷ t) c.more ∙ ap (λ x. x ∷ (good ++ c.tail)) (sym first.0); left = c.left }

-- what is left of entries after which none follows has no entry
none_follows : (sign : ℕ) (good others : List ExactCrease) (rest behind : List ℕ) → EndsFor sign rest → Continues sign good others rest behind → (good ≡ others) × (rest ≡ behind)
none_follows sign good others rest behind n c = by c.tail c.more c.left
  where
    by : (tail : List ExactCrease) → others ≡ good ++ tail → rest ≡ entries_text sign tail ++ behind → (good ≡ others) × (rest ≡ behind)
    by [] m l = (sym (m ∙ append-nil good), l)
    by (f ∷ tail) m l = absurd (n (32 ∷ ((line_text f.colour f.seg.p f.seg.q ++ entries_text sign tail) ++ behind)) l)

pub one_entries : (sign : ℕ) (bytes : List ℕ) (good others : List ExactCrease) (rest behind : List ℕ) → IsEntries sign bytes good rest → IsEntries sign bytes others behind → (good ≡ others) × (rest ≡ behind)
one_entries sign bytes good others rest behind a b = none_follows sign good others rest behind a.ends (continued sign good others rest behind a.listing.held b.listing.held b.ends (sym a.text ∙ b.text))

entries_push : (sign : ℕ) (good : List ExactCrease) (f : ExactCrease) → entries_text sign (good ++ f ∷ []) ≡ entries_text sign good ++ entry_text sign f
entries_push sign [] f = append-nil (entry_text sign f)
entries_push sign (g ∷ good) f = ap (λ t. entry_text sign g ++ t) (entries_push sign good f) ∙ sym (append_assoc (entry_text sign g) (entries_text sign good) (entry_text sign f))

-- ---- from entry to entry
pub listing_more : (last : Option ExactSegment) (creases : List ExactCrease) (f : ExactCrease) → IsLast last creases → IsListing creases → IsHeld f.seg → IsAfterLast creases f.seg → IsListing (creases ++ f ∷ [])
listing_more last creases f i l h a = record {
  held = All-push (λ (g : ExactCrease). IsHeld g.seg) creases f l.held h;
  ascends = all_pairs_push (λ (g k : ExactCrease). SegmentBefore g.seg k.seg) creases f l.ascends (after_all last creases f.seg i l.ascends a);
}

pub text_more : (sign : ℕ) (text slice : List ℕ) (at n : ℕ) (creases : List ExactCrease) (f : ExactCrease) → slice ≡ drop at text → text ≡ entries_text sign creases ++ drop at text → IsEntry sign slice creases f (drop n slice) → text ≡ entries_text sign (creases ++ f ∷ []) ++ drop (at + n) text
text_more sign text slice at n creases f e t i =
    let rest : drop n slice ≡ drop (at + n) text = ap (drop n) e ∙ drop-drop n at text in
    t ∙ ap (λ x. entries_text sign creases ++ x) (sym e ∙ i.text) ∙ sym (append_assoc (entries_text sign creases) (entry_text sign f) (drop n slice)) ∙ ap (λ x. x ++ drop n slice) (sym (entries_push sign creases f)) ∙ ap (λ x. entries_text sign (creases ++ f ∷ []) ++ x) rest

neighbours : (front : List ExactCrease) (last f : ExactCrease) (tail : List ExactCrease) → Ascends (front ++ last ∷ f ∷ tail) → SegmentBefore last.seg f.seg
neighbours [] last f tail h = first_before last f (f ∷ tail) h (head_has f f tail refl)
neighbours (x ∷ front) last f tail h = neighbours front last f tail (later_ascend x (front ++ last ∷ f ∷ tail) h)

-- the first crease that follows is the next entry
next_entry : (sign : ℕ) (slice : List ℕ) (creases : List ExactCrease) (f : ExactCrease) (tail : List ExactCrease) (behind : List ℕ) → slice ≡ entries_text sign (f ∷ tail) ++ behind → IsListing (creases ++ f ∷ tail) → IsEntry sign slice creases f (entries_text sign tail ++ behind)
next_entry sign slice creases f tail behind e l = record {
  held = All-append_middle creases f tail l.held;
  after = λ front last s. before_in front last s;
  text = e ∙ append_assoc (entry_text sign f) (entries_text sign tail) behind;
}
  where
    All-append_middle : (xs : List ExactCrease) (f : ExactCrease) (ys : List ExactCrease) → AllHeld (xs ++ f ∷ ys) → IsHeld f.seg
    All-append_middle [] f ys h = All-head (λ (g : ExactCrease). IsHeld g.seg) f ys h
    All-append_middle (x ∷ xs) f ys h = All-append_middle xs f ys (All-tail (λ (g : ExactCrease). IsHeld g.seg) x (xs ++ f ∷ ys) h)

    before_in : (front : List ExactCrease) (last : ExactCrease) → creases ≡ front ++ last ∷ [] → SegmentBefore last.seg f.seg
    before_in front last s = neighbours front last f tail (subst Ascends (ap (λ xs. xs ++ f ∷ tail) s ∙ append_assoc front (last ∷ []) (f ∷ tail)) l.ascends)

-- where the next line is no entry that can follow, the bytes are no entries
pub no_entries : (sign : ℕ) (text slice : List ℕ) (at : ℕ) (creases others : List ExactCrease) (first behind : List ℕ) → slice ≡ drop at text → text ≡ entries_text sign creases ++ drop at text → IsListing creases → slice ≡ sign ∷ first → ((f : ExactCrease) (rest : List ℕ) → ¬ IsEntry sign slice creases f rest) → ¬ IsEntries sign text others behind
no_entries sign text slice at creases others first behind e t l b n i = by c.tail c.more c.left
  where
    c : Continues sign creases others slice behind
    c = continued sign creases others slice behind l.held i.listing.held i.ends (ap (λ x. entries_text sign creases ++ x) e ∙ sym t ∙ i.text)

    by : (tail : List ExactCrease) → others ≡ creases ++ tail → slice ≡ entries_text sign tail ++ behind → ⊥
    by [] m s = i.ends first (sym s ∙ b)
    by (f ∷ tail) m s = n f (entries_text sign tail ++ behind) (next_entry sign slice creases f tail behind s (subst IsListing m i.listing))

-- ---- a whole text
added_ends : (sign : ℕ) (creases : List ExactCrease) → sign ≢ plus_sign → EndsFor sign (entries_text plus_sign creases)
added_ends sign [] n after e = omega (arith, ap length e)
added_ends sign (f ∷ creases) n after e = n (sym (ap (λ t. get_or t 0 0) e))

none_ends : (sign : ℕ) → EndsFor sign []
none_ends sign after e = omega (arith, ap length e)

pub removed_entries : (bytes : List ℕ) (delta : Delta) → IsDeltaText bytes delta → IsEntries minus_sign bytes delta.removed (entries_text plus_sign delta.added)
removed_entries bytes delta d = record { listing = d.removed; text = d.text; ends = added_ends minus_sign delta.added (λ e. omega (arith, e)) }

pub added_entries : (delta : Delta) → IsListing delta.added → IsEntries plus_sign (entries_text plus_sign delta.added) delta.added []
added_entries delta l = record { listing = l; text = sym (append-nil (entries_text plus_sign delta.added)); ends = none_ends plus_sign }

pub one_delta : (bytes : List ℕ) (delta other : Delta) → IsDeltaText bytes delta → IsDeltaText bytes other → delta ≡ other
one_delta bytes delta other a b =
    let removed = one_entries minus_sign bytes delta.removed other.removed (entries_text plus_sign delta.added) (entries_text plus_sign other.added) (removed_entries bytes delta a) (removed_entries bytes other b) in
    let added = one_entries plus_sign (entries_text plus_sign delta.added) delta.added other.added [] [] (added_entries delta a.added) (subst (λ (x : List ℕ). IsEntries plus_sign x other.added []) (sym removed.1) (added_entries other b.added)) in
    λ i. record { removed = removed.0 i; added = added.0 i }

-- entries of removed creases and then entries of added ones, up to the end
pub whole_delta : (bytes rest : List ℕ) (removed added : List ExactCrease) (end : ℕ) (start : ℕ) → rest ≡ drop start bytes → IsEntries minus_sign bytes removed (drop start bytes) → IsEntries plus_sign rest added (drop end rest) → length rest ≤ end → IsDeltaText bytes (record { removed = removed; added = added })
whole_delta bytes rest removed added end start e a b n = record {
  removed = a.listing;
  added = b.listing;
  text = a.text ∙ ap (λ x. entries_text minus_sign removed ++ x) (sym e ∙ b.text ∙ ap (λ x. entries_text plus_sign added ++ x) (drop_all end rest n) ∙ append-nil (entries_text plus_sign added));
}

-- what follows the removed ones is the text of the added ones
pub rest_is : (bytes slice rest : List ℕ) (removed : List ExactCrease) (delta : Delta) → slice ≡ rest → IsEntries minus_sign bytes removed rest → IsDeltaText bytes delta → IsEntries plus_sign slice delta.added []
rest_is bytes slice rest removed delta s a d =
    let same = one_entries minus_sign bytes removed delta.removed rest (entries_text plus_sign delta.added) a (removed_entries bytes delta d) in
    subst (λ (x : List ℕ). IsEntries plus_sign x delta.added []) (sym (s ∙ same.1)) (added_entries delta d.added)

-- a native line is the text of its crease and a line feed
pub line_text_is : (f : ExactCrease) → line_text f.colour f.seg.p f.seg.q ≡ crease_text f ++ 10 ∷ []
line_text_is f = sym (append-nil (line_text f.colour f.seg.p f.seg.q)) ∙ body_line f.colour f.seg.p f.seg.q []

-- ---- after the last crease
pub after_told : (creases : List ExactCrease) (p q : ExactPoint) (s : ExactSegment) → p ≡ s.p → q ≡ s.q → IsAfterLast creases (between p q) → IsAfterLast creases s
after_told creases p q s e f a = λ front last m. subst (λ (x : ExactSegment). SegmentBefore last.seg x) (seg_made (between p q) s e f) (a front last m)

pub after_asked : (creases : List ExactCrease) (p q : ExactPoint) (s : ExactSegment) → p ≡ s.p → q ≡ s.q → IsAfterLast creases s → IsAfterLast creases (between p q)
after_asked creases p q s e f a = λ front last m. subst (λ (x : ExactSegment). SegmentBefore last.seg x) (sym (seg_made (between p q) s e f)) (a front last m)

pub entry_kept : (sign : ℕ) (text slice : List ℕ) (at n : ℕ) (creases now : List ExactCrease) (last : Option ExactSegment) (f : ExactCrease) (s : ExactSegment) → slice ≡ drop at text → AreReadUpTo sign text at creases last → IsEntry sign slice creases f (drop n slice) → n ≤ length slice → now ≡ creases ++ f ∷ [] → f.seg ≡ s → AreReadUpTo sign text (at + n) now (Some s)
entry_kept sign text slice at n creases now last f s e r i short m same = record {
  within = omega (arith, r.within, short, ap length e, length-drop at text);
  listing = subst IsListing (sym m) (listing_more last creases f r.ending r.listing i.held i.after);
  ending = (creases, f, m, same);
  text = text_more sign text slice at n creases f e r.text i ∙ ap (λ x. entries_text sign x ++ drop (at + n) text) (sym m);
}
