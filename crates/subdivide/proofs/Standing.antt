-- What stands in the strips, and what the next line has seen of it.
use Rattle.std.proofs.Common.{◌≡◌, ℕ, zero, suc, ◌+◌, ◌*◌, ◌/◌, ◌%◌, ◌^◌, ◌<◌, ◌≤◌, List, [], ◌∷◌, ◌++◌, length, get_or, set, refl, sym, ap, subst, ◌∙◌, ◌⊎◌, inl, inr, arith}
use Rattle.std.specs.Prelude.{ℤ, pos, ◌-ℤ◌, ◌<ℤ◌, ◌≤ℤ◌, min, unsigned_abs, Bool, true, false, All, Contains, Some, slice_get}
use Rattle.std.specs.Int.{int_max}
use Rattle.std.specs.List.{items_where_true}
use Rattle.std.specs.List.Retain.{ReturnsInTurn, IsFiltered}
use Rattle.std.proofs.Math.ListN.{length-set}
use Rattle.std.proofs.Math.Nat.{div-mul-le_self}
use Rattle.std.proofs.lemmas.Bool.{cases_lt, cases_eq}
use Rattle.std.proofs.lemmas.Int.{ints, clamps}
use Rattle.std.proofs.lemmas.List.{get_or-set_same, get_or-set_other, length_push}
use Rattle.std.proofs.lemmas.List.Elements.{All-weaker, All-push, All-set, All-append, All-nil, All-cons, All-head, All-tail, Contains-append_left, Contains-append_right, Contains-push}
use Rattle.std.proofs.lemmas.Nat.{le-div, pow_pos}
use Rattle.std.proofs.lemmas.Option.{slice_get-get_or, slice_get_within, get_or_from_slice_get}
use Rattle.exact.specs.Number.{Less}
use Rattle.exact.specs.Plane.{ExactPoint, OnBoth}
use Rattle.exact.proofs.Told.{less_not_back}
use Rattle.plane.specs.Ways.{IsAhead}
use Rattle.forms.specs.Marks.{IsBetween}
use Rattle.subdivide.specs.Lines.{AreMarked, AreSwept, mark_at, own_row, leftward}
use Rattle.subdivide.specs.Strips.{place_of, IsBand, AreBands, StandsAt, IsPast, IsOwnPlace, AreBelow, HaveBelow, AreUnused, HaveRows, AreStanding, AreLookedAt, AreNear, IsFromTo, IsReached}
use Rattle.subdivide.specs.declared.line.End.TheVariants as end
use Rattle.subdivide.specs.declared.line.MarkedLine.{MarkedLine}
use Rattle.subdivide.specs.declared.strips.Band.{Band}
use Rattle.subdivide.specs.declared.strips.Strip.{Strip}
use Rattle.subdivide.specs.declared.strips.Strips.{Strips}
use Rattle.forms.proofs.callers.Marked.{leads_ahead, ends_enclose, further_left, apart_from_left, less_at_most}
use Rattle.subdivide.proofs.callers.Gets.{some_is}

-- places rise with marks
through : (x a b : ℕ) → x ≤ a → a ≤ b → x ≤ b
through x a b h k = omega arith

shift_rises : (a b s : ℕ) → a ≤ b → a / 2 ^ s ≤ b / 2 ^ s
shift_rises a b s h = le-div (a / 2 ^ s) b (2 ^ s) (pow_pos s) (through (a / 2 ^ s * 2 ^ s) a b (div-mul-le_self a (2 ^ s)) h)

size_rises : (m l low : ℤ) → m ≤ℤ l → unsigned_abs (int_max m low -ℤ low) ≤ unsigned_abs (int_max l low -ℤ low)
size_rises m l low h = omega (arith, ints, clamps)

least_rises : (f t x y : ℕ) → x ≤ y → f + min t x ≤ f + min t y
least_rises f t x y h = omega arith

place_rises : (b : Band) (m l : ℤ) → m ≤ℤ l → place_of b m ≤ place_of b l
place_rises b m l h = least_rises b.first b.last (unsigned_abs (int_max m b.low -ℤ b.low) / 2 ^ b.shift) (unsigned_abs (int_max l b.low -ℤ b.low) / 2 ^ b.shift) (shift_rises (unsigned_abs (int_max m b.low -ℤ b.low)) (unsigned_abs (int_max l b.low -ℤ b.low)) b.shift (size_rises m l b.low h))

up_to : (a b p : ℕ) → a ≤ p → p ≤ b → IsFromTo a b p
up_to a b p h k = (omega arith, omega arith)

down_to : (a b p : ℕ) → b ≤ p → p ≤ a → IsFromTo a b p
down_to a b p h k = (omega arith, omega arith)

place_between : (b : Band) (x y m : ℤ) → IsBetween x y m → IsFromTo (place_of b x) (place_of b y) (place_of b m)
place_between b x y m h = elim h [
  | inl k ↦ up_to (place_of b x) (place_of b y) (place_of b m) (place_rises b x m k.0) (place_rises b m y k.1)
  | inr k ↦ down_to (place_of b x) (place_of b y) (place_of b m) (place_rises b y m k.0) (place_rises b m x k.1)
]

-- the band of a row
pub band_at : (strips : Strips) (row : ℕ) → AreBands strips → row < 8 → (b : Band) × (slice_get strips.bands.items row ≡ Some b) × IsBand (length strips.strips.items) b
band_at strips row h l = (get_or strips.bands.items row none, slice_get-get_or strips.bands.items row none within, h.each row none within)
  where
    none : Band
    none = record { low = pos 0; shift = 0; first = 0; last = 0 }

    within : row < length strips.bands.items
    within = omega (arith, h.eight)

pub same_number : (n j : ℕ) → n ≤ j → j ≤ n → n ≡ j
same_number n j h k = omega arith

pub past_of : (lines : List MarkedLine) (n i : ℕ) (l m : MarkedLine) → AreSwept lines → slice_get lines i ≡ Some l → slice_get lines n ≡ Some m → mark_at m end.Lesser leftward <ℤ mark_at l end.Greater leftward → IsPast lines n i
past_of lines n i l m s e f h = record { left = λ j a b g x y. subst (λ (z : MarkedLine). Less z.seg.q.x b.seg.p.x) (some_is (sym e ∙ x)) (later j b g y) }
  where
    here : Less l.seg.q.x m.seg.p.x
    here = further_left s.marked.scale l.seg.q m.seg.p (mark_at l end.Greater leftward) (mark_at m end.Lesser leftward) ((s.marked.each i l e).greater 4 (omega arith, inl (omega arith))) ((s.marked.each n m f).lesser 4 (omega arith, inl (omega arith))) h

    later : (j : ℕ) (b : MarkedLine) → n ≤ j → slice_get lines j ≡ Some b → Less l.seg.q.x b.seg.p.x
    later j b g y = elim (cases_lt n j) [
      | inl k ↦ less_at_most l.seg.q.x m.seg.p.x b.seg.p.x here (s.ordered n j m b k f y)
      | inr k ↦ subst (λ (z : MarkedLine). Less l.seg.q.x z.seg.p.x) (some_is (sym f ∙ (ap (slice_get lines) (same_number n j g k) ∙ y))) here
    ]

past_none : (lines : List MarkedLine) (n i : ℕ) (l m : MarkedLine) → IsPast lines n i → slice_get lines i ≡ Some l → slice_get lines n ≡ Some m → (r : ExactPoint) → ¬ OnBoth r l.seg m.seg
past_none lines n i l m p e f r = apart_from_left l.seg m.seg m.seg r (p.left n l m (omega arith) e f) (λ h. less_not_back m.seg.p.x m.seg.p.x h h)

past_later : (lines : List MarkedLine) (n i : ℕ) → IsPast lines n i → IsPast lines (n + 1) i
past_later lines n i p = record { left = λ j l m g e f. p.left j l m (omega arith) e f }

-- the form of a line lies between those of the ends of a line that it meets
enclosed : (lines : List MarkedLine) (n i : ℕ) (l m : MarkedLine) (r : ExactPoint) → AreMarked lines → slice_get lines i ≡ Some l → slice_get lines n ≡ Some m → OnBoth r l.seg m.seg → IsBetween (mark_at m end.Lesser (own_row l)) (mark_at m end.Greater (own_row l)) (mark_at l end.Lesser (own_row l))
enclosed lines n i l m r k e f o = (let a = k.each i l e in let b = k.each n m f in let ahead : IsAhead l.dir = leads_ahead l.seg l.dir a.along in
    ends_enclose k.scale l.dir m.dir m.seg l.seg r (mark_at m end.Lesser (own_row l)) (mark_at m end.Greater (own_row l)) (mark_at l end.Lesser (own_row l)) b.along a.along (o.1, o.0) (b.lesser l.dir ahead) (b.greater l.dir ahead) (a.lesser l.dir ahead))

row_one : (a b : ℕ) → IsAhead a → IsAhead b → a % 8 ≡ b % 8 → a ≡ b
row_one a b x y e = elim x.1 [
  | inl h ↦ elim y.1 [ inl k ↦ omega (arith, x.0, y.0) | inr k ↦ omega (arith, x.0, y.0) ]
  | inr h ↦ elim y.1 [ inl k ↦ omega (arith, x.0, y.0) | inr k ↦ omega (arith, x.0, y.0) ]
]

row_small : (k : ℕ) → k % 8 < 8
row_small k = omega arith

-- of the lines before line n whose own row this is, those that are not in the list have no point of it
pub record IsSeen (lines : List MarkedLine) (n row : ℕ) (near : List ℕ) : Type 0 where
  pub apart : (i : ℕ) (l m : MarkedLine) → i < n → slice_get lines i ≡ Some l → slice_get lines n ≡ Some m → own_row l ≡ row → ¬ Contains near i → (r : ExactPoint) → ¬ OnBoth r l.seg m.seg

pub seen_more : (lines : List MarkedLine) (n row : ℕ) (near nearer : List ℕ) → IsSeen lines n row near → ((i : ℕ) → Contains near i → Contains nearer i) → IsSeen lines n row nearer
seen_more lines n row near nearer s h = record { apart = λ i l m k e f q x r. s.apart i l m k e f q (λ c. x (h i c)) r }

pub row_seen : (lines : List MarkedLine) (n row : ℕ) (old new : Strips) (near nearer : List ℕ) → AreSwept lines → AreStanding lines n old → AreLookedAt lines n (IsReached old lines n row) old new near nearer → IsSeen lines n row nearer
row_seen lines n row old new near nearer s t a = record { apart = λ i l m h e f q x r o. here i l m h e f x r o (subst (λ z. AreLookedAt lines n (IsReached old lines n z) old new near nearer) (sym q) a) }
  where
    here : (i : ℕ) (l m : MarkedLine) → i < n → slice_get lines i ≡ Some l → slice_get lines n ≡ Some m → ¬ Contains nearer i → (r : ExactPoint) → OnBoth r l.seg m.seg → AreLookedAt lines n (IsReached old lines n (own_row l)) old new near nearer → ⊥
    here i l m h e f x r o b = (let c = band_at old (own_row l) t.bands (row_small l.dir) in
        let place : ℕ = place_of c.0 (mark_at l end.Lesser (own_row l)) in
        elim (t.stand i place l h e (record { band = c.0; is = c.1; place_is = refl })) [
          | inl w ↦ elim (b.given place i (record { band = c.0; line = m; is = c.1; stands = f; between = place_between c.0 (mark_at m end.Lesser (own_row l)) (mark_at m end.Greater (own_row l)) (mark_at l end.Lesser (own_row l)) (enclosed lines n i l m r s.marked e f o) }) w) [
            | inl y ↦ x y
            | inr p ↦ past_none lines n i l m p e f r o
          ]
          | inr p ↦ past_none lines n i l m p e f r o
        ])

pub near_all : (lines : List MarkedLine) (n : ℕ) (m : MarkedLine) (near : List ℕ) → AreMarked lines → slice_get lines n ≡ Some m → AreBelow n near → ((k : ℕ) → k < 8 → ¬ (k ≡ own_row m) → IsSeen lines n k near) → AreNear lines n near
near_all lines n m near k f b s = record {
  within = b;
  rest = λ i l w h e g d x r. (s (own_row l) (row_small l.dir) (λ q. d (dirs i l w e g (q ∙ ap own_row (some_is (sym f ∙ g)))))).apart i l w h e g refl x r;
}
  where
    dirs : (i : ℕ) (l w : MarkedLine) → slice_get lines i ≡ Some l → slice_get lines n ≡ Some w → own_row l ≡ own_row w → l.dir ≡ w.dir
    dirs i l w e g q = row_one l.dir w.dir (leads_ahead l.seg l.dir (k.each i l e).along) (leads_ahead w.seg w.dir (k.each n w g).along) q

-- looking changes nothing of what stands
own_kept : (old new : Strips) (l : MarkedLine) (place : ℕ) → new.bands ≡ old.bands → IsOwnPlace new l place → IsOwnPlace old l place
own_kept old new l place e h = record { band = h.band; is = subst (λ b. slice_get b.items (own_row l) ≡ Some h.band) e h.is; place_is = h.place_is }

bands_kept : (old new : Strips) → new.bands ≡ old.bands → length new.strips.items ≡ length old.strips.items → AreBands old → AreBands new
bands_kept old new e f h = record {
  eight = subst (λ b. length b.items ≡ 8) (sym e) h.eight;
  each = subst (λ n. All (IsBand n) new.bands.items) (sym f) (subst (λ b. All (IsBand (length old.strips.items)) b.items) (sym e) h.each);
}

pub standing_kept : (lines : List MarkedLine) (n : ℕ) (Here : ℕ → Type 0) (old new : Strips) (near nearer : List ℕ) → AreStanding lines n old → AreLookedAt lines n Here old new near nearer → AreStanding lines n new
standing_kept lines n Here old new near nearer s a = record {
  bands = bands_kept old new a.bands a.many s.bands;
  within = a.within;
  stand = λ i place l h e o. elim (s.stand i place l h e (own_kept old new l place a.bands o)) [ inl w ↦ a.stand place i w | inr p ↦ inr p ];
}

pub looked_more : (lines : List MarkedLine) (n : ℕ) (F G H : ℕ → Type 0) (a b c : Strips) (x y z : List ℕ) → AreLookedAt lines n F a b x y → AreLookedAt lines n G b c y z → ((place : ℕ) → H place → F place ⊎ G place) → AreLookedAt lines n H a c x z
looked_more lines n F G H a b c x y z f g h = record {
  bands = g.bands ∙ f.bands;
  many = g.many ∙ f.many;
  within = g.within;
  stand = λ place i s. elim (f.stand place i s) [ inl t ↦ g.stand place i t | inr p ↦ inr p ];
  below = g.below;
  keeps = λ i k. g.keeps i (f.keeps i k);
  given = λ place i k s. elim (h place k) [
    | inl u ↦ elim (f.given place i u s) [ inl d ↦ inl (g.keeps i d) | inr p ↦ inr p ]
    | inr u ↦ elim (f.stand place i s) [ inl t ↦ g.given place i u t | inr p ↦ inr p ]
  ];
}

stands_by : (strips : Strips) (place i : ℕ) (s : Strip) → slice_get strips.strips.items place ≡ Some s → Contains s.lines.items i → StandsAt strips place i
stands_by strips place i s e c = record { strip = s; is = e; has = c }

at_place : (xs : List Strip) (place : ℕ) (s : Strip) → place < length xs → slice_get (set xs place s) place ≡ Some s
at_place xs place s l = slice_get-get_or (set xs place s) place s (subst (λ z. place < z) (sym (length-set xs place s)) l) ∙ ap Some (get_or-set_same xs place s s l)

at_other : (xs : List Strip) (place j : ℕ) (s t : Strip) → ¬ (j ≡ place) → slice_get xs j ≡ Some t → slice_get (set xs place s) j ≡ Some t
at_other xs place j s t n e = slice_get-get_or (set xs place s) j t (subst (λ z. j < z) (sym (length-set xs place s)) (slice_get_within xs j t e)) ∙ ap Some (get_or-set_other xs place j s t n ∙ get_or_from_slice_get xs j t t e)

-- a strip is written anew
pub record IsRewritten (place : ℕ) (old new : Strips) (was now : Strip) : Type 0 where
  pub bands : new.bands ≡ old.bands
  pub within : place < length old.strips.items
  pub stood : slice_get old.strips.items place ≡ Some was
  pub items : new.strips.items ≡ set old.strips.items place now

many_kept : (place : ℕ) (old new : Strips) (was now : Strip) → IsRewritten place old new was now → length new.strips.items ≡ length old.strips.items
many_kept place old new was now r = ap length r.items ∙ length-set old.strips.items place now

-- what stood in the strip stands there yet, or is something else, and what stood elsewhere stands there yet
stand_rewritten : (Else : ℕ → Type 0) (place : ℕ) (old new : Strips) (was now : Strip) → IsRewritten place old new was now → ((i : ℕ) → Contains was.lines.items i → Contains now.lines.items i ⊎ Else i) → (j i : ℕ) → StandsAt old j i → StandsAt new j i ⊎ Else i
stand_rewritten Else place old new was now r h j i s = elim (cases_eq j place) [
  | inl e ↦ elim (h i (subst (λ (z : Strip). Contains z.lines.items i) (some_is (sym s.is ∙ (ap (slice_get old.strips.items) e ∙ r.stood))) s.has)) [
    | inl c ↦ inl (stands_by new j i now (subst (λ z. slice_get z j ≡ Some now) (sym r.items) (subst (λ z. slice_get (set old.strips.items place now) z ≡ Some now) (sym e) (at_place old.strips.items place now r.within))) c)
    | inr p ↦ inr p
  ]
  | inr n ↦ inl (stands_by new j i s.strip (subst (λ z. slice_get z j ≡ Some s.strip) (sym r.items) (at_other old.strips.items place j now s.strip n s.is)) s.has)
]

below_rewritten : (n : ℕ) (place : ℕ) (old new : Strips) (was now : Strip) → IsRewritten place old new was now → All (λ (s : Strip). AreBelow n s.lines.items) old.strips.items → AreBelow n now.lines.items → All (λ (s : Strip). AreBelow n s.lines.items) new.strips.items
below_rewritten n place old new was now r a b = subst (All (λ (s : Strip). AreBelow n s.lines.items)) (sym r.items) (All-set (λ (s : Strip). AreBelow n s.lines.items) old.strips.items place now b a)

pub looked_one : (lines : List MarkedLine) (n place : ℕ) (old new : Strips) (was now : Strip) (near nearer : List ℕ) → IsRewritten place old new was now → All (λ (s : Strip). AreBelow n s.lines.items) old.strips.items → AreBelow n now.lines.items → AreBelow n near → nearer ≡ near ++ now.lines.items → ((i : ℕ) → Contains was.lines.items i → Contains now.lines.items i ⊎ IsPast lines n i) → AreLookedAt lines n (λ p. p ≡ place) old new near nearer
looked_one lines n place old new was now near nearer r a b m e h = record {
  bands = r.bands;
  many = many_kept place old new was now r;
  within = below_rewritten n place old new was now r a b;
  stand = stand_rewritten (IsPast lines n) place old new was now r h;
  below = subst (AreBelow n) (sym e) (All-append (λ i. i < n) near now.lines.items m b);
  keeps = λ i c. subst (λ z. Contains z i) (sym e) (Contains-append_left near now.lines.items i c);
  given = λ p i q s. elim (h i (subst (λ (z : Strip). Contains z.lines.items i) (some_is (sym s.is ∙ (ap (slice_get old.strips.items) q ∙ r.stood))) s.has)) [
    | inl c ↦ inl (subst (λ z. Contains z i) (sym e) (Contains-append_right near now.lines.items i c))
    | inr p ↦ inr p
  ];
}

-- one line more stands
below_more : (n : ℕ) (is : List ℕ) → AreBelow n is → AreBelow (n + 1) is
below_more n is a = All-weaker (λ i. i < n) (λ i. i < n + 1) (λ i h. omega arith) is a

pub standing_put : (lines : List MarkedLine) (n place : ℕ) (l : MarkedLine) (old new : Strips) (was now : Strip) → AreStanding lines n old → slice_get lines n ≡ Some l → IsOwnPlace old l place → IsRewritten place old new was now → now.lines.items ≡ was.lines.items ++ n ∷ [] → AreStanding lines (n + 1) new
standing_put lines n place l old new was now s f o r e = record {
  bands = bands_kept old new r.bands (many_kept place old new was now r) s.bands;
  within = below_rewritten (n + 1) place old new was now r (All-weaker (λ (t : Strip). AreBelow n t.lines.items) (λ (t : Strip). AreBelow (n + 1) t.lines.items) (λ t h. below_more n t.lines.items h) old.strips.items s.within) (subst (AreBelow (n + 1)) (sym e) (All-push (λ i. i < n + 1) was.lines.items n (below_more n was.lines.items was_below) (omega arith)));
  stand = λ i p m h g q. elim (cases_lt i n) [
    | inl k ↦ elim (s.stand i p m k g (own_kept old new m p r.bands q)) [
      | inl w ↦ elim (stand_rewritten (λ j. ⊥) place old new was now r kept p i w) [ inl c ↦ inl c | inr x ↦ absurd x ]
      | inr w ↦ inr (past_later lines n i w)
    ]
    | inr k ↦ inl (newest i p m (last i h k) g (own_kept old new m p r.bands q))
  ];
}
  where
    was_below : AreBelow n was.lines.items
    was_below = subst (λ (z : Strip). AreBelow n z.lines.items) (get_or_from_slice_get old.strips.items place was was r.stood) (s.within place was r.within)

    kept : (i : ℕ) → Contains was.lines.items i → Contains now.lines.items i ⊎ ⊥
    kept i c = inl (subst (λ z. Contains z i) (sym e) (Contains-append_left was.lines.items (n ∷ []) i c))

    last : (i : ℕ) → i < n + 1 → n ≤ i → i ≡ n
    last i h k = omega arith

    same_place : (p : ℕ) → IsOwnPlace old l p → p ≡ place
    same_place p q = q.place_is ∙ (ap (λ (b : Band). place_of b (mark_at l end.Lesser (own_row l))) (some_is (sym q.is ∙ o.is)) ∙ sym o.place_is)

    newest : (i p : ℕ) (m : MarkedLine) → i ≡ n → slice_get lines i ≡ Some m → IsOwnPlace old m p → StandsAt new p i
    newest i p m j g q = stands_by new p i now (subst (λ z. slice_get z p ≡ Some now) (sym r.items) (subst (λ z. slice_get (set old.strips.items place now) z ≡ Some now) (sym (same_place p (subst (λ (z : MarkedLine). IsOwnPlace old z p) (some_is (sym g ∙ (ap (slice_get lines) j ∙ f))) q))) (at_place old.strips.items place now r.within))) (subst (λ z. Contains z i) (sym e) (subst (λ z. Contains (was.lines.items ++ n ∷ []) z) (sym j) (Contains-push was.lines.items n)))

-- what `retain` keeps
in_first_or_rest : (y : ℕ) (ys : List ℕ) (x k : ℕ) → k < length (y ∷ ys) → get_or (y ∷ ys) k x ≡ x → (y ≡ x) ⊎ Contains ys x
in_first_or_rest y ys x zero l e = inl e
in_first_or_rest y ys x (suc k) l e = inr (k, omega arith, e)

in_rest : (y : ℕ) (ys : List ℕ) (x : ℕ) → Contains ys x → Contains (y ∷ ys) x
in_rest y ys x c = Contains-append_right (y ∷ []) ys x c

told_or : {F : Type 0} (R : F → ℕ → Bool → F → Type 0) (Q : ℕ → Type 0) (f : F) → ((x : ℕ) (b : Bool) (g : F) → R f x b g → (b ≡ false → Q x) × (g ≡ f)) → (bs : List Bool) (xs : List ℕ) (q : F) → length bs ≡ length xs → ReturnsInTurn R f bs xs q → (x : ℕ) → Contains xs x → Contains (items_where_true bs xs) x ⊎ Q x
told_or R Q f h [] [] q e t x c = absurd (omega (arith, c.1))
told_or R Q f h [] (y ∷ ys) q e t x c = absurd (omega arith)
told_or R Q f h (b ∷ bs) [] q e t x c = absurd t
told_or R Q f h (true ∷ bs) (y ∷ ys) q e t x c = elim (in_first_or_rest y ys x c.0 c.1 c.2) [
  | inl s ↦ inl (0, omega arith, s)
  | inr s ↦ elim (told_or R Q f h bs ys q (omega arith) (subst (λ z. ReturnsInTurn R z bs ys q) (h y true t.0 t.1).1 t.2) x s) [ inl k ↦ inl (in_rest y (items_where_true bs ys) x k) | inr k ↦ inr k ]
]
told_or R Q f h (false ∷ bs) (y ∷ ys) q e t x c = elim (in_first_or_rest y ys x c.0 c.1 c.2) [
  | inl s ↦ inr (subst Q s ((h y false t.0 t.1).0 refl))
  | inr s ↦ told_or R Q f h bs ys q (omega arith) (subst (λ z. ReturnsInTurn R z bs ys q) (h y false t.0 t.1).1 t.2) x s
]

all_told : (P : ℕ → Type 0) (bs : List Bool) (xs : List ℕ) → All P xs → All P (items_where_true bs xs)
all_told P [] xs a = All-nil P
all_told P (b ∷ bs) [] a = All-nil P
all_told P (true ∷ bs) (x ∷ xs) a = All-cons P x (items_where_true bs xs) (All-head P x xs a) (all_told P bs xs (All-tail P x xs a))
all_told P (false ∷ bs) (x ∷ xs) a = all_told P bs xs (All-tail P x xs a)

-- where a test that stays as it is says no only of some, the others are kept
pub kept_or : {F : Type 0} (R : F → ℕ → Bool → F → Type 0) (Q : ℕ → Type 0) (f : F) → ((x : ℕ) (b : Bool) (g : F) → R f x b g → (b ≡ false → Q x) × (g ≡ f)) → (xs ys : List ℕ) → IsFiltered R f xs ys → (x : ℕ) → Contains xs x → Contains ys x ⊎ Q x
kept_or R Q f h xs ys s x c = subst (λ z. Contains z x ⊎ Q x) (sym s.4) (told_or R Q f h s.0 xs s.1 s.2 s.3 x c)

pub kept_all : {F : Type 0} (R : F → ℕ → Bool → F → Type 0) (P : ℕ → Type 0) (f : F) (xs ys : List ℕ) → IsFiltered R f xs ys → All P xs → All P ys
kept_all R P f xs ys s a = subst (All P) (sym s.4) (all_told P s.0 xs a)

-- strips in which nothing stands
pub rows_more : (row count : ℕ) (old new : Strips) (b : Band) → HaveRows row old → AreUnused new.strips.items → length new.strips.items ≡ length old.strips.items + count → new.bands.items ≡ old.bands.items ++ b ∷ [] → b.first ≡ length old.strips.items → count ≡ b.last + 1 → b.shift ≤ 32 → HaveRows (row + 1) new
rows_more row count old new b h u l e f g s = record {
  many = omega (arith, h.many, ap length e, length_push old.bands.items b);
  each = subst (All (IsBand (length new.strips.items))) (sym e) (All-push (IsBand (length new.strips.items)) old.bands.items b (All-weaker (IsBand (length old.strips.items)) (IsBand (length new.strips.items)) wider old.bands.items h.each) (record { within = omega arith; shift = s }));
  unused = u;
}
  where
    wider : (x : Band) → IsBand (length old.strips.items) x → IsBand (length new.strips.items) x
    wider x k = record { within = omega (arith, k.within); shift = k.shift }

pub rows_stand : (lines : List MarkedLine) (strips : Strips) → HaveRows 8 strips → AreStanding lines 0 strips
rows_stand lines strips h = record {
  bands = record { eight = h.many; each = h.each };
  within = All-weaker (λ (s : Strip). s.lines.items ≡ []) (λ (s : Strip). AreBelow 0 s.lines.items) (λ s e. subst (AreBelow 0) (sym e) (All-nil (λ i. i < 0))) strips.strips.items h.unused;
  stand = λ i place l k e o. absurd (omega arith);
}

-- a line that does not reach the mark of the next line's beginning is past
abbrev pub EndsBefore : List MarkedLine → ℤ → ℕ → Type 0
EndsBefore lines start i = (l : MarkedLine) → slice_get lines i ≡ Some l → start <ℤ mark_at l end.Greater leftward

pub ended_past : (lines : List MarkedLine) (n i : ℕ) (start : ℤ) (m : MarkedLine) → AreSwept lines → slice_get lines n ≡ Some m → start ≡ mark_at m end.Lesser leftward → i < n → EndsBefore lines start i → IsPast lines n i
ended_past lines n i start m s f e h b = past_of lines n i (get_or lines i m) m s read f (subst (λ z. z <ℤ mark_at (get_or lines i m) end.Greater leftward) e (b (get_or lines i m) read))
  where
    read : slice_get lines i ≡ Some (get_or lines i m)
    read = slice_get-get_or lines i m (omega (arith, slice_get_within lines n m f))

pub below_stood : (n place : ℕ) (old new : Strips) (was now : Strip) → IsRewritten place old new was now → HaveBelow n old → AreBelow n was.lines.items
below_stood n place old new was now r a = subst (λ (z : Strip). AreBelow n z.lines.items) (get_or_from_slice_get old.strips.items place was was r.stood) (a place was r.within)

pub looked_as : (lines : List MarkedLine) (n : ℕ) (F G : ℕ → Type 0) (a b : Strips) (x y : List ℕ) → AreLookedAt lines n F a b x y → ((place : ℕ) → G place → F place) → AreLookedAt lines n G a b x y
looked_as lines n F G a b x y f h = record {
  bands = f.bands;
  many = f.many;
  within = f.within;
  stand = f.stand;
  below = f.below;
  keeps = f.keeps;
  given = λ place i g s. f.given place i (h place g) s;
}

pub reached_is : (strips : Strips) (lines : List MarkedLine) (n row p : ℕ) (b : Band) (m w : MarkedLine) (from to : ℕ) → slice_get strips.bands.items row ≡ Some b → slice_get lines n ≡ Some m → slice_get lines n ≡ Some w → from ≡ place_of b (mark_at m end.Lesser row) → to ≡ place_of b (mark_at w end.Greater row) → IsReached strips lines n row p → IsFromTo from to p
reached_is strips lines n row p b m w from to i s t e f g = subst (λ x. IsFromTo x to p) (sym e) (subst (λ y. IsFromTo (place_of b (mark_at m end.Lesser row)) y p) (sym f) moved)
  where
    on_line : IsFromTo (place_of g.band (mark_at m end.Lesser row)) (place_of g.band (mark_at w end.Greater row)) p
    on_line = subst (λ (z : MarkedLine). IsFromTo (place_of g.band (mark_at z end.Lesser row)) (place_of g.band (mark_at w end.Greater row)) p) (some_is (sym g.stands ∙ s)) (subst (λ (z : MarkedLine). IsFromTo (place_of g.band (mark_at g.line end.Lesser row)) (place_of g.band (mark_at z end.Greater row)) p) (some_is (sym g.stands ∙ t)) g.between)

    moved : IsFromTo (place_of b (mark_at m end.Lesser row)) (place_of b (mark_at w end.Greater row)) p
    moved = subst (λ (z : Band). IsFromTo (place_of z (mark_at m end.Lesser row)) (place_of z (mark_at w end.Greater row)) p) (some_is (sym g.is ∙ i)) on_line

-- what the rows before a row have given
pub record AreRowsSeen (lines : List MarkedLine) (n own row : ℕ) (strips : Strips) (near : List ℕ) : Type 0 where
  pub standing : AreStanding lines n strips
  pub below : AreBelow n near
  pub seen : (k : ℕ) → k < row → ¬ (k ≡ own) → IsSeen lines n k near

last_row : (k row : ℕ) → k < row + 1 → row ≤ k → row ≡ k
last_row k row h l = omega arith

pub rows_seen_more : (lines : List MarkedLine) (n own row : ℕ) (old new : Strips) (near nearer : List ℕ) → AreSwept lines → AreRowsSeen lines n own row old near → AreLookedAt lines n (IsReached old lines n row) old new near nearer → AreRowsSeen lines n own (row + 1) new nearer
rows_seen_more lines n own row old new near nearer s r a = record {
  standing = standing_kept lines n (IsReached old lines n row) old new near nearer r.standing a;
  below = a.below;
  seen = λ k h d. elim (cases_lt k row) [
    | inl l ↦ seen_more lines n k near nearer (r.seen k l d) a.keeps
    | inr l ↦ subst (λ z. IsSeen lines n z nearer) (last_row k row h l) (row_seen lines n row old new near nearer s r.standing a)
  ];
}

pub rows_seen_still : (lines : List MarkedLine) (n own row : ℕ) (strips : Strips) (near : List ℕ) → AreRowsSeen lines n own row strips near → row ≡ own → AreRowsSeen lines n own (row + 1) strips near
rows_seen_still lines n own row strips near r e = record {
  standing = r.standing;
  below = r.below;
  seen = λ k h d. elim (cases_lt k row) [ inl l ↦ r.seen k l d | inr l ↦ absurd (d (sym (last_row k row h l) ∙ e)) ];
}
