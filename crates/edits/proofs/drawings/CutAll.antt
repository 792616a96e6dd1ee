-- What becomes of all creases of a draft that overlap a segment, as they are cut or recoloured along it one after another.
use Rattle.std.proofs.Common.{◌≡◌, ◌≢◌, ℕ, ◌+◌, ◌<◌, List, ◌∷◌, [], ◌++◌, length, get_or, take, refl, sym, subst, ap, ◌∙◌, ◌⊎◌, inl, inr, arith}
use Rattle.std.specs.Prelude.{◌↔◌, All, AllPairs, Contains}
use Rattle.std.proofs.lemmas.List.{take_more, get_or-take, length-take}
use Rattle.std.proofs.lemmas.List.Elements.{All-contains, Contains-get_or, Contains-append_left, Contains-push, Contains-push_cases}
use Rattle.exact.specs.Plane.{ExactPoint, ExactSegment, SamePoint, IsSegment, Overlap, IsPointCanonical}
use Rattle.sheet.specs.Pattern.{ExactCrease}
use Rattle.sheet.specs.declared.colour.Colour.{Colour}
use Rattle.geometry.specs.Meeting.{IsLater, IsEarlier}
use Rattle.geometry.proofs.PointOrder.{same_itself, later_of, earlier_of}
use Rattle.plane.specs.Segments.{HasCanonicalEnds, IsHeld}
use Rattle.creases.proofs.callers.Members.{has_or_not}
use Rattle.creases.proofs.callers.Overlaps.{overlap_itself}
use Rattle.creases.specs.Standing.{AreStanding}
use Rattle.creases.proofs.callers.Standing.{one_or_apart}
use Rattle.edits.specs.Parts.{Covers, IsPart, IsCommonPart}
use Rattle.edits.specs.CreaseSet.{crease, SameCrease, AreCreases}
use Rattle.edits.specs.Drawn.{IsLeft, StandsAfter, Drawn}
use Rattle.edits.specs.Erase.{IsBare}
use Rattle.edits.specs.Recolour.{ComesFrom, StandsRecoloured}
use Rattle.edits.specs.Pieces.{IsCut, AreCut, IsPiece, IsRecoloured, Replaced, AllReplaced}
use Rattle.edits.proofs.drawings.Overlapping.{front_part, back_part, only_parts}
use Rattle.edits.proofs.drawings.StillApart.{overlap_wider, covers_itself}
use Rattle.edits.proofs.drawings.StillPatterns.{common_part, common_one}
use Rattle.edits.proofs.drawings.CutPieces.{segment, held_of}
use Rattle.edits.proofs.drawings.PaintPieces.{on_first}
use Rattle.edits.proofs.drafts.Changing.{empty}

-- the list up to an index, and the element there

taken_within : (xs : List ExactCrease) (i : ℕ) (f : ExactCrease) (c : Contains (take i xs) f) → (c.0 < i) × (c.0 < length xs) × (get_or xs c.0 f ≡ f)
taken_within xs i f c =
    let l : c.0 < i = omega (arith, c.1, length-take i xs) in
    (l, omega (arith, c.1, length-take i xs), sym (get_or-take i xs c.0 f l) ∙ c.2)

taken_has : (xs : List ExactCrease) (i : ℕ) (f : ExactCrease) → Contains (take i xs) f → Contains xs f
taken_has xs i f c = (let w = taken_within xs i f c in (c.0, w.1, w.2))

not_taken : (xs : List ExactCrease) (i : ℕ) (x : ExactCrease) → AllPairs (λ f g. f ≢ g) xs → i < length xs → x ≡ get_or xs i x → ¬ Contains (take i xs) x
not_taken xs i x once lt is c = (let w = taken_within xs i x c in once c.0 i x w.0 lt (w.2 ∙ is))

take_next : (xs : List ExactCrease) (i : ℕ) (x : ExactCrease) → i < length xs → x ≡ get_or xs i x → take (i + 1) xs ≡ take i xs ++ x ∷ []
take_next xs i x lt is = take_more xs i x lt ∙ ap (λ z. take i xs ++ z ∷ []) (sym is)

next_or_taken : (xs : List ExactCrease) (i : ℕ) (x f : ExactCrease) → i < length xs → x ≡ get_or xs i x → Contains (take (i + 1) xs) f → Contains (take i xs) f ⊎ (x ≡ f)
next_or_taken xs i x f lt is c = Contains-push_cases (take i xs) x f (subst (λ zs. Contains zs f) (take_next xs i x lt is) c)

is_taken : (xs : List ExactCrease) (i : ℕ) (x f : ExactCrease) → i < length xs → x ≡ get_or xs i x → Contains (take i xs) f ⊎ (x ≡ f) → Contains (take (i + 1) xs) f
is_taken xs i x f lt is c = subst (λ zs. Contains zs f) (sym (take_next xs i x lt is)) (elim c [
  | inl d ↦ Contains-append_left (take i xs) (x ∷ []) f d
  | inr e ↦ subst (Contains (take i xs ++ x ∷ [])) e (Contains-push (take i xs) x)
])

-- what a crease becomes is on it
abbrev pub StaysOn : (ExactCrease → ExactCrease → Type 0) → List ExactCrease → Type 0
StaysOn Becomes old = (t f : ExactCrease) → Contains old t → Becomes t f → Covers t.seg f.seg × IsSegment f.seg

-- what one crease becomes is no other
other : (Becomes : ExactCrease → ExactCrease → Type 0) (old : List ExactCrease) (t f x : ExactCrease) → AreStanding old → StaysOn Becomes old → Contains old t → Contains old x → t ≢ x → Becomes t f → f ≢ x
other Becomes old t f x d on at there n b e = elim (one_or_apart old d.apart t x at there) [
  | inl same ↦ n same
  | inr apart ↦ (let k = on t f at b in
      apart (subst (λ (z : ExactCrease). Overlap t.seg z.seg) e (overlap_wider f.seg f.seg t.seg f.seg k.0 (covers_itself f.seg) (overlap_itself f.seg k.1))))
]

-- before the first
pub none_replaced : (Becomes : ExactCrease → ExactCrease → Type 0) (old : List ExactCrease) → AllReplaced Becomes old [] old
none_replaced Becomes old = λ f. (
  λ at. inl (at, λ c. omega (arith, c.1)),
  λ is. elim is [ inl a ↦ a.0 | inr t ↦ absurd (omega (arith, t.1.1)) ],
)

pub next_cut : (Becomes : ExactCrease → ExactCrease → Type 0) (old now xs : List ExactCrease) (s : ExactSegment) (i : ℕ) (x : ExactCrease) → AreCut old s xs → i < length xs → x ≡ get_or xs i x → AllReplaced Becomes old (take i xs) now → AreStanding now → IsCut now x s
next_cut Becomes old now xs s i x h lt is r d =
    let at = (h.members x).0 (subst (Contains xs) (sym is) (Contains-get_or xs i x lt)) in
    record { standing = d; there = (r x).1 (inl (at.0, not_taken xs i x h.once lt is)); held = h.held; overlap = at.1 }

pub next_replaced : (Becomes : ExactCrease → ExactCrease → Type 0) (old now new xs : List ExactCrease) (s : ExactSegment) (i : ℕ) (x : ExactCrease) → AreCut old s xs → StaysOn Becomes old → i < length xs → x ≡ get_or xs i x
    → AllReplaced Becomes old (take i xs) now → Replaced (Becomes x) now x new → AllReplaced Becomes old (take (i + 1) xs) new
next_replaced Becomes old now new xs s i x h on lt is r m = λ f. (
  λ at. elim ((m f).0 at) [
    | inl k ↦ elim ((r f).0 k.0) [
      | inl a ↦ inl (a.0, λ d. elim (next_or_taken xs i x f lt is d) [ inl e ↦ a.1 e | inr e ↦ k.1 (sym e) ])
      | inr t ↦ inr (t.0, is_taken xs i x t.0 lt is (inl t.1), t.2)
    ]
    | inr b ↦ inr (x, is_taken xs i x x lt is (inr refl), b)
  ],
  λ so. elim so [
    | inl a ↦ (m f).1 (inl ((r f).1 (inl (a.0, λ d. a.1 (is_taken xs i x f lt is (inl d)))), λ e. a.1 (is_taken xs i x f lt is (inr (sym e)))))
    | inr t ↦ elim (next_or_taken xs i x t.0 lt is t.1) [
      | inl d ↦ (m f).1 (inl ((r f).1 (inr (t.0, d, t.2)), other Becomes old t.0 f x h.standing on (there t.0 (taken_has xs i t.0 d)) (there x here) (unlike t.0 d) t.2))
      | inr e ↦ (m f).1 (inr (subst (λ z. Becomes z f) (sym e) t.2))
    ]
  ],
)
  where
    there : (f : ExactCrease) → Contains xs f → Contains old f
    there f c = ((h.members f).0 c).0

    here : Contains xs x
    here = subst (Contains xs) (sym is) (Contains-get_or xs i x lt)

    unlike : (t : ExactCrease) → Contains (take i xs) t → t ≢ x
    unlike t c e = not_taken xs i x h.once lt is (subst (Contains (take i xs)) e c)

-- pieces and recoloured creases are on what they come from

pub pieces_on : (old : List ExactCrease) (s : ExactSegment) → StaysOn (IsPiece s) old
pieces_on old s = λ t f at b. (b.part.part.within, b.part.part.segment)

pub recoloured_on : (old : List ExactCrease) (s : ExactSegment) (c : Colour) → AreStanding old → StaysOn (IsRecoloured s c) old
recoloured_on old s c d = λ t f at b. elim b [
  | inl x ↦ subst (λ (z : ExactCrease). Covers t.seg z.seg × IsSegment z.seg) (sym x.1) (covers_itself t.seg, (held_of old t d at).segment)
  | inr x ↦ elim x.1 [ inl part ↦ (part.0.part.within, part.0.part.segment) | inr part ↦ (on_first f.seg t.seg s part.0, part.0.segment) ]
]

-- a segment that has a property up to its numbers has it in lowest terms
abbrev IsHeldAs : (ExactSegment → Type 0) → ExactSegment → Type 0
IsHeldAs IsSuch u = (w : ExactSegment) × IsSuch w × HasCanonicalEnds w × SamePoint u.p w.p × SamePoint u.q w.q

held_part : (u t s : ExactSegment) → IsHeld t → IsHeld s → Overlap t s → IsPart u t s → IsHeldAs (λ w. IsPart w t s) u
held_part u t s a b v p = elim (only_parts u t s a.segment b.segment v p) [
  | inl x ↦ (segment t.p s.p, front_part t s a.segment b.segment v x.0, (a.from, b.from), x.1, x.2)
  | inr x ↦ (segment s.q t.q, back_part t s a.segment b.segment v x.0, (b.to, a.to), x.1, x.2)
]

held_common : (u t s : ExactSegment) → IsHeld t → IsHeld s → Overlap t s → IsCommonPart u t s → IsHeldAs (λ w. IsCommonPart w t s) u
held_common u t s a b v p =
    let same = common_one u (segment lo.0 hi.0) t s p own in
    (segment lo.0 hi.0, own, (from, to), same.0, same.1)
  where
    lo : (m : ExactPoint) × IsLater t.p s.p m
    lo = later_of t.p s.p

    hi : (m : ExactPoint) × IsEarlier t.q s.q m
    hi = earlier_of t.q s.q

    own : IsCommonPart (segment lo.0 hi.0) t s
    own = common_part t s (segment lo.0 hi.0) a.segment b.segment v lo.1 hi.1

    from : IsPointCanonical lo.0
    from = elim lo.1.one [ inl e ↦ subst IsPointCanonical (sym e) a.from | inr e ↦ subst IsPointCanonical (sym e) b.from ]

    to : IsPointCanonical hi.0
    to = elim hi.1.one [ inl e ↦ subst IsPointCanonical (sym e) a.to | inr e ↦ subst IsPointCanonical (sym e) b.to ]

same_crease : (f : ExactCrease) → SameCrease f f
same_crease f = record { from = same_itself f.seg.p; to = same_itself f.seg.q; colour = refl }

-- a draft lists what stands, where its creases do
pub draft_lists : (Stands : ExactCrease → Type 0) (creases : List ExactCrease) → AreStanding creases → ((f : ExactCrease) → Contains creases f → Stands f) → ((f : ExactCrease) → Stands f → (g : ExactCrease) × Contains creases g × SameCrease f g) → AreCreases Stands creases
draft_lists Stands creases d each all = record {
  ordered = d.ordered;
  canonical = λ i x lt. (let k = d.held i x lt in (k.from, k.to));
  each = λ i x lt. each (get_or creases i x) (Contains-get_or creases i x lt);
  all = all;
}

pub erased_lists : (old new xs : List ExactCrease) (s : ExactSegment) → AreCut old s xs → AllReplaced (IsPiece s) old xs new → AreStanding new → AreCreases (IsLeft old s) new
erased_lists old new xs s h r d = draft_lists (IsLeft old s) new d each all
  where
    each : (f : ExactCrease) → Contains new f → IsLeft old s f
    each f at = elim ((r f).0 at) [
      | inl a ↦ inl (a.0, λ v. a.1 ((h.members f).1 (a.0, v)))
      | inr t ↦ (let m = (h.members t.0).0 t.1 in inr (t.0, m.0, m.1, t.2.part, t.2.colour))
    ]

    all : (f : ExactCrease) → IsLeft old s f → (g : ExactCrease) × Contains new g × SameCrease f g
    all f is = elim is [
      | inl a ↦ (f, (r f).1 (inl (a.0, λ c. a.1 ((h.members f).0 c).1)), same_crease f)
      | inr t ↦ (let w = held_part f.seg t.0.seg s (held_of old t.0 h.standing t.1) h.held t.2 t.3 in (
        crease w.0 f.colour,
        (r (crease w.0 f.colour)).1 (inr (t.0, (h.members t.0).1 (t.1, t.2), record { part = w.1; canonical = w.2; colour = t.4 })),
        record { from = w.3; to = w.4; colour = refl },
      ))
    ]

pub recoloured_lists : (old new xs : List ExactCrease) (s : ExactSegment) (c : Colour) → AreCut old s xs → AllReplaced (IsRecoloured s c) old xs new → AreStanding new → AreCreases (StandsRecoloured old s c) new
recoloured_lists old new xs s c h r d = draft_lists (StandsRecoloured old s c) new d each all
  where
    each : (f : ExactCrease) → Contains new f → StandsRecoloured old s c f
    each f at = elim ((r f).0 at) [
      | inl a ↦ inl (a.0, inl (λ v. a.1 ((h.members f).1 (a.0, v))))
      | inr t ↦ (let m = (h.members t.0).0 t.1 in elim t.2 [
        | inl x ↦ inl (subst (Contains old) (sym x.1) m.0, inr (subst (λ (z : ExactCrease). z.colour ≡ c) (sym x.1) x.0))
        | inr x ↦ inr (t.0, m.0, m.1, x.0, x.1)
      ])
    ]

    whole : (f : ExactCrease) → Contains old f → f.colour ≡ c → Contains new f
    whole f at same = elim (has_or_not xs f) [ inl m ↦ (r f).1 (inr (f, m, inl (same, refl))) | inr n ↦ (r f).1 (inl (at, n)) ]

    -- what comes from t in lowest terms
    came : (t f g : ExactCrease) → Contains old t → Overlap t.seg s → t.colour ≢ c → ComesFrom t s c g → HasCanonicalEnds g.seg → Contains new g
    came t f g at v n comes canonical = (r g).1 (inr (t, (h.members t).1 (at, v), inr (n, comes, canonical)))

    all : (f : ExactCrease) → StandsRecoloured old s c f → (g : ExactCrease) × Contains new g × SameCrease f g
    all f is = elim is [
      | inl a ↦ elim a.1 [
        | inl n ↦ (f, (r f).1 (inl (a.0, λ m. n ((h.members f).0 m).1)), same_crease f)
        | inr same ↦ (f, whole f a.0 same, same_crease f)
      ]
      | inr t ↦ elim t.4 [
        | inl x ↦ (let w = held_part f.seg t.0.seg s (held_of old t.0 h.standing t.1) h.held t.2 x.0 in (
          crease w.0 f.colour,
          came t.0 f (crease w.0 f.colour) t.1 t.2 t.3 (inl (w.1, x.1)) w.2,
          record { from = w.3; to = w.4; colour = refl },
        ))
        | inr x ↦ (let w = held_common f.seg t.0.seg s (held_of old t.0 h.standing t.1) h.held t.2 x.0 in (
          crease w.0 f.colour,
          came t.0 f (crease w.0 f.colour) t.1 t.2 t.3 (inr (w.1, x.1)) w.2,
          record { from = w.3; to = w.4; colour = refl },
        ))
      ]
    ]

-- what is left beside a crease does not overlap it
pub left_apart : (old mid : List ExactCrease) (d : ExactCrease) (s : ExactSegment) → s ≡ d.seg → AreCreases (IsLeft old s) mid → All (λ f. ¬ Overlap f.seg d.seg) mid
left_apart old mid d s e l = subst (λ z. All (λ (f : ExactCrease). ¬ Overlap f.seg z) mid) e (λ i x lt. elim (l.each i x lt) [ inl a ↦ a.1 | inr t ↦ t.3.part.outside ])

pub drawn_lists : (old mid new : List ExactCrease) (d : ExactCrease) (s : ExactSegment) → s ≡ d.seg → AreCreases (IsLeft old s) mid → ((f : ExactCrease) → Contains new f ↔ ((f ≡ d) ⊎ Contains mid f)) → AreStanding new → Drawn old d new
drawn_lists old mid new d s e l m k = draft_lists (StandsAfter old d) new k each all
  where
    left : AreCreases (IsLeft old d.seg) mid
    left = subst (λ z. AreCreases (IsLeft old z) mid) e l

    each : (f : ExactCrease) → Contains new f → StandsAfter old d f
    each f at = elim ((m f).0 at) [ inl is ↦ inl is | inr c ↦ inr (All-contains (IsLeft old d.seg) mid f left.each c) ]

    all : (f : ExactCrease) → StandsAfter old d f → (g : ExactCrease) × Contains new g × SameCrease f g
    all f is = elim is [
      | inl same ↦ (f, (m f).1 (inl same), same_crease f)
      | inr kept ↦ (let g = left.all f kept in (g.0, (m g.0).1 (inr g.1), g.2))
    ]

-- a draft is bare along a segment where the list of creases that overlap it is empty
pub bare_where_empty : (old xs : List ExactCrease) (s : ExactSegment) → ((f : ExactCrease) → Contains xs f ↔ (Contains old f × Overlap f.seg s)) → (xs ≡ []) ↔ IsBare old s
bare_where_empty old xs s m = (
  λ e f at v. (let c = subst (λ zs. Contains zs f) e ((m f).1 (at, v)) in absurd (omega (arith, c.1))),
  λ bare. empty xs (λ f c. (let a = (m f).0 c in bare f a.0 a.1)),
)

-- a list in which those that overlap a key stand each once
pub are_cut : (old xs list : List ExactCrease) (s : ExactSegment) → list ≡ xs → AreStanding old → IsHeld s → ((f : ExactCrease) → Contains xs f ↔ (Contains old f × Overlap f.seg s)) → AllPairs (λ f g. f ≢ g) xs → AreCut old s list
are_cut old xs list s e d k members once = subst (AreCut old s) (sym e) (record { standing = d; held = k; members = members; once = once })
