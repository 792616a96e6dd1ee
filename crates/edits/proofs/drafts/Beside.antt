-- What stands beside a pattern: its members, their order and their number.
use Rattle.std.proofs.Common.{◌≡◌, ◌≢◌, ◌+◌, List, [], ◌∷◌, length, refl, sym, ap, subst, ◌∙◌, ◌⊎◌, inl, inr, arith}
use Rattle.std.specs.Prelude.{◌↔◌, Contains}
use Rattle.std.specs.declared.cmp.Ordering.{Ordering}
use Rattle.std.specs.declared.cmp.Ordering.TheVariants as o
use Rattle.std.specs.Ordering.{ordering_reverse, match_ordering}
use Rattle.std.proofs.lemmas.List.Elements.{All-contains}
use Rattle.std.proofs.lemmas.List.Kept.{AllPairs-cons}
use Rattle.exact.specs.Plane.{Overlap, SegmentBefore}
use Rattle.chains.proofs.callers.Elements.{head_has, tail_has, has_cases}
use Rattle.sheet.specs.Pattern.{ExactCrease, ExactPattern, IsKey, IsPattern}
use Rattle.plane.specs.Order.{segment_cmp}
use Rattle.plane.specs.Segments.{HasCanonicalEnds, IsHeld}
use Rattle.plane.proofs.callers.Orders.{segment_exact, segment_total, segment_less}
use Rattle.creases.specs.Creases.{Ascends}
use Rattle.creases.specs.Standing.{AreStanding}
use Rattle.creases.proofs.callers.Members.{all_of, tied_segments, segment_before_trans, segment_not_itself, one_on_segment, first_before, later_ascend}
use Rattle.creases.proofs.callers.Overlaps.{overlap_back, overlap_itself}
use Rattle.creases.proofs.callers.Standing.{apart_in, held_in, standing_of}
use Rattle.edits.specs.Beside.{put_before, put_all, leave_one, leave_all, standing, AreBeside}
use Rattle.edits.proofs.drafts.Changing.{none_in}

-- creases that are left out

less_not_tied : (g x : ExactCrease) → segment_cmp g.seg x.seg ≡ o.Less → x.seg ≢ g.seg
less_not_tied g x e s = (let t = tied_segments g.seg x.seg (sym s) in cc)

greater_not_tied : (g x : ExactCrease) → segment_cmp g.seg x.seg ≡ o.Greater → x.seg ≢ g.seg
greater_not_tied g x e s = (let t = tied_segments g.seg x.seg (sym s) in cc)

left_members : (g f : ExactCrease) (fs : List ExactCrease) → Contains (leave_one g fs) f ↔ (Contains fs f × (f.seg ≢ g.seg))
left_members g f [] = (λ c. absurd (omega (arith, c.1)), λ c. c.0)
left_members g f (x ∷ xs) = by (segment_cmp g.seg x.seg) refl (left_members g f xs)
  where
    kept : x.seg ≢ g.seg → Contains (leave_one g xs) f ↔ (Contains xs f × (f.seg ≢ g.seg)) → Contains (x ∷ leave_one g xs) f ↔ (Contains (x ∷ xs) f × (f.seg ≢ g.seg))
    kept n m = (
      λ c. elim (has_cases x f (leave_one g xs) c) [
        | inl e ↦ (head_has x f xs e, λ s. n (ap (λ (h : ExactCrease). h.seg) e ∙ s))
        | inr d ↦ (let k = m.0 d in (tail_has x f xs k.0, k.1))
      ],
      λ c. elim (has_cases x f xs c.0) [ inl e ↦ head_has x f (leave_one g xs) e | inr d ↦ tail_has x f (leave_one g xs) (m.1 (d, c.1)) ],
    )

    dropped : g.seg ≡ x.seg → Contains (leave_one g xs) f ↔ (Contains xs f × (f.seg ≢ g.seg)) → Contains (leave_one g xs) f ↔ (Contains (x ∷ xs) f × (f.seg ≢ g.seg))
    dropped e m = (
      λ c. (let k = m.0 c in (tail_has x f xs k.0, k.1)),
      λ c. elim (has_cases x f xs c.0) [ inl i ↦ absurd (c.1 (ap (λ (h : ExactCrease). h.seg) (sym i) ∙ sym e)) | inr d ↦ m.1 (d, c.1) ],
    )

    by : (r : Ordering) → segment_cmp g.seg x.seg ≡ r → Contains (leave_one g xs) f ↔ (Contains xs f × (f.seg ≢ g.seg))
        → Contains (match_ordering r (x ∷ leave_one g xs) (leave_one g xs) (x ∷ leave_one g xs)) f ↔ (Contains (x ∷ xs) f × (f.seg ≢ g.seg))
    by o.Less e m = kept (less_not_tied g x e) m
    by o.Equal e m = dropped (segment_exact g.seg x.seg e) m
    by o.Greater e m = kept (greater_not_tied g x e) m

all_left_members : (gs fs : List ExactCrease) (f : ExactCrease) → Contains (leave_all gs fs) f ↔ (Contains fs f × ((g : ExactCrease) → Contains gs g → f.seg ≢ g.seg))
all_left_members [] fs f = (λ c. (c, λ g none. absurd (omega (arith, none.1))), λ c. c.0)
all_left_members (x ∷ xs) fs f =
    let m = all_left_members xs (leave_one x fs) f in
    let k = left_members x f fs in (
      λ c. (let a = m.0 c in let b = k.0 a.0 in (b.0, λ g d. elim (has_cases x g xs d) [ inl e ↦ subst (λ (h : ExactCrease). f.seg ≢ h.seg) e b.1 | inr t ↦ a.1 g t ])),
      λ c. m.1 (k.1 (c.0, c.1 x (head_has x x xs refl)), λ g d. c.1 g (tail_has x g xs d)),
    )

left_ascends : (g : ExactCrease) (fs : List ExactCrease) → Ascends fs → Ascends (leave_one g fs)
left_ascends g [] h = h
left_ascends g (x ∷ xs) h = by (segment_cmp g.seg x.seg) (left_ascends g xs (later_ascend x xs h))
  where
    kept : Ascends (leave_one g xs) → Ascends (x ∷ leave_one g xs)
    kept later = AllPairs-cons (λ (f g : ExactCrease). SegmentBefore f.seg g.seg) x (leave_one g xs)
        (all_of (λ (y : ExactCrease). SegmentBefore x.seg y.seg) (leave_one g xs) (λ y c. first_before x y xs h ((left_members g y xs).0 c).0)) later

    by : (r : Ordering) → Ascends (leave_one g xs) → Ascends (match_ordering r (x ∷ leave_one g xs) (leave_one g xs) (x ∷ leave_one g xs))
    by o.Less later = kept later
    by o.Equal later = later
    by o.Greater later = kept later

all_left_ascends : (gs fs : List ExactCrease) → Ascends fs → Ascends (leave_all gs fs)
all_left_ascends [] fs h = h
all_left_ascends (x ∷ xs) fs h = all_left_ascends xs (leave_one x fs) (left_ascends x fs h)

none_left_out : (g : ExactCrease) (fs : List ExactCrease) → ((f : ExactCrease) → Contains fs f → f.seg ≢ g.seg) → length (leave_one g fs) ≡ length fs
none_left_out g [] n = refl
none_left_out g (x ∷ xs) n = by (segment_cmp g.seg x.seg) refl (none_left_out g xs (λ f c. n f (tail_has x f xs c)))
  where
    by : (r : Ordering) → segment_cmp g.seg x.seg ≡ r → length (leave_one g xs) ≡ length xs → length (match_ordering r (x ∷ leave_one g xs) (leave_one g xs) (x ∷ leave_one g xs)) ≡ length (x ∷ xs)
    by o.Less e m = omega (arith, m)
    by o.Equal e m = absurd (n x (head_has x x xs refl) (sym (segment_exact g.seg x.seg e)))
    by o.Greater e m = omega (arith, m)

one_left_out : (g : ExactCrease) (fs : List ExactCrease) → Ascends fs → Contains fs g → length (leave_one g fs) + 1 ≡ length fs
one_left_out g [] h c = absurd (omega (arith, c.1))
one_left_out g (x ∷ xs) h c = elim (has_cases x g xs c) [
  | inl e ↦ here (ap (λ (f : ExactCrease). f.seg) e) (segment_cmp g.seg x.seg) refl
  | inr d ↦ later (one_left_out g xs (later_ascend x xs h) d) (first_before x g xs h d) (segment_cmp g.seg x.seg) refl
]
  where
    here : x.seg ≡ g.seg → (r : Ordering) → segment_cmp g.seg x.seg ≡ r → length (match_ordering r (x ∷ leave_one g xs) (leave_one g xs) (x ∷ leave_one g xs)) + 1 ≡ length (x ∷ xs)
    here s o.Less e = absurd (less_not_tied g x e s)
    here s o.Equal e = (let m = none_left_out g xs (λ f d t. segment_not_itself x.seg f.seg (s ∙ sym t) (first_before x f xs h d)) in omega (arith, m))
    here s o.Greater e = absurd (greater_not_tied g x e s)

    later : length (leave_one g xs) + 1 ≡ length xs → SegmentBefore x.seg g.seg → (r : Ordering) → segment_cmp g.seg x.seg ≡ r → length (match_ordering r (x ∷ leave_one g xs) (leave_one g xs) (x ∷ leave_one g xs)) + 1 ≡ length (x ∷ xs)
    later m b o.Less e = omega (arith, m)
    later m b o.Equal e = absurd (segment_not_itself x.seg g.seg (sym (segment_exact g.seg x.seg e)) b)
    later m b o.Greater e = omega (arith, m)

left_length : (gs fs : List ExactCrease) → Ascends gs → Ascends fs → ((f : ExactCrease) → Contains gs f → Contains fs f) → length (leave_all gs fs) + length gs ≡ length fs
left_length [] fs a h k = omega arith
left_length (x ∷ xs) fs a h k =
    let one = one_left_out x fs h (k x (head_has x x xs refl)) in
    let rest = left_length xs (leave_one x fs) (later_ascend x xs a) (left_ascends x fs h)
    (λ f c. (left_members x f fs).1 (k f (tail_has x f xs c), λ s. segment_not_itself x.seg f.seg (sym s) (first_before x f xs a c))) in
    omega (arith, one, rest)

-- creases that are put in

put_members : (f h : ExactCrease) (gs : List ExactCrease) → Contains (put_before f gs) h ↔ ((f ≡ h) ⊎ Contains gs h)
put_members f h [] = (has_cases f h [], λ c. elim c [ inl e ↦ head_has f h [] e | inr d ↦ tail_has f h [] d ])
put_members f h (g ∷ gs) = by (segment_cmp f.seg g.seg) (put_members f h gs)
  where
    front : Contains (f ∷ g ∷ gs) h ↔ ((f ≡ h) ⊎ Contains (g ∷ gs) h)
    front = (has_cases f h (g ∷ gs), λ c. elim c [ inl e ↦ head_has f h (g ∷ gs) e | inr d ↦ tail_has f h (g ∷ gs) d ])

    by : (r : Ordering) → Contains (put_before f gs) h ↔ ((f ≡ h) ⊎ Contains gs h) → Contains (match_ordering r (f ∷ g ∷ gs) (f ∷ g ∷ gs) (g ∷ put_before f gs)) h ↔ ((f ≡ h) ⊎ Contains (g ∷ gs) h)
    by o.Less m = front
    by o.Equal m = front
    by o.Greater m = (
      λ c. elim (has_cases g h (put_before f gs) c) [ inl e ↦ inr (head_has g h gs e) | inr d ↦ elim (m.0 d) [ inl e ↦ inl e | inr k ↦ inr (tail_has g h gs k) ] ],
      λ c. elim c [
        | inl e ↦ tail_has g h (put_before f gs) (m.1 (inl e))
        | inr d ↦ elim (has_cases g h gs d) [ inl e ↦ head_has g h (put_before f gs) e | inr k ↦ tail_has g h (put_before f gs) (m.1 (inr k)) ]
      ],
    )

put_length : (f : ExactCrease) (gs : List ExactCrease) → length (put_before f gs) ≡ length gs + 1
put_length f [] = refl
put_length f (g ∷ gs) = by (segment_cmp f.seg g.seg) (put_length f gs)
  where
    by : (r : Ordering) → length (put_before f gs) ≡ length gs + 1 → length (match_ordering r (f ∷ g ∷ gs) (f ∷ g ∷ gs) (g ∷ put_before f gs)) ≡ length (g ∷ gs) + 1
    by o.Less e = omega arith
    by o.Equal e = omega arith
    by o.Greater e = omega (arith, e)

put_ascends : (f : ExactCrease) (gs : List ExactCrease) → Ascends gs → HasCanonicalEnds f.seg → ((g : ExactCrease) → Contains gs g → HasCanonicalEnds g.seg) → ((g : ExactCrease) → Contains gs g → f.seg ≢ g.seg) → Ascends (put_before f gs)
put_ascends f [] h k ks n = AllPairs-cons (λ (x y : ExactCrease). SegmentBefore x.seg y.seg) f [] (λ i d l. absurd (omega (arith, l))) h
put_ascends f (g ∷ gs) h k ks n = by (put_ascends f gs (later_ascend g gs h) k (λ y c. ks y (tail_has g y gs c)) (λ y c. n y (tail_has g y gs c))) (segment_cmp f.seg g.seg) refl
  where
    is_here : HasCanonicalEnds g.seg
    is_here = ks g (head_has g g gs refl)

    front : SegmentBefore f.seg g.seg → Ascends (f ∷ g ∷ gs)
    front b = AllPairs-cons (λ (x y : ExactCrease). SegmentBefore x.seg y.seg) f (g ∷ gs)
        (all_of (λ (y : ExactCrease). SegmentBefore f.seg y.seg) (g ∷ gs) (λ y c. elim (has_cases g y gs c) [
          | inl e ↦ subst (λ (z : ExactCrease). SegmentBefore f.seg z.seg) e b
          | inr d ↦ segment_before_trans f.seg g.seg y.seg b (first_before g y gs h d)
        ])) h

    back : Ascends (put_before f gs) → SegmentBefore g.seg f.seg → Ascends (g ∷ put_before f gs)
    back later b = AllPairs-cons (λ (x y : ExactCrease). SegmentBefore x.seg y.seg) g (put_before f gs)
        (all_of (λ (y : ExactCrease). SegmentBefore g.seg y.seg) (put_before f gs) (λ y c. elim ((put_members f y gs).0 c) [
          | inl e ↦ subst (λ (z : ExactCrease). SegmentBefore g.seg z.seg) e b
          | inr d ↦ first_before g y gs h d
        ]))
        later

    by : Ascends (put_before f gs) → (r : Ordering) → segment_cmp f.seg g.seg ≡ r → Ascends (match_ordering r (f ∷ g ∷ gs) (f ∷ g ∷ gs) (g ∷ put_before f gs))
    by later o.Less e = front ((segment_less f.seg g.seg k is_here).0 e)
    by later o.Equal e = absurd (n g (head_has g g gs refl) (segment_exact f.seg g.seg e))
    by later o.Greater e = back later ((segment_less g.seg f.seg is_here k).0 (segment_total.antisymm g.seg f.seg ∙ ap ordering_reverse e))

all_put_members : (gs fs : List ExactCrease) (f : ExactCrease) → Contains (put_all gs fs) f ↔ (Contains gs f ⊎ Contains fs f)
all_put_members [] fs f = (λ c. inr c, λ c. elim c [ inl none ↦ absurd (omega (arith, none.1)) | inr d ↦ d ])
all_put_members (x ∷ xs) fs f =
    let m = all_put_members xs fs f in
    let k = put_members x f (put_all xs fs) in (
      λ c. elim (k.0 c) [ inl e ↦ inl (head_has x f xs e) | inr d ↦ elim (m.0 d) [ inl t ↦ inl (tail_has x f xs t) | inr t ↦ inr t ] ],
      λ c. elim c [ inl d ↦ elim (has_cases x f xs d) [ inl e ↦ k.1 (inl e) | inr t ↦ k.1 (inr (m.1 (inl t))) ] | inr d ↦ k.1 (inr (m.1 (inr d))) ],
    )

all_put_length : (gs fs : List ExactCrease) → length (put_all gs fs) ≡ length gs + length fs
all_put_length [] fs = omega arith
all_put_length (x ∷ xs) fs = omega (arith, put_length x (put_all xs fs), all_put_length xs fs)

all_put_ascends : (gs fs : List ExactCrease) → Ascends gs → Ascends fs → ((f : ExactCrease) → Contains gs f → HasCanonicalEnds f.seg) → ((f : ExactCrease) → Contains fs f → HasCanonicalEnds f.seg)
    → ((f g : ExactCrease) → Contains gs f → Contains fs g → f.seg ≢ g.seg) → Ascends (put_all gs fs)
all_put_ascends [] fs a h k ks n = h
all_put_ascends (x ∷ xs) fs a h k ks n = put_ascends x (put_all xs fs)
    (all_put_ascends xs fs (later_ascend x xs a) h (λ f c. k f (tail_has x f xs c)) ks (λ f g c d. n f g (tail_has x f xs c) d))
    (k x (head_has x x xs refl))
    (λ g c. elim ((all_put_members xs fs g).0 c) [ inl d ↦ k g (tail_has x g xs d) | inr d ↦ ks g d ])
    (λ g c. elim ((all_put_members xs fs g).0 c) [ inl d ↦ (λ s. segment_not_itself x.seg g.seg s (first_before x g xs a d)) | inr d ↦ n x g (head_has x x xs refl) d ])

-- what stands

module _ (old : ExactPattern) (gone come : List ExactCrease) (h : AreBeside old gone come) where
  left_is : (f : ExactCrease) → Contains (leave_all gone old.creases) f ↔ (Contains old.creases f × (¬ Contains gone f))
  left_is f = (
    λ c. (let k = (all_left_members gone old.creases f).0 c in (k.0, λ g. k.1 f g refl)),
    λ c. (all_left_members gone old.creases f).1 (c.0, λ g d s. c.1 (subst (Contains gone) (sym (one_on_segment old.creases f g h.pattern.ordered c.0 (h.there g d) s)) d)),
  )

  -- those that are left, and those that came
  pub stand_members : (f : ExactCrease) → Contains (standing old gone come) f ↔ ((Contains old.creases f × (¬ Contains gone f)) ⊎ Contains come f)
  stand_members f = (
    λ c. elim ((all_put_members come (leave_all gone old.creases) f).0 c) [ inl d ↦ inr d | inr d ↦ inl ((left_is f).0 d) ],
    λ c. (all_put_members come (leave_all gone old.creases) f).1 (elim c [ inl d ↦ inr ((left_is f).1 d) | inr d ↦ inl d ]),
  )

  old_held : (f : ExactCrease) → Contains old.creases f → IsHeld f.seg
  old_held f c = (let k : IsKey old.sheet f.seg = All-contains (λ (g : ExactCrease). IsKey old.sheet g.seg) old.creases f h.pattern.keys c in record { segment = k.segment; from = k.from; to = k.to })

  stand_held : (f : ExactCrease) → Contains (standing old gone come) f → IsHeld f.seg
  stand_held f c = elim ((stand_members f).0 c) [ inl d ↦ old_held f d.0 | inr d ↦ held_in come h.come_apart f d ]

  pub old_standing : AreStanding old.creases
  old_standing = record { held = all_of (λ (f : ExactCrease). IsHeld f.seg) old.creases old_held; ordered = h.pattern.ordered; apart = h.pattern.apart }

  stand_apart : (f g : ExactCrease) → Contains (standing old gone come) f → Contains (standing old gone come) g → f ≢ g → ¬ Overlap f.seg g.seg
  stand_apart f g c d n = elim ((stand_members f).0 c) [
    | inl a ↦ elim ((stand_members g).0 d) [
      | inl b ↦ apart_in old.creases old_standing f g a.0 b.0 n
      | inr b ↦ h.free g f b a.0 a.1
    ]
    | inr a ↦ elim ((stand_members g).0 d) [
      | inl b ↦ (λ v. h.free f g a b.0 b.1 (overlap_back f.seg g.seg v))
      | inr b ↦ apart_in come h.come_apart f g a b n
    ]
  ]

  stand_ascends : Ascends (standing old gone come)
  stand_ascends = all_put_ascends come (leave_all gone old.creases) h.come_apart.ordered (all_left_ascends gone old.creases h.pattern.ordered)
      (λ f c. (let k = held_in come h.come_apart f c in (k.from, k.to)))
      (λ f c. (let k = old_held f ((left_is f).0 c).0 in (k.from, k.to)))
      (λ f g c d s. (let k = (left_is g).0 d in h.free f g c k.0 k.1 (same_overlap f g (held_in come h.come_apart f c) s)))
    where
      same_overlap : (f g : ExactCrease) → IsHeld f.seg → f.seg ≡ g.seg → Overlap g.seg f.seg
      same_overlap f g k s = subst (λ t. Overlap t f.seg) s (overlap_itself f.seg k.segment)

  pub stand_standing : AreStanding (standing old gone come)
  stand_standing = standing_of (standing old gone come) stand_ascends stand_held stand_apart

  -- as many are left as are not gone
  pub left_count : length (leave_all gone old.creases) + length gone ≡ length old.creases
  left_count = left_length gone old.creases h.gone_apart.ordered h.pattern.ordered h.there

  pub stand_count : length (standing old gone come) + length gone ≡ length old.creases + length come
  stand_count = omega (arith, left_count, all_put_length come (leave_all gone old.creases))

-- nothing is gone, and nothing came
none_standing : AreStanding []
none_standing = record { held = λ i d l. absurd (omega (arith, l)); ordered = λ i j d l m. absurd (omega (arith, m)); apart = λ i j d l m. absurd (omega (arith, m)) }

pub none_beside : (old : ExactPattern) → IsPattern old → AreBeside old [] []
none_beside old p = record {
  pattern = p;
  gone_apart = none_standing;
  come_apart = none_standing;
  there = λ f c. absurd (none_in f c);
  fresh = λ f c. absurd (none_in f c);
  free = λ f g c. absurd (none_in f c);
}
