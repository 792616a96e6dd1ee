-- The ascending list that is left when creases leave it and others come.
use Rattle.std.proofs.Common.{◌≡◌, ◌≢◌, ℕ, zero, suc, ◌+◌, ◌<◌, List, [], ◌∷◌, length, get_or, refl, sym, subst, ◌∙◌, ◌⊎◌, inl, inr, arith}
use Rattle.std.specs.Prelude.{◌↔◌, Contains}
use Rattle.std.proofs.lemmas.List.Elements.{Contains-get_or}
use Rattle.exact.specs.Plane.{SegmentBefore}
use Rattle.plane.specs.Segments.{HasCanonicalEnds}
use Rattle.sheet.specs.Pattern.{ExactCrease}
use Rattle.creases.specs.Creases.{Ascends}
use Rattle.creases.proofs.callers.Members.{segment_before_trans, segments_ordered, first_before, later_ascend, segment_not_itself, segment_not_back}
use Rattle.chains.proofs.callers.Elements.{head_has, tail_has, has_cases}

ascend_first : (x : ExactCrease) (xs : List ExactCrease) → Ascends xs → ((f : ExactCrease) → Contains xs f → SegmentBefore x.seg f.seg) → Ascends (x ∷ xs)
ascend_first x xs h b = go
  where
    go : (i j : ℕ) (d : ExactCrease) → i < j → j < length (x ∷ xs) → SegmentBefore (get_or (x ∷ xs) i d).seg (get_or (x ∷ xs) j d).seg
    go i zero d l m = absurd (omega (arith, l))
    go zero (suc j) d l m = b (get_or xs j d) (Contains-get_or xs j d (omega (arith, m)))
    go (suc i) (suc j) d l m = h i j d (omega (arith, l)) (omega (arith, m))

record IsPut (x : ExactCrease) (xs ys : List ExactCrease) : Type 0 where
  ascends : Ascends ys
  members : (f : ExactCrease) → Contains ys f ↔ ((x ≡ f) ⊎ Contains xs f)
  long : length ys ≡ length xs + 1

put_into : (x : ExactCrease) (xs : List ExactCrease) → Ascends xs → HasCanonicalEnds x.seg → ((f : ExactCrease) → Contains xs f → HasCanonicalEnds f.seg) → ((f : ExactCrease) → Contains xs f → f.seg ≢ x.seg) → (ys : List ExactCrease) × IsPut x xs ys
put_into x [] h k ks n = (x ∷ [], record { ascends = ascend_first x [] h (λ f c. absurd (omega (arith, c.1))); members = λ f. (has_cases x f [], λ c. elim c [ inl e ↦ head_has x f [] e | inr d ↦ tail_has x f [] d ]); long = omega arith })
put_into x (y ∷ xs) h k ks n = elim (segments_ordered x.seg y.seg k (ks y (head_has y y xs refl))) [
  | inl b ↦ (
    x ∷ y ∷ xs,
    record {
      ascends = ascend_first x (y ∷ xs) h (λ f c. elim (has_cases y f xs c) [ inl e ↦ subst (λ (z : ExactCrease). SegmentBefore x.seg z.seg) e b | inr d ↦ segment_before_trans x.seg y.seg f.seg b (first_before y f xs h d) ]);
      members = λ f. (has_cases x f (y ∷ xs), λ c. elim c [ inl e ↦ head_has x f (y ∷ xs) e | inr d ↦ tail_has x f (y ∷ xs) d ]);
      long = omega arith;
    },
  )
  | inr r ↦ elim r [
    | inl e ↦ absurd (n y (head_has y y xs refl) (sym e))
    | inr b ↦ after b (put_into x xs (later_ascend y xs h) k (λ f c. ks f (tail_has y f xs c)) (λ f c. n f (tail_has y f xs c)))
  ]
]
  where
    after : SegmentBefore y.seg x.seg → (ys : List ExactCrease) × IsPut x xs ys → (ys : List ExactCrease) × IsPut x (y ∷ xs) ys
    after b r = (
      y ∷ r.0,
      record {
        ascends = ascend_first y r.0 r.1.ascends (λ f c. elim ((r.1.members f).0 c) [ inl e ↦ subst (λ (z : ExactCrease). SegmentBefore y.seg z.seg) e b | inr d ↦ first_before y f xs h d ]);
        members = λ f. (
          λ c. elim (has_cases y f r.0 c) [ inl e ↦ inr (head_has y f xs e) | inr d ↦ elim ((r.1.members f).0 d) [ inl e ↦ inl e | inr g ↦ inr (tail_has y f xs g) ] ],
          λ c. elim c [
            | inl e ↦ tail_has y f r.0 ((r.1.members f).1 (inl e))
            | inr d ↦ elim (has_cases y f xs d) [ inl e ↦ head_has y f r.0 e | inr g ↦ tail_has y f r.0 ((r.1.members f).1 (inr g)) ]
          ],
        );
        long = omega (arith, r.1.long);
      },
    )

pub record IsPutAll (come xs ys : List ExactCrease) : Type 0 where
  pub ascends : Ascends ys
  pub members : (f : ExactCrease) → Contains ys f ↔ (Contains come f ⊎ Contains xs f)
  pub long : length ys ≡ length xs + length come

pub put_all : (come xs : List ExactCrease) → Ascends come → Ascends xs → ((f : ExactCrease) → Contains come f → HasCanonicalEnds f.seg) → ((f : ExactCrease) → Contains xs f → HasCanonicalEnds f.seg)
    → ((f g : ExactCrease) → Contains come f → Contains xs g → g.seg ≢ f.seg) → (ys : List ExactCrease) × IsPutAll come xs ys
put_all [] xs a h k ks n = (xs, record { ascends = h; members = λ f. (λ c. inr c, λ c. elim c [ inl d ↦ absurd (omega (arith, d.1)) | inr d ↦ d ]); long = omega arith })
put_all (x ∷ come) xs a h k ks n = more (put_all come xs (later_ascend x come a) h (λ f c. k f (tail_has x f come c)) ks (λ f g c d. n f g (tail_has x f come c) d))
  where
    more : (ys : List ExactCrease) × IsPutAll come xs ys → (ys : List ExactCrease) × IsPutAll (x ∷ come) xs ys
    more r =
        let p = put_into x r.0 r.1.ascends (k x (head_has x x come refl))
        (λ f c. elim ((r.1.members f).0 c) [ inl d ↦ k f (tail_has x f come d) | inr d ↦ ks f d ])
        (λ f c e. elim ((r.1.members f).0 c) [ inl d ↦ segment_not_itself x.seg f.seg (sym e) (first_before x f come a d) | inr d ↦ n x f (head_has x x come refl) d e ]) in (
          p.0,
          record {
            ascends = p.1.ascends;
            members = λ f. (
              λ c. elim ((p.1.members f).0 c) [ inl e ↦ inl (head_has x f come e) | inr d ↦ elim ((r.1.members f).0 d) [ inl g ↦ inl (tail_has x f come g) | inr g ↦ inr g ] ],
              λ c. elim c [
                | inl d ↦ elim (has_cases x f come d) [ inl e ↦ (p.1.members f).1 (inl e) | inr g ↦ (p.1.members f).1 (inr ((r.1.members f).1 (inl g))) ]
                | inr d ↦ (p.1.members f).1 (inr ((r.1.members f).1 (inr d)))
              ],
            );
            long = omega (arith, p.1.long, r.1.long);
          },
        )

pub record IsLeft (xs gone ys : List ExactCrease) : Type 0 where
  pub ascends : Ascends ys
  pub members : (f : ExactCrease) → Contains ys f ↔ (Contains xs f × (¬ Contains gone f))
  pub long : length ys + length gone ≡ length xs

pub take_all_out : (xs gone : List ExactCrease) → Ascends xs → Ascends gone → ((f : ExactCrease) → Contains gone f → Contains xs f) → (ys : List ExactCrease) × IsLeft xs gone ys
take_all_out [] [] h a t = ([], record { ascends = h; members = λ f. (λ c. (c, λ d. absurd (omega (arith, d.1))), λ c. c.0); long = omega arith })
take_all_out [] (g ∷ gone) h a t = absurd (let c = t g (head_has g g gone refl) in omega (arith, c.1))
take_all_out (x ∷ xs) [] h a t = (x ∷ xs, record { ascends = h; members = λ f. (λ c. (c, λ d. absurd (omega (arith, d.1))), λ c. c.0); long = omega arith })
take_all_out (x ∷ xs) (g ∷ gone) h a t = elim (has_cases x g xs (t g (head_has g g gone refl))) [
  | inl e ↦ leaves e (take_all_out xs gone (later_ascend x xs h) (later_ascend g gone a) (λ f c. past f c e))
  | inr c ↦ stays c (take_all_out xs (g ∷ gone) (later_ascend x xs h) a (λ f d. later f d c))
]
  where
    past : (f : ExactCrease) → Contains gone f → x ≡ g → Contains xs f
    past f c e = elim (has_cases x f xs (t f (tail_has g f gone c))) [ inl s ↦ absurd (segment_not_itself g.seg f.seg (λ i. ((sym e ∙ s) i).seg) (first_before g f gone a c)) | inr d ↦ d ]

    not_first : (f : ExactCrease) → Contains (g ∷ gone) f → Contains xs g → x ≡ f → ⊥
    not_first f d c s = elim (has_cases g f gone d) [
      | inl e ↦ segment_not_itself x.seg g.seg (λ i. ((s ∙ sym e) i).seg) (first_before x g xs h c)
      | inr k ↦ segment_not_back x.seg g.seg (first_before x g xs h c) (subst (λ (z : ExactCrease). SegmentBefore g.seg z.seg) (sym s) (first_before g f gone a k))
    ]

    later : (f : ExactCrease) → Contains (g ∷ gone) f → Contains xs g → Contains xs f
    later f d c = elim (has_cases x f xs (t f d)) [ inl s ↦ absurd (not_first f d c s) | inr k ↦ k ]

    leaves : x ≡ g → (ys : List ExactCrease) × IsLeft xs gone ys → (ys : List ExactCrease) × IsLeft (x ∷ xs) (g ∷ gone) ys
    leaves e r = (
      r.0,
      record {
        ascends = r.1.ascends;
        members = λ f. (
          λ c. (
              let m = (r.1.members f).0 c in (
                tail_has x f xs m.0,
                λ d. elim (has_cases g f gone d) [ inl s ↦ segment_not_itself x.seg f.seg (λ i. ((e ∙ s) i).seg) (first_before x f xs h m.0) | inr k ↦ m.1 k ],
              )
              ),
          λ c. elim (has_cases x f xs c.0) [ inl s ↦ absurd (c.1 (head_has g f gone (sym e ∙ s))) | inr k ↦ (r.1.members f).1 (k, λ d. c.1 (tail_has g f gone d)) ],
        );
        long = omega (arith, r.1.long);
      },
    )

    stays : Contains xs g → (ys : List ExactCrease) × IsLeft xs (g ∷ gone) ys → (ys : List ExactCrease) × IsLeft (x ∷ xs) (g ∷ gone) ys
    stays c r = (
      x ∷ r.0,
      record {
        ascends = ascend_first x r.0 r.1.ascends (λ f d. first_before x f xs h ((r.1.members f).0 d).0);
        members = λ f. (
          λ d. elim (has_cases x f r.0 d) [ inl s ↦ (head_has x f xs s, λ k. not_first f k c s) | inr k ↦ (let m = (r.1.members f).0 k in (tail_has x f xs m.0, m.1)) ],
          λ d. elim (has_cases x f xs d.0) [ inl s ↦ head_has x f r.0 s | inr k ↦ tail_has x f r.0 ((r.1.members f).1 (k, d.1)) ],
        );
        long = omega (arith, r.1.long);
      },
    )
