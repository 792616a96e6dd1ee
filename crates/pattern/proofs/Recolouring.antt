-- Creases that take other colours, one after another, as a delta on their own segments says.
use Rattle.std.proofs.Common.{◌≡◌, ◌≢◌, ℕ, ◌+◌, ◌<◌, ◌≤◌, List, [], ◌∷◌, ◌++◌, length, get_or, take, refl, sym, ap, subst, ◌∙◌, inl, inr, arith}
use Rattle.std.specs.Prelude.{All, Contains}
use Rattle.std.proofs.lemmas.List.{get_or-take, length-take, take_all}
use Rattle.std.proofs.lemmas.List.Elements.{All-contains, AllZip-get_or, all_zip_more, length_all_zip, Contains-get_or, Contains-push, Contains-push_cases, Contains-append_left}
use Rattle.sheet.specs.Pattern.{ExactCrease, ExactPattern, IsPattern, IsKey}
use Rattle.creases.specs.Creases.{Ascends, AreRecoloured, coloured_as}
use Rattle.creases.specs.Standing.{AreStanding}
use Rattle.creases.proofs.callers.Members.{all_of, crease_same, one_on_segment, segment_not_itself}
use Rattle.pattern.specs.Deltas.{Stays, Leads, Fits}
use Rattle.pattern.specs.declared.delta.Delta.{Delta}
use Rattle.pattern.specs.Fitting.{AreExchanged, AreOnSame}
use Rattle.pattern.specs.NativeReader.{on}
use Rattle.pattern.proofs.Stepping.{none_yet, not_earlier}
use Rattle.pattern.proofs.callers.Told.{more_taken}

module _ (gone come : List ExactCrease) (s : AreOnSame gone come) where
  pub as_many : length gone ≡ length come
  as_many = length_all_zip (λ (f g : ExactCrease). f.seg ≡ g.seg) gone come s

  same_at : (i : ℕ) (x y : ExactCrease) → i < length gone → (get_or gone i x).seg ≡ (get_or come i y).seg
  same_at i x y l = AllZip-get_or (λ (f g : ExactCrease). f.seg ≡ g.seg) gone come i x y s l

  -- one that comes is on the segment of one that is gone
  partner : (f : ExactCrease) → Contains come f → (g : ExactCrease) × Contains gone g × (g.seg ≡ f.seg)
  partner f c =
      let l : c.0 < length gone = omega (arith, c.1, as_many) in
      (get_or gone c.0 f, Contains-get_or gone c.0 f l, same_at c.0 f f l ∙ ap (λ (h : ExactCrease). h.seg) c.2)

  module _ (a : Ascends gone) (i : ℕ) (x : ExactCrease) (l : i < length gone) (e : x ≡ get_or gone i x) where
    -- those that came before are on other segments
    other_segment : (f : ExactCrease) → Contains (take i come) f → f.seg ≢ x.seg
    other_segment f c p =
        let short : c.0 < i = omega (arith, c.1, length-take i come) in
        let there : get_or come c.0 f ≡ f = sym (get_or-take i come c.0 f short) ∙ c.2 in
        segment_not_itself (get_or gone c.0 x).seg (get_or gone i x).seg
        (same_at c.0 x f (omega (arith, short, l)) ∙ ap (λ (h : ExactCrease). h.seg) there ∙ p ∙ ap (λ (h : ExactCrease). h.seg) e) (a c.0 i x short l)

    module _ (old now : List ExactCrease) (t : AreExchanged old (take i gone) (take i come) now) where
      pub was_there : Contains now x → Contains old x
      was_there c = elim ((t x).0 c) [ inl o ↦ o.0 | inr d ↦ absurd (other_segment x d refl) ]

      pub not_all_there : (¬ Contains now x) → ¬ All (λ f. Contains old f) gone
      not_all_there n all = n ((t x).1 (inl (subst (Contains old) (sym e) (all i x l), not_earlier gone i x a l e)))

      -- one more took its colour
      module _ (y : ExactCrease) (r : y ≡ get_or come i y) (after : List ExactCrease) (u : AreRecoloured now x y.colour after) where
        y_is : y ≡ coloured_as x y.colour
        y_is = crease_same y (coloured_as x y.colour) (ap (λ (h : ExactCrease). h.seg) r ∙ sym (same_at i x y l) ∙ ap (λ (h : ExactCrease). h.seg) (sym e)) refl

        more : AreExchanged old (take i gone ++ x ∷ []) (take i come ++ y ∷ []) after
        more f = (
          λ c. elim ((u f).0 c) [
            | inl p ↦ inr (subst (Contains (take i come ++ y ∷ [])) (y_is ∙ sym p) (Contains-push (take i come) y))
            | inr k ↦ elim ((t f).0 k.0) [
              | inl o ↦ inl (o.0, λ d. elim (Contains-push_cases (take i gone) x f d) [ inl g ↦ o.1 g | inr g ↦ k.1 (sym g) ])
              | inr d ↦ inr (Contains-append_left (take i come) (y ∷ []) f d)
            ]
          ],
          λ c. (u f).1 (elim c [
            | inl o ↦ inr ((t f).1 (inl (o.0, λ d. o.1 (Contains-append_left (take i gone) (x ∷ []) f d))), λ g. o.1 (subst (Contains (take i gone ++ x ∷ [])) (sym g) (Contains-push (take i gone) x)))
            | inr d ↦ elim (Contains-push_cases (take i come) y f d) [
              | inl k ↦ inr ((t f).1 (inr k), λ g. other_segment f k (ap (λ (h : ExactCrease). h.seg) g))
              | inr p ↦ inl (sym p ∙ y_is)
            ]
          ]),
        )

        pub exchanged_next : AreExchanged old (take (i + 1) gone) (take (i + 1) come) after
        exchanged_next = subst (λ (xs : List ExactCrease). AreExchanged old xs (take (i + 1) come) after) (more_taken gone i x l e)
            (subst (λ (ys : List ExactCrease). AreExchanged old (take i gone ++ x ∷ []) ys after) (more_taken come i y (omega (arith, l, as_many)) r) more)

  -- ---- all of them
  module _ (old : ExactPattern) (p : IsPattern old) (there : All (λ f. Contains old.creases f) gone) where
    was : (g : ExactCrease) → Contains gone g → Contains old.creases g
    was g d = All-contains (Contains old.creases) gone g there d

    key : (g : ExactCrease) → Contains old.creases g → IsKey old.sheet g.seg
    key g d = All-contains (λ (h : ExactCrease). IsKey old.sheet h.seg) old.creases g p.keys d

    pub leads_recoloured : (now : List ExactCrease) → AreExchanged old.creases gone come now → AreStanding now → length now ≡ length old.creases → Leads old (record { removed = gone; added = come }) (on old.sheet now)
    leads_recoloured now t st long = record {
      pattern = record {
        sheet = p.sheet;
        keys = all_of (λ (f : ExactCrease). IsKey old.sheet f.seg) now (λ f d. elim ((t f).0 d) [
          | inl o ↦ key f o.0
          | inr c ↦ (let g = partner f c in subst (IsKey old.sheet) g.2 (key g.0 (was g.0 g.1)))
        ]);
        ordered = st.ordered;
        apart = st.apart;
        few = omega (arith, long, p.few);
      };
      sheet = refl;
      creases = t;
    }

    pub fits_recoloured : (new : ExactPattern) → Ascends gone → Ascends come → Leads old (record { removed = gone; added = come }) new → Fits old (record { removed = gone; added = come })
    fits_recoloured new a b l = record {
      removed_ascend = a;
      added_ascend = b;
      there = there;
      fresh = all_of (λ (f : ExactCrease). (h : ExactCrease) → Stays old.creases delta h → h.seg ≢ f.seg) come fresh;
      leads = (new, l);
    }
      where
        delta : Delta
        delta = record { removed = gone; added = come }

        fresh : (f : ExactCrease) → Contains come f → (h : ExactCrease) → Stays old.creases delta h → h.seg ≢ f.seg
        fresh f d h st e =
            let g = partner f d in
            st.1 (subst (Contains gone) (one_on_segment old.creases g.0 h p.ordered (was g.0 g.1) st.0 (g.2 ∙ sym e)) g.1)

pub exchanged_none : (old gone come : List ExactCrease) → AreExchanged old (take 0 gone) (take 0 come) old
exchanged_none old gone come f = (λ c. inl (c, none_yet gone f), λ k. elim k [ inl o ↦ o.0 | inr c ↦ absurd (none_yet come f c) ])

-- ---- the test of two lists
abbrev OnOne : ExactCrease → ExactCrease → Type 0
OnOne f g = f.seg ≡ g.seg

pub on_same_none : (gone come : List ExactCrease) → AreOnSame (take 0 gone) (take 0 come)
on_same_none [] [] = tt
on_same_none [] (y ∷ come) = tt
on_same_none (x ∷ gone) [] = tt
on_same_none (x ∷ gone) (y ∷ come) = tt

module _ (gone come : List ExactCrease) (i : ℕ) where
  module _ (x y : ExactCrease) (l : i < length gone) (m : i < length come) (e : x ≡ get_or gone i x) (r : y ≡ get_or come i y) where
    pub on_same_next : AreOnSame (take i gone) (take i come) → x.seg ≡ y.seg → AreOnSame (take (i + 1) gone) (take (i + 1) come)
    on_same_next h q = subst (AreOnSame (take (i + 1) gone)) (more_taken come i y m r) (all_zip_more OnOne gone (take i come) i x y l e h q)

    pub on_same_fails : x.seg ≢ y.seg → ¬ AreOnSame gone come
    on_same_fails n s = n (ap (λ (h : ExactCrease). h.seg) e ∙ AllZip-get_or OnOne gone come i x y s l ∙ ap (λ (h : ExactCrease). h.seg) (sym r))

  pub on_same_all : length gone ≤ i → length come ≤ i → AreOnSame (take i gone) (take i come) → AreOnSame gone come
  on_same_all l m h = subst (AreOnSame gone) (take_all i come m) (subst (λ (xs : List ExactCrease). AreOnSame xs (take i come)) (take_all i gone l) h)
