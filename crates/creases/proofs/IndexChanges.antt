-- What a map from places holds, as it is and after a crease is taken out or put in.
use Rattle.std.proofs.Common.{◌≡◌, ◌≢◌, refl, sym, ap, subst, ◌∙◌, ◌⊎◌, inl, inr}
use Rattle.std.specs.Prelude.{◌↔◌, Option, Some, None, IsSome, cond, Contains}
use Rattle.std.specs.BTreeMap.{BTreeMap, is_at, get, values, IsOrdered}
use Rattle.std.proofs.lemmas.Map.Made.{Contains-from_values_of, Contains-values_of}
use Rattle.std.proofs.lemmas.Map.Views.{btree_map_get_iff}
use Rattle.exact.specs.Plane.{Overlap}
use Rattle.sheet.specs.Pattern.{ExactCrease}
use Rattle.plane.specs.Segments.{IsHeld}
use Rattle.creases.specs.Index.{IsIndex}
use Rattle.creases.specs.Places.{IsPlaceOf, place_cmp}
use Rattle.sheet.specs.declared.colour.Colour.{Colour}
use Rattle.creases.specs.Creases.{IsFree, coloured_as}
use Rattle.creases.specs.declared.place.Place.{Place}
use Rattle.creases.proofs.PlaceKeys.{place_total, place_exact, at_or_not, one_place, overlap_at}
use Rattle.creases.proofs.callers.SegmentChanges.{none_or_some}
use Rattle.creases.proofs.callers.Standing.{more_are_apart, more_are_held, recoloured_are_apart, recoloured_are_held}
use Rattle.std.proofs.lemmas.List.Elements.{All-contains}

-- what is found at a place is one of the values
pub value_at : (m : BTreeMap Place ExactCrease) (k : Place) (f : ExactCrease) → IsOrdered place_cmp m → get place_cmp m k ≡ Some f → Contains (values m) f
value_at m k f s e = Contains-values_of m.entries k f ((btree_map_get_iff place_total place_exact m s k f).0 e)

-- each of the values is found at a place
pub found : (m : BTreeMap Place ExactCrease) (f : ExactCrease) → IsOrdered place_cmp m → Contains (values m) f → (k : Place) × (get place_cmp m k ≡ Some f)
found m f s c = (let at = Contains-from_values_of m.entries f c in (at.0, (btree_map_get_iff place_total place_exact m s at.0 f).1 at.1))

pub held_at : (m : BTreeMap Place ExactCrease) (k : Place) (f : ExactCrease) → IsIndex m.entries → get place_cmp m k ≡ Some f → IsHeld f.seg
held_at m k f t e = t.held f (value_at m k f t.ordered e)

-- a crease is found at its own place
pub found_at : (m : BTreeMap Place ExactCrease) (k : Place) (f : ExactCrease) → IsIndex m.entries → IsPlaceOf f.seg k → Contains (values m) f → get place_cmp m k ≡ Some f
found_at m k f t p c =
    let at = found m f t.ordered c in
    subst (λ (x : Place). get place_cmp m x ≡ Some f) (one_place f.seg at.0 k (t.held f c).segment (t.placed at.0 f at.1) p) at.1

pub is_found : (m : BTreeMap Place ExactCrease) (k : Place) (f : ExactCrease) → get place_cmp m k ≡ Some f → IsSome (get place_cmp m k)
is_found m k f e = subst IsSome (sym e) refl

pub some_same : {X : Type 0} (r : Option X) (c d : X) → r ≡ Some c → r ≡ Some d → c ≡ d
some_same r c d e f = (let g = sym e ∙ f in cc)

-- creases at different places are different, and do not overlap
pub apart_at : (m : BTreeMap Place ExactCrease) (a b : Place) (f g : ExactCrease) → IsIndex m.entries → get place_cmp m a ≡ Some f → get place_cmp m b ≡ Some g → a ≢ b → ¬ Overlap f.seg g.seg
apart_at m a b f g t d e n = t.apart f g (value_at m a f t.ordered d) (value_at m b g t.ordered e)
    (λ i. n (one_place f.seg a b (held_at m a f t d).segment (t.placed a f d) (subst (λ (x : ExactCrease). IsPlaceOf x.seg b) (sym i) (t.placed b g e))))

-- a map with the same entries
pub index_unchanged : (m n : BTreeMap Place ExactCrease) → n.entries ≡ m.entries → IsIndex m.entries → IsIndex n.entries
index_unchanged m n e t = subst IsIndex (sym e) t

-- after one is taken out
module _ (m n : BTreeMap Place ExactCrease) (x : ExactCrease) (k : Place) (t : IsIndex m.entries) (on : IsOrdered place_cmp n) (p : IsPlaceOf x.seg k) (h : Contains (values m) x)
    (u : (q : Place) → get place_cmp n q ≡ cond (is_at (place_cmp k) q) None (get place_cmp m q)) where
  taken_at : (q : Place) (f : ExactCrease) → get place_cmp n q ≡ Some f → (get place_cmp m q ≡ Some f) × (k ≢ q)
  taken_at q f e = elim (at_or_not k q) [
    | inl a ↦ absurd (none_or_some (get place_cmp n q) f (u q ∙ ap (λ b. cond b None (get place_cmp m q)) a.0) e)
    | inr a ↦ (sym (u q ∙ ap (λ b. cond b None (get place_cmp m q)) a.0) ∙ e, a.1)
  ]

  pub taken_members : (f : ExactCrease) → Contains (values n) f ↔ (Contains (values m) f × (f ≢ x))
  taken_members f = (
    λ c. (
        let at = found n f on c in
        let old = taken_at at.0 f at.1 in
        (value_at m at.0 f t.ordered old.0, λ e. old.1 (one_place x.seg k at.0 (t.held x h).segment p (subst (λ (y : ExactCrease). IsPlaceOf y.seg at.0) e (t.placed at.0 f old.0))))
        ),
    λ c. (
        let at = found m f t.ordered c.0 in
        elim (at_or_not k at.0) [
          | inl a ↦ absurd (c.1 (some_same (get place_cmp m at.0) f x at.1 (subst (λ (y : Place). get place_cmp m y ≡ Some x) a.1 (found_at m k x t p h))))
          | inr a ↦ value_at n at.0 f on (u at.0 ∙ ap (λ b. cond b None (get place_cmp m at.0)) a.0 ∙ at.1)
        ]
        ),
  )

  pub taken_index : IsIndex n.entries
  taken_index = record {
    ordered = on;
    placed = λ q f e. t.placed q f (taken_at q f e).0;
    held = λ f c. t.held f ((taken_members f).0 c).0;
    apart = λ f g c d. t.apart f g ((taken_members f).0 c).0 ((taken_members g).0 d).0;
  }

-- after a value is written at a place
module _ (m n : BTreeMap Place ExactCrease) (x : ExactCrease) (k : Place) (u : (q : Place) → get place_cmp n q ≡ cond (is_at (place_cmp k) q) (Some x) (get place_cmp m q)) where
  written_at : (q : Place) (f : ExactCrease) → get place_cmp n q ≡ Some f → ((k ≡ q) × (f ≡ x)) ⊎ ((get place_cmp m q ≡ Some f) × (k ≢ q))
  written_at q f e = elim (at_or_not k q) [
    | inl a ↦ inl (a.1, some_same (get place_cmp n q) f x e (u q ∙ ap (λ b. cond b (Some x) (get place_cmp m q)) a.0))
    | inr a ↦ inr (sym (u q ∙ ap (λ b. cond b (Some x) (get place_cmp m q)) a.0) ∙ e, a.1)
  ]

  here : get place_cmp n k ≡ Some x
  here = elim (at_or_not k k) [
    | inl a ↦ u k ∙ ap (λ b. cond b (Some x) (get place_cmp m k)) a.0
    | inr a ↦ absurd (a.1 refl)
  ]

-- after one is put in
module _ (m n : BTreeMap Place ExactCrease) (x : ExactCrease) (k : Place) (t : IsIndex m.entries) (on : IsOrdered place_cmp n) (p : IsPlaceOf x.seg k) (h : IsHeld x.seg) (free : IsFree (values m) x.seg)
    (u : (q : Place) → get place_cmp n q ≡ cond (is_at (place_cmp k) q) (Some x) (get place_cmp m q)) where
  pub put_members : (f : ExactCrease) → Contains (values n) f ↔ ((f ≡ x) ⊎ Contains (values m) f)
  put_members f = (
    λ c. (let at = found n f on c in elim (written_at m n x k u at.0 f at.1) [ inl a ↦ inl a.1 | inr old ↦ inr (value_at m at.0 f t.ordered old.0) ]),
    λ c. elim c [
      | inl e ↦ subst (λ (y : ExactCrease). Contains (values n) y) (sym e) (value_at n k x on (here m n x k u))
      | inr d ↦ (
          let at = found m f t.ordered d in
          elim (at_or_not k at.0) [
            | inl a ↦ absurd (All-contains (λ (y : ExactCrease). ¬ Overlap y.seg x.seg) (values m) f free d
                (overlap_at f.seg x.seg at.0 (t.held f d).segment h.segment (t.placed at.0 f at.1) (subst (λ (y : Place). IsPlaceOf x.seg y) a.1 p)))
            | inr a ↦ value_at n at.0 f on (u at.0 ∙ ap (λ b. cond b (Some x) (get place_cmp m at.0)) a.0 ∙ at.1)
          ]
          )
    ],
  )

  pub put_index : IsIndex n.entries
  put_index = record {
    ordered = on;
    placed = λ q f e. elim (written_at m n x k u q f e) [
      | inl a ↦ subst (λ (y : Place). IsPlaceOf f.seg y) a.0 (subst (λ (y : ExactCrease). IsPlaceOf y.seg k) (sym a.1) p)
      | inr old ↦ t.placed q f old.0
    ];
    held = more_are_held x (values m) (values n) t.held h (λ f. (put_members f).0);
    apart = more_are_apart x (values m) (values n) t.apart free (λ f. (put_members f).0);
  }

-- after one took a colour
module _ (m n : BTreeMap Place ExactCrease) (x : ExactCrease) (c : Colour) (k : Place) (t : IsIndex m.entries) (on : IsOrdered place_cmp n) (p : IsPlaceOf x.seg k) (h : Contains (values m) x)
    (u : (q : Place) → get place_cmp n q ≡ cond (is_at (place_cmp k) q) (Some (coloured_as x c)) (get place_cmp m q)) where
  pub recoloured_members : (f : ExactCrease) → Contains (values n) f ↔ ((f ≡ coloured_as x c) ⊎ (Contains (values m) f × (f ≢ x)))
  recoloured_members f = (
    λ d. (
        let at = found n f on d in
        elim (written_at m n (coloured_as x c) k u at.0 f at.1) [
          | inl a ↦ inl a.1
          | inr old ↦ inr (value_at m at.0 f t.ordered old.0, λ e. old.1 (one_place x.seg k at.0 (t.held x h).segment p (subst (λ (g : ExactCrease). IsPlaceOf g.seg at.0) e (t.placed at.0 f old.0))))
        ]
        ),
    λ d. elim d [
      | inl e ↦ subst (λ (g : ExactCrease). Contains (values n) g) (sym e) (value_at n k (coloured_as x c) on (here m n (coloured_as x c) k u))
      | inr o ↦ (
          let at = found m f t.ordered o.0 in
          elim (at_or_not k at.0) [
            | inl a ↦ absurd (o.1 (some_same (get place_cmp m at.0) f x at.1 (subst (λ (q : Place). get place_cmp m q ≡ Some x) a.1 (found_at m k x t p h))))
            | inr a ↦ value_at n at.0 f on (u at.0 ∙ ap (λ b. cond b (Some (coloured_as x c)) (get place_cmp m at.0)) a.0 ∙ at.1)
          ]
          )
    ],
  )

  pub recoloured_index : IsIndex n.entries
  recoloured_index = record {
    ordered = on;
    placed = λ q f e. elim (written_at m n (coloured_as x c) k u q f e) [
      | inl a ↦ subst (λ (z : Place). IsPlaceOf f.seg z) a.0 (subst (λ (g : ExactCrease). IsPlaceOf g.seg k) (sym a.1) p)
      | inr old ↦ t.placed q f old.0
    ];
    held = recoloured_are_held x c (values m) (values n) t.held h (λ f. (recoloured_members f).0);
    apart = recoloured_are_apart x c (values m) (values n) t.apart h (λ f. (recoloured_members f).0);
  }
