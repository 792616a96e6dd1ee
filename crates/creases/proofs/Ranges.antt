-- The part of a map from places that overlaps a segment.
use Rattle.std.proofs.Common.{◌≡◌, ◌≢◌, ◌<◌, Bool, List, [], ◌∷◌, length, get_or, refl, sym, ap, subst, ◌∙◌, inl, inr, arith, true, false}
use Rattle.std.specs.Prelude.{◌↔◌, Some, None, cond, All, AllPairs, Contains, IsSome}
use Rattle.std.specs.declared.cmp.Ordering.TheVariants as o
use Rattle.std.specs.declared.ops.Bound.{Bound}
use Rattle.std.specs.declared.ops.Bound.TheVariants as bound
use Rattle.std.specs.Ordering.{eq_by_cmp, is_gt, is_lt}
use Rattle.std.specs.BTreeMap.{BTreeMap, is_at, get, values, IsOrdered}
use Rattle.std.specs.BTreeMap.Range.{entries_between, range_contains, IsInRange, IsEntryInRange}
use Rattle.std.specs.Map.{keys_of, values_of}
use Rattle.std.specs.List.{filter}
use Rattle.std.specs.List.Sorted.{IsStrictlySortedBy}
use Rattle.std.proofs.lemmas.Cmp.{upto}
use Rattle.std.proofs.lemmas.List.{get_or-map}
use Rattle.std.proofs.lemmas.List.Elements.{All-contains, Contains-get_or}
use Rattle.std.proofs.lemmas.List.Kept.{IsStrictlySortedBy-filter}
use Rattle.std.proofs.lemmas.Map.Entries.{lookup-filter-keys, length-keys_of, length-values_of}
use Rattle.std.proofs.lemmas.Map.Keys.{Less-from_sorted}
use Rattle.std.proofs.lemmas.Map.Made.{Contains-from_values_of, Contains-values_of}
use Rattle.std.proofs.lemmas.Map.Views.{Contains-from_lookup, tells_apart, range_contains-from_IsInRange}
use Rattle.exact.specs.Plane.{ExactSegment, Before, Overlap}
use Rattle.sheet.specs.Pattern.{ExactCrease}
use Rattle.plane.specs.Segments.{IsHeld}
use Rattle.creases.specs.Index.{IsIndex, OverlapBetween}
use Rattle.creases.specs.Places.{IsPlaceOf, IsEndOf, place_cmp}
use Rattle.creases.specs.Creases.{IsFree}
use Rattle.creases.specs.declared.place.Place.{Place}
use Rattle.creases.proofs.IndexChanges.{value_at, found, held_at, some_same, apart_at}
use Rattle.creases.proofs.PlaceKeys.{place_total, place_exact, tied_places, from_or_before, not_from_before, one_or_before}
use Rattle.creases.proofs.Reaching.{point_before, one_line, placed_before, overlap_from, overlap_between, none_before}
use Rattle.creases.proofs.callers.Members.{all_of}

keys_filter : (p : Place → Bool) (es : List (Place × ExactCrease)) → keys_of (filter (λ e. p e.0) es) ≡ filter p (keys_of es)
keys_filter p [] = refl
keys_filter p (e ∷ es) = by (p e.0) (keys_filter p es)
  where
    by : (b : Bool) → keys_of (filter (λ x. p x.0) es) ≡ filter p (keys_of es) → keys_of (cond b (e ∷ filter (λ x. p x.0) es) (filter (λ x. p x.0) es)) ≡ cond b (e.0 ∷ filter p (keys_of es)) (filter p (keys_of es))
    by true h = ap (λ ks. e.0 ∷ ks) h
    by false h = h

less_not_same : (a b : Place) → place_cmp a b ≡ o.Less → a ≢ b
less_not_same a b l e = (let t = tied_places a b e in cc)

-- what is found between two bounds is in the part between them
pub in_part : (m : BTreeMap Place ExactCrease) (lo hi : Bound Place) (k : Place) (f : ExactCrease) → get place_cmp m k ≡ Some f → IsInRange place_cmp lo hi k → Contains (entries_between place_cmp lo hi m.entries) (k, f)
in_part m lo hi k f g l = Contains-from_lookup {eq = eq_by_cmp place_cmp} (tells_apart place_exact) k f (entries_between place_cmp lo hi m.entries)
    (lookup-filter-keys (is_at (place_cmp k)) (range_contains place_cmp lo hi) true passes m.entries ∙ g)
  where
    passes : (q : Place) → is_at (place_cmp k) q ≡ true → range_contains place_cmp lo hi q ≡ true
    passes q a = subst (λ (x : Place). range_contains place_cmp lo hi x ≡ true) (tells_apart place_exact k q a) (range_contains-from_IsInRange place_total lo hi k l)

part_sorted : (m : BTreeMap Place ExactCrease) (lo hi : Bound Place) → IsOrdered place_cmp m → IsStrictlySortedBy place_cmp (keys_of (entries_between place_cmp lo hi m.entries))
part_sorted m lo hi om =
    subst (IsStrictlySortedBy place_cmp) (sym (keys_filter (range_contains place_cmp lo hi) m.entries)) (IsStrictlySortedBy-filter place_cmp (range_contains place_cmp lo hi) (keys_of m.entries) om)

module _ (m : BTreeMap Place ExactCrease) (s : ExactSegment) (t : IsIndex m.entries) (h : IsHeld s) (end : Place) (z : IsEndOf s end) where
  -- the creases in the part that overlaps the segment
  module _ (from : Place) (range : List (Place × ExactCrease)) (between : OverlapBetween m.entries s from end) (is : range ≡ entries_between place_cmp (bound.Included from) (bound.Excluded end) m.entries)
      (each : All (IsEntryInRange place_cmp (bound.Included from) (bound.Excluded end) m) range) where
    entry : (k : Place) (f : ExactCrease) → Contains range (k, f) → (get place_cmp m k ≡ Some f) × Overlap f.seg s
    entry k f c = (let i = All-contains (IsEntryInRange place_cmp (bound.Included from) (bound.Excluded end) m) range (k, f) each c in (i.1, (between k f i.1).0 i.0))

    pub range_members : (f : ExactCrease) → Contains (values_of range) f ↔ (Contains (values m) f × Overlap f.seg s)
    range_members f = (
      λ c. (let at = Contains-from_values_of range f c in let e = entry at.0 f at.1 in (value_at m at.0 f t.ordered e.0, e.1)),
      λ c. (
          let at = found m f t.ordered c.0 in
          Contains-values_of range at.0 f (subst (λ (es : List (Place × ExactCrease)). Contains es (at.0, f)) (sym is) (in_part m (bound.Included from) (bound.Excluded end) at.0 f at.1 ((between at.0 f at.1).1 c.1)))
          ),
    )

    follows : (x y : Place × ExactCrease) → Contains range x → Contains range y → place_cmp x.0 y.0 ≡ o.Less → Before x.1.seg.p y.1.seg.p
    follows x y c d l =
        let e = entry x.0 x.1 c in
        let g = entry y.0 y.1 d in
        let hx = held_at m x.0 x.1 t e.0 in
        let hy = held_at m y.0 y.1 t g.0 in
        let px = t.placed x.0 x.1 e.0 in
        let py = t.placed y.0 y.1 g.0 in
        point_before x.1.seg.p y.1.seg.p x.0 y.0 px.from py.from hx.from hy.from
        (one_line x.1.seg s x.0 end hx h px z e.1 ∙ sym (one_line y.1.seg s y.0 end hy h py z g.1)) l

    -- they follow one another along the line
    pub range_along : AllPairs (λ f g. Before f.seg.p g.seg.p) (values_of range)
    range_along i j d l r =
        let j_in : j < length range = omega (arith, r, length-values_of range) in
        let i_in : i < length range = omega (arith, l, j_in) in
        let e : Place × ExactCrease = (end, d) in
        let sorted = subst (λ (es : List (Place × ExactCrease)). IsStrictlySortedBy place_cmp (keys_of es)) (sym is) (part_sorted m (bound.Included from) (bound.Excluded end) t.ordered) in
        let less : place_cmp (get_or range i e).0 (get_or range j e).0 ≡ o.Less =
        subst (λ (k : Place). place_cmp k (get_or range j e).0 ≡ o.Less) (get_or-map (λ (x : Place × ExactCrease). x.0) range i e end i_in)
        (subst (λ (k : Place). place_cmp (get_or (keys_of range) i end) k ≡ o.Less) (get_or-map (λ (x : Place × ExactCrease). x.0) range j e end j_in)
        (Less-from_sorted place_cmp (keys_of range) i j end sorted l (omega (arith, j_in, length-keys_of range)))) in
        subst (λ (f : ExactCrease). Before f.seg.p (get_or (values_of range) j d).seg.p) (sym (get_or-map (λ (x : Place × ExactCrease). x.1) range i e d i_in))
        (subst (λ (g : ExactCrease). Before (get_or range i e).1.seg.p g.seg.p) (sym (get_or-map (λ (x : Place × ExactCrease). x.1) range j e d j_in))
        (follows (get_or range i e) (get_or range j e) (Contains-get_or range i e i_in) (Contains-get_or range j e j_in) less))

  -- where no crease begins before the end
  pub none_free : ((k : Place) → place_cmp k end ≡ o.Less → get place_cmp m k ≡ None) → IsFree (values m) s
  none_free none = all_of (λ (f : ExactCrease). ¬ Overlap f.seg s) (values m) (λ f c v. (
      let at = found m f t.ordered c in
      let n = none at.0 (placed_before f.seg s at.0 end (t.held f c) h (t.placed at.0 f at.1) z v) in
      let e = sym n ∙ at.1 in cc))

  -- where the last crease that begins before the end does not overlap the segment, none does
  pub last_free : (l : Place) (g : ExactCrease) → get place_cmp m l ≡ Some g → place_cmp l end ≡ o.Less → ((k : Place) → place_cmp k end ≡ o.Less → IsSome (get place_cmp m k) → is_lt (place_cmp l k) ≡ false) → ¬ Overlap g.seg s → IsFree (values m) s
  last_free l g e b last n = all_of (λ (f : ExactCrease). ¬ Overlap f.seg s) (values m) (λ f c v. (
      let at = found m f t.ordered c in
      let p = t.placed at.0 f at.1 in
      let k = t.held f c in
      let before = placed_before f.seg s at.0 end k h p z v in
      elim (one_or_before at.0 l (last at.0 before (subst IsSome (sym at.1) refl))) [
        | inl same ↦ n (subst (λ (x : ExactCrease). Overlap x.seg s) (some_same (get place_cmp m at.0) f g at.1 (subst (λ (x : Place). get place_cmp m x ≡ Some g) (sym same) e)) v)
        | inr less ↦ none_before f.seg g.seg s at.0 l end k (held_at m l g t e) h p (t.placed l g e) z less b (apart_at m at.0 l f g t at.1 e (less_not_same at.0 l less)) n v
      ]))

  module _ (place : Place) (p : IsPlaceOf s place) where
    -- what is settled before the segment's place is settled
    between_from : (from : Place) → is_gt (place_cmp from place) ≡ false → ((k : Place) (f : ExactCrease) → get place_cmp m k ≡ Some f → place_cmp k place ≡ o.Less → (is_gt (place_cmp from k) ≡ false) ↔ Overlap f.seg s) → OverlapBetween m.entries s from end
    between_from from b before k f e = (
      λ r. elim (from_or_before place k) [
        | inl n ↦ overlap_from f.seg s k place end (held_at m k f t e) h (t.placed k f e) p z n r.1
        | inr l ↦ (before k f e l).0 r.0
      ],
      λ v. (
        elim (from_or_before place k) [
          | inl n ↦ upto place_total from place k b n
          | inr l ↦ (before k f e l).1 v
        ],
        placed_before f.seg s k end (held_at m k f t e) h (t.placed k f e) z v,
      ),
    )

    itself : is_gt (place_cmp place place) ≡ false
    itself = ap is_gt (tied_places place place refl)

    -- from the segment's own place on, where no crease begins before it
    pub between_none : ((k : Place) → place_cmp k place ≡ o.Less → get place_cmp m k ≡ None) → OverlapBetween m.entries s place end
    between_none none = between_from place itself (λ k f e l. absurd (let n = sym (none k l) ∙ e in cc))

    module _ (l : Place) (g : ExactCrease) (e : get place_cmp m l ≡ Some g) (b : place_cmp l place ≡ o.Less) (last : (k : Place) → place_cmp k place ≡ o.Less → IsSome (get place_cmp m k) → is_lt (place_cmp l k) ≡ false) where
      only : (k : Place) (f : ExactCrease) → get place_cmp m k ≡ Some f → place_cmp k place ≡ o.Less → Overlap f.seg s → k ≡ l
      only k f d a v = elim (one_or_before k l (last k a (subst IsSome (sym d) refl))) [
        | inl same ↦ same
        | inr less ↦ absurd (apart_at m k l f g t d e (less_not_same k l less)
            (overlap_between f.seg g.seg s k l place end (held_at m k f t d) (held_at m l g t e) h (t.placed k f d) (t.placed l g e) p z less b v))
      ]

      there : (k : Place) (f : ExactCrease) → get place_cmp m k ≡ Some f → k ≡ l → f ≡ g
      there k f d same = some_same (get place_cmp m k) f g d (subst (λ (x : Place). get place_cmp m x ≡ Some g) (sym same) e)

      -- from the last crease before it on, where that one overlaps the segment
      pub between_last : Overlap g.seg s → OverlapBetween m.entries s l end
      between_last v = between_from l (ap is_gt b) (λ k f d a. (
        λ n. elim (one_or_before k l (last k a (subst IsSome (sym d) refl))) [
          | inl same ↦ subst (λ (x : ExactCrease). Overlap x.seg s) (sym (there k f d same)) v
          | inr less ↦ absurd (not_from_before l k n less)
        ],
        λ w. ap is_gt (tied_places l k (sym (only k f d a w))),
      ))

      -- from the segment's own place on, where the last crease before it does not overlap it
      pub between_clear : ¬ Overlap g.seg s → OverlapBetween m.entries s place end
      between_clear n = between_from place itself (λ k f d a. (
        λ i. absurd (not_from_before place k i a),
        λ w. absurd (n (subst (λ (x : ExactCrease). Overlap x.seg s) (there k f d (only k f d a w)) w)),
      ))
