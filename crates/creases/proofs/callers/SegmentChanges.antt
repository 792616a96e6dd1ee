-- The creases of a map after one of them is taken out or put in.
use Rattle.std.proofs.Common.{◌≡◌, ◌≢◌, ℕ, zero, suc, ◌<◌, List, [], ◌∷◌, length, get_or, refl, sym, ap, subst, ◌∙◌, ◌⊎◌, inl, inr, arith, true, false}
use Rattle.std.specs.Prelude.{◌↔◌, Option, Some, None, cond, All, Contains}
use Rattle.std.specs.declared.cmp.Ordering.{Ordering}
use Rattle.std.specs.declared.cmp.Ordering.TheVariants as o
use Rattle.std.specs.Ordering.{is_eq, ordering_reverse}
use Rattle.std.specs.BTreeMap.{BTreeMap, is_at, get, IsOrdered}
use Rattle.std.specs.Map.{lookup, keys_of}
use Rattle.std.specs.List.Sorted.{IsStrictlySortedBy}
use Rattle.std.proofs.lemmas.List.Elements.{All-from_recursion}
use Rattle.std.proofs.lemmas.Map.Keys.{sorted_head, sorted_tail, Less-from_sorted}
use Rattle.std.proofs.lemmas.Map.Entries.{lookup_head, lookup_tail, length-keys_of}
use Rattle.exact.specs.Plane.{ExactSegment}
use Rattle.plane.specs.Order.{segment_cmp}
use Rattle.plane.specs.Segments.{HasCanonicalEnds}
use Rattle.plane.proofs.callers.Orders.{segment_exact, segment_total, segment_less}
use Rattle.sheet.specs.Pattern.{ExactCrease}
use Rattle.sheet.specs.declared.colour.Colour.{Colour}
use Rattle.creases.specs.Creases.{Ascends}
use Rattle.creases.specs.Segments.{crease_of, creases_of}
use Rattle.creases.proofs.callers.Lookups.{colour_found}
use Rattle.creases.proofs.callers.Members.{segment_or_not, tied_segments}
use Rattle.chains.proofs.callers.Elements.{has_cases}

pub at_or_not : (s t : ExactSegment) → ((is_at (segment_cmp s) t ≡ true) × (s ≡ t)) ⊎ ((is_at (segment_cmp s) t ≡ false) × (s ≢ t))
at_or_not s t = elim (segment_or_not s t) [ inl e ↦ inl (ap is_eq (tied_segments s t e), e) | inr n ↦ inr (by (segment_cmp s t) refl n, n) ]
  where
    by : (r : Ordering) → segment_cmp s t ≡ r → s ≢ t → is_at (segment_cmp s) t ≡ false
    by o.Less e n = ap is_eq e
    by o.Equal e n = absurd (n (segment_exact s t e))
    by o.Greater e n = ap is_eq e

segment_at : (es : List (ExactSegment × Colour)) (i : ℕ) (d : ExactCrease) → get_or (keys_of es) i d.seg ≡ (get_or (creases_of es) i d).seg
segment_at [] i d = refl
segment_at (e ∷ es) zero d = refl
segment_at (e ∷ es) (suc i) d = segment_at es i d

pub as_long : (es : List (ExactSegment × Colour)) → length (creases_of es) ≡ length es
as_long [] = refl
as_long (e ∷ es) = omega (arith, as_long es)

first_less : (e : ExactSegment × Colour) (es : List (ExactSegment × Colour)) (f : ExactCrease) → IsStrictlySortedBy segment_cmp (keys_of (e ∷ es)) → Contains (creases_of es) f → segment_cmp e.0 f.seg ≡ o.Less
first_less e es f s c =
    let in_keys : c.0 < length (keys_of es) = omega (arith, c.1, as_long es, length-keys_of es) in
    subst (λ t. segment_cmp e.0 t ≡ o.Less) (segment_at es c.0 f ∙ ap (λ (g : ExactCrease). g.seg) c.2)
    (All-from_recursion (λ t. segment_cmp e.0 t ≡ o.Less) (keys_of es) (sorted_head segment_cmp e.0 (keys_of es) s) c.0 f.seg in_keys)

-- the look-up by a crease's segment finds its colour
pub found_in : (es : List (ExactSegment × Colour)) (f : ExactCrease) → IsStrictlySortedBy segment_cmp (keys_of es) → Contains (creases_of es) f → lookup (is_at (segment_cmp f.seg)) es ≡ Some f.colour
found_in [] f s c = absurd (omega (arith, c.1))
found_in (e ∷ es) f s c = elim (has_cases (crease_of e) f (creases_of es) c) [
  | inl x ↦ lookup_head (is_at (segment_cmp f.seg)) e es (ap is_eq (tied_segments f.seg e.0 (λ i. (sym x i).seg))) ∙ (λ i. Some (x i).colour)
  | inr k ↦ lookup_tail (is_at (segment_cmp f.seg)) e es (ap is_eq (segment_total.antisymm f.seg e.0 ∙ ap ordering_reverse (first_less e es f s k))) ∙ found_in es f (sorted_tail segment_cmp e.0 (keys_of es) s) k
]

-- the creases of a map ascend
pub entries_ascend : (es : List (ExactSegment × Colour)) → IsStrictlySortedBy segment_cmp (keys_of es) → All (λ f. HasCanonicalEnds f.seg) (creases_of es) → Ascends (creases_of es)
entries_ascend es s h = λ i j d l m.
    let less : segment_cmp (get_or (keys_of es) i d.seg) (get_or (keys_of es) j d.seg) ≡ o.Less = Less-from_sorted segment_cmp (keys_of es) i j d.seg s l (omega (arith, m, as_long es, length-keys_of es)) in
    (segment_less (get_or (creases_of es) i d).seg (get_or (creases_of es) j d).seg (h i d (omega (arith, l, m))) (h j d m)).0
    (subst (λ x. segment_cmp x (get_or (creases_of es) j d).seg ≡ o.Less) (segment_at es i d) (subst (λ y. segment_cmp (get_or (keys_of es) i d.seg) y ≡ o.Less) (segment_at es j d) less))

pub none_or_some : {X : Type 0} (r : Option X) (c : X) → r ≡ None → r ≡ Some c → ⊥
none_or_some r c e f = (let g = sym e ∙ f in cc)

-- after one key is taken out
pub taken_one : (m n : BTreeMap ExactSegment Colour) (s : ExactSegment) → IsOrdered segment_cmp m → IsOrdered segment_cmp n → ((q : ExactSegment) → get segment_cmp n q ≡ cond (is_at (segment_cmp s) q) None (get segment_cmp m q))
    → (f : ExactCrease) → Contains (creases_of n.entries) f ↔ (Contains (creases_of m.entries) f × (s ≢ f.seg))
taken_one m n s om on u f = elim (at_or_not s f.seg) [
  | inl a ↦ (λ c. absurd (none_or_some (get segment_cmp n f.seg) f.colour (u f.seg ∙ ap (λ b. cond b None (get segment_cmp m f.seg)) a.0) (found_in n.entries f on c)), λ c. absurd (c.1 a.1))
  | inr a ↦ (
      let same : get segment_cmp n f.seg ≡ get segment_cmp m f.seg = u f.seg ∙ ap (λ b. cond b None (get segment_cmp m f.seg)) a.0 in (
        λ c. (colour_found m.entries f.seg f.colour (sym same ∙ found_in n.entries f on c), a.1),
        λ c. colour_found n.entries f.seg f.colour (same ∙ found_in m.entries f om c.0),
      )
      )
]

-- after one key is put in
pub put_one : (m n : BTreeMap ExactSegment Colour) (x : ExactCrease) → IsOrdered segment_cmp m → IsOrdered segment_cmp n → ((q : ExactSegment) → get segment_cmp n q ≡ cond (is_at (segment_cmp x.seg) q) (Some x.colour) (get segment_cmp m q))
    → (f : ExactCrease) → Contains (creases_of n.entries) f ↔ ((x ≡ f) ⊎ (Contains (creases_of m.entries) f × (x.seg ≢ f.seg)))
put_one m n x om on u f = elim (at_or_not x.seg f.seg) [
  | inl a ↦ (
      let here : get segment_cmp n f.seg ≡ Some x.colour = u f.seg ∙ ap (λ b. cond b (Some x.colour) (get segment_cmp m f.seg)) a.0 in (
        λ c. inl (whole a.1 (some_same (sym here ∙ found_in n.entries f on c))),
        λ k. elim k [ inl e ↦ colour_found n.entries f.seg f.colour (here ∙ (λ i. Some (e i).colour)) | inr c ↦ absurd (c.1 a.1) ],
      )
      )
  | inr a ↦ (
      let same : get segment_cmp n f.seg ≡ get segment_cmp m f.seg = u f.seg ∙ ap (λ b. cond b (Some x.colour) (get segment_cmp m f.seg)) a.0 in (
        λ c. inr (colour_found m.entries f.seg f.colour (sym same ∙ found_in n.entries f on c), a.1),
        λ k. elim k [ inl e ↦ absurd (a.1 (λ i. (e i).seg)) | inr c ↦ colour_found n.entries f.seg f.colour (same ∙ found_in m.entries f om c.0) ],
      )
      )
]
  where
    some_same : Some x.colour ≡ Some f.colour → x.colour ≡ f.colour
    some_same e = cc

    whole : x.seg ≡ f.seg → x.colour ≡ f.colour → x ≡ f
    whole p q = λ i. record { seg = p i; colour = q i }
