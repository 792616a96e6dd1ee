-- Creases that stand: what one has of them, and that they stay so where some come or go.
use Rattle.std.proofs.Common.{◌≡◌, ◌≢◌, List, [], ◌∷◌, ◌++◌, get_or, sym, ap, subst, ◌∙◌, ◌⊎◌, inl, inr}
use Rattle.std.proofs.lemmas.List.{get_or_default}
use Rattle.std.proofs.lemmas.Bool.{cases_order}
use Rattle.std.proofs.lemmas.List.Elements.{All-contains, Contains-append_left, Contains-push, Contains-push_cases}
use Rattle.std.proofs.lemmas.List.Quantifiers.{all_pairs_push}
use Rattle.std.specs.Prelude.{◌↔◌, All, AllPairs, Contains, slice_index_or}
use Rattle.exact.specs.Plane.{Before, Overlap, SegmentBefore}
use Rattle.geometry.proofs.PointOrder.{before_not_itself}
use Rattle.sheet.specs.Pattern.{ExactCrease}
use Rattle.plane.specs.Segments.{IsHeld}
use Rattle.sheet.specs.declared.colour.Colour.{Colour}
use Rattle.creases.specs.Creases.{Ascends, AreWith, FollowOneAnother, IsFree, coloured_as}
use Rattle.creases.specs.Standing.{AreStanding}
use Rattle.creases.proofs.callers.Members.{all_of, pair_at, pairs_of, same_list}
use Rattle.creases.proofs.callers.Overlaps.{overlap_back, overlap_itself}

-- two of these creases are one, or do not overlap
pub one_or_apart : (creases : List ExactCrease) → AllPairs (λ f g. ¬ Overlap f.seg g.seg) creases → (f g : ExactCrease) → Contains creases f → Contains creases g → (f ≡ g) ⊎ (¬ Overlap f.seg g.seg)
one_or_apart creases apart f g c d = elim (cases_order c.0 d.0) [
  | inl e ↦ inl (sym c.2 ∙ get_or_default creases c.0 f g c.1 ∙ ap (λ i. slice_index_or creases i g) e ∙ d.2)
  | inr n ↦ elim n [
    | inl l ↦ inr (pair_at (λ (f : ExactCrease) (g : ExactCrease). ¬ Overlap f.seg g.seg) creases f g apart c d l)
    | inr l ↦ inr (λ v. pair_at (λ (f : ExactCrease) (g : ExactCrease). ¬ Overlap f.seg g.seg) creases g f apart d c l (overlap_back f.seg g.seg v))
  ]
]

pub apart_in : (creases : List ExactCrease) → AreStanding creases → (f g : ExactCrease) → Contains creases f → Contains creases g → f ≢ g → ¬ Overlap f.seg g.seg
apart_in creases h f g c d n = elim (one_or_apart creases h.apart f g c d) [ inl e ↦ absurd (n e) | inr clear ↦ clear ]

pub held_in : (creases : List ExactCrease) → AreStanding creases → (f : ExactCrease) → Contains creases f → IsHeld f.seg
held_in creases h f c = All-contains (λ (g : ExactCrease). IsHeld g.seg) creases f h.held c

-- a crease that overlaps none of them is none of them
pub free_not_in : (creases : List ExactCrease) (f : ExactCrease) → IsHeld f.seg → IsFree creases f.seg → ¬ Contains creases f
free_not_in creases f h n c = All-contains (λ (g : ExactCrease). ¬ Overlap g.seg f.seg) creases f n c (overlap_itself f.seg h.segment)

-- creases that stand are settled by which they are
pub one_standing : (xs ys : List ExactCrease) → AreStanding xs → AreStanding ys → ((f : ExactCrease) → Contains xs f ↔ Contains ys f) → xs ≡ ys
one_standing xs ys h k m = same_list xs ys h.ordered k.ordered (λ f. (m f).0) (λ f. (m f).1)

-- what is made of creases that are held and apart
pub standing_of : (xs : List ExactCrease) → Ascends xs → ((f : ExactCrease) → Contains xs f → IsHeld f.seg) → ((f g : ExactCrease) → Contains xs f → Contains xs g → f ≢ g → ¬ Overlap f.seg g.seg) → AreStanding xs
standing_of xs a held apart = record {
  held = all_of (λ (f : ExactCrease). IsHeld f.seg) xs held;
  ordered = a;
  apart = pairs_of (λ (f g : ExactCrease). ¬ Overlap f.seg g.seg) xs a apart;
}

-- some of them
pub some_standing : (xs ys : List ExactCrease) → AreStanding xs → Ascends ys → ((f : ExactCrease) → Contains ys f → Contains xs f) → AreStanding ys
some_standing xs ys h a m = standing_of ys a (λ f c. held_in xs h f (m f c)) (λ f g c d. apart_in xs h f g (m f c) (m g d))

-- with one more, which overlaps none of them
more_apart : (x f g : ExactCrease) (xs : List ExactCrease) → ((f g : ExactCrease) → Contains xs f → Contains xs g → f ≢ g → ¬ Overlap f.seg g.seg) → IsFree xs x.seg → ((f ≡ x) ⊎ Contains xs f) → ((g ≡ x) ⊎ Contains xs g) → f ≢ g → ¬ Overlap f.seg g.seg
more_apart x f g xs h n (inl e) (inl i) ne v = ne (e ∙ sym i)
more_apart x f g xs h n (inl e) (inr d) ne v = All-contains (λ (y : ExactCrease). ¬ Overlap y.seg x.seg) xs g n d (overlap_back x.seg g.seg (subst (λ (y : ExactCrease). Overlap y.seg g.seg) e v))
more_apart x f g xs h n (inr c) (inl i) ne v = All-contains (λ (y : ExactCrease). ¬ Overlap y.seg x.seg) xs f n c (subst (λ (y : ExactCrease). Overlap f.seg y.seg) i v)
more_apart x f g xs h n (inr c) (inr d) ne v = h f g c d ne v

pub more_are_apart : (x : ExactCrease) (xs ys : List ExactCrease) → ((f g : ExactCrease) → Contains xs f → Contains xs g → f ≢ g → ¬ Overlap f.seg g.seg) → IsFree xs x.seg → ((f : ExactCrease) → Contains ys f → (f ≡ x) ⊎ Contains xs f)
    → (f g : ExactCrease) → Contains ys f → Contains ys g → f ≢ g → ¬ Overlap f.seg g.seg
more_are_apart x xs ys h n m f g c d = more_apart x f g xs h n (m f c) (m g d)

pub more_are_held : (x : ExactCrease) (xs ys : List ExactCrease) → ((f : ExactCrease) → Contains xs f → IsHeld f.seg) → IsHeld x.seg → ((f : ExactCrease) → Contains ys f → (f ≡ x) ⊎ Contains xs f) → (f : ExactCrease) → Contains ys f → IsHeld f.seg
more_are_held x xs ys h k m f c = elim (m f c) [ inl e ↦ subst (λ (y : ExactCrease). IsHeld y.seg) (sym e) k | inr d ↦ h f d ]

pub more_standing : (x : ExactCrease) (xs ys : List ExactCrease) → AreStanding xs → IsHeld x.seg → IsFree xs x.seg → Ascends ys → ((f : ExactCrease) → Contains ys f → (f ≡ x) ⊎ Contains xs f) → AreStanding ys
more_standing x xs ys h k n a m = standing_of ys a (more_are_held x xs ys (held_in xs h) k m) (more_are_apart x xs ys (apart_in xs h) n m)

-- where one of them took a colour
recoloured_apart : (x f g : ExactCrease) (c : Colour) (xs : List ExactCrease) → ((f g : ExactCrease) → Contains xs f → Contains xs g → f ≢ g → ¬ Overlap f.seg g.seg) → Contains xs x
    → ((f ≡ coloured_as x c) ⊎ (Contains xs f × (f ≢ x))) → ((g ≡ coloured_as x c) ⊎ (Contains xs g × (g ≢ x))) → f ≢ g → ¬ Overlap f.seg g.seg
recoloured_apart x f g c xs h k (inl e) (inl i) ne v = ne (e ∙ sym i)
recoloured_apart x f g c xs h k (inl e) (inr d) ne v = h x g k d.0 (λ s. d.1 (sym s)) (subst (λ (y : ExactCrease). Overlap y.seg g.seg) e v)
recoloured_apart x f g c xs h k (inr d) (inl i) ne v = h f x d.0 k d.1 (subst (λ (y : ExactCrease). Overlap f.seg y.seg) i v)
recoloured_apart x f g c xs h k (inr d) (inr b) ne v = h f g d.0 b.0 ne v

pub recoloured_are_apart : (x : ExactCrease) (c : Colour) (xs ys : List ExactCrease) → ((f g : ExactCrease) → Contains xs f → Contains xs g → f ≢ g → ¬ Overlap f.seg g.seg) → Contains xs x
    → ((f : ExactCrease) → Contains ys f → (f ≡ coloured_as x c) ⊎ (Contains xs f × (f ≢ x))) → (f g : ExactCrease) → Contains ys f → Contains ys g → f ≢ g → ¬ Overlap f.seg g.seg
recoloured_are_apart x c xs ys h k m f g a b = recoloured_apart x f g c xs h k (m f a) (m g b)

pub recoloured_are_held : (x : ExactCrease) (c : Colour) (xs ys : List ExactCrease) → ((f : ExactCrease) → Contains xs f → IsHeld f.seg) → Contains xs x
    → ((f : ExactCrease) → Contains ys f → (f ≡ coloured_as x c) ⊎ (Contains xs f × (f ≢ x))) → (f : ExactCrease) → Contains ys f → IsHeld f.seg
recoloured_are_held x c xs ys h k m f d = elim (m f d) [ inl e ↦ subst (λ (y : ExactCrease). IsHeld y.seg) (sym e) (h x k) | inr o ↦ h f o.0 ]

pub recoloured_standing : (x : ExactCrease) (c : Colour) (xs ys : List ExactCrease) → AreStanding xs → Contains xs x → Ascends ys → ((f : ExactCrease) → Contains ys f → (f ≡ coloured_as x c) ⊎ (Contains xs f × (f ≢ x))) → AreStanding ys
recoloured_standing x c xs ys h k a m = standing_of ys a (recoloured_are_held x c xs ys (held_in xs h) k m) (recoloured_are_apart x c xs ys (apart_in xs h) k m)

-- a crease that comes after all others is put at the end
pub put_last : (x : ExactCrease) (xs ys : List ExactCrease) → AreStanding xs → AreStanding ys → All (λ f. SegmentBefore f.seg x.seg) xs → AreWith xs x ys → ys ≡ xs ++ x ∷ []
put_last x xs ys h k b m = same_list ys (xs ++ x ∷ []) k.ordered (all_pairs_push (λ (f g : ExactCrease). SegmentBefore f.seg g.seg) xs x h.ordered b)
    (λ f c. elim ((m f).0 c) [ inl e ↦ subst (Contains (xs ++ x ∷ [])) (sym e) (Contains-push xs x) | inr d ↦ Contains-append_left xs (x ∷ []) f d ])
    (λ f c. elim (Contains-push_cases xs x f c) [ inl d ↦ (m f).1 (inr d) | inr e ↦ (m f).1 (inl (sym e)) ])

-- creases that follow one another along a line are different
pub along_once : (xs : List ExactCrease) → FollowOneAnother xs → AllPairs (λ f g. f ≢ g) xs
along_once xs h = λ i j d l m e. before_not_itself (get_or xs j d).seg.p (subst (λ (f : ExactCrease). Before f.seg.p (get_or xs j d).seg.p) e (h i j d l m))
