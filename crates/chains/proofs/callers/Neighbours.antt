-- In an ascending list the neighbours are the pairs with nothing between them, and a place is the only one of its element.
use Rattle.std.proofs.Common.{◌≡◌, ℕ, ◌+◌, ◌<◌, Bool, true, List, length, get_or, arith, refl, sym, ap, subst, ◌∙◌, inl, inr}
use Rattle.std.specs.List.{dedup}
use Rattle.std.specs.List.Sorted.{IsSorted, IsPermutation, IsStrictlySortedBy}
use Rattle.std.specs.Ordering.{eq_by_cmp, is_eq}
use Rattle.std.specs.Cmp.{IsEquivalence}
use Rattle.std.proofs.lemmas.Cmp.{eq_by_cmp_equiv}
use Rattle.std.proofs.lemmas.List.Sorted.{Contains-permutation, IsPermutation-sym}
use Rattle.std.proofs.lemmas.List.Kept.{IsStrictlySortedBy-dedup, Contains-dedup, Contains-from_dedup}
use Rattle.std.proofs.lemmas.Map.Keys.{Less-from_sorted}
use Rattle.std.specs.Prelude.{Contains}
use Rattle.std.specs.declared.cmp.Ordering.{Ordering}
use Rattle.std.specs.declared.cmp.Ordering.TheVariants as o
use Rattle.std.specs.Cmp.{IsTotalOrder, tied_itself}
use Rattle.std.proofs.lemmas.Bool.{cases_order}
use Rattle.std.proofs.lemmas.List.Elements.{Contains-get_or}
use Rattle.std.proofs.lemmas.List.{get_or_default}
use Rattle.chains.specs.Chains.{Ascends, AreNeighbours, AreNext}

not_below_itself : {X : Type 0} {R : X → X → Ordering} (t : IsTotalOrder R) (x : X) → R x x ≡ o.Less → ⊥
not_below_itself t x e = let f = tied_itself t x in cc

not_back : {X : Type 0} {R : X → X → Ordering} (t : IsTotalOrder R) (x y : X) → R x y ≡ o.Less → R y x ≡ o.Less → ⊥
not_back t x y e f = not_below_itself t x (t.trans x y x e f)

-- an element at a place, by any default
same_at : {X : Type 0} (xs : List X) (i : ℕ) (d e : X) → i < length xs → get_or xs i d ≡ get_or xs i e
same_at xs i d e h = get_or_default xs i d e h

-- elements in order stand in order
pub places : {X : Type 0} {R : X → X → Ordering} (t : IsTotalOrder R) (xs : List X) → Ascends R xs → (u v : X) (i j : ℕ) → i < length xs → j < length xs → get_or xs i u ≡ u → get_or xs j v ≡ v → R u v ≡ o.Less → i < j
places {R = R} t xs up u v i j p q a b h = elim (cases_order i j) [
  | inl e ↦ absurd (not_below_itself t u (subst (λ z. R u z ≡ o.Less) (sym b ∙ same_at xs j v u q ∙ ap (λ k. get_or xs k u) (sym e) ∙ a) h))
  | inr k ↦ elim k [
    | inl l ↦ l
    | inr g ↦ absurd (not_back t u v h (subst (λ z. R v z ≡ o.Less) (same_at xs i v u p ∙ a) (subst (λ z. R z (get_or xs i v) ≡ o.Less) b (up j i v g p))))
  ]
]

-- a place is the only one of its element
pub one_place : {X : Type 0} {R : X → X → Ordering} (t : IsTotalOrder R) (xs : List X) → Ascends R xs → (u : X) (i j : ℕ) → i < length xs → j < length xs → get_or xs i u ≡ u → get_or xs j u ≡ u → i ≡ j
one_place {R = R} t xs up u i j p q a b = elim (cases_order i j) [
  | inl e ↦ e
  | inr k ↦ elim k [
    | inl l ↦ absurd (not_below_itself t u (subst (λ z. R u z ≡ o.Less) b (subst (λ z. R z (get_or xs j u) ≡ o.Less) a (up i j u l q))))
    | inr g ↦ absurd (not_below_itself t u (subst (λ z. R u z ≡ o.Less) a (subst (λ z. R z (get_or xs i u) ≡ o.Less) b (up j i u g p))))
  ]
]

pub neighbours_next : {X : Type 0} {R : X → X → Ordering} (t : IsTotalOrder R) (xs : List X) → Ascends R xs → (u v : X) → AreNeighbours xs u v → AreNext R xs u v
neighbours_next {R = R} t xs up u v n = record {
  from = (n.place, omega (arith, n.within), n.first);
  to = (n.place + 1, n.within, n.second);
  ordered = below;
  none = λ w c l m. (let a = places t xs up u w n.place c.0 (omega (arith, n.within)) c.1 n.first c.2 l in let b = places t xs up w v c.0 (n.place + 1) c.1 n.within c.2 n.second m in omega (arith, a, b));
}
  where
    below : R u v ≡ o.Less
    below = subst (λ z. R u z ≡ o.Less) (same_at xs (n.place + 1) u v n.within ∙ n.second) (subst (λ z. R z (get_or xs (n.place + 1) u) ≡ o.Less) n.first (up n.place (n.place + 1) u (omega arith) n.within))

pub next_neighbours : {X : Type 0} {R : X → X → Ordering} (t : IsTotalOrder R) (xs : List X) → Ascends R xs → (u v : X) → AreNext R xs u v → AreNeighbours xs u v
next_neighbours {R = R} t xs up u v n =
    let i = n.from.0 in let j = n.to.0 in
    let less : i < j = places t xs up u v i j n.from.1 n.to.1 n.from.2 n.to.2 n.ordered in
    elim (cases_order j (i + 1)) [
      | inl e ↦ record { place = i; within = omega (arith, n.to.1, e); first = n.from.2; second = ap (λ k. get_or xs k v) (sym e) ∙ n.to.2 }
      | inr k ↦ elim k [
        | inl l ↦ absurd (omega (arith, less, l))
        | inr g ↦ absurd (n.none (get_or xs (i + 1) u) (Contains-get_or xs (i + 1) u (omega (arith, g, n.to.1)))
            (subst (λ z. R z (get_or xs (i + 1) u) ≡ o.Less) n.from.2 (up i (i + 1) u (omega arith) (omega (arith, g, n.to.1))))
            (subst (λ z. R (get_or xs (i + 1) u) z ≡ o.Less) (same_at xs j u v n.to.1 ∙ n.to.2) (up (i + 1) j u g n.to.1)))
      ]
    ]

from_sorted : {X : Type 0} (R : X → X → Ordering) (xs : List X) → IsStrictlySortedBy R xs → Ascends R xs
from_sorted R xs s i j d h l = Less-from_sorted R xs i j d s h l

tied_exact : {X : Type 0} {R : X → X → Ordering} {E : X → X → Bool} → ((x y : X) → E x y ≡ eq_by_cmp R x y) → ((x y : X) → R x y ≡ o.Equal → x ≡ y) → (x y : X) → E x y ≡ true → x ≡ y
tied_exact {R = R} ties exact x y e = exact x y (tells (R x y) (sym (ties x y) ∙ e))
  where
    tells : (r : Ordering) → is_eq r ≡ true → r ≡ o.Equal
    tells o.Less h = absurd (cc)
    tells o.Equal h = refl
    tells o.Greater h = absurd (cc)

-- what `sort_unstable` and then `dedup` leave
pub sorted_ascends : {X : Type 0} {R : X → X → Ordering} (t : IsTotalOrder R) {E : X → X → Bool} (ties : (x y : X) → E x y ≡ eq_by_cmp R x y) (ys zs : List X) → IsSorted R ys → zs ≡ dedup E ys → Ascends R zs
sorted_ascends {R = R} t {E} ties ys zs s e = rw e (from_sorted R (dedup E ys) (IsStrictlySortedBy-dedup t ties ys s))

pub sorted_keeps : {X : Type 0} {R : X → X → Ordering} (t : IsTotalOrder R) {E : X → X → Bool} (ties : (x y : X) → E x y ≡ eq_by_cmp R x y) (exact : (x y : X) → R x y ≡ o.Equal → x ≡ y) (xs ys zs : List X) → IsPermutation xs ys → zs ≡ dedup E ys → (x : X) → Contains xs x → Contains zs x
sorted_keeps {X = X} {R = R} t {E} ties exact xs ys zs p e x h = rw e (Contains-dedup (equivalence ties) (tied_exact ties exact) ys x (Contains-permutation xs ys x p h))
  where
    equivalence : ((x y : X) → E x y ≡ eq_by_cmp R x y) → IsEquivalence E
    equivalence ties = record {
      refl = λ x. ties x x ∙ (eq_by_cmp_equiv t).refl x;
      symm = λ x y. ties x y ∙ (eq_by_cmp_equiv t).symm x y ∙ sym (ties y x);
      congr = λ x y z h. ties x z ∙ (eq_by_cmp_equiv t).congr x y z (sym (ties x y) ∙ h) ∙ sym (ties y z);
    }

pub sorted_adds_none : {X : Type 0} (E : X → X → Bool) (xs ys zs : List X) → IsPermutation xs ys → zs ≡ dedup E ys → (x : X) → Contains zs x → Contains xs x
sorted_adds_none E xs ys zs p e x h = Contains-permutation ys xs x (IsPermutation-sym xs ys p) (Contains-from_dedup E ys x (rw e at h))
