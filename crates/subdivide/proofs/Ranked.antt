-- The places of points among the vertices, as the loops of ranks.rt leave them.
use Rattle.std.proofs.Common.{◌≡◌, ◌≢◌, ℕ, ◌+◌, ◌-◌, ◌<◌, ◌≤◌, Bool, false, List, [], ◌∷◌, ◌++◌, length, get_or, set, refl, sym, ap, subst, ◌∙◌, ◌⊎◌, inl, inr, arith}
use Rattle.std.specs.Prelude.{Contains, slice_get, Some}
use Rattle.std.specs.List.Sorted.{IsSortedBy, IsPermutation}
use Rattle.std.specs.declared.cmp.Ordering.{Ordering}
use Rattle.std.specs.declared.cmp.Ordering.TheVariants as o
use Rattle.std.specs.Ordering.{is_lt, ordering_reverse}
use Rattle.std.specs.Cmp.{IsStrictWeakOrder}
use Rattle.std.specs.Fn.{Called, ComparesAs}
use Rattle.std.proofs.lemmas.Bool.{cases_lt, cases_eq, false≢true}
use Rattle.std.proofs.lemmas.Fn.{always_returns_same}
use Rattle.std.proofs.lemmas.List.{get_or-set_same, get_or-set_other, get_or_append_left, length_push, get_or_push}
use Rattle.std.proofs.lemmas.List.Elements.{All-nil, All-push, All-contains, Contains-get_or, Contains-append_left, Contains-push, Contains-push_cases}
use Rattle.std.proofs.lemmas.List.MinMax.{ranks_by}
use Rattle.std.proofs.lemmas.List.Quantifiers.{all_pairs_push}
use Rattle.std.proofs.lemmas.List.Sorted.{sorted_far, Contains-permutation, All-permutation}
use Rattle.std.proofs.lemmas.Option.{slice_get_within, slice_get-get_or, slice_get_read, get_or_from_slice_get, same_Some}
use Rattle.std.proofs.Math.ListN.{length-set}
use denote.Ref.{Bor}
use denote.Param.Members.{Mut}
use Rattle.exact.specs.Plane.{ExactPoint}
use Rattle.chains.proofs.callers.Elements.{has_none}
use Rattle.chains.specs.Chains.{Ascends}
use Rattle.plane.specs.Order.{point_cmp}
use Rattle.plane.proofs.callers.Orders.{point_exact, point_total}
use Rattle.subdivide.specs.Ranks.{IsNumbered, AreNumbered, AreOrdered, AreRanked, IsEndedBy}
use Rattle.subdivide.specs.declared.ranks.Numbered.{Numbered}
use Rattle.subdivide.proofs.callers.Gets.{has_at}

-- none of the points, with their numbers
pub none_numbered : (points : List ExactPoint) → AreNumbered points 0 []
none_numbered points = record { each = All-nil (IsNumbered points); all = λ k h. absurd (omega (arith, h)) }

-- one point more
pub one_numbered : (points : List ExactPoint) (n m : ℕ) (at : ExactPoint) (old new : List Numbered) → slice_get points n ≡ Some at → m ≡ n → AreNumbered points n old
    → new ≡ old ++ (record { at = at; number = m }) ∷ [] → AreNumbered points (n + 1) new
one_numbered points n m at old new s q a e = subst (AreNumbered points (n + 1)) (sym e) (record {
  each = All-push (IsNumbered points) old p a.each (ap (slice_get points) q ∙ s);
  all = λ k h. elim (cases_lt k n) [
    | inl l ↦ (let r = a.all k l in (r.0, Contains-append_left old (p ∷ []) r.0 r.1, r.2))
    | inr g ↦ (p, Contains-push old p, omega (arith, h, g, q))
  ];
})
  where
    p : Numbered
    p = record { at = at; number = m }

-- all of them
pub all_numbered : (points : List ExactPoint) (n : ℕ) (list : List Numbered) → length points ≤ n → AreNumbered points n list → AreNumbered points (length points) list
all_numbered points n list h a = record { each = a.each; all = λ k l. a.all k (omega (arith, h, l)) }

-- another order
pub numbered_moved : (points : List ExactPoint) (n : ℕ) (old new : List Numbered) → IsPermutation old new → AreNumbered points n old → AreNumbered points n new
numbered_moved points n old new p a = record {
  each = All-permutation (IsNumbered points) old new p a.each;
  all = λ k h. (let q = a.all k h in (q.0, Contains-permutation old new q.0 p q.1, q.2));
}

abbrev pub is_less : Numbered → Numbered → Bool
is_less p q = is_lt (point_cmp p.at q.at)

weak : IsStrictWeakOrder is_less
weak = ranks_by point_total (λ (p : Numbered). p.at)

-- what a sort by the points leaves
pub sorted_numbered : {F : Type 0} {g : Mut F (Bor Numbered × (Bor Numbered × Unit {0})) Ordering} {f : F} (list : List Numbered) → ((lt : Numbered → Numbered → Bool) → IsStrictWeakOrder lt → ComparesAs g lt f → IsSortedBy lt list)
    → ((a : Bor Numbered × (Bor Numbered × Unit {0})) (r : Ordering) (f' : F) → Called g f a r f' → (r ≡ point_cmp a.0.now.at a.1.0.now.at) × (f' ≡ f)) → IsSortedBy is_less list
sorted_numbered {g = g} {f = f} list up h = up is_less weak
    (always_returns_same g (λ a r. is_lt r ≡ is_less a.0.now a.1.0.now) f (λ a r f' k. (ap is_lt (h a r f' k).0, (h a r f' k).1)))

-- the first n of the list are ranked
pub record AreRankedTo (points : List ExactPoint) (list : List Numbered) (n : ℕ) (vertices : List ExactPoint) (ranks : List ℕ) : Type 0 where
  pub ascends : Ascends point_cmp vertices
  pub within : (v : ExactPoint) → Contains vertices v → Contains points v
  pub many : length ranks ≡ length points
  pub above : (v : ExactPoint) → Contains vertices v → (i : ℕ) (p : Numbered) → n ≤ i → slice_get list i ≡ Some p → is_lt (point_cmp p.at v) ≡ false
  pub each : (i : ℕ) (p : Numbered) (rank : ℕ) → i < n → slice_get list i ≡ Some p → slice_get ranks p.number ≡ Some rank → slice_get vertices rank ≡ Some p.at

-- none of the list
pub none_ranked : (points : List ExactPoint) (list : List Numbered) (ranks : List ℕ) → length ranks ≡ length points → AreRankedTo points list 0 [] ranks
none_ranked points list ranks e = record {
  ascends = λ i j d l h. absurd (omega (arith, h));
  within = λ v c. absurd (has_none v c);
  many = e;
  above = λ v c. absurd (has_none v c);
  each = λ i p rank h. absurd (omega (arith, h));
}

-- what stands in a list stands there with more behind it
get_push : {X : Type 0} (xs : List X) (y x : X) (i : ℕ) → slice_get xs i ≡ Some x → slice_get (xs ++ y ∷ []) i ≡ Some x
get_push xs y x i e = let l = slice_get_within xs i x e in
    slice_get_read (xs ++ y ∷ []) (length (xs ++ y ∷ [])) i x refl (longer xs y i l) (sym (get_or_append_left xs (y ∷ []) x i l ∙ get_or_from_slice_get xs i x x e))
  where
    longer : {X : Type 0} (xs : List X) (y : X) (i : ℕ) → i < length xs → i < length (xs ++ y ∷ [])
    longer xs y i l = (let e = length_push xs y in omega (arith, l, e))

get_contained : {X : Type 0} (xs : List X) (x : X) (c : Contains xs x) → slice_get xs c.0 ≡ Some x
get_contained xs x c = slice_get_read xs (length xs) c.0 x refl c.1 (sym c.2)

-- a list that ends in x keeps what stood before it, and has no more than x besides
kept : (x : ExactPoint) (old new : List ExactPoint) → IsEndedBy x old new → (v : ExactPoint) (i : ℕ) → slice_get old i ≡ Some v → slice_get new i ≡ Some v
kept x old new s v i e = elim s.is [
  | inl q ↦ subst (λ z. slice_get z i ≡ Some v) (sym q) e
  | inr q ↦ subst (λ z. slice_get z i ≡ Some v) (sym q.0) (get_push old x v i e)
]

one_of : (x : ExactPoint) (old new : List ExactPoint) → IsEndedBy x old new → (v : ExactPoint) → Contains new v → Contains old v ⊎ (x ≡ v)
one_of x old new s v c = elim s.is [
  | inl q ↦ inl (subst (λ z. Contains z v) q c)
  | inr q ↦ Contains-push_cases old x v (subst (λ z. Contains z v) q.0 c)
]

-- not less and not equal is greater
greater : (p q : ExactPoint) → is_lt (point_cmp q p) ≡ false → p ≢ q → point_cmp p q ≡ o.Less
greater p q h n = by (point_cmp q p) refl
  where
    by : (r : Ordering) → point_cmp q p ≡ r → point_cmp p q ≡ o.Less
    by o.Less e = absurd (false≢true (sym h ∙ ap is_lt e))
    by o.Equal e = absurd (n (sym (point_exact q p e)))
    by o.Greater e = point_total.antisymm p q ∙ ap ordering_reverse e

-- all of an ascending list are less than what they are not greater than, and does not stand at the end
all_less : (x : ExactPoint) (vs : List ExactPoint) → Ascends point_cmp vs → ((v : ExactPoint) → Contains vs v → is_lt (point_cmp x v) ≡ false) → slice_get vs (length vs - 1) ≢ Some x
    → (k : ℕ) (d : ExactPoint) → k < length vs → point_cmp (get_or vs k d) x ≡ o.Less
all_less x vs up h n k d l = elim (cases_lt (k + 1) (length vs)) [
  | inl b ↦ point_total.trans (get_or vs k d) last x (up k (length vs - 1) d (omega (arith, b)) (omega (arith, b))) last_less
  | inr b ↦ subst (λ i. point_cmp (get_or vs i d) x ≡ o.Less) (same k l b) last_less
]
  where
    last : ExactPoint
    last = get_or vs (length vs - 1) d

    there : length vs - 1 < length vs
    there = omega (arith, l)

    last_less : point_cmp last x ≡ o.Less
    last_less = greater last x (h last (Contains-get_or vs (length vs - 1) d there)) (λ e. n (slice_get-get_or vs (length vs - 1) d there ∙ ap (λ z. Some z) e))

    same : (k : ℕ) → k < length vs → length vs ≤ k + 1 → length vs - 1 ≡ k
    same k l b = omega (arith, l, b)

ascends_still : (x : ExactPoint) (old new : List ExactPoint) → IsEndedBy x old new → Ascends point_cmp old → ((v : ExactPoint) → Contains old v → is_lt (point_cmp x v) ≡ false) → Ascends point_cmp new
ascends_still x old new s up h = elim s.is [
  | inl q ↦ subst (Ascends point_cmp) (sym q) up
  | inr q ↦ subst (Ascends point_cmp) (sym q.0) (all_pairs_push (λ p r. point_cmp p r ≡ o.Less) old x up (all_less x old up h q.1))
]

-- one point by its number
one_point : (points : List ExactPoint) (p q : Numbered) → IsNumbered points p → IsNumbered points q → q.number ≡ p.number → p.at ≡ q.at
one_point points p q a b e = same_Some p.at q.at (sym a ∙ ap (slice_get points) (sym e) ∙ b)

-- one of the list more
pub one_ranked : (points : List ExactPoint) (list : List Numbered) (n : ℕ) (p : Numbered) (old new : List ExactPoint) (ranks : List ℕ) (rank : ℕ) → AreOrdered points list → slice_get list n ≡ Some p
    → IsEndedBy p.at old new → rank ≡ length new - 1 → AreRankedTo points list n old ranks → AreRankedTo points list (n + 1) new (set ranks p.number rank)
one_ranked points list n p old new ranks rank a s w e r = record {
  ascends = ascends_still p.at old new w r.ascends (λ v c. r.above v c n p (omega arith) s);
  within = λ v c. elim (one_of p.at old new w v c) [
    | inl k ↦ r.within v k
    | inr k ↦ subst (Contains points) k (has_at points p.number p.at numbered)
  ];
  many = length-set ranks p.number rank ∙ r.many;
  above = λ v c i q h t. elim (one_of p.at old new w v c) [
    | inl k ↦ r.above v k i q (omega (arith, h)) t
    | inr k ↦ subst (λ z. is_lt (point_cmp q.at z) ≡ false) k (later i q h t)
  ];
  each = λ i q k h t g. elim (cases_eq q.number p.number) [
    | inl f ↦ subst (λ z. slice_get new z ≡ Some q.at) (written q k f g) (w.ends ∙ ap (λ z. Some z) (one_point points p q numbered (All-contains (IsNumbered points) list q a.numbered.each (has_at list i q t)) f))
    | inr f ↦ elim (cases_lt i n) [
      | inl b ↦ kept p.at old new w q.at k (r.each i q k b t (unwritten q k f g))
      | inr b ↦ absurd (f (ap (λ (z : Numbered). z.number) (same_Some q p (sym t ∙ ap (slice_get list) (equal i h b) ∙ s))))
    ]
  ];
}
  where
    numbered : IsNumbered points p
    numbered = All-contains (IsNumbered points) list p a.numbered.each (has_at list n p s)

    equal : (i : ℕ) → i < n + 1 → n ≤ i → i ≡ n
    equal i h b = omega (arith, h, b)

    later : (i : ℕ) (q : Numbered) → n + 1 ≤ i → slice_get list i ≡ Some q → is_lt (point_cmp q.at p.at) ≡ false
    later i q h t = subst (λ z. is_less z p ≡ false) (get_or_from_slice_get list i q p t)
        (subst (λ z. is_less (get_or list i p) z ≡ false) (get_or_from_slice_get list n p p s) (sorted_far is_less weak list a.ordered n i p (omega (arith, h)) (slice_get_within list i q t)))

    written : (q : Numbered) (k : ℕ) → q.number ≡ p.number → slice_get (set ranks p.number rank) q.number ≡ Some k → length new - 1 ≡ k
    written q k f g = sym e ∙ sym (get_or-set_same ranks p.number rank k (inside q k f g)) ∙ get_or_from_slice_get (set ranks p.number rank) p.number k k (ap (slice_get (set ranks p.number rank)) (sym f) ∙ g)
      where
        inside : (q : Numbered) (k : ℕ) → q.number ≡ p.number → slice_get (set ranks p.number rank) q.number ≡ Some k → p.number < length ranks
        inside q k f g = (let l = slice_get_within (set ranks p.number rank) q.number k g in let m = length-set ranks p.number rank in omega (arith, l, m, f))

    unwritten : (q : Numbered) (k : ℕ) → q.number ≢ p.number → slice_get (set ranks p.number rank) q.number ≡ Some k → slice_get ranks q.number ≡ Some k
    unwritten q k f g = slice_get_read ranks (length ranks) q.number k refl (inside q k g) (sym (sym (get_or-set_other ranks p.number q.number rank k f) ∙ get_or_from_slice_get (set ranks p.number rank) q.number k k g))
      where
        inside : (q : Numbered) (k : ℕ) → slice_get (set ranks p.number rank) q.number ≡ Some k → q.number < length ranks
        inside q k g = (let l = slice_get_within (set ranks p.number rank) q.number k g in let m = length-set ranks p.number rank in omega (arith, l, m))

-- the whole list
pub all_ranked : (points : List ExactPoint) (list : List Numbered) (n : ℕ) (vertices : List ExactPoint) (ranks : List ℕ) → AreOrdered points list → length list ≤ n → AreRankedTo points list n vertices ranks → AreRanked points vertices ranks
all_ranked points list n vertices ranks a h r = record {
  ascends = r.ascends;
  within = r.within;
  many = r.many;
  each = λ k rank v e g. ranked k rank v e g (a.numbered.all k (slice_get_within points k v e));
}
  where
    ranked : (k rank : ℕ) (v : ExactPoint) → slice_get points k ≡ Some v → slice_get ranks k ≡ Some rank → (p : Numbered) × Contains list p × (p.number ≡ k) → slice_get vertices rank ≡ Some v
    ranked k rank v e g q =
        let t = get_contained list q.0 q.1 in
        let numbered = All-contains (IsNumbered points) list q.0 a.numbered.each q.1 in
        r.each q.1.0 q.0 rank (let l = q.1.1 in omega (arith, l, h)) t (ap (slice_get ranks) q.2 ∙ g) ∙ sym numbered ∙ ap (slice_get points) q.2 ∙ e

-- the number of a point of the list is within the ranks
pub number_within : (points : List ExactPoint) (list : List Numbered) (n : ℕ) (p : Numbered) (vertices : List ExactPoint) (ranks : List ℕ) → AreOrdered points list → slice_get list n ≡ Some p → AreRankedTo points list n vertices ranks → p.number < length ranks
number_within points list n p vertices ranks a s r =
    let l = slice_get_within points p.number p.at (All-contains (IsNumbered points) list p a.numbered.each (has_at list n p s)) in let m = r.many in omega (arith, l, m)

-- a point put behind a list that ends in another
pub ended_push : (x : ExactPoint) (old new : List ExactPoint) → slice_get old (length old - 1) ≢ Some x → new ≡ old ++ x ∷ [] → IsEndedBy x old new
ended_push x old new n e = record { ends = subst (λ z. slice_get z (length z - 1) ≡ Some x) (sym e) (pushed old); is = inr (e, n) }
  where
    pushed : (xs : List ExactPoint) → slice_get (xs ++ x ∷ []) (length (xs ++ x ∷ []) - 1) ≡ Some x
    pushed xs = subst (λ i. slice_get (xs ++ x ∷ []) i ≡ Some x) (sym (long xs)) (at xs)
      where
        long : (xs : List ExactPoint) → length (xs ++ x ∷ []) - 1 ≡ length xs
        long xs = (let l = length_push xs x in omega (arith, l))

        at : (xs : List ExactPoint) → slice_get (xs ++ x ∷ []) (length xs) ≡ Some x
        at xs = slice_get_read (xs ++ x ∷ []) (length (xs ++ x ∷ [])) (length xs) x refl (let l = length_push xs x in omega (arith, l)) (sym (get_or_push xs x x (length xs) refl))
