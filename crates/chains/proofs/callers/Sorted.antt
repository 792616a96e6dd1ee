-- Each list has an ascending one with the same elements. Two ascending lists with the same elements are one, and one that is within another is no longer.
use Rattle.std.proofs.Common.{◌≡◌, ℕ, zero, suc, ◌<◌, ◌≤◌, List, [], ◌∷◌, length, get_or, refl, sym, ap, subst, ◌∙◌, ◌⊎◌, inl, inr, arith}
use Rattle.std.specs.Prelude.{Contains, AllPairs}
use Rattle.std.specs.List.{AllByRecursion}
use Rattle.std.specs.List.Sorted.{IsStrictlySortedBy}
use Rattle.std.specs.Cmp.{IsTotalOrder}
use Rattle.std.specs.declared.cmp.Ordering.{Ordering}
use Rattle.std.specs.Ordering.{ordering_reverse}
use Rattle.std.specs.declared.cmp.Ordering.TheVariants as o
use Rattle.std.proofs.lemmas.List.Elements.{Contains-get_or, Contains-append_left, Contains-append_right, Contains-append_cases, Contains-push, Contains-push_cases}
use Rattle.std.proofs.lemmas.Map.Keys.{Less-from_sorted}
use Rattle.chains.specs.Chains.{Ascends}
use Rattle.chains.proofs.callers.Neighbours.{places}
use Rattle.chains.proofs.callers.Elements.{has_none}

-- zs is ys with x, in order
record IsInserted {X : Type 0} (R : X → X → Ordering) (ys : List X) (x : X) (zs : List X) : Type 0 where
  pub sorted : IsStrictlySortedBy R zs
  pub has : Contains zs x
  pub keeps : (z : X) → Contains ys z → Contains zs z
  pub adds : (z : X) → Contains zs z → Contains ys z ⊎ (x ≡ z)
  pub above : (y : X) → R y x ≡ o.Less → AllByRecursion (λ z. R y z ≡ o.Less) ys → AllByRecursion (λ z. R y z ≡ o.Less) zs

in_tail : {X : Type 0} (y : X) (ys : List X) (z : X) → Contains ys z → Contains (y ∷ ys) z
in_tail y ys z h = Contains-append_right (y ∷ []) ys z h

at_head : {X : Type 0} (y : X) (ys : List X) → Contains (y ∷ ys) y
at_head y ys = Contains-append_left (y ∷ []) ys y (Contains-push [] y)

in_cases : {X : Type 0} (y : X) (ys : List X) (z : X) → Contains (y ∷ ys) z → (y ≡ z) ⊎ Contains ys z
in_cases y ys z h = elim (Contains-append_cases (y ∷ []) ys z h) [
  | inl k ↦ elim (Contains-push_cases [] y z k) [ inl n ↦ absurd (has_none z n) | inr e ↦ inl e ]
  | inr k ↦ inr k
]

above_all : {X : Type 0} {R : X → X → Ordering} (t : IsTotalOrder R) (x y : X) (zs : List X) → R x y ≡ o.Less → AllByRecursion (λ z. R y z ≡ o.Less) zs → AllByRecursion (λ z. R x z ≡ o.Less) zs
above_all t x y [] e h = tt
above_all t x y (z ∷ zs) e h = (t.trans x y z e h.0, above_all t x y zs e h.1)

inserted : {X : Type 0} {R : X → X → Ordering} (t : IsTotalOrder R) → ((x y : X) → R x y ≡ o.Equal → x ≡ y) → (ys : List X) → IsStrictlySortedBy R ys → (x : X) → (zs : List X) × IsInserted R ys x zs
unfolding IsStrictlySortedBy
inserted t exact [] s x = (
  x ∷ [],
  record { sorted = (tt, tt); has = at_head x []; keeps = λ z h. absurd (has_none z h); adds = λ z h. elim (in_cases x [] z h) [ inl e ↦ inr e | inr n ↦ absurd (has_none z n) ]; above = λ y e h. (e, tt) },
)
inserted {X = X} {R = R} t exact (y ∷ ys) s x = by (inserted t exact ys s.1 x) (R x y) refl
  where
    flipped : R x y ≡ o.Greater → R y x ≡ o.Less
    flipped e = t.antisymm y x ∙ ap ordering_reverse e

    by : (zs : List X) × IsInserted R ys x zs → (r : Ordering) → R x y ≡ r → (zs : List X) × IsInserted R (y ∷ ys) x zs
    by i o.Less e = (
      x ∷ y ∷ ys,
      record {
        sorted = ((e, above_all t x y ys e s.0), s);
        has = at_head x (y ∷ ys);
        keeps = λ z h. in_tail x (y ∷ ys) z h;
        adds = λ z h. elim (in_cases x (y ∷ ys) z h) [ inl q ↦ inr q | inr k ↦ inl k ];
        above = λ w q h. (q, h);
      },
    )
    by i o.Equal e = (
      y ∷ ys,
      record { sorted = s; has = subst (Contains (y ∷ ys)) (sym (exact x y e)) (at_head y ys); keeps = λ z h. h; adds = λ z h. inl h; above = λ w q h. h },
    )
    by i o.Greater e = (
      y ∷ i.0,
      record {
        sorted = (i.1.above y (flipped e) s.0, i.1.sorted);
        has = in_tail y i.0 x i.1.has;
        keeps = λ z h. elim (in_cases y ys z h) [ inl q ↦ subst (Contains (y ∷ i.0)) q (at_head y i.0) | inr k ↦ in_tail y i.0 z (i.1.keeps z k) ];
        adds = λ z h. elim (in_cases y i.0 z h) [
          | inl q ↦ inl (subst (Contains (y ∷ ys)) q (at_head y ys))
          | inr k ↦ elim (i.1.adds z k) [ inl m ↦ inl (in_tail y ys z m) | inr q ↦ inr q ]
        ];
        above = λ w q h. (h.0, i.1.above w q h.1);
      },
    )

-- zs has the elements of xs, ascending
pub record IsOrdered {X : Type 0} (R : X → X → Ordering) (xs zs : List X) : Type 0 where
  pub ascends : Ascends R zs
  pub keeps : (z : X) → Contains xs z → Contains zs z
  pub adds : (z : X) → Contains zs z → Contains xs z

sorted_of : {X : Type 0} {R : X → X → Ordering} (t : IsTotalOrder R) → ((x y : X) → R x y ≡ o.Equal → x ≡ y) → (xs : List X) → (zs : List X) × IsStrictlySortedBy R zs × ((z : X) → Contains xs z → Contains zs z) × ((z : X) → Contains zs z → Contains xs z)
unfolding IsStrictlySortedBy
sorted_of t exact [] = ([], tt, λ z h. h, λ z h. h)
sorted_of t exact (x ∷ xs) = (let r = sorted_of t exact xs in let i = inserted t exact r.0 r.1 x in (
  i.0,
  i.1.sorted,
  λ z h. elim (in_cases x xs z h) [ inl q ↦ subst (Contains i.0) q i.1.has | inr k ↦ i.1.keeps z (r.2 z k) ],
  λ z h. elim (i.1.adds z h) [ inl k ↦ in_tail x xs z (r.3 z k) | inr q ↦ subst (Contains (x ∷ xs)) q (at_head x xs) ],
))

pub ordered_of : {X : Type 0} {R : X → X → Ordering} (t : IsTotalOrder R) → ((x y : X) → R x y ≡ o.Equal → x ≡ y) → (xs : List X) → (zs : List X) × IsOrdered R xs zs
ordered_of {R = R} t exact xs = (let r = sorted_of t exact xs in (r.0, record { ascends = λ i j d h l. Less-from_sorted R r.0 i j d r.1 h l; keeps = r.2; adds = r.3 }))

-- the i-th element of an ascending list within another stands there at i or later
rank : {X : Type 0} {R : X → X → Ordering} (t : IsTotalOrder R) (xs ys : List X) → Ascends R xs → Ascends R ys → (f : (x : X) → Contains xs x → Contains ys x) → (d : X) (i : ℕ) (h : i < length xs) → i ≤ (f (get_or xs i d) (Contains-get_or xs i d h)).0
rank t xs ys up to f d zero h = omega arith
rank t xs ys up to f d (suc i) h = (let l : i < length xs = omega arith in let r = rank t xs ys up to f d i l in
    let a = f (get_or xs i d) (Contains-get_or xs i d l) in let b = f (get_or xs (suc i) d) (Contains-get_or xs (suc i) d h) in
    let p = places t ys to (get_or xs i d) (get_or xs (suc i) d) a.0 b.0 a.1 b.1 a.2 b.2 (up i (suc i) d (omega arith) h) in omega (arith, r, p))

pub no_longer : {X : Type 0} {R : X → X → Ordering} (t : IsTotalOrder R) (xs ys : List X) → Ascends R xs → Ascends R ys → ((x : X) → Contains xs x → Contains ys x) → length xs ≤ length ys
no_longer t [] ys up to f = omega arith
no_longer t (x ∷ xs) ys up to f = (let h : length xs < length (x ∷ xs) = omega arith in
    let r = rank t (x ∷ xs) ys up to f x (length xs) h in let c = f (get_or (x ∷ xs) (length xs) x) (Contains-get_or (x ∷ xs) (length xs) x h) in omega (arith, r, c.1))

after_head : {X : Type 0} (R : X → X → Type 0) (y : X) (ys : List X) (z : X) → AllPairs R (y ∷ ys) → Contains ys z → R y z
after_head R y ys z p c = subst (R y) c.2 (p 0 (suc c.0) z (omega arith) (omega (arith, c.1)))

one_head : {X : Type 0} (R : X → X → Type 0) → ((x y : X) → R x y → R y x → ⊥) → (x y : X) (xs ys : List X) → AllPairs R (x ∷ xs) → AllPairs R (y ∷ ys) → Contains (y ∷ ys) x → Contains (x ∷ xs) y → x ≡ y
one_head R apart x y xs ys p q f g = elim (in_cases y ys x f) [
  | inl e ↦ sym e
  | inr c ↦ elim (in_cases x xs y g) [ inl e ↦ e | inr d ↦ absurd (apart x y (after_head R x xs y p d) (after_head R y ys x q c)) ]
]

tail_within : {X : Type 0} (R : X → X → Type 0) → ((x y : X) → R x y → R y x → ⊥) → (x y : X) (xs ys : List X) → x ≡ y → AllPairs R (x ∷ xs) → ((z : X) → Contains (x ∷ xs) z → Contains (y ∷ ys) z) → (z : X) → Contains xs z → Contains ys z
tail_within R apart x y xs ys same p f z c = elim (in_cases y ys z (f z (in_tail x xs z c))) [
  | inl e ↦ absurd (let r : R z z = subst (λ w. R w z) (same ∙ e) (after_head R x xs z p c) in apart z z r r)
  | inr d ↦ d
]

-- by an order that has no two elements before each other, two ascending lists with the same elements are one
pub same_lists : {X : Type 0} (R : X → X → Type 0) → ((x y : X) → R x y → R y x → ⊥) → (xs ys : List X) → AllPairs R xs → AllPairs R ys → ((z : X) → Contains xs z → Contains ys z) → ((z : X) → Contains ys z → Contains xs z) → xs ≡ ys
same_lists R apart [] [] p q f g = refl
same_lists R apart [] (y ∷ ys) p q f g = absurd (has_none y (g y (at_head y ys)))
same_lists R apart (x ∷ xs) [] p q f g = absurd (has_none x (f x (at_head x xs)))
same_lists R apart (x ∷ xs) (y ∷ ys) p q f g =
    let e : x ≡ y = one_head R apart x y xs ys p q (f x (at_head x xs)) (g y (at_head y ys)) in
    let t = same_lists R apart xs ys (λ i j d l m. p (suc i) (suc j) d (omega arith) (omega arith)) (λ i j d l m. q (suc i) (suc j) d (omega arith) (omega arith))
    (tail_within R apart x y xs ys e p f) (tail_within R apart y x ys xs (sym e) q g) in
    ap (λ z. x ∷ z) t ∙ ap (λ h. h ∷ ys) e
