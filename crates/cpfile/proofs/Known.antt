-- What is known of decimals stays true where one more is put in, and what is found is true.
use Rattle.std.proofs.Common.{◌≡◌, List, [], ◌∷◌, Bool, true, false, cond, refl, sym, subst, ap}
use Rattle.std.specs.Prelude.{ℤ, All, Option, Some, IfSome}
use Rattle.std.specs.Cmp.{ranked_equal, int_ranked}
use Rattle.std.specs.Ordering.{int_cmp, is_eq, match_ordering}
use Rattle.std.specs.declared.cmp.Ordering.{Ordering}
use Rattle.std.specs.declared.cmp.Ordering.TheVariants.{Less, Equal, Greater}
use Rattle.std.proofs.lemmas.List.Elements.{All-cons, All-head, All-tail}
use Rattle.std.specs.BTreeMap.{insert_entry, is_at}
use Rattle.std.specs.Map.{lookup}
use Rattle.lattice.specs.declared.near.Near.{Near}

abbrev pub Holds : (ℤ → Near → Type 0) → ℤ × Near → Type 0
Holds P e = P e.0 e.1

one_key : (x y : ℤ) → is_eq (int_cmp x y) ≡ true → x ≡ y
one_key x y e = (ranked_equal x y (int_cmp x y) (int_ranked x y (int_cmp x y) refl)).0 e

put_by : (P : ℤ → Near → Type 0) (e : ℤ × Near) (es rest : List (ℤ × Near)) (k : ℤ) (v : Near) (o : Ordering) → (o ≡ Equal → k ≡ e.0) → All (Holds P) (e ∷ es) → All (Holds P) rest → P k v
    → All (Holds P) (match_ordering o ((k, v) ∷ e ∷ es) ((e.0, v) ∷ es) (e ∷ rest))
put_by P e es rest k v Less x h r p = All-cons (Holds P) (k, v) (e ∷ es) p h
put_by P e es rest k v Equal x h r p = All-cons (Holds P) (e.0, v) es (subst (λ n. P n v) (x refl) p) (All-tail (Holds P) e es h)
put_by P e es rest k v Greater x h r p = All-cons (Holds P) e rest (All-head (Holds P) e es h) r

pub put : (P : ℤ → Near → Type 0) (es : List (ℤ × Near)) (k : ℤ) (v : Near) → All (Holds P) es → P k v → All (Holds P) (insert_entry int_cmp es k v)
put P [] k v h p = All-cons (Holds P) (k, v) [] p h
put P (e ∷ es) k v h p = put_by P e es (insert_entry int_cmp es k v) k v (int_cmp k e.0) (λ q. one_key k e.0 (ap is_eq q)) h (put P es k v (All-tail (Holds P) e es h) p) p

found_by : (P : ℤ → Near → Type 0) (e : ℤ × Near) (rest : Option Near) (k : ℤ) (b : Bool) → (b ≡ true → k ≡ e.0) → P e.0 e.1 → IfSome rest (P k) → IfSome (cond b (Some e.1) rest) (P k)
found_by P e rest k true x h r = subst (λ n. P n e.1) (sym (x refl)) h
found_by P e rest k false x h r = r

pub found : (P : ℤ → Near → Type 0) (es : List (ℤ × Near)) (k : ℤ) → All (Holds P) es → IfSome (lookup (is_at (int_cmp k)) es) (P k)
found P [] k h = tt
found P (e ∷ es) k h = found_by P e (lookup (is_at (int_cmp k)) es) k (is_eq (int_cmp k e.0)) (one_key k e.0) (All-head (Holds P) e es h) (found P es k (All-tail (Holds P) e es h))
