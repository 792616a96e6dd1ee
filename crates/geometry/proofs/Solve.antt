-- Identities of the ring, by computation: both sides are multiplied out and their monomials sorted.
use Rattle.std.proofs.Common.{◌≡◌, ℕ, Bool, true, false, cond, List, [], ◌∷◌, ltb, refl, sym, ap, ◌∙◌, get_or}
use Rattle.geometry.specs.Root.{Root, plus, times, minus, count}
use Rattle.geometry.proofs.RootRing.{plus_comm, plus_assoc, plus_zero, plus_minus, times_comm, times_assoc, times_one, dist, cancel_plus}

pub data Term : Type 0 where
  at : ℕ → Term
  none : Term
  one : Term
  add : Term → Term → Term
  mul : Term → Term → Term
  opp : Term → Term

abbrev pub value : List Root → Term → Root
value r (at i) = get_or r i (count 0)
value r none = count 0
value r one = count 1
value r (add s t) = plus (value r s) (value r t)
value r (mul s t) = times (value r s) (value r t)
value r (opp s) = minus (value r s)

-- a monomial is the ascending list of its variables
abbrev put : ℕ → List ℕ → List ℕ
put i [] = i ∷ []
put i (j ∷ m) = cond (ltb j i) (j ∷ put i m) (i ∷ j ∷ m)

abbrev join : List ℕ → List ℕ → List ℕ
join [] m = m
join (i ∷ l) m = put i (join l m)

abbrev before : List ℕ → List ℕ → Bool
before [] m = true
before (i ∷ l) [] = false
before (i ∷ l) (j ∷ m) = cond (ltb i j) true (cond (ltb j i) false (before l m))

-- a sum is the ascending list of its monomials
abbrev insert : List ℕ → List (List ℕ) → List (List ℕ)
insert m [] = m ∷ []
insert m (k ∷ p) = cond (before m k) (m ∷ k ∷ p) (k ∷ insert m p)

abbrev merge : List (List ℕ) → List (List ℕ) → List (List ℕ)
merge [] q = q
merge (m ∷ p) q = insert m (merge p q)

abbrev by_one : List ℕ → List (List ℕ) → List (List ℕ)
by_one m [] = []
by_one m (k ∷ p) = insert (join m k) (by_one m p)

abbrev product : List (List ℕ) → List (List ℕ) → List (List ℕ)
product [] q = []
product (m ∷ p) q = merge (by_one m q) (product p q)

-- what is added, and what is taken away
record Parts : Type 0 where
  plus : List (List ℕ)
  minus : List (List ℕ)

abbrev parts : Term → Parts
parts (at i) = record { plus = (i ∷ []) ∷ []; minus = [] }
parts none = record { plus = []; minus = [] }
parts one = record { plus = [] ∷ []; minus = [] }
parts (add s t) = record { plus = merge (parts s).plus (parts t).plus; minus = merge (parts s).minus (parts t).minus }
parts (mul s t) = record { plus = merge (product (parts s).plus (parts t).plus) (product (parts s).minus (parts t).minus); minus = merge (product (parts s).plus (parts t).minus) (product (parts s).minus (parts t).plus) }
parts (opp s) = record { plus = (parts s).minus; minus = (parts s).plus }

abbrev mono : List Root → List ℕ → Root
mono r [] = count 1
mono r (i ∷ m) = times (get_or r i (count 0)) (mono r m)

abbrev sum : List Root → List (List ℕ) → Root
sum r [] = count 0
sum r (m ∷ p) = plus (mono r m) (sum r p)

swap_times : (x y z : Root) → times x (times y z) ≡ times y (times x z)
swap_times x y z = sym (times_assoc x y z) ∙ ap (λ t. times t z) (times_comm x y) ∙ times_assoc y x z

pub swap_plus : (x y z : Root) → plus x (plus y z) ≡ plus y (plus x z)
swap_plus x y z = sym (plus_assoc x y z) ∙ ap (λ t. plus t z) (plus_comm x y) ∙ plus_assoc y x z

choose : {A : Type 0} (f : A → Root) (b : Bool) (x y : A) (v : Root) → f x ≡ v → f y ≡ v → f (cond b x y) ≡ v
choose f true x y v e h = e
choose f false x y v e h = h

put_is : (r : List Root) (i : ℕ) (m : List ℕ) → mono r (put i m) ≡ times (get_or r i (count 0)) (mono r m)
put_is r i [] = refl
put_is r i (j ∷ m) = choose (mono r) (ltb j i) (j ∷ put i m) (i ∷ j ∷ m) _ (ap (times (get_or r j (count 0))) (put_is r i m) ∙ swap_times _ _ _) refl

join_is : (r : List Root) (l m : List ℕ) → mono r (join l m) ≡ times (mono r l) (mono r m)
join_is r [] m = sym (times_comm (count 1) (mono r m) ∙ times_one (mono r m))
join_is r (i ∷ l) m = put_is r i (join l m) ∙ ap (times (get_or r i (count 0))) (join_is r l m) ∙ sym (times_assoc _ _ _)

insert_is : (r : List Root) (m : List ℕ) (p : List (List ℕ)) → sum r (insert m p) ≡ plus (mono r m) (sum r p)
insert_is r m [] = refl
insert_is r m (k ∷ p) = choose (sum r) (before m k) (m ∷ k ∷ p) (k ∷ insert m p) _ refl (ap (plus (mono r k)) (insert_is r m p) ∙ swap_plus _ _ _)

pub zero_plus : (x : Root) → plus (count 0) x ≡ x
zero_plus x = plus_comm (count 0) x ∙ plus_zero x

merge_is : (r : List Root) (p q : List (List ℕ)) → sum r (merge p q) ≡ plus (sum r p) (sum r q)
merge_is r [] q = sym (zero_plus (sum r q))
merge_is r (m ∷ p) q = insert_is r m (merge p q) ∙ ap (plus (mono r m)) (merge_is r p q) ∙ sym (plus_assoc _ _ _)

-- x * 0 + x ≡ x, so x * 0 is 0
pub times_zero : (x : Root) → times x (count 0) ≡ count 0
times_zero x = cancel_plus (times x (count 0)) (count 0) (times x (count 0)) (sym (dist x (count 0) (count 0)) ∙ ap (times x) (plus_zero (count 0)) ∙ sym (zero_plus _))

by_one_is : (r : List Root) (m : List ℕ) (p : List (List ℕ)) → sum r (by_one m p) ≡ times (mono r m) (sum r p)
by_one_is r m [] = sym (times_zero (mono r m))
by_one_is r m (k ∷ p) = insert_is r (join m k) (by_one m p) ∙ ap (plus (mono r (join m k))) (by_one_is r m p) ∙ ap (λ t. plus t (times (mono r m) (sum r p))) (join_is r m k) ∙ sym (dist _ _ _)

pub dist_right : (x y z : Root) → times (plus x y) z ≡ plus (times x z) (times y z)
dist_right x y z = times_comm (plus x y) z ∙ dist z x y ∙ ap (λ t. plus t (times z y)) (times_comm z x) ∙ ap (plus (times x z)) (times_comm z y)

product_is : (r : List Root) (p q : List (List ℕ)) → sum r (product p q) ≡ times (sum r p) (sum r q)
product_is r [] q = sym (times_comm (count 0) (sum r q) ∙ times_zero (sum r q))
product_is r (m ∷ p) q = merge_is r (by_one m q) (product p q) ∙ ap (plus (sum r (by_one m q))) (product_is r p q) ∙ ap (λ t. plus t (times (sum r p) (sum r q))) (by_one_is r m q) ∙ sym (dist_right _ _ _)

pub regroup : (v w n m : Root) → plus (plus v w) (plus n m) ≡ plus (plus v n) (plus w m)
regroup v w n m = plus_assoc v w (plus n m) ∙ ap (plus v) (swap_plus w n m) ∙ sym (plus_assoc v n (plus w m))

gathered : (x a b c : Root) → plus x (plus (plus a c) (plus b c)) ≡ plus (plus (plus x a) (plus b c)) c
gathered x a b c =
    ap (plus x) (plus_assoc a c (plus b c) ∙ ap (plus a) (plus_comm c (plus b c)) ∙ sym (plus_assoc a (plus b c) c))
    ∙ sym (plus_assoc x (plus a (plus b c)) c)
    ∙ ap (λ t. plus t c) (sym (plus_assoc x a (plus b c)))

product_parts : (v n p w m q : Root) → plus v n ≡ p → plus w m ≡ q → plus (times v w) (plus (times p m) (times n q)) ≡ plus (times p q) (times n m)
product_parts v n p w m q e f =
    rw (← e, ← f) (
    ap (plus (times v w)) (ap (λ t. plus t (times n (plus w m))) (dist_right v n m) ∙ ap (plus (plus (times v m) (times n m))) (dist n w m))
    ∙ gathered (times v w) (times v m) (times n w) (times n m)
    ∙ ap (λ t. plus t (times n m)) (ap (λ t. plus t (plus (times n w) (times n m))) (sym (dist v w m)) ∙ ap (plus (times v (plus w m))) (sym (dist n w m)) ∙ sym (dist_right v n (plus w m))))

opposite_parts : (v n p : Root) → plus v n ≡ p → plus (minus v) p ≡ n
opposite_parts v n p e = rw (← e) (sym (plus_assoc (minus v) v n) ∙ ap (λ t. plus t n) (plus_comm (minus v) v ∙ plus_minus v) ∙ zero_plus n)

parts_is : (r : List Root) (t : Term) → plus (value r t) (sum r (parts t).minus) ≡ sum r (parts t).plus
parts_is r (at i) = ap (λ t. plus t (count 0)) (sym (times_one (get_or r i (count 0))))
parts_is r none = plus_zero (count 0)
parts_is r one = refl
parts_is r (add s t) = ap (plus (plus (value r s) (value r t))) (merge_is r (parts s).minus (parts t).minus) ∙ regroup _ _ _ _ ∙ ap (λ x. plus x (plus (value r t) (sum r (parts t).minus))) (parts_is r s) ∙ ap (plus (sum r (parts s).plus)) (parts_is r t) ∙ sym (merge_is r (parts s).plus (parts t).plus)
parts_is r (mul s t) =
    ap (plus (times (value r s) (value r t))) (merge_is r (product (parts s).plus (parts t).minus) (product (parts s).minus (parts t).plus) ∙ ap (λ x. plus x (sum r (product (parts s).minus (parts t).plus))) (product_is r (parts s).plus (parts t).minus) ∙ ap (plus (times (sum r (parts s).plus) (sum r (parts t).minus))) (product_is r (parts s).minus (parts t).plus))
    ∙ product_parts (value r s) (sum r (parts s).minus) (sum r (parts s).plus) (value r t) (sum r (parts t).minus) (sum r (parts t).plus) (parts_is r s) (parts_is r t)
    ∙ sym (merge_is r (product (parts s).plus (parts t).plus) (product (parts s).minus (parts t).minus) ∙ ap (λ x. plus x (sum r (product (parts s).minus (parts t).minus))) (product_is r (parts s).plus (parts t).plus) ∙ ap (plus (times (sum r (parts s).plus) (sum r (parts t).plus))) (product_is r (parts s).minus (parts t).minus))
parts_is r (opp s) = opposite_parts (value r s) (sum r (parts s).minus) (sum r (parts s).plus) (parts_is r s)

-- both sides multiply out to one sum of monomials
pub solve : (r : List Root) (s t : Term) → merge (parts s).plus (parts t).minus ≡ merge (parts t).plus (parts s).minus → value r s ≡ value r t
solve r s t e = cancel_plus (value r s) (value r t) (plus (sum r (parts s).minus) (sum r (parts t).minus)) (
    sym (plus_assoc _ _ _)
    ∙ ap (λ x. plus x (sum r (parts t).minus)) (parts_is r s)
    ∙ sym (merge_is r (parts s).plus (parts t).minus)
    ∙ ap (sum r) e
    ∙ merge_is r (parts t).plus (parts s).minus
    ∙ ap (λ x. plus x (sum r (parts s).minus)) (sym (parts_is r t))
    ∙ plus_assoc _ _ _
    ∙ ap (plus (value r t)) (plus_comm _ _))
