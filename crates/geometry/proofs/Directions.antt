-- The sixteen directions: their vectors are whole, and only equal or opposite ones are parallel.
use Rattle.std.proofs.Common.{◌≡◌, ◌≢◌, ℕ, zero, suc, ◌/◌, ◌%◌, ◌<◌, Bool, true, false, cond, eqb, ltb, refl, sym, ap, ◌∙◌, ◌⊎◌, inl, inr, arith}
use Rattle.std.specs.Prelude.{ℤ, pos}
use Rattle.std.proofs.lemmas.Bool.{false≢true}
use Rattle.std.proofs.lemmas.Bool.Decides.{nat_tests}
use Rattle.std.specs.declared.cmp.Ordering.{Ordering}
use Rattle.std.specs.declared.cmp.Ordering.TheVariants as o
use Rattle.exact.specs.Number.{whole, neg}
use Rattle.exact.specs.Order.{root_cmp}
use Rattle.exact.specs.Plane.{ExactPoint, vector, quarters, first_vector}
use Rattle.exact.specs.Number.{Positive}
use Rattle.exact.proofs.Root.{side}
use Rattle.exact.proofs.Order.{root_above, root_below, root_zero}
use Rattle.geometry.proofs.RootRing.{both}
use Rattle.geometry.specs.Root.{Root, plus, times, minus, count, size}
use Rattle.geometry.specs.Gap.{num, det, Ahead, IsWhole}
use Rattle.exact.proofs.Turns.{all_below, all_below_at}

first_whole : (k : ℕ) → IsWhole (first_vector k)
first_whole zero = record { x = refl; y = refl }
first_whole (suc zero) = record { x = refl; y = refl }
first_whole (suc (suc zero)) = record { x = refl; y = refl }
first_whole (suc (suc (suc k))) = record { x = refl; y = refl }

quarters_whole : (n : ℕ) (p : ExactPoint) → IsWhole p → IsWhole (quarters n p)
quarters_whole zero p w = w
quarters_whole (suc n) p w = (let h = quarters_whole n p w in record { x = h.y; y = h.x })

pub vector_whole : (k : ℕ) → IsWhole (vector k)
vector_whole k = quarters_whole (k / 4) (first_vector (k % 4)) (first_whole (k % 4))

abbrev turns_test : ℕ → ℕ → Bool
turns_test k j = cond (eqb (k % 8) (j % 8)) true (ltb 0 (size (det (vector j) (vector k))))

turns_tested : all_below 16 (λ k. all_below 16 (λ j. turns_test k j)) ≡ true
unfolding det num plus times minus
turns_tested = refl

zero_size : size (count 0) ≡ 0
unfolding count
zero_size = refl

-- of numbers, such as the halves of directions, of which one is less than the other
pub unequal : (m n : ℕ) → (m < n) ⊎ (n < m) → m ≢ n
unequal m n (inl x) e = omega (arith, x, e)
unequal m n (inr x) e = omega (arith, x, e)

pub not_parallel : (k j : ℕ) → k < 16 → j < 16 → k % 8 ≢ j % 8 → det (vector j) (vector k) ≢ count 0
not_parallel k j p q n e =
    let t : turns_test k j ≡ true = all_below_at 16 (λ i. turns_test k i) (all_below_at 16 (λ i. all_below 16 (λ l. turns_test i l)) turns_tested k p) j q in
    told (k % 8) (j % 8) (size (det (vector j) (vector k))) n (ap size e ∙ zero_size) t
  where
    told : (a b s : ℕ) → a ≢ b → s ≡ 0 → cond (eqb a b) true (ltb 0 s) ≡ true → ⊥
    told a b s n z t = grind (arith, nat_tests)

abbrev is_up : Ordering → Bool
is_up o.Less = false
is_up o.Equal = false
is_up o.Greater = true

abbrev is_tied : Ordering → Bool
is_tied o.Less = false
is_tied o.Equal = true
is_tied o.Greater = false

abbrev ahead_test : Root → Root → Bool
ahead_test x y = cond (is_up (root_cmp x.a x.b)) true (cond (is_tied (root_cmp x.a x.b)) (is_up (root_cmp y.a y.b)) false)

abbrev right_test : ℕ → Bool
right_test k = cond (ahead_test (num (vector k).x) (num (vector k).y)) (cond (ltb k 5) true (ltb 12 k)) true

right_tested : all_below 16 right_test ≡ true
unfolding num
right_tested = refl

ahead_tested : (x y : Root) → Ahead x y → ahead_test x y ≡ true
unfolding count
ahead_tested x y h = elim h [
  | inl a ↦ ap (λ r. cond (is_up r) true (cond (is_tied r) (is_up (root_cmp y.a y.b)) false)) (root_above x.a x.b a)
  | inr a ↦ ap (λ r. cond (is_up r) true (cond (is_tied r) (is_up (root_cmp y.a y.b)) false)) (root_zero x.a x.b (ap (λ (r : Root). r.a) a.0) (ap (λ (r : Root). r.b) a.0))
      ∙ ap is_up (root_above y.a y.b a.1)
]

-- a vector that points ahead has one of eight numbers
pub right_half : (k : ℕ) → k < 16 → Ahead (num (vector k).x) (num (vector k).y) → (k < 5) ⊎ (12 < k)
right_half k p h = told k (ahead_test (num (vector k).x) (num (vector k).y)) (ahead_tested _ _ h) (all_below_at 16 right_test right_tested k p)
  where
    told : (k : ℕ) (b : Bool) → b ≡ true → cond b (cond (ltb k 5) true (ltb 12 k)) true ≡ true → (k < 5) ⊎ (12 < k)
    told k b e t = grind (arith, nat_tests)

-- what the comparison with zero tells
up_told : (a b : ℤ) → is_up (root_cmp a b) ≡ true → Positive a b
up_told a b e = elim (side a b) [
  | inl h ↦ h
  | inr k ↦ elim k [
    | inl z ↦ absurd (false≢true (sym (ap is_up (root_zero a b z.0 z.1)) ∙ e))
    | inr h ↦ absurd (false≢true (sym (ap is_up (root_below a b h)) ∙ e))
  ]
]

tied_told : (a b : ℤ) → is_tied (root_cmp a b) ≡ true → (a ≡ pos 0) × (b ≡ pos 0)
tied_told a b e = elim (side a b) [
  | inl h ↦ absurd (false≢true (sym (ap is_tied (root_above a b h)) ∙ e))
  | inr k ↦ elim k [ inl z ↦ z | inr h ↦ absurd (false≢true (sym (ap is_tied (root_below a b h)) ∙ e)) ]
]

ahead_told : (x y : Root) → ahead_test x y ≡ true → Ahead x y
unfolding count
ahead_told x y e = by (is_up (root_cmp x.a x.b)) refl (is_tied (root_cmp x.a x.b)) refl e
  where
    by : (u : Bool) → is_up (root_cmp x.a x.b) ≡ u → (t : Bool) → is_tied (root_cmp x.a x.b) ≡ t → cond u true (cond t (is_up (root_cmp y.a y.b)) false) ≡ true → Ahead x y
    by true f t g h = inl (up_told x.a x.b f)
    by false f true g h = inr ((let z = tied_told x.a x.b g in both x _ z.0 z.1), up_told y.a y.b h)
    by false f false g h = absurd (false≢true h)

abbrev half_test : ℕ → Bool
half_test k = cond (cond (ltb k 5) true (ltb 12 k)) (ahead_test (num (vector k).x) (num (vector k).y)) true

half_tested : all_below 16 half_test ≡ true
unfolding num
half_tested = refl

-- those eight vectors point ahead
pub vector_ahead : (k : ℕ) → k < 16 → (k < 5) ⊎ (12 < k) → Ahead (num (vector k).x) (num (vector k).y)
vector_ahead k p h = ahead_told _ _ (told k (ahead_test (num (vector k).x) (num (vector k).y)) h (all_below_at 16 half_test half_tested k p))
  where
    told : (k : ℕ) (b : Bool) → (k < 5) ⊎ (12 < k) → cond (cond (ltb k 5) true (ltb 12 k)) b true ≡ true → b ≡ true
    told k b h t = grind (arith, nat_tests)

-- of two of these parallel means equal
pub one_direction : (k j : ℕ) → k < 16 → j < 16 → (k < 5) ⊎ (12 < k) → (j < 5) ⊎ (12 < j) → k % 8 ≡ j % 8 → k ≡ j
one_direction k j p q (inl f) (inl g) e = omega arith
one_direction k j p q (inl f) (inr g) e = omega arith
one_direction k j p q (inr f) (inl g) e = omega arith
one_direction k j p q (inr f) (inr g) e = omega arith

-- one coordinate of each vector is 1 or -1
pub data Unit_at (v : ExactPoint) : Type 0 where
  x_up : v.x ≡ whole 1 → Unit_at v
  y_up : v.y ≡ whole 1 → Unit_at v
  x_down : v.x ≡ neg (whole 1) → Unit_at v
  y_down : v.y ≡ neg (whole 1) → Unit_at v

pub unit_at : (k : ℕ) → k < 16 → Unit_at (vector k)
unit_at zero p = Unit_at.x_up refl
unit_at (suc zero) p = Unit_at.x_up refl
unit_at (suc (suc zero)) p = Unit_at.x_up refl
unit_at (suc (suc (suc zero))) p = Unit_at.y_up refl
unit_at (suc (suc (suc (suc zero)))) p = Unit_at.y_up refl
unit_at (suc (suc (suc (suc (suc zero))))) p = Unit_at.y_up refl
unit_at (suc (suc (suc (suc (suc (suc zero)))))) p = Unit_at.x_down refl
unit_at (suc (suc (suc (suc (suc (suc (suc zero))))))) p = Unit_at.x_down refl
unit_at (suc (suc (suc (suc (suc (suc (suc (suc zero)))))))) p = Unit_at.x_down refl
unit_at (suc (suc (suc (suc (suc (suc (suc (suc (suc zero))))))))) p = Unit_at.x_down refl
unit_at (suc (suc (suc (suc (suc (suc (suc (suc (suc (suc zero)))))))))) p = Unit_at.x_down refl
unit_at (suc (suc (suc (suc (suc (suc (suc (suc (suc (suc (suc zero))))))))))) p = Unit_at.y_down refl
unit_at (suc (suc (suc (suc (suc (suc (suc (suc (suc (suc (suc (suc zero)))))))))))) p = Unit_at.y_down refl
unit_at (suc (suc (suc (suc (suc (suc (suc (suc (suc (suc (suc (suc (suc zero))))))))))))) p = Unit_at.y_down refl
unit_at (suc (suc (suc (suc (suc (suc (suc (suc (suc (suc (suc (suc (suc (suc zero)))))))))))))) p = Unit_at.x_up refl
unit_at (suc (suc (suc (suc (suc (suc (suc (suc (suc (suc (suc (suc (suc (suc (suc zero))))))))))))))) p = Unit_at.x_up refl
unit_at (suc (suc (suc (suc (suc (suc (suc (suc (suc (suc (suc (suc (suc (suc (suc (suc k)))))))))))))))) p = absurd (omega arith)
