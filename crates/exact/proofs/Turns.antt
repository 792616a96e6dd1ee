-- The turns of the sixteen directions, by one test of all pairs.
use Rattle.std.proofs.Common.{◌≡◌, ℕ, zero, suc, ◌+◌, ◌-◌, ◌%◌, ◌<◌, ◌≤◌, Bool, true, false, cond, eqb, ltb, refl, sym, ap, ◌∙◌, inl, inr, arith}
use Rattle.std.specs.Prelude.{ℤ, pos, neg_ℤ}
use Rattle.std.proofs.lemmas.Bool.{cases_order, false≢true}
use Rattle.std.proofs.lemmas.Bool.Decides.{nat_tests}
use Rattle.std.specs.declared.cmp.Ordering.{Ordering}
use Rattle.std.specs.declared.cmp.Ordering.TheVariants as o
use Rattle.exact.specs.Number.{Positive}
use Rattle.exact.specs.Order.{root_cmp}
use Rattle.exact.specs.Plane.{vector, turn, TurnsByAngle}
use Rattle.exact.proofs.Root.{side}
use Rattle.exact.proofs.Order.{root_above, root_below, root_zero}

abbrev pub all_below : ℕ → (ℕ → Bool) → Bool
all_below zero f = true
all_below (suc n) f = cond (f n) (all_below n f) false

first : (a b : Bool) → cond a b false ≡ true → a ≡ true
first true b e = refl
first false b e = absurd (cc)

second : (a b : Bool) → cond a b false ≡ true → b ≡ true
second true b e = e
second false b e = absurd (cc)

pub all_below_at : (n : ℕ) (f : ℕ → Bool) → all_below n f ≡ true → (k : ℕ) → k < n → f k ≡ true
all_below_at zero f e k h = absurd (omega arith)
all_below_at (suc n) f e k h = elim (cases_order k n) [
  | inl q ↦ ap f q ∙ first (f n) (all_below n f) e
  | inr r ↦ elim r [ inl l ↦ all_below_at n f (second (f n) (all_below n f) e) k l | inr g ↦ absurd (omega arith) ]
]

abbrev is_above : Ordering → Bool
is_above o.Less = false
is_above o.Equal = false
is_above o.Greater = true

abbrev is_none : Ordering → Bool
is_none o.Less = false
is_none o.Equal = true
is_none o.Greater = false

abbrev is_below : Ordering → Bool
is_below o.Less = true
is_below o.Equal = false
is_below o.Greater = false

abbrev turn_cmp : ℕ → ℕ → Ordering
turn_cmp i j = root_cmp (turn (vector i) (vector j)).a (turn (vector i) (vector j)).b

abbrev test : ℕ → ℕ → Bool
test i j = cond (eqb ((j + 16 - i) % 8) 0) (is_none (turn_cmp i j)) (cond (ltb ((j + 16 - i) % 16) 8) (is_above (turn_cmp i j)) (is_below (turn_cmp i j)))

tested : all_below 16 (λ i. all_below 16 (λ j. test i j)) ≡ true
tested = refl

none_of : (a b : ℤ) → is_none (root_cmp a b) ≡ true → (a ≡ pos 0) × (b ≡ pos 0)
none_of a b e = elim (side a b) [
  | inl h ↦ absurd (false≢true (sym (ap is_none (root_above a b h)) ∙ e))
  | inr k ↦ elim k [ inl z ↦ z | inr h ↦ absurd (false≢true (sym (ap is_none (root_below a b h)) ∙ e)) ]
]

above_of : (a b : ℤ) → is_above (root_cmp a b) ≡ true → Positive a b
above_of a b e = elim (side a b) [
  | inl h ↦ h
  | inr k ↦ elim k [ inl z ↦ absurd (false≢true (sym (ap is_above (root_zero a b z.0 z.1)) ∙ e)) | inr h ↦ absurd (false≢true (sym (ap is_above (root_below a b h)) ∙ e)) ]
]

below_of : (a b : ℤ) → is_below (root_cmp a b) ≡ true → Positive (neg_ℤ a) (neg_ℤ b)
below_of a b e = elim (side a b) [
  | inl h ↦ absurd (false≢true (sym (ap is_below (root_above a b h)) ∙ e))
  | inr k ↦ elim k [ inl z ↦ absurd (false≢true (sym (ap is_below (root_zero a b z.0 z.1)) ∙ e)) | inr h ↦ h ]
]

when_parallel : (m n : ℕ) (x y z : Bool) → m ≡ 0 → cond (eqb m 0) x (cond (ltb n 8) y z) ≡ true → x ≡ true
when_parallel m n x y z e t = grind (arith, nat_tests)

when_left : (m n : ℕ) (x y z : Bool) → (m ≡ 0 → ⊥) → n < 8 → cond (eqb m 0) x (cond (ltb n 8) y z) ≡ true → y ≡ true
when_left m n x y z e l t = grind (arith, nat_tests)

when_right : (m n : ℕ) (x y z : Bool) → (m ≡ 0 → ⊥) → 8 ≤ n → cond (eqb m 0) x (cond (ltb n 8) y z) ≡ true → z ≡ true
when_right m n x y z e l t = grind (arith, nat_tests)

pub turns : (i j : ℕ) → i < 16 → j < 16 → TurnsByAngle i j
turns i j p q =
    let t : test i j ≡ true = all_below_at 16 (λ k. test i k) (all_below_at 16 (λ l. all_below 16 (λ k. test l k)) tested i p) j q in
    record {
      parallel = λ e. none_of _ _ (when_parallel ((j + 16 - i) % 8) ((j + 16 - i) % 16) _ _ _ e t);
      left = λ h k. above_of _ _ (when_left ((j + 16 - i) % 8) ((j + 16 - i) % 16) _ _ _ (λ e. omega arith) k t);
      right = λ h. below_of _ _ (when_right ((j + 16 - i) % 8) ((j + 16 - i) % 16) _ _ _ (λ e. omega arith) (omega arith) t);
    }
