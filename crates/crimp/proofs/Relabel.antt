-- The rules under other numbers of the sectors: the same parity, or the other one with the order upside down.
use Rattle.std.proofs.Common.{◌≡◌, ◌≢◌, ◌+◌, ◌%◌, ℕ, arith, subst, sym, ◌∙◌, inl, inr}
use Rattle.std.specs.Prelude.{ℤ, ◌+ℤ◌, ◌-ℤ◌}
use Rattle.std.proofs.lemmas.Int.{ints}
use Rattle.sheet.specs.declared.mark.Mark.{Mark}
use Rattle.sheet.specs.declared.mark.Mark.TheVariants as kind
use Rattle.crimp.specs.Rules.{Inside, Agrees, Rules}
use Rattle.crimp.proofs.Places.{between_moved, between_over}

inside_shifted : (c : ℤ) {y x z y' x' z' : ℤ} → y ≡ c +ℤ y' → x ≡ c +ℤ x' → z ≡ c +ℤ z' → Inside y x z → Inside y' x' z'
inside_shifted c e f g (inl h) = inl (omega (arith, ints), omega (arith, ints))
inside_shifted c e f g (inr h) = inr (omega (arith, ints), omega (arith, ints))

inside_turned : (c : ℤ) {y x z y' x' z' : ℤ} → y ≡ c -ℤ y' → x ≡ c -ℤ x' → z ≡ c -ℤ z' → Inside y x z → Inside y' x' z'
inside_turned c e f g (inl h) = inr (omega (arith, ints), omega (arith, ints))
inside_turned c e f g (inr h) = inl (omega (arith, ints), omega (arith, ints))

same_shifted : (c : ℤ) {y x y' x' : ℤ} → y ≡ c +ℤ y' → x ≡ c +ℤ x' → y ≡ x → y' ≡ x'
same_shifted c e f h = omega (arith, ints)

same_turned : (c : ℤ) {y x y' x' : ℤ} → y ≡ c -ℤ y' → x ≡ c -ℤ x' → y ≡ x → y' ≡ x'
same_turned c e f h = omega (arith, ints)

-- Under the first numbers the rules are to be shown; φ gives the second numbers, under which they hold.
pub record Relabelled (Here New : ℕ → Type 0) (Link Chain : ℕ → ℕ → Type 0) (mark tag : ℕ → Mark) (φ : ℕ → ℕ) : Type 0 where
  pub here : (a : ℕ) → Here a → New (φ a)
  pub link : (a b : ℕ) → Link a b → Chain (φ a) (φ b)
  pub ends : (a b : ℕ) → Link a b → Here b
  pub one : (a b : ℕ) → Here a → Here b → φ a ≡ φ b → a ≡ b
  pub marks : (a : ℕ) → Here a → mark a ≡ tag (φ a)

module _ (Here New : ℕ → Type 0) (Link Chain : ℕ → ℕ → Type 0) (x y : ℕ → ℤ) (mark tag : ℕ → Mark) (rank old : ℕ → ℕ) (φ : ℕ → ℕ)
    (M : Relabelled Here New Link Chain mark tag φ) (R : Rules New Chain y tag old) where
  module _ (c : ℤ) (ranks : (a : ℕ) → Here a → rank a ≡ old (φ a)) (parity : (a : ℕ) → Here a → a % 2 ≡ φ a % 2) (places : (a : ℕ) → Here a → x a ≡ c +ℤ y (φ a)) where
    straight_agrees : (m : Mark) (a b : ℕ) → Here a → Here b → Agrees m (φ a) (φ b) old → Agrees m a b rank
    straight_agrees kind.V a b h k g = let e = ranks a h in let f = ranks b k in let p = parity a h in (λ o. let l = g.0 (omega arith) in omega arith, λ o. let l = g.1 (omega arith) in omega arith)
    straight_agrees kind.M a b h k g = let e = ranks a h in let f = ranks b k in let p = parity a h in (λ o. let l = g.0 (omega arith) in omega arith, λ o. let l = g.1 (omega arith) in omega arith)

    pub straight : Rules Here Link x mark rank
    straight = record {
      apart = λ a b h k e. M.one a b h k (R.apart (φ a) (φ b) (M.here a h) (M.here b k) (sym (ranks a h) ∙ e ∙ ranks b k));
      agrees = λ a b l h k. straight_agrees (mark b) a b h k (subst (λ m. Agrees m (φ a) (φ b) old) (sym (M.marks b k)) (R.agrees (φ a) (φ b) (M.link a b l) (M.here a h) (M.here b k)));
      clear = λ a b e f l h k m j i g. R.clear (φ a) (φ b) (φ e) (φ f) (M.link a b l) (M.here a h) (M.here b k) (M.link e f m) (M.here e j)
          (inside_shifted c (places b k) (places e j) (places f (M.ends e f m)) i) (between_moved (ranks e j) (ranks a h) (ranks b k) g);
      nested = λ a b e f l h k m i j n s o.
          let q = R.nested (φ a) (φ b) (φ e) (φ f) (M.link a b l) (M.here a h) (M.here b k) (M.link e f m) (M.here e i) (M.here f j) (λ t. n (M.one b f k j t)) (same_shifted c (places b k) (places f j) s)
          (sym (parity b k) ∙ o ∙ parity f j) in (
            λ g. between_moved (sym (ranks f j)) (sym (ranks a h)) (sym (ranks b k)) (q.0 (between_moved (ranks e i) (ranks a h) (ranks b k) g)),
            λ g. between_moved (sym (ranks e i)) (sym (ranks a h)) (sym (ranks b k)) (q.1 (between_moved (ranks f j) (ranks a h) (ranks b k) g)),
          );
    }

  module _ (c : ℤ) (n : ℕ) (ranks : (a : ℕ) → Here a → rank a + old (φ a) ≡ n) (parity : (a : ℕ) → Here a → a % 2 ≢ φ a % 2) (places : (a : ℕ) → Here a → x a ≡ c -ℤ y (φ a)) where
    flipped_agrees : (m : Mark) (a b : ℕ) → Here a → Here b → Agrees m (φ a) (φ b) old → Agrees m a b rank
    flipped_agrees kind.V a b h k g = let e = ranks a h in let f = ranks b k in let p = parity a h in (λ o. let l = g.1 (omega arith) in omega arith, λ o. let l = g.0 (omega arith) in omega arith)
    flipped_agrees kind.M a b h k g = let e = ranks a h in let f = ranks b k in let p = parity a h in (λ o. let l = g.1 (omega arith) in omega arith, λ o. let l = g.0 (omega arith) in omega arith)

    turned : (a : ℕ) → Here a → old (φ a) + rank a ≡ n
    turned a h = let e = ranks a h in omega arith

    same_old : (a b : ℕ) → Here a → Here b → rank a ≡ rank b → old (φ a) ≡ old (φ b)
    same_old a b h k e = let f = ranks a h in let g = ranks b k in omega arith

    same_parity : (a b : ℕ) → Here a → Here b → a % 2 ≡ b % 2 → φ a % 2 ≡ φ b % 2
    same_parity a b h k e = let f = parity a h in let g = parity b k in omega arith

    pub flipped : Rules Here Link x mark rank
    flipped = record {
      apart = λ a b h k e. M.one a b h k (R.apart (φ a) (φ b) (M.here a h) (M.here b k) (same_old a b h k e));
      agrees = λ a b l h k. flipped_agrees (mark b) a b h k (subst (λ m. Agrees m (φ a) (φ b) old) (sym (M.marks b k)) (R.agrees (φ a) (φ b) (M.link a b l) (M.here a h) (M.here b k)));
      clear = λ a b e f l h k m j i g. R.clear (φ a) (φ b) (φ e) (φ f) (M.link a b l) (M.here a h) (M.here b k) (M.link e f m) (M.here e j)
          (inside_turned c (places b k) (places e j) (places f (M.ends e f m)) i) (between_over (ranks e j) (ranks a h) (ranks b k) g);
      nested = λ a b e f l h k m i j d s o.
          let q = R.nested (φ a) (φ b) (φ e) (φ f) (M.link a b l) (M.here a h) (M.here b k) (M.link e f m) (M.here e i) (M.here f j) (λ t. d (M.one b f k j t)) (same_turned c (places b k) (places f j) s)
          (same_parity b f k j o) in (
            λ g. between_over (turned f j) (turned a h) (turned b k) (q.0 (between_over (ranks e i) (ranks a h) (ranks b k) g)),
            λ g. between_over (turned e i) (turned a h) (turned b k) (q.1 (between_over (ranks f j) (ranks a h) (ranks b k) g)),
          );
    }
