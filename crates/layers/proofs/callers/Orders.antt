-- The height of a sector in an order, found by a loop.
use Rattle.std.proofs.Common.{◌≡◌, ◌<◌, ℕ, arith, sym, eqb, eqb-true, eq-eqb, false, inl, inr, List, length, get_or}
use Rattle.std.proofs.lemmas.Bool.{cases_Bool}
use Rattle.std.proofs.lemmas.List.Sums.{position_or_len_is}
use Rattle.layers.specs.LayerOrder.{height}

pub none_eqb : (a b : ℕ) → (a ≡ b → ⊥) → eqb a b ≡ false
none_eqb a b h = elim (cases_Bool (eqb a b)) [ inl t ↦ absurd (h (eqb-true a b t)) | inr f ↦ f ]

pub height_found : (order : List ℕ) (i a : ℕ) → i < length order → ((j : ℕ) → j < i → get_or order j 0 ≡ a → ⊥) → get_or order i 0 ≡ a → i ≡ height order a
height_found order i a h f e = sym (position_or_len_is (λ k. eqb k a) order i 0 (omega arith) (λ k l. none_eqb (get_or order k 0) a (f k l)) (λ l. eq-eqb (get_or order i 0) a e))

pub height_missing : (order : List ℕ) (n a : ℕ) → n ≡ length order → ((j : ℕ) → j < n → get_or order j 0 ≡ a → ⊥) → n ≡ height order a
height_missing order n a e f = sym (position_or_len_is (λ k. eqb k a) order n 0 (omega arith) (λ k l. none_eqb (get_or order k 0) a (f k l)) (λ l. absurd (omega arith)))
