-- A list that ascends still does after a crimp.
use Rattle.std.proofs.Common.{◌≡◌, ◌<◌, arith, ℕ, zero, suc, refl, subst, ap, sym, ◌∙◌, inl, inr, List, [], ◌∷◌, length, get_or, set, cond, eqb, ◌+◌}
use Rattle.std.specs.List.{remove}
use Rattle.crimp.specs.declared.entries.Entry.{Entry}
use Rattle.layers.specs.LayerOrder.{before}
use Rattle.crimp.specs.Cyclic.{In, Rises}
use Rattle.crimp.specs.Crimping.{crimped}
use Rattle.crimp.specs.Cycle.{merged, no_entry, numbers_of, crimped_at}
use Rattle.crimp.proofs.Law.{crimped_map}

pub in_remove : (ls : List ℕ) (i a : ℕ) → In (remove ls i) a → In ls a
in_remove [] zero a h = h
in_remove [] (suc i) a h = h
in_remove (l ∷ ls) zero a h = inr h
in_remove (l ∷ ls) (suc i) a (inl e) = inl e
in_remove (l ∷ ls) (suc i) a (inr h) = inr (in_remove ls i a h)

pub rises_remove : (ls : List ℕ) (i : ℕ) → Rises ls → Rises (remove ls i)
rises_remove [] zero R = R
rises_remove [] (suc i) R = R
rises_remove (l ∷ ls) zero R = R.1
rises_remove (l ∷ ls) (suc i) R = (λ a h. R.0 a (in_remove ls i a h), rises_remove ls i R.1)

set_same : (ls : List ℕ) (k d : ℕ) → set ls k (get_or ls k d) ≡ ls
set_same [] zero d = refl
set_same [] (suc k) d = refl
set_same (l ∷ ls) zero d = refl
set_same (l ∷ ls) (suc k) d = ap (λ ys. l ∷ ys) (set_same ls k d)

unfoldable pub first_of_three : ℕ → ℕ → ℕ → ℕ
first_of_three p q r = p

pub crimped_numbers_of : (ls : List ℕ) (i : ℕ) → crimped first_of_three 0 ls i ≡ remove (remove ls i) (cond (eqb (i + 1) (length ls)) 0 i)
unfolding crimped first_of_three
crimped_numbers_of ls i = ap (λ k. remove (remove k i) (cond (eqb (i + 1) (length ls)) 0 i)) (set_same ls (before (length ls) i) 0)

pub still_rises : (es : List Entry) (i : ℕ) → Rises (numbers_of es) → Rises (numbers_of (crimped_at es i))
unfolding first_of_three
still_rises es i R = subst Rises (sym (crimped_map (λ e. e.number) merged first_of_three no_entry (λ p q r. refl) es i ∙ crimped_numbers_of (numbers_of es) i)) (rises_remove (remove (numbers_of es) i) _ (rises_remove (numbers_of es) i R))

-- a list in which each entry is greater than the one before it
pub rising_from : (ls : List ℕ) → ((i : ℕ) → i + 1 < length ls → get_or ls i 0 < get_or ls (i + 1) 0) → Rises ls
rising_from [] f = tt
rising_from (l ∷ []) f = (λ a h. absurd h, tt)
rising_from (l ∷ m ∷ ls) f =
    let g : Rises (m ∷ ls) = rising_from (m ∷ ls) (λ i h. let e : i + 1 + 1 ≡ suc (i + 1) = omega arith in let k : i + 1 ≡ suc i = omega arith in
    subst (λ n. get_or (m ∷ ls) i 0 < get_or (l ∷ m ∷ ls) n 0) e (subst (λ n. get_or (l ∷ m ∷ ls) n 0 < get_or (l ∷ m ∷ ls) (i + 1 + 1) 0) k (f (i + 1) (omega arith)))) in
    let u : l < m = subst (λ n. l < get_or (l ∷ m ∷ ls) n 0) (let e : 0 + 1 ≡ 1 = omega arith in e) (f 0 (omega arith)) in
    (λ a h. elim h [ inl e ↦ omega arith | inr k ↦ let v = g.0 a k in omega arith ], g)
