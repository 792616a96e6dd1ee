-- What the functions that crimp leave.
use Rattle.std.proofs.Common.{◌≡◌, ◌<◌, ◌+◌, ℕ, arith, refl, ap, sym, ◌∙◌, eqb, eqb-true, eq-eqb, false, cond, inl, inr, List, [], ◌∷◌, length, get_or, set}
use Rattle.std.specs.List.{remove, refill}
use Rattle.std.proofs.lemmas.Bool.{cases_Bool}
use Rattle.std.proofs.lemmas.List.{length-set}
use Rattle.std.proofs.lemmas.List.Sums.{position_or_len_is}
use Rattle.crimp.specs.declared.entries.Entry.{Entry}
use Rattle.layers.specs.LayerOrder.{before, height}
use Rattle.layers.specs.Sectors.{behind}
use Rattle.crimp.specs.Crimping.{crimped}
use Rattle.crimp.specs.Cycle.{merged, no_entry, crimped_at}

refill_same : {A : Type 0} (xs ws : List A) → length ws ≡ length xs → refill (length xs) xs ws ≡ ws
refill_same [] [] e = refl
refill_same [] (w ∷ ws) e = absurd (omega arith)
refill_same (x ∷ xs) [] e = absurd (omega arith)
refill_same (x ∷ xs) (w ∷ ws) e = ap (λ ys. w ∷ ys) (refill_same xs ws (omega arith))

pub crimp_done : (xs ys zs ms all : List Entry) (i first second gone : ℕ) (one : Entry) → zs ≡ remove ys gone → ys ≡ remove (refill (length xs) xs (set ms first one)) i
    → one ≡ merged (get_or all first no_entry) (get_or all i no_entry) (get_or all second no_entry) → ms ≡ xs → all ≡ xs → first ≡ before (length xs) i → second ≡ behind (length xs) i → gone ≡ cond (eqb (i + 1) (length xs)) 0 i
    → zs ≡ crimped_at xs i
unfolding crimped
crimp_done xs ys zs ms all i first second gone one ez ey eo em ea ef es eg =
    ez ∙ ap (λ k. remove k gone) (ey ∙ ap (λ k. remove k i) (refill_same xs (set ms first one) (length-set ms first one ∙ ap length em)))
    ∙ ap (λ k. remove (remove (set k first one) i) gone) em
    ∙ ap (λ k. remove (remove (set xs first k) i) gone) (eo ∙ ap (λ k. merged (get_or k first no_entry) (get_or k i no_entry) (get_or k second no_entry)) ea)
    ∙ ap (λ k. remove (remove (set xs k (merged (get_or xs k no_entry) (get_or xs i no_entry) (get_or xs second no_entry))) i) gone) ef
    ∙ ap (λ k. remove (remove (set xs (before (length xs) i) (merged (get_or xs (before (length xs) i) no_entry) (get_or xs i no_entry) (get_or xs k no_entry))) i) gone) es
    ∙ ap (λ k. remove (remove (set xs (before (length xs) i) (merged (get_or xs (before (length xs) i) no_entry) (get_or xs i no_entry) (get_or xs (behind (length xs) i) no_entry))) i) k) eg
