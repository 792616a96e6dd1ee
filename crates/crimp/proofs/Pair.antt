-- Two sectors whose creases have one mark.
use Rattle.std.proofs.Common.{◌≡◌, ◌≢◌, ◌<◌, ◌+◌, ◌%◌, ℕ, arith, refl, ap, sym, ◌∙◌, inl, inr, List, [], ◌∷◌, length}
use Rattle.std.specs.Prelude.{ℤ}
use Rattle.sheet.specs.declared.mark.Mark.{Mark}
use Rattle.sheet.specs.declared.mark.Mark.TheVariants as kind
use Rattle.crimp.specs.declared.entries.Entry.{Entry}
use Rattle.crimp.specs.Rules.{Between, Agrees}
use Rattle.layers.specs.LayerOrder.{height}
use Rattle.crimp.specs.Cyclic.{In, Linked}
use Rattle.crimp.specs.Crimping.{Opposite}
use Rattle.crimp.proofs.Turned.{Turned}
use Rattle.crimp.specs.Undoing.{IsUp}
use Rattle.crimp.specs.Cycle.{numbers_of, entry_at, IsCycle, Layered}
use Rattle.crimp.proofs.Orders.{height_here, height_past}
use Rattle.crimp.proofs.Cycle.{cycle_turn, layered_turn}

no_between : (z w u : ℕ) → w < 2 → u < 2 → Between z w u → ⊥
no_between z w u h k (inl g) = omega arith
no_between z w u h k (inr g) = omega arith

agree_up : (m : Mark) (a b : ℕ) (rank : ℕ → ℕ) → IsUp a m → b % 2 ≢ a % 2 → rank a < rank b → Agrees m a b rank × Agrees m b a rank
agree_up kind.V a b rank u n l = ((λ e. l, λ e. absurd (omega arith)), (λ e. absurd (n (omega arith)), λ e. l))
agree_up kind.M a b rank u n l = ((λ e. absurd (omega arith), λ e. l), (λ e. l, λ e. absurd (n (omega arith))))

pub pair_up : (x : ℕ → ℤ) (mark : ℕ → Mark) (a b : Entry) → a.mark ≡ b.mark → IsCycle x mark (a ∷ b ∷ []) → IsUp a.number a.mark → Layered x mark (numbers_of (a ∷ b ∷ [])) (a.number ∷ b.number ∷ [])
pair_up x mark a b same I u = record {
  rules = record {
    apart = λ c d h k e. apart c d h k e;
    agrees = λ c d l h k. agrees c d l;
    clear = λ c d e f l h k m j i g. no_between _ _ _ (low c h) (low d k) g;
    nested = λ c d e f l h k m i j n s o. (λ g. absurd (no_between _ _ _ (low c h) (low d k) g), λ g. absurd (no_between _ _ _ (low c h) (low d k) g));
  };
  holds = low;
  lacks = λ c h. height_past a.number (b.number ∷ []) c (λ e. h (inl (sym e))) ∙ ap (λ n. 1 + n) (height_past b.number [] c (λ e. h (inr (inl (sym e)))));
  long = refl;
}
  where
    order : List ℕ
    order = a.number ∷ b.number ∷ []

    at_a : height order a.number ≡ 0
    at_a = height_here a.number (b.number ∷ []) a.number refl

    apart_numbers_of : a.number ≢ b.number
    apart_numbers_of e = I.distinct.0 (inl e)

    at_b : height order b.number ≡ 1
    at_b = height_past a.number (b.number ∷ []) b.number apart_numbers_of ∙ ap (λ n. 1 + n) (height_here b.number [] b.number refl)

    low : (c : ℕ) → In (numbers_of (a ∷ b ∷ [])) c → height order c < 2
    low c (inl e) = let f : height order c ≡ height order a.number = ap (height order) e in omega (arith, at_a)
    low c (inr (inl e)) = let f : height order c ≡ height order b.number = ap (height order) e in omega (arith, at_b)
    low c (inr (inr h)) = absurd h

    apart : (c d : ℕ) → In (numbers_of (a ∷ b ∷ [])) c → In (numbers_of (a ∷ b ∷ [])) d → height order c ≡ height order d → c ≡ d
    apart c d (inl e) (inl f) g = e ∙ sym f
    apart c d (inl e) (inr (inl f)) g = let m : height order c ≡ height order a.number = ap (height order) e in let n : height order d ≡ height order b.number = ap (height order) f in absurd (omega (arith, at_a, at_b))
    apart c d (inr (inl e)) (inl f) g = let m : height order c ≡ height order b.number = ap (height order) e in let n : height order d ≡ height order a.number = ap (height order) f in absurd (omega (arith, at_a, at_b))
    apart c d (inr (inl e)) (inr (inl f)) g = e ∙ sym f
    apart c d (inr (inr h)) k g = absurd h
    apart c d (inl e) (inr (inr k)) g = absurd k
    apart c d (inr (inl e)) (inr (inr k)) g = absurd k

    both : Agrees a.mark a.number b.number (height order) × Agrees a.mark b.number a.number (height order)
    both = agree_up a.mark a.number b.number (height order) u (I.steps a b (inl (refl, refl))).odd (omega (arith, at_a, at_b))

    agrees : (c d : ℕ) → Linked (numbers_of (a ∷ b ∷ [])) c d → Agrees (mark d) c d (height order)
    agrees c d (inl e) = rw (e.0, e.1, I.marked b (inr (inl refl)), sym same) both.0
    agrees c d (inr e) = rw (e.0, e.1, I.marked a (inl refl)) both.1

up_or : (m : Mark) (a b : ℕ) → (IsUp a m → ⊥) → b % 2 ≢ a % 2 → IsUp b m
up_or kind.V a b h n = let g : a % 2 ≢ 0 = h in omega arith
up_or kind.M a b h n = let g : a % 2 ≢ 1 = h in omega arith

pub pair_down : (x : ℕ → ℤ) (mark : ℕ → Mark) (a b : Entry) → a.mark ≡ b.mark → IsCycle x mark (a ∷ b ∷ []) → (IsUp a.number a.mark → ⊥) → Layered x mark (numbers_of (a ∷ b ∷ [])) (b.number ∷ a.number ∷ [])
pair_down x mark a b same I u =
    let t : Turned (a ∷ b ∷ []) (b ∷ a ∷ []) = record { front = a ∷ []; back = b ∷ []; from = refl; to = refl } in
    let s : Turned (numbers_of (b ∷ a ∷ [])) (numbers_of (a ∷ b ∷ [])) = record { front = b.number ∷ []; back = a.number ∷ []; from = refl; to = refl } in
    let v : IsUp b.number b.mark = rw (sym same) (up_or a.mark a.number b.number u (I.steps a b (inl (refl, refl))).odd) in
    layered_turn x mark (numbers_of (b ∷ a ∷ [])) (numbers_of (a ∷ b ∷ [])) (b.number ∷ a.number ∷ []) s (pair_up x mark b a (sym same) (cycle_turn x mark (a ∷ b ∷ []) (b ∷ a ∷ []) t I) v)

same_mark : (m w : Mark) → (Opposite m w → ⊥) → m ≡ w
same_mark kind.M kind.M h = refl
same_mark kind.V kind.V h = refl
same_mark kind.M kind.V h = absurd (h tt)
same_mark kind.V kind.M h = absurd (h tt)

pub base_up : (x : ℕ → ℤ) (mark : ℕ → Mark) (es : List Entry) → length es ≡ 2 → (Opposite (entry_at es 0).mark (entry_at es 1).mark → ⊥) → IsCycle x mark es → IsUp (entry_at es 0).number (entry_at es 0).mark
    → Layered x mark (numbers_of es) ((entry_at es 0).number ∷ (entry_at es 1).number ∷ [])
base_up x mark [] e o I u = absurd (omega arith)
base_up x mark (a ∷ []) e o I u = absurd (omega arith)
base_up x mark (a ∷ b ∷ []) e o I u = pair_up x mark a b (same_mark a.mark b.mark o) I u
base_up x mark (a ∷ b ∷ c ∷ es) e o I u = absurd (omega arith)

pub base_down : (x : ℕ → ℤ) (mark : ℕ → Mark) (es : List Entry) → length es ≡ 2 → (Opposite (entry_at es 0).mark (entry_at es 1).mark → ⊥) → IsCycle x mark es → (IsUp (entry_at es 0).number (entry_at es 0).mark → ⊥)
    → Layered x mark (numbers_of es) ((entry_at es 1).number ∷ (entry_at es 0).number ∷ [])
base_down x mark [] e o I u = absurd (omega arith)
base_down x mark (a ∷ []) e o I u = absurd (omega arith)
base_down x mark (a ∷ b ∷ []) e o I u = pair_down x mark a b (same_mark a.mark b.mark o) I u
base_down x mark (a ∷ b ∷ c ∷ es) e o I u = absurd (omega arith)
