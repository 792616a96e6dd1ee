-- What one step of the folding owes, over plain lists.
use Rattle.std.proofs.Common.{Bool, ◌≡◌, ◌<◌, ◌≤◌, ◌+◌, ℕ, arith, ap, sym, subst, ◌∙◌, true, false, inl, inr, List, length, get_or}
use Rattle.std.specs.Prelude.{ℤ, ◌↔◌}
use Rattle.std.proofs.lemmas.Bool.{cases_Bool, false≢true}
use Rattle.std.proofs.lemmas.List.{length-map}
use Rattle.sheet.specs.declared.mark.Mark.{Mark}
use Rattle.crimp.specs.declared.entries.Entry.{Entry}
use Rattle.layers.specs.LayerOrder.{before, height}
use Rattle.crimp.specs.Undoing.{IsUp, undone_up, undone_down}
use Rattle.layers.specs.Sectors.{behind}
use Rattle.crimp.specs.Cycle.{no_entry, numbers_of, crimped_at, IsCycle, IsSomeCycle, Layered, Crimpable, Ends, Go, total}
use Rattle.crimp.proofs.Cycle.{crimped_cycle, uncrimped_up, uncrimped_down, shorter, lighter, two_fit, p_stays}

module _ (es fs : List Entry) (i : ℕ) (K : Crimpable es i) (crimps : fs ≡ crimped_at es i) where
  pub cycle_after : IsSomeCycle es → IsSomeCycle fs
  cycle_after Z = record { x = Z.x; mark = Z.mark; is = subst (IsCycle Z.x Z.mark) (sym crimps) (crimped_cycle Z.x Z.mark es i Z.is K) }

  pub shorter_after : IsSomeCycle es → length fs + 2 ≡ length es
  shorter_after Z = let s = shorter Z.x Z.mark es i Z.is K in let e : length fs ≡ length (crimped_at es i) = ap length crimps in omega arith

  pub total_after : IsSomeCycle es → total es ≤ 16 → total fs ≤ 16
  total_after Z h = let s = lighter Z.x Z.mark es i Z.is K in let e : total fs ≡ total (crimped_at es i) = ap total crimps in omega arith

  pub fit : IsSomeCycle es → total es ≤ 16 → (get_or es (before (length es) i) no_entry).angle + (get_or es (behind (length es) i) no_entry).angle ≤ 255
  fit Z h = let s = two_fit Z.x Z.mark es i Z.is K in omega arith

  module _ (order : List ℕ) (L : (x : ℕ → ℤ) (mark : ℕ → Mark) → IsCycle x mark fs → Layered x mark (numbers_of fs) order) where
    small : (x : ℕ → ℤ) (mark : ℕ → Mark) → IsCycle x mark es → Layered x mark (numbers_of (crimped_at es i)) order
    small x mark I = subst (λ gs. Layered x mark (numbers_of gs) order) crimps (L x mark (subst (IsCycle x mark) (sym crimps) (crimped_cycle x mark es i I K)))

    pub stands : IsSomeCycle es → height order (get_or es (before (length es) i) no_entry).number < length order
    stands Z = (small Z.x Z.mark Z.is).holds (get_or es (before (length es) i) no_entry).number (p_stays Z.x Z.mark es i Z.is K)

    length_numbers_of : (gs : List Entry) → length (numbers_of gs) ≡ length gs
    length_numbers_of gs = length-map gs (λ e. e.number)

    pub order_long : IsSomeCycle es → length order + 2 ≡ length es
    unfolding cycle_after
    order_long Z = let e = (L Z.x Z.mark (cycle_after Z).is).long in let f = length_numbers_of fs in let s = shorter_after Z in omega arith

    pub done : (up : Bool) (new : List ℕ) (p q r : ℕ) (m : Mark) → p ≡ (get_or es (before (length es) i) no_entry).number → q ≡ (get_or es i no_entry).number → r ≡ (get_or es (behind (length es) i) no_entry).number → m ≡ (get_or es i no_entry).mark
        → (up ≡ true ↔ IsUp p m) → (up ≡ true → new ≡ undone_up order p q r) → (up ≡ false → new ≡ undone_down order p q r)
        → (x : ℕ → ℤ) (mark : ℕ → Mark) → IsCycle x mark es → Layered x mark (numbers_of es) new
    done up new p q r m ep eq er em u f g x mark I =
        let P = (get_or es (before (length es) i) no_entry).number in let Q = (get_or es i no_entry).number in let M = (get_or es i no_entry).mark in
        elim (cases_Bool up) [
          | inl t ↦ subst (Layered x mark (numbers_of es)) (sym (f t ∙ ap (λ k. undone_up order k q r) ep ∙ ap (λ k. undone_up order P k r) eq ∙ ap (λ k. undone_up order P Q k) er))
              (uncrimped_up x mark es i I K order (small x mark I) (subst (λ k. IsUp k M) ep (subst (IsUp p) em (u.0 t))))
          | inr t ↦ subst (Layered x mark (numbers_of es)) (sym (g t ∙ ap (λ k. undone_down order k q r) ep ∙ ap (λ k. undone_down order P k r) eq ∙ ap (λ k. undone_down order P Q k) er))
              (uncrimped_down x mark es i I K order (small x mark I) (λ v. false≢true (sym t ∙ u.1 (subst (IsUp p) (sym em) (subst (λ k. IsUp k M) (sym ep) v)))))
        ]

  pub goes : (gs : List Entry) → ((j : ℕ) → j < i → Crimpable es j → ⊥) → Ends fs gs → Ends es gs
  goes gs first e = Go es gs i K first (subst (λ hs. Ends hs gs) crimps e)
