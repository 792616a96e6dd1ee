-- An order after a crimp is undone: the two sectors are put in beside the crimped one.
use Rattle.std.proofs.Common.{◌≡◌, ◌≢◌, ◌<◌, ◌+◌, ◌%◌, ℕ, arith, ap, sym, ◌∙◌, ◌⊎◌, inl, inr, List, length}
use Rattle.std.specs.Prelude.{ℤ}
use Rattle.std.specs.List.{insert}
use Rattle.std.proofs.lemmas.Bool.{cases_eq, cases_lt}
use Rattle.std.proofs.lemmas.List.Edits.{length-insert}
use Rattle.sheet.specs.declared.mark.Mark.{Mark}
use Rattle.sheet.specs.declared.mark.Mark.TheVariants as kind
use Rattle.crimp.specs.Rules.{Agrees, Rules}
use Rattle.layers.specs.LayerOrder.{height}
use Rattle.crimp.specs.Crimping.{Opposite}
use Rattle.crimp.specs.Undoing.{IsUp, undone_up, undone_down}
use Rattle.crimp.proofs.Heights.{Stacked}
use Rattle.crimp.proofs.Crimp.{Crimp, uncrimped}
use Rattle.crimp.proofs.Orders.{height-insert_below, height-insert_above, height-insert_at}

-- the rank goes up over the three, or down
pub agrees_up : (mark : ℕ → Mark) (new : ℕ → ℕ) (p q r : ℕ) → IsUp p (mark q) → Opposite (mark q) (mark r) → q % 2 ≢ p % 2 → new p < new q → new q < new r → Agrees (mark q) p q new × Agrees (mark r) q r new
agrees_up mark new p q r u o n l k = from (mark q) (mark r) u o
  where
    from : (m w : Mark) → IsUp p m → Opposite m w → Agrees m p q new × Agrees w q r new
    from kind.V kind.M u o = ((λ e. l, λ e. absurd (omega arith)), (λ e. absurd (omega arith), λ e. k))
    from kind.M kind.V u o = ((λ e. absurd (omega arith), λ e. l), (λ e. k, λ e. absurd (omega arith)))
    from kind.V kind.V u o = absurd o
    from kind.M kind.M u o = absurd o

pub agrees_down : (mark : ℕ → Mark) (new : ℕ → ℕ) (p q r : ℕ) → (IsUp p (mark q) → ⊥) → Opposite (mark q) (mark r) → q % 2 ≢ p % 2 → new q < new p → new r < new q → Agrees (mark q) p q new × Agrees (mark r) q r new
agrees_down mark new p q r u o n l k = from (mark q) (mark r) u o
  where
    from : (m w : Mark) → (IsUp p m → ⊥) → Opposite m w → Agrees m p q new × Agrees w q r new
    from kind.V kind.M u o = ((λ e. absurd (u e), λ e. l), (λ e. k, λ e. absurd (u (omega arith))))
    from kind.M kind.V u o = ((λ e. l, λ e. absurd (u e)), (λ e. absurd (u (omega arith)), λ e. k))
    from kind.V kind.V u o = absurd o
    from kind.M kind.M u o = absurd o

-- each sector that is in the order stands in it, the two others do not
pub record Holds (Here : ℕ → Type 0) (order : List ℕ) : Type 0 where
  pub each : (a : ℕ) → Here a → height order a < length order

pub record Facts (Here : ℕ → Type 0) (order : List ℕ) (p q r : ℕ) : Type 0 where
  pub holds : Holds Here order
  pub has_p : Here p
  pub lacks_q : height order q ≡ length order
  pub lacks_r : height order r ≡ length order
  pub not_q : (a : ℕ) → Here a → q ≢ a
  pub not_r : (a : ℕ) → Here a → r ≢ a
  pub apart : (a b : ℕ) → Here a → Here b → height order a ≡ height order b → a ≡ b
  pub q_not_r : q ≢ r

record Threefold (Here : ℕ → Type 0) (order new : List ℕ) (p q r : ℕ) : Type 0 where
  stacked : Stacked (height order p) (height new p) (height new q) (height new r)
  kept : (a : ℕ) → Here a → a ≢ p → ((height order a < height order p) × (height new a ≡ height order a)) ⊎ ((height order p < height order a) × (height new a ≡ height order a + 2))
  longer : length new ≡ length order + 2

threefold_up : (Here : ℕ → Type 0) (order : List ℕ) (p q r : ℕ) → Facts Here order p q r → Threefold Here order (undone_up order p q r) p q r × ((height (undone_up order p q r) p < height (undone_up order p q r) q) × (height (undone_up order p q r) q < height (undone_up order p q r) r))
threefold_up Here order p q r F =
    let h : height order p < length order = F.holds.each p F.has_p in
    let mid = insert order (height order p + 1) q in
    let len : length mid ≡ length order + 1 = length-insert order (height order p + 1) q (omega arith) in
    let p1 : height mid p ≡ height order p = height-insert_below order (height order p + 1) q p (F.not_q p F.has_p) (omega arith) (omega arith) in
    let q1 : height mid q ≡ height order p + 1 = height-insert_at order (height order p + 1) q (omega arith) F.lacks_q in
    let lacks_r = F.lacks_r in
    let r1 : height mid r ≡ height order r + 1 = height-insert_above order (height order p + 1) q r F.q_not_r (omega arith) in
    let p2 : height (insert mid (height order p + 2) r) p ≡ height mid p = height-insert_below mid (height order p + 2) r p (F.not_r p F.has_p) (omega arith) (omega arith) in
    let q2 : height (insert mid (height order p + 2) r) q ≡ height mid q = height-insert_below mid (height order p + 2) r q (λ e. F.q_not_r (sym e)) (omega arith) (omega arith) in
    let r2 : height (insert mid (height order p + 2) r) r ≡ height order p + 2 = height-insert_at mid (height order p + 2) r (omega arith) (omega arith) in (
      record {
        stacked = inl (p2 ∙ p1, q2 ∙ q1, r2);
        longer = length-insert mid (height order p + 2) r (omega arith) ∙ omega arith;
        kept = λ a k n. elim (cases_lt (height order a) (height order p)) [
          | inl l ↦
              let a1 : height mid a ≡ height order a = height-insert_below order (height order p + 1) q a (F.not_q a k) (omega arith) (omega arith) in
              let a2 : height (insert mid (height order p + 2) r) a ≡ height mid a = height-insert_below mid (height order p + 2) r a (F.not_r a k) (omega arith) (omega arith) in
              inl (l, a2 ∙ a1)
          | inr l ↦
              let s : height order a ≢ height order p = λ e. n (F.apart a p k F.has_p e) in
              let a1 : height mid a ≡ height order a + 1 = height-insert_above order (height order p + 1) q a (F.not_q a k) (omega arith) in
              let a2 : height (insert mid (height order p + 2) r) a ≡ height mid a + 1 = height-insert_above mid (height order p + 2) r a (F.not_r a k) (omega arith) in
              inr (omega arith, omega arith)
        ];
      },
      (omega arith, omega arith),
    )

threefold_down : (Here : ℕ → Type 0) (order : List ℕ) (p q r : ℕ) → Facts Here order p q r → Threefold Here order (undone_down order p q r) p q r × ((height (undone_down order p q r) q < height (undone_down order p q r) p) × (height (undone_down order p q r) r < height (undone_down order p q r) q))
threefold_down Here order p q r F =
    let h : height order p < length order = F.holds.each p F.has_p in
    let mid = insert order (height order p) r in
    let len : length mid ≡ length order + 1 = length-insert order (height order p) r (omega arith) in
    let p1 : height mid p ≡ height order p + 1 = height-insert_above order (height order p) r p (F.not_r p F.has_p) (omega arith) in
    let r1 : height mid r ≡ height order p = height-insert_at order (height order p) r (omega arith) F.lacks_r in
    let lacks_q = F.lacks_q in
    let q1 : height mid q ≡ height order q + 1 = height-insert_above order (height order p) r q (λ e. F.q_not_r (sym e)) (omega arith) in
    let p2 : height (insert mid (height order p + 1) q) p ≡ height mid p + 1 = height-insert_above mid (height order p + 1) q p (F.not_q p F.has_p) (omega arith) in
    let r2 : height (insert mid (height order p + 1) q) r ≡ height mid r = height-insert_below mid (height order p + 1) q r F.q_not_r (omega arith) (omega arith) in
    let q2 : height (insert mid (height order p + 1) q) q ≡ height order p + 1 = height-insert_at mid (height order p + 1) q (omega arith) (omega arith) in (
      record {
        stacked = inr (r2 ∙ r1, q2, p2 ∙ omega arith);
        longer = length-insert mid (height order p + 1) q (omega arith) ∙ omega arith;
        kept = λ a k n. elim (cases_lt (height order a) (height order p)) [
          | inl l ↦
              let a1 : height mid a ≡ height order a = height-insert_below order (height order p) r a (F.not_r a k) (omega arith) (omega arith) in
              let a2 : height (insert mid (height order p + 1) q) a ≡ height mid a = height-insert_below mid (height order p + 1) q a (F.not_q a k) (omega arith) (omega arith) in
              inl (l, a2 ∙ a1)
          | inr l ↦
              let s : height order a ≢ height order p = λ e. n (F.apart a p k F.has_p e) in
              let a1 : height mid a ≡ height order a + 1 = height-insert_above order (height order p) r a (F.not_r a k) (omega arith) in
              let a2 : height (insert mid (height order p + 1) q) a ≡ height mid a + 1 = height-insert_above mid (height order p + 1) q a (F.not_q a k) (omega arith) in
              inr (omega arith, omega arith)
        ];
      },
      (omega arith, omega arith),
    )

module _ (Here : ℕ → Type 0) (Small : ℕ → ℕ → Type 0) (Old : ℕ → Type 0) (Large : ℕ → ℕ → Type 0) (x : ℕ → ℤ) (mark : ℕ → Mark) (order : List ℕ) (p q r t : ℕ)
    (C : Crimp Here Small Old Large x p q r t) (R : Rules Here Small x mark (height order)) (H : Holds Here order)
    (lacks_q : height order q ≡ length order) (lacks_r : height order r ≡ length order) (o : Opposite (mark q) (mark r)) where
  q_not_r : q ≢ r
  q_not_r e = C.odd_q (ap (λ n. n % 2) e ∙ C.odd_r)

  facts : Facts Here order p q r
  facts = record {
    holds = H;
    has_p = C.has_p;
    lacks_q = lacks_q;
    lacks_r = lacks_r;
    not_q = λ a h e. let n : height order q ≡ height order a = ap (height order) e in let l : height order a < length order = H.each a h in omega arith;
    not_r = λ a h e. let n : height order r ≡ height order a = ap (height order) e in let l : height order a < length order = H.each a h in omega arith;
    apart = R.apart;
    q_not_r = q_not_r;
  }

  -- everything stands in the longer order
  holds_all : (new : List ℕ) → Threefold Here order new p q r → Holds Old new
  holds_all new T = record {
    each = λ a h. elim (C.sectors a h) [
      | inl e ↦ let f : height new a ≡ height new q = ap (height new) e in let k : height order p < length order = H.each p C.has_p in let l = T.longer in elim T.stacked [ inl s ↦ omega arith | inr s ↦ omega arith ]
      | inr n ↦ elim n [
        | inl e ↦ let f : height new a ≡ height new r = ap (height new) e in let k : height order p < length order = H.each p C.has_p in let l = T.longer in elim T.stacked [ inl s ↦ omega arith | inr s ↦ omega arith ]
        | inr m ↦ let k : height order a < length order = H.each a m in let l = T.longer in elim (cases_eq a p) [
          | inl e ↦ let f : height new a ≡ height new p = ap (height new) e in let g : height order a ≡ height order p = ap (height order) e in elim T.stacked [ inl s ↦ omega arith | inr s ↦ omega arith ]
          | inr n ↦ elim (T.kept a m n) [ inl s ↦ omega arith | inr s ↦ omega arith ]
        ]
      ]
    ];
  }

  pub undo_up : IsUp p (mark q) → Rules Old Large x mark (height (undone_up order p q r)) × Holds Old (undone_up order p q r) × (length (undone_up order p q r) ≡ length order + 2)
  undo_up u =
      let both = threefold_up Here order p q r facts in
      let T = both.0 in
      let g : Agrees (mark q) p q (height (undone_up order p q r)) × Agrees (mark r) q r (height (undone_up order p q r)) = agrees_up mark (height (undone_up order p q r)) p q r u o C.odd_q both.1.0 both.1.1 in
      (uncrimped Here Small Old Large x mark (height order) (height (undone_up order p q r)) p q r t C R (record { stacked = T.stacked; kept = T.kept; agrees_q = g.0; agrees_r = g.1 }), holds_all _ T, T.longer)

  pub undo_down : (IsUp p (mark q) → ⊥) → Rules Old Large x mark (height (undone_down order p q r)) × Holds Old (undone_down order p q r) × (length (undone_down order p q r) ≡ length order + 2)
  undo_down u =
      let both = threefold_down Here order p q r facts in
      let T = both.0 in
      let g : Agrees (mark q) p q (height (undone_down order p q r)) × Agrees (mark r) q r (height (undone_down order p q r)) = agrees_down mark (height (undone_down order p q r)) p q r u o C.odd_q both.1.0 both.1.1 in
      (uncrimped Here Small Old Large x mark (height order) (height (undone_down order p q r)) p q r t C R (record { stacked = T.stacked; kept = T.kept; agrees_q = g.0; agrees_r = g.1 }), holds_all _ T, T.longer)
