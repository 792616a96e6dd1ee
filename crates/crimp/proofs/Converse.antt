-- Where the list before a crimp is foldable, the list after it is.
use Rattle.std.proofs.Common.{◌≡◌, ◌≤◌, ◌<◌, ◌+◌, ◌-◌, ◌%◌, ℕ, arith, refl, subst, ap, sym, ◌∙◌, inl, inr, List, [], ◌∷◌, length, map, get_or}
use Rattle.std.specs.Prelude.{ℤ, pos, ◌-ℤ◌}
use Rattle.std.proofs.lemmas.Int.{ints}
use Rattle.std.proofs.lemmas.Bool.{cases_eq}
use Rattle.sheet.specs.declared.mark.Mark.{Mark}
use Rattle.sheet.specs.declared.mark.Mark.TheVariants as kind
use Rattle.crimp.specs.declared.entries.Entry.{Entry}
use Rattle.crimp.specs.Rules.{Rules}
use Rattle.layers.specs.declared.sector_list.Sector.{Sector}
use Rattle.layers.specs.Sectors.{sector_at, behind}
use Rattle.layers.specs.LayerOrder.{place, before, height, IsLayerOrder}
use Rattle.layers.proofs.callers.Places.{before_lt, behind_lt}
use Rattle.crimp.proofs.Partial.{Next}
use Rattle.crimp.specs.Cyclic.{In, Linked}
use Rattle.crimp.specs.Crimping.{Opposite}
use Rattle.crimp.specs.Cycle.{no_entry, numbers_of, entry_at, crimped_at, IsCycle, Crimpable, numbered}
use Rattle.crimp.proofs.Start.{Numbered, start, linked_from, in_at, in_from, get_or-numbers_of, behind_before}
use Rattle.crimp.specs.Crimps.{joined, after_crimp, CanCrimp, Foldable}
use Rattle.crimp.proofs.Turns.{fronted}
use Rattle.crimp.proofs.Cycle.{crimped_cycle, shorter}
use Rattle.crimp.proofs.Bridge.{order_of}
use Rattle.crimp.proofs.PutIn.{listed}
use Rattle.crimp.proofs.Closed.{closed_after}
use Rattle.crimp.proofs.Relabel.{Relabelled, straight, flipped}
use Rattle.crimp.proofs.Law.{bare, nameless, bare_numbered, alike_crimped, alike_length, length_numbers_of, same_mark, along_even, along_odd, height_at, length-numbered, numbered_at, ranks}
use Rattle.crimp.proofs.Survives.{survives}

bound_of : (ls : List ℕ) (rank : ℕ → ℕ) → (n : ℕ) × ((a : ℕ) → In ls a → rank a < n)
bound_of [] rank = (0, λ a h. absurd h)
bound_of (l ∷ ls) rank = let k = bound_of ls rank in (rank l + 1 + k.0, λ a h. elim h [ inl e ↦ let f : rank a ≡ rank l = ap rank e in omega arith | inr m ↦ let g = k.1 a m in omega arith ])

-- ranks of the numbers_of, as ranks of the places in the list
module _ (x : ℕ → ℤ) (mark : ℕ → Mark) (fs : List Entry) (J : IsCycle x mark fs) (ss : List Sector) (E : map bare fs ≡ map nameless ss) (new : ℕ → ℕ) (R : Rules (In (numbers_of fs)) (Linked (numbers_of fs)) x mark new) where
  φ : ℕ → ℕ
  φ k = get_or (numbers_of fs) k 0

  long : length fs ≡ length ss
  long = alike_length fs ss E

  same_length : length (numbers_of fs) ≡ length ss
  same_length = length_numbers_of x mark fs J ss E

  is : (k : ℕ) → φ k ≡ (entry_at fs k).number
  unfolding φ
  is k = get_or-numbers_of fs k

  in_numbers_of : (k : ℕ) → k < length ss → In (numbers_of fs) (φ k)
  unfolding φ
  in_numbers_of k h = let n = same_length in in_from 0 (numbers_of fs) k (omega arith)

  linked : (a b : ℕ) → Next (length ss) a b → a < length ss → Linked (numbers_of fs) (φ a) (φ b)
  unfolding φ
  linked a b l h =
      let n = same_length in
      let e : behind (length (numbers_of fs)) a ≡ b = ap (λ m. behind m a) n ∙ ap (behind (length ss)) l.1 ∙ behind_before (length ss) b l.0 in
      subst (λ k. Linked (numbers_of fs) (get_or (numbers_of fs) a 0) (get_or (numbers_of fs) k 0)) e (linked_from 0 (numbers_of fs) a (omega arith))

  before_less : (a b : ℕ) → Next (length ss) a b → a < length ss
  before_less a b l = let k = before_lt (length ss) b l.0 in let e = l.1 in omega arith

  relabelled : Relabelled (λ k. k < length ss) (In (numbers_of fs)) (Next (length ss)) (Linked (numbers_of fs)) (λ k. (sector_at ss k).mark) mark φ
  unfolding φ
  relabelled = record {
    here = in_numbers_of;
    link = λ a b l. linked a b l (before_less a b l);
    ends = λ a b l. l.0;
    one = λ a b h k e. let n = same_length in sym (height_at (numbers_of fs) a J.distinct (omega arith)) ∙ ap (height (numbers_of fs)) e ∙ height_at (numbers_of fs) b J.distinct (omega arith);
    marks = λ a h. let n = long in sym (ap mark (is a) ∙ J.marked (entry_at fs a) (in_from no_entry fs a (omega arith)) ∙ same_mark x mark fs J ss E a);
  }

  numbers : (rank : ℕ → ℕ) × Rules (λ k. k < length ss) (Next (length ss)) (place ss) (λ k. (sector_at ss k).mark) rank
  numbers = elim (cases_eq ((entry_at fs 0).number % 2) 0) [
    | inl o ↦ (
      (λ k. new (φ k)),
      straight (λ k. k < length ss) (In (numbers_of fs)) (Next (length ss)) (Linked (numbers_of fs)) (place ss) x (λ k. (sector_at ss k).mark) mark (λ k. new (φ k)) new φ relabelled R
          (pos 0 -ℤ x (entry_at fs 0).number) (λ k h. refl)
          (λ k h. let n = long in let p = (along_even x mark fs J ss E o k (omega arith)).0 in let e = is k in omega arith)
          (λ k h. let n = long in let p = (along_even x mark fs J ss E o k (omega arith)).1 in let e : x (φ k) ≡ x (entry_at fs k).number = ap x (is k) in omega (arith, ints)),
    )
    | inr o ↦
        let m = bound_of (numbers_of fs) new in (
          (λ k. m.0 - new (φ k)),
          flipped (λ k. k < length ss) (In (numbers_of fs)) (Next (length ss)) (Linked (numbers_of fs)) (place ss) x (λ k. (sector_at ss k).mark) mark (λ k. m.0 - new (φ k)) new φ relabelled R
              (x (entry_at fs 0).number) m.0
              (λ k h. let l = m.1 (φ k) (in_numbers_of k h) in omega arith)
              (λ k h. let n = long in let p = (along_odd x mark fs J ss E (omega arith) k (omega arith)).0 in let e = is k in (λ t. p (omega arith)))
              (λ k h. let n = long in let p = (along_odd x mark fs J ss E (omega arith) k (omega arith)).1 in let e : x (φ k) ≡ x (entry_at fs k).number = ap x (is k) in omega (arith, ints)),
        )
  ]

-- the law
module _ (ss : List Sector) (i : ℕ) (K : CanCrimp ss i) (some : (j : ℕ) → j < length ss → 1 ≤ (sector_at ss j).angle) (order : List ℕ) (L : IsLayerOrder ss order) where
  closed : (length (after_crimp ss i) % 2 ≡ 0) × (place (after_crimp ss i) (length (after_crimp ss i)) ≡ pos 0)
  closed = let four = K.four in let F = fronted joined (record { first = 0; mark = kind.M; angle = 0 }) ss i (omega arith) K.within in
      let l : (sector_at ss i).angle ≤ (sector_at ss (before (length ss) i)).angle = K.least (before (length ss) i) (before_lt (length ss) i K.within) in
      let ep : (sector_at ss (before (length ss) i)).angle ≡ F.p.angle = ap (λ s. s.angle) F.before_i in
      let eq : (sector_at ss i).angle ≡ F.q.angle = ap (λ s. s.angle) F.at_i in
      closed_after ss (after_crimp ss i) F.p F.q F.r F.rest F.whole F.less (omega arith) L.closes.even L.closes.closed

  N : Numbered ss (numbered 0 ss)
  N = record { long = length-numbered 0 ss; at = λ k h. numbered_at 0 ss k h ∙ ap (λ j. record { number = j; mark = (sector_at ss k).mark; angle = (sector_at ss k).angle }) (let e : 0 + k ≡ k = omega arith in e) }

  I : IsCycle (place ss) (λ k. (sector_at ss k).mark) (numbered 0 ss)
  I = start ss (numbered 0 ss) N L.closes.even L.closes.some L.closes.closed

  K' : Crimpable (numbered 0 ss) i
  K' = let n = length-numbered 0 ss in let f = K.four in let w = K.within in record {
    four = omega arith;
    within = omega arith;
    least = λ j h. let e : (entry_at (numbered 0 ss) i).angle ≡ (sector_at ss i).angle = ap (λ e. e.angle) (N.at i w) in
        let g : (entry_at (numbered 0 ss) j).angle ≡ (sector_at ss j).angle = ap (λ e. e.angle) (N.at j (omega arith)) in let l = K.least j (omega arith) in omega arith;
    opposite = subst (λ m. Opposite (entry_at (numbered 0 ss) i).mark (entry_at (numbered 0 ss) (behind m i)).mark) (sym n)
        (subst (λ m. Opposite (entry_at (numbered 0 ss) i).mark m) (sym (ap (λ e. e.mark) (N.at (behind (length ss) i) (behind_lt (length ss) i w))))
        (subst (λ m. Opposite m (sector_at ss (behind (length ss) i)).mark) (sym (ap (λ e. e.mark) (N.at i w))) K.opposite));
  }

  some_entry : (e : Entry) → In (numbered 0 ss) e → 1 ≤ e.angle
  some_entry e h = let n = length-numbered 0 ss in let k = in_at no_entry (numbered 0 ss) e h in let w = k.1 in
      let f : e.angle ≡ (sector_at ss k.0).angle = ap (λ e. e.angle) k.2 ∙ ap (λ e. e.angle) (N.at k.0 (omega arith)) in
      let g = some k.0 (omega arith) in omega arith

  pub foldable_after : Foldable (after_crimp ss i)
  foldable_after =
      let x = place ss in
      let J = crimped_cycle (place ss) (λ k. (sector_at ss k).mark) (numbered 0 ss) i I K' in
      let A = ranks (place ss) (λ k. (sector_at ss k).mark) (numbered 0 ss) I ss (bare_numbered 0 ss) order L in
      let B = bound_of (numbers_of (numbered 0 ss)) A.0 in
      let U = survives (place ss) (λ k. (sector_at ss k).mark) (numbered 0 ss) i I K' some_entry A.0 B.0 A.1 B.1 in
      let V = numbers (place ss) (λ k. (sector_at ss k).mark) (crimped_at (numbered 0 ss) i) J (after_crimp ss i) (alike_crimped ss i) U.0 U.1 in
      let W = listed (length (after_crimp ss i)) (Next (length (after_crimp ss i))) (place (after_crimp ss i)) (λ k. (sector_at (after_crimp ss i) k).mark) V.0 V.1 in
      let s = shorter (place ss) (λ k. (sector_at ss k).mark) (numbered 0 ss) i I K' in
      let a = alike_length (crimped_at (numbered 0 ss) i) (after_crimp ss i) (alike_crimped ss i) in let n = length-numbered 0 ss in let f = K.four in
      (W.0, order_of (after_crimp ss i) W.0 closed.0 (omega arith) closed.1 W.1 W.3)
