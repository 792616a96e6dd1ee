-- What the crimping of the entries says of the sectors.
use Rattle.std.proofs.Common.{◌≡◌, ◌≤◌, ℕ, arith, subst, ap, sym, ◌∙◌, List, length, map}
use Rattle.std.specs.Prelude.{ℤ}
use Rattle.sheet.specs.declared.mark.Mark.{Mark}
use Rattle.layers.specs.declared.sector_list.Sector.{Sector}
use Rattle.layers.specs.Sectors.{AreSectors}
use Rattle.layers.specs.LayerOrder.{ClosesUp, IsLayerOrder}
use Rattle.crimp.specs.declared.entries.Entry.{Entry}
use Rattle.crimp.specs.declared.outcome.Run.{Run}
use Rattle.crimp.specs.Cycle.{numbers_of, total, IsCycle, IsSomeCycle, Layered, Ends, IsPair, numbered}
use Rattle.crimp.specs.Crimps.{Foldable}
use Rattle.crimp.specs.Entries.{sector_for, IsPartOf}
use Rattle.crimp.specs.BlockedRun.{CrimpsTo, IsNamedRun, IsBlockedRun}
use Rattle.crimp.proofs.Numbers.{cycle, ordered, total_is}
use Rattle.crimp.proofs.Directions.{full_turn, all_open}
use Rattle.crimp.proofs.Runs.{shown_length}
use Rattle.crimp.proofs.Ending.{part_start, part_end, crimps_to, shown_start, any_crimps, closes_end, pair_end, shown_mark}

module _ (ss list : List Sector) (same : list ≡ ss) (A : AreSectors ss) (C : ClosesUp ss) (es : List Entry) (n : es ≡ numbered 0 list) where
  is : es ≡ numbered 0 ss
  is = n ∙ ap (numbered 0) same

  pub begins : IsSomeCycle es
  begins = cycle ss es is C.even C.some C.closed

  pub turn : total es ≤ 16
  turn = let s = C.some in let e = total_is ss es is in let f = full_turn ss A (omega arith) in omega arith

  pub orders : (order : List ℕ) → ((x : ℕ → ℤ) (mark : ℕ → Mark) → IsCycle x mark es → Layered x mark (numbers_of es) order) → IsLayerOrder ss order
  orders order L = ordered ss es is C.even C.some C.closed order L

  module _ (fs : List Entry) (E : Ends es fs) where
    part : IsPartOf ss fs
    part = part_end ss es fs E (part_start ss es is)

    crimping : CrimpsTo ss (map (sector_for ss) fs)
    crimping = subst (λ l. CrimpsTo l (map (sector_for ss) fs)) (shown_start ss es is) (crimps_to ss A es fs E (part_start ss es is))

    pub part_of : (seen : List Entry) → seen ≡ fs → IsPartOf list seen
    part_of seen e = subst (λ l. IsPartOf l seen) (sym same) (subst (IsPartOf ss) (sym e) part)

    two_left : 2 ≤ length fs
    two_left = let c = closes_end ss (map (sector_for ss) fs) (any_crimps ss (map (sector_for ss) fs) crimping) C in let s = c.some in let m = shown_length ss fs in omega arith

    pub some_left : (seen : List Entry) → seen ≡ fs → 1 ≤ length seen
    some_left seen e = let t = two_left in let m : length seen ≡ length fs = ap length e in omega arith

    pub no_pair : (IsPair fs → ⊥) → Foldable ss → ⊥
    no_pair none f =
        let g = pair_end ss (map (sector_for ss) fs) crimping (all_open ss A) f in let m = shown_length ss fs in let t = two_left in
        none (record { two = sym m ∙ g.0; same = sym (shown_mark ss fs 0 (omega arith)) ∙ g.1 ∙ shown_mark ss fs 1 (omega arith) })

    pub blocked : (seen : List Entry) (run : Run) → seen ≡ fs → IsNamedRun (map (sector_for list) seen) run → IsBlockedRun ss run
    blocked seen run e N = record {
      ends = map (sector_for ss) fs;
      crimping = crimping;
      named = subst (λ l. IsNamedRun (map (sector_for l) fs) run) same (subst (λ l. IsNamedRun (map (sector_for list) l) run) e N);
    }
