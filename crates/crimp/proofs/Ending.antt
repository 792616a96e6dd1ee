-- How the crimping of a list ends, over entries and over sectors.
use Rattle.std.proofs.Common.{◌≡◌, ◌≤◌, ◌<◌, ◌+◌, ℕ, arith, refl, subst, ap, sym, ◌∙◌, inl, inr, List, [], ◌∷◌, length, map, get_or, set, cond, eqb, Option, Some, None}
use Rattle.std.specs.Prelude.{IfSome}
use Rattle.std.specs.List.{remove}
use Rattle.std.proofs.lemmas.Bool.{cases_lt, cases_eq}
use Rattle.std.proofs.lemmas.List.{length-map, get_or_default, ext_get_or}
use Rattle.sheet.specs.declared.mark.Mark.TheVariants as kind
use Rattle.layers.specs.declared.sector_list.Sector.{Sector}
use Rattle.layers.specs.Sectors.{sector_at, behind, AreSectors}
use Rattle.layers.specs.LayerOrder.{before, ClosesUp}
use Rattle.crimp.specs.declared.entries.Entry.{Entry}
use Rattle.crimp.specs.Crimping.{Opposite, crimped}
use Rattle.crimp.specs.Cyclic.{In, Rises}
use Rattle.crimp.specs.Cycle.{merged, no_entry, numbers_of, entry_at, crimped_at, Crimpable, Ends, Stop, Go, numbered}
use Rattle.crimp.specs.Crimps.{joined, after_crimp, CanCrimp, Foldable, AllOpen, Crimps, Done, Then}
use Rattle.crimp.specs.Crimps as crimps
use Rattle.crimp.specs.Entries.{sector_for, IsPartOf}
use Rattle.crimp.specs.BlockedRun.{CrimpsTo, Ended, Goes}
use Rattle.layers.proofs.callers.Places.{before_lt, behind_lt}
use Rattle.crimp.proofs.Turns.{fronted}
use Rattle.crimp.proofs.Cycle.{length_turn}
use Rattle.crimp.proofs.Start.{in_at, in_from, get_or-numbers_of}
use Rattle.crimp.proofs.Law.{crimped_map, length-numbered, numbered_at}
use Rattle.crimp.proofs.Closed.{closed_after}
use Rattle.crimp.proofs.Rising.{in_remove, crimped_numbers_of, first_of_three, still_rises}
use Rattle.crimp.proofs.Ways.{still_open, same_ends}
use Rattle.crimp.proofs.Stuck.{no_order}
use Rattle.crimp.proofs.Twos.{pair_marks}
use Rattle.crimp.proofs.Runs.{shown_length, shown_at, shown_angle, shown_ascends}

pub if_same : {A : Type 0} (r : Option A) (P : A → Type 0) (n o : A) → IfSome r (λ x. x ≡ n) → n ≡ o → P o → IfSome r P
if_same None P n o h e p = tt
if_same (Some x) P n o h e p = subst P (sym (h ∙ e)) p

-- the default of a crimped list is never read
crimped_default : {A : Type 0} (m : A → A → A → A) (d e : A) (xs : List A) (i : ℕ) → i < length xs → crimped m d xs i ≡ crimped m e xs i
unfolding crimped
crimped_default m d e xs i h =
    ap (λ y. remove (remove (set xs (before (length xs) i) y) i) (cond (eqb (i + 1) (length xs)) 0 i))
    (ap (λ a. m a (get_or xs i d) (get_or xs (behind (length xs) i) d)) (get_or_default xs (before (length xs) i) d e (before_lt (length xs) i h))
    ∙ ap (λ a. m (get_or xs (before (length xs) i) e) a (get_or xs (behind (length xs) i) d)) (get_or_default xs i d e h)
    ∙ ap (λ a. m (get_or xs (before (length xs) i) e) (get_or xs i e) a) (get_or_default xs (behind (length xs) i) d e (behind_lt (length xs) i h)))

-- a crimp of the entries is a crimp of the sectors
shown_crimp : (ss : List Sector) (es : List Entry) (i : ℕ) → i < length es → map (sector_for ss) (crimped_at es i) ≡ after_crimp (map (sector_for ss) es) i
shown_crimp ss es i h = let n = shown_length ss es in
    crimped_map (sector_for ss) merged joined no_entry (λ p q r. refl) es i ∙ crimped_default joined (sector_for ss no_entry) (record { first = 0; mark = kind.M; angle = 0 }) (map (sector_for ss) es) i (omega arith)

pub shown_mark : (ss : List Sector) (es : List Entry) (i : ℕ) → i < length es → (sector_at (map (sector_for ss) es) i).mark ≡ (entry_at es i).mark
shown_mark ss es i h = ap (λ s. s.mark) (shown_at ss es i h)

can_to : (ss : List Sector) (es : List Entry) (i : ℕ) → Crimpable es i → CanCrimp (map (sector_for ss) es) i
can_to ss es i K = let n = shown_length ss es in let f = K.four in let w = K.within in record {
  four = omega arith;
  within = omega arith;
  least = λ j h. let e = shown_angle ss es i w in let g = shown_angle ss es j (omega arith) in let l = K.least j (omega arith) in omega arith;
  opposite = subst (λ k. Opposite (sector_at (map (sector_for ss) es) i).mark (sector_at (map (sector_for ss) es) (behind k i)).mark) (sym n)
      (subst (λ m. Opposite (sector_at (map (sector_for ss) es) i).mark m) (sym (shown_mark ss es (behind (length es) i) (behind_lt (length es) i w)))
      (subst (λ m. Opposite m (entry_at es (behind (length es) i)).mark) (sym (shown_mark ss es i w)) K.opposite));
}

can_from : (ss : List Sector) (es : List Entry) (i : ℕ) → CanCrimp (map (sector_for ss) es) i → Crimpable es i
can_from ss es i K = let n = shown_length ss es in let f = K.four in let w = K.within in let v : i < length es = omega arith in record {
  four = omega arith;
  within = v;
  least = λ j h. let e = shown_angle ss es i v in let g = shown_angle ss es j h in let l = K.least j (omega arith) in omega arith;
  opposite = subst (λ m. Opposite m (entry_at es (behind (length es) i)).mark) (shown_mark ss es i v)
      (subst (λ m. Opposite (sector_at (map (sector_for ss) es) i).mark m) (shown_mark ss es (behind (length es) i) (behind_lt (length es) i v))
      (subst (λ k. Opposite (sector_at (map (sector_for ss) es) i).mark (sector_at (map (sector_for ss) es) (behind k i)).mark) n K.opposite));
}

-- numbers of the entries after a crimp
in_part : (ss : List Sector) (es : List Entry) → IsPartOf ss es → (a : ℕ) → In (numbers_of es) a → a < length ss
in_part ss es P a h = let k = in_at 0 (numbers_of es) a h in let n : length (numbers_of es) ≡ length es = length-map es (λ e. e.number) in let w = k.1 in
    let e = get_or-numbers_of es k.0 in let f = k.2 in let g = P.within k.0 (omega arith) in omega arith

numbers_of_left : (es : List Entry) (i a : ℕ) → In (numbers_of (crimped_at es i)) a → In (numbers_of es) a
unfolding first_of_three
numbers_of_left es i a h =
    let e : numbers_of (crimped_at es i) ≡ remove (remove (numbers_of es) i) (cond (eqb (i + 1) (length (numbers_of es))) 0 i) = crimped_map (λ e. e.number) merged first_of_three no_entry (λ p q r. refl) es i ∙ crimped_numbers_of (numbers_of es) i in
    in_remove (numbers_of es) i a (in_remove (remove (numbers_of es) i) _ a (subst (λ ls. In ls a) e h))

part_after : (ss : List Sector) (es : List Entry) (i : ℕ) → IsPartOf ss es → IsPartOf ss (crimped_at es i)
part_after ss es i P = record {
  rises = still_rises es i P.rises;
  within = λ j h. let n : length (numbers_of (crimped_at es i)) ≡ length (crimped_at es i) = length-map (crimped_at es i) (λ e. e.number) in
      subst (λ a. a < length ss) (get_or-numbers_of (crimped_at es i) j) (in_part ss es P (get_or (numbers_of (crimped_at es i)) j 0) (numbers_of_left es i (get_or (numbers_of (crimped_at es i)) j 0) (in_from 0 (numbers_of (crimped_at es i)) j (omega arith))));
}

pub part_end : (ss : List Sector) (es fs : List Entry) → Ends es fs → IsPartOf ss es → IsPartOf ss fs
part_end ss _ _ (Stop es none) P = P
part_end ss _ _ (Go es fs i K first rest) P = part_end ss (crimped_at es i) fs rest (part_after ss es i P)

pub crimps_to : (ss : List Sector) → AreSectors ss → (es fs : List Entry) → Ends es fs → IsPartOf ss es → CrimpsTo (map (sector_for ss) es) (map (sector_for ss) fs)
crimps_to ss A _ _ (Stop es none) P = Ended (map (sector_for ss) es) (λ i K. none i (can_from ss es i K))
crimps_to ss A _ _ (Go es fs i K first rest) P = Goes (map (sector_for ss) es) (map (sector_for ss) fs) i
    (record {
      can = can_to ss es i K;
      first = λ j C. let k = can_from ss es j C in shown_ascends ss es A P i j (elim (cases_lt j i) [ inl l ↦ absurd (first j l k) | inr l ↦ l ]) k.within;
    })
    (subst (λ l. CrimpsTo l (map (sector_for ss) fs)) (shown_crimp ss es i K.within) (crimps_to ss A (crimped_at es i) fs rest (part_after ss es i P)))

-- the sectors with their numbers are the sectors
in_numbered : (k : ℕ) (ss : List Sector) (a : ℕ) → In (numbers_of (numbered k ss)) a → (k ≤ a) × (a < k + length ss)
unfolding numbered
in_numbered k [] a h = absurd h
in_numbered k (s ∷ ss) a (inl e) = (omega arith, omega arith)
in_numbered k (s ∷ ss) a (inr h) = let m = in_numbered (k + 1) ss a h in let u = m.0 in let v = m.1 in (omega arith, omega arith)

numbered_rises : (k : ℕ) (ss : List Sector) → Rises (numbers_of (numbered k ss))
unfolding numbered
numbered_rises k [] = tt
numbered_rises k (s ∷ ss) = (λ a h. let m = in_numbered (k + 1) ss a h in let u = m.0 in omega arith, numbered_rises (k + 1) ss)

pub part_start : (ss : List Sector) (es : List Entry) → es ≡ numbered 0 ss → IsPartOf ss es
part_start ss es e = subst (IsPartOf ss) (sym e) (record {
  rises = numbered_rises 0 ss;
  within = λ i h. let n = length-numbered 0 ss in let f : (entry_at (numbered 0 ss) i).number ≡ 0 + i = ap (λ e. e.number) (numbered_at 0 ss i (omega arith)) in omega arith;
})

pub shown_start : (ss : List Sector) (es : List Entry) → es ≡ numbered 0 ss → map (sector_for ss) es ≡ ss
shown_start ss es e = ap (map (sector_for ss)) e ∙ ext_get_or (record { first = 0; mark = kind.M; angle = 0 }) (map (sector_for ss) (numbered 0 ss)) ss (shown_length ss (numbered 0 ss) ∙ length-numbered 0 ss)
    (λ i h. let n = shown_length ss (numbered 0 ss) in let m = length-numbered 0 ss in
    shown_at ss (numbered 0 ss) i (omega arith) ∙ ap (sector_for ss) (numbered_at 0 ss i (omega arith))
    ∙ ap (λ k. record { first = (sector_at ss k).first; mark = (sector_at ss i).mark; angle = (sector_at ss i).angle }) (let e : 0 + i ≡ i = omega arith in e))

-- the crimping of sectors
pub any_crimps : (ss es : List Sector) → CrimpsTo ss es → Crimps ss es
any_crimps _ _ (Ended ss stuck) = Done ss
any_crimps _ _ (Goes ss es i N rest) = Then ss es i N.can (any_crimps (after_crimp ss i) es rest)

pub stuck_end : (ss es : List Sector) → CrimpsTo ss es → crimps.Stuck es
stuck_end _ _ (Ended ss stuck) = stuck
stuck_end _ _ (Goes ss es i N rest) = stuck_end (after_crimp ss i) es rest

pub open_end : (ss es : List Sector) → Crimps ss es → AllOpen ss → AllOpen es
open_end _ _ (Done ss) A = A
open_end _ _ (Then ss es i K rest) A = open_end (after_crimp ss i) es rest (still_open ss i K A)

closes_after : (ss : List Sector) (i : ℕ) → CanCrimp ss i → ClosesUp ss → ClosesUp (after_crimp ss i)
closes_after ss i K C =
    let four = K.four in let F = fronted joined (record { first = 0; mark = kind.M; angle = 0 }) ss i (omega arith) K.within in
    let l : (sector_at ss i).angle ≤ (sector_at ss (before (length ss) i)).angle = K.least (before (length ss) i) (before_lt (length ss) i K.within) in
    let ep : (sector_at ss (before (length ss) i)).angle ≡ F.p.angle = ap (λ s. s.angle) F.before_i in
    let eq : (sector_at ss i).angle ≡ F.q.angle = ap (λ s. s.angle) F.at_i in
    let k = closed_after ss (after_crimp ss i) F.p F.q F.r F.rest F.whole F.less (omega arith) C.even C.closed in
    let a : length ss ≡ 3 + length F.rest = length_turn ss (F.p ∷ F.q ∷ F.r ∷ F.rest) F.whole ∙ omega arith in
    let b : length (after_crimp ss i) ≡ 1 + length F.rest = length_turn (after_crimp ss i) (joined F.p F.q F.r ∷ F.rest) F.less ∙ omega arith in
    record { even = k.0; some = omega arith; closed = k.1 }

pub closes_end : (ss es : List Sector) → Crimps ss es → ClosesUp ss → ClosesUp es
closes_end _ _ (Done ss) C = C
closes_end _ _ (Then ss es i K rest) C = closes_end (after_crimp ss i) es rest (closes_after ss i K C)

-- where there is a layer order, the crimping ends with two entries of one mark
pub pair_end : (ss es : List Sector) → CrimpsTo ss es → AllOpen ss → Foldable ss → (length es ≡ 2) × ((sector_at es 0).mark ≡ (sector_at es 1).mark)
pair_end ss es T A f =
    let c = any_crimps ss es T in let g = (same_ends ss es c A).0 f in let C = closes_end ss es c f.1.closes in let e = C.even in let s = C.some in
    elim (cases_eq (length es) 2) [
      | inl n ↦ (n, pair_marks es g.0 n g.1)
      | inr n ↦ absurd (no_order es (omega arith) (open_end ss es c A) (stuck_end ss es T) g.0 g.1)
    ]
