-- The named run: entries of least angle, and where they begin.
use Rattle.std.proofs.Common.{◌≡◌, ◌≤◌, ◌<◌, ◌+◌, ◌-◌, ◌%◌, ℕ, zero, suc, arith, refl, subst, ap, sym, ◌∙◌, ◌⊎◌, inl, inr, List, [], ◌∷◌, length, map, get_or}
use Rattle.std.proofs.Math.Nat.{mod-eq_of_lt, mod-lt, add-mod_left}
use Rattle.std.proofs.lemmas.Bool.{cases_lt, cases_eq}
use Rattle.std.proofs.lemmas.List.{length-map, get_or_default}
use Rattle.sheet.specs.declared.mark.Mark.TheVariants as kind
use Rattle.layers.specs.declared.sector_list.Sector.{Sector}
use Rattle.layers.specs.Sectors.{sector_at, AreSectors}
use Rattle.layers.specs.LayerOrder.{before}
use Rattle.crimp.specs.declared.entries.Entry.{Entry}
use Rattle.crimp.specs.declared.outcome.Run.{Run}
use Rattle.crimp.specs.Cyclic.{Rises}
use Rattle.crimp.specs.Cycle.{numbers_of, entry_at, no_entry}
use Rattle.crimp.specs.Entries.{sector_for, IsPartOf, IsLeastEntry, BeginsRun, IsStart}
use Rattle.crimp.specs.BlockedRun.{IsLeast, IsRun, IsNamedRun}
use Rattle.layers.proofs.callers.Places.{before_lt}
use Rattle.crimp.proofs.Start.{in_from, get_or-numbers_of}
use Rattle.crimp.proofs.Law.{get_or-map}
use Rattle.crimp.proofs.Stuck.{least_one}
use Rattle.crimp.proofs.Directions.{firsts_ascend}

pub rises_at : (ls : List ℕ) → Rises ls → (i j : ℕ) → i < j → j < length ls → get_or ls i 0 < get_or ls j 0
rises_at [] R i j l h = absurd (omega arith)
rises_at (x ∷ ls) R i zero l h = absurd (omega arith)
rises_at (x ∷ ls) R zero (suc j) l h = R.0 (get_or ls j 0) (in_from 0 ls j (omega arith))
rises_at (x ∷ ls) R (suc i) (suc j) l h = rises_at ls R.1 i j (omega arith) (omega arith)

before_suc : (n i : ℕ) → before n (suc i) ≡ i
unfolding before
before_suc n i = refl

before_zero : (n : ℕ) → before n 0 ≡ n - 1
unfolding before
before_zero n = refl

-- entries as sectors
module _ (ss : List Sector) (fs : List Entry) where
  pub shown_length : length (map (sector_for ss) fs) ≡ length fs
  shown_length = length-map fs (sector_for ss)

  pub shown_at : (i : ℕ) → i < length fs → sector_at (map (sector_for ss) fs) i ≡ sector_for ss (entry_at fs i)
  shown_at i h = let n = shown_length in get_or_default (map (sector_for ss) fs) i (record { first = 0; mark = kind.M; angle = 0 }) (sector_for ss no_entry) (omega arith) ∙ get_or-map (sector_for ss) fs i no_entry

  pub shown_angle : (i : ℕ) → i < length fs → (sector_at (map (sector_for ss) fs) i).angle ≡ (entry_at fs i).angle
  shown_angle i h = ap (λ s. s.angle) (shown_at i h)

  least_to : (i : ℕ) → i < length fs → IsLeastEntry fs i → IsLeast (map (sector_for ss) fs) i
  least_to i h L j k = let n = shown_length in let e = shown_angle i h in let f = shown_angle j (omega arith) in let l = L j (omega arith) in omega arith

  least_from : (i : ℕ) → i < length fs → IsLeast (map (sector_for ss) fs) i → IsLeastEntry fs i
  least_from i h L j k = let n = shown_length in let e = shown_angle i h in let f = shown_angle j k in let l = L j (omega arith) in omega arith

  module _ (A : AreSectors ss) (P : IsPartOf ss fs) where
    numbers_of_ascend : (i j : ℕ) → i ≤ j → j < length fs → (entry_at fs i).number ≤ (entry_at fs j).number
    numbers_of_ascend i j l h = elim (cases_eq i j) [
      | inl e ↦ let f : (entry_at fs i).number ≡ (entry_at fs j).number = ap (λ k. (entry_at fs k).number) e in omega arith
      | inr n ↦ let m : length (numbers_of fs) ≡ length fs = length-map fs (λ e. e.number) in let r = rises_at (numbers_of fs) P.rises i j (omega arith) (omega arith) in
          let e = get_or-numbers_of fs i in let f = get_or-numbers_of fs j in omega arith
    ]

    pub shown_ascends : (i j : ℕ) → i ≤ j → j < length fs → (sector_at (map (sector_for ss) fs) i).first ≤ (sector_at (map (sector_for ss) fs) j).first
    shown_ascends i j l h =
        let e : (sector_at (map (sector_for ss) fs) i).first ≡ (sector_at ss (entry_at fs i).number).first = ap (λ s. s.first) (shown_at i (omega arith)) in
        let f : (sector_at (map (sector_for ss) fs) j).first ≡ (sector_at ss (entry_at fs j).number).first = ap (λ s. s.first) (shown_at j h) in
        let g = firsts_ascend ss A (entry_at fs i).number (entry_at fs j).number (numbers_of_ascend i j l h) (P.within j h) in omega arith

-- where no entry begins a run, all are least
module _ (fs : List Entry) (some : 1 ≤ length fs) (none : (j : ℕ) → j < length fs → BeginsRun fs j → ⊥) where
  stable : (i : ℕ) → ((IsLeastEntry fs i → ⊥) → ⊥) → IsLeastEntry fs i
  stable i n j h = elim (cases_lt (entry_at fs j).angle (entry_at fs i).angle) [ inl l ↦ absurd (n (λ L. let k = L j h in omega arith)) | inr l ↦ omega arith ]

  back : (i : ℕ) → i < length fs → IsLeastEntry fs i → IsLeastEntry fs (before (length fs) i)
  back i h L = stable (before (length fs) i) (λ n. none i h (record { least = L; apart = n }))

  down : (m : ℕ) → m < length fs → IsLeastEntry fs m → (k : ℕ) → k ≤ m → IsLeastEntry fs k
  down zero h L k l = let e : zero ≡ k = omega arith in subst (IsLeastEntry fs) e L
  down (suc m) h L k l = elim (cases_eq (suc m) k) [
    | inl e ↦ subst (IsLeastEntry fs) e L
    | inr n ↦ down m (omega arith) (subst (IsLeastEntry fs) (before_suc (length fs) m) (back (suc m) h L)) k (omega arith)
  ]

  all_least : (k : ℕ) → k < length fs → IsLeastEntry fs k
  all_least k h =
      let m = least_one (λ j. (entry_at fs j).angle) (length fs - 1) in let w = m.1.0 in
      let L : IsLeastEntry fs m.0 = λ j l. m.1.1 j (omega arith) in
      let Z = down m.0 (omega arith) L 0 (omega arith) in
      down (length fs - 1) (omega arith) (subst (IsLeastEntry fs) (before_zero (length fs)) (back 0 (omega arith) Z)) k (omega arith)

-- each place is reached from another by going round
pub round_to : (n other j : ℕ) → other < n → j < n → (k : ℕ) × (k < n) × ((other + k) % n ≡ j)
round_to n other j h l = elim (cases_lt j other) [
  | inl m ↦ (j + n - other, omega arith, let e : other + (j + n - other) ≡ n + j = omega arith in ap (λ x. x % n) e ∙ add_mod n j l)
  | inr m ↦ (j - other, omega arith, let e : other + (j - other) ≡ j = omega arith in ap (λ x. x % n) e ∙ mod-eq_of_lt l)
]
  where
    add_mod : (n j : ℕ) → j < n → (n + j) % n ≡ j
    add_mod n j l = add-mod_left n j ∙ mod-eq_of_lt l

module _ (ss : List Sector) (fs : List Entry) (A : AreSectors ss) (P : IsPartOf ss fs) (some : 1 ≤ length fs) (start count : ℕ) (S : IsStart fs start) (within : start < length fs)
    (least : (k : ℕ) → k < count → IsLeastEntry fs ((start + k) % length fs)) (ends : (count ≡ length fs) ⊎ (IsLeastEntry fs ((start + count) % length fs) → ⊥)) where
  shown : List Sector
  shown = map (sector_for ss) fs

  long : length (map (sector_for ss) fs) ≡ length fs
  long = shown_length ss fs

  at_start : IsLeastEntry fs start
  at_start = elim S.begins [ inl b ↦ b.least | inr z ↦ all_least fs some z.1 start within ]

  one : 1 ≤ count
  one = elim (cases_eq count 0) [
    | inl z ↦ elim ends [
      | inl e ↦ absurd (omega arith)
      | inr n ↦ let e : (start + count) % length fs ≡ start = ap (λ k. k % length fs) (let f : start + count ≡ start = omega arith in f) ∙ mod-eq_of_lt within in absurd (n (subst (IsLeastEntry fs) (sym e) at_start))
    ]
    | inr n ↦ omega arith
  ]

  turn : (k : ℕ) → (start + k) % length fs < length fs
  turn k = mod-lt (start + k) (omega arith)

  ends_shown : (IsLeastEntry fs ((start + count) % length fs) → ⊥) → IsLeast (map (sector_for ss) fs) ((start + count) % length fs) → ⊥
  ends_shown n L = n (least_from ss fs ((start + count) % length fs) (turn count) L)

  maximal : (count ≡ length fs) ⊎ ((IsLeast (map (sector_for ss) fs) (before (length fs) start) → ⊥) × (IsLeast (map (sector_for ss) fs) ((start + count) % length fs) → ⊥))
  maximal = elim ends [
    | inl e ↦ inl e
    | inr n ↦ elim S.begins [
      | inl b ↦ inr (λ L. b.apart (least_from ss fs (before (length fs) start) (before_lt (length fs) start within) L), ends_shown n)
      | inr z ↦ absurd (n (all_least fs some z.1 ((start + count) % length fs) (turn count)))
    ]
  ]

  pub is_run : IsRun (map (sector_for ss) fs) start count
  is_run = record {
    within = let n = long in omega arith;
    some = one;
    least = λ k h. subst (λ m. IsLeast (map (sector_for ss) fs) ((start + k) % m)) (sym long) (least_to ss fs ((start + k) % length fs) (turn k) (least k h));
    maximal = subst (λ m. (count ≡ m) ⊎ ((IsLeast (map (sector_for ss) fs) (before m start) → ⊥) × (IsLeast (map (sector_for ss) fs) ((start + count) % m) → ⊥))) (sym long) maximal;
  }

  module _ (other c : ℕ) (R : IsRun (map (sector_for ss) fs) other c) where
    other_within : other < length fs
    other_within = let w = R.within in let n = long in omega arith

    other_least : (k : ℕ) → k < c → IsLeastEntry fs ((other + k) % length fs)
    other_least k h = least_from ss fs ((other + k) % length fs) (mod-lt (other + k) (omega arith)) (subst (λ m. IsLeast (map (sector_for ss) fs) ((other + k) % m)) long (R.least k h))

    other_first : IsLeastEntry fs other
    other_first = let e : (other + 0) % length fs ≡ other = ap (λ k. k % length fs) (let f : other + 0 ≡ other = omega arith in f) ∙ mod-eq_of_lt other_within in
        subst (IsLeastEntry fs) e (other_least 0 R.some)

    begins_other : (c ≡ length fs → ⊥) → BeginsRun fs other
    begins_other n = record {
      least = other_first;
      apart = elim R.maximal [
        | inl e ↦ absurd (n (e ∙ long))
        | inr m ↦ λ L. m.0 (subst (λ k. IsLeast (map (sector_for ss) fs) (before k other)) (sym long) (least_to ss fs (before (length fs) other) (before_lt (length fs) other other_within) L))
      ];
    }

    not_less : other < start → ⊥
    not_less l = elim S.begins [
      | inr z ↦ let e = z.0 in omega arith
      | inl b ↦ elim (cases_eq c (length fs)) [
        | inl e ↦ let k = round_to (length fs) other (before (length fs) start) other_within (before_lt (length fs) start within) in let w = k.1 in b.apart (subst (IsLeastEntry fs) k.2 (other_least k.0 (omega arith)))
        | inr n ↦ S.first other l (begins_other n)
      ]
    ]

    pub first_of_all : (sector_at (map (sector_for ss) fs) start).first ≤ (sector_at (map (sector_for ss) fs) other).first
    first_of_all = shown_ascends ss fs A P start other (elim (cases_lt other start) [ inl l ↦ absurd (not_less l) | inr l ↦ l ]) other_within

  pub named : (run : Run) → run.count ≡ count → run.from ≡ (sector_at ss (entry_at fs start).number).first → run.to ≡ (sector_at ss (entry_at fs ((start + count) % length fs)).number).first → run.angle ≡ (entry_at fs start).angle
      → IsNamedRun (map (sector_for ss) fs) run
  named run ec ef et ea = record {
    start = start;
    is = subst (IsRun (map (sector_for ss) fs) start) (sym ec) is_run;
    first = λ other c R. first_of_all other c R;
    from = ef ∙ sym (ap (λ s. s.first) (shown_at ss fs start within));
    to = et ∙ sym (ap (λ s. s.first) (shown_at ss fs ((start + count) % length fs) (turn count))) ∙ ap (λ m. (sector_at (map (sector_for ss) fs) ((start + count) % m)).first) (sym long)
        ∙ ap (λ k. (sector_at (map (sector_for ss) fs) ((start + k) % length (map (sector_for ss) fs))).first) (sym ec);
    angle = ea ∙ sym (shown_angle ss fs start within);
  }
